use Rattle.audit_fill_window.specs.StandingLaws.{standing_window, standing_telling, standing_refill, next_here, next_none}
use Rattle.audit_fill_window.specs.Near.{Standing, Refilled}
use Prim.Native.Nat.{ℕ}
use mathlib.Core.List.{List}
use mathlib.Core.Path.{◌∙◌}
use native.Mathlib.Omega.{arith}
use Rattle.audit_windows.proofs.renew.Goals as goal

-- what is known of the new window
stood : (c : goal.After-slice_known-in-loop-r-1) (new : List ℕ) →
    let a = c.args in
    Refilled a.image.now a.v c.loop-r.r c.refill-w.result new
    → Standing a.image.now a.v a.f a.at c.refill-w.result new
stood c new refilled =
    let a = c.args in
    let (s, same, used) = c.loop-r.invariant in
    standing_refill a.image.now a.v a.f a.at c.loop-r.r c.loop-r.marks s c.refill-w.result new used refilled

stood-at-2 : (c : goal.Then-r) (new : List ℕ) →
    let a = c.args in
    Refilled a.image.now a.v c.loop-r.r c.refill-w.result new
    → Standing a.image.now a.v a.f a.at c.refill-w.result new
stood-at-2 c new refilled =
    let a = c.args in
    let (s, same, used) = c.loop-r.invariant in
    standing_refill a.image.now a.v a.f a.at c.loop-r.r c.loop-r.marks s c.refill-w.result new used refilled

stood-at-3 : (c : goal.Else-r) (new : List ℕ) →
    let a = c.args in
    Refilled a.image.now a.v c.loop-r.r c.refill-w.result new
    → Standing a.image.now a.v a.f a.at c.refill-w.result new
stood-at-3 c new refilled =
    let a = c.args in
    let (s, same, used) = c.loop-r.invariant in
    standing_refill a.image.now a.v a.f a.at c.loop-r.r c.loop-r.marks s c.refill-w.result new used refilled

pub loop-r-init : goal.loop-r-init
loop-r-init c = let p = c.requires in (p.1, omega arith, p.3)

pub refill-w-requires : goal.refill-w-requires
refill-w-requires c =
    let a = c.args in
    let ordered = c.requires.0 in
    let (s, same, used) = c.loop-r.invariant in
    let telling = standing_telling a.image.now a.v a.f a.at c.loop-r.r c.loop-r.marks s ordered in
    let w = ordered.walkable in
    record { v_in_bounds = (w.within, w.small, c.loop-r-test.true, omega (arith, same, c.requires.2)); valid = (s.valid, telling) }

pub go_on-r-requires : goal.go_on-r-requires
go_on-r-requires c =
    let a = c.args in
    standing_window a.image.now a.v a.f a.at c.refill-w.result _ (stood c _ c.refill-w.ensures.refilled)
    c.requires.0

pub shape_of-marks-then-r : goal.shape_of-marks-then-r
shape_of-marks-then-r c =
    c.refill-w.ensures.marks_len_unchanged ∙ c.loop-r.invariant.1

pub returns-then-r : goal.returns-then-r
returns-then-r c =
    let a = c.args in
    let on = c.go_on-r.ensures in
    let s = on.stands a.image.now a.v a.f c.requires.0 (stood-at-2 c _ c.refill-w.ensures.refilled) in
    let next = next_here a.image.now a.v a.f a.at c.go_on-r.result _ s c.if-r.true (on.past c.if-r.true) in
    record { standing = (s, next); marks_len_unchanged = c.refill-w.ensures.marks_len_unchanged ∙ c.loop-r.invariant.1 }

pub loop-r-smaller : goal.loop-r-smaller
loop-r-smaller c =
    let refilled = c.refill-w.ensures.refilled in
    omega (arith, refilled.more, refilled.most, c.go_on-r.ensures.to)

pub loop-r-preserved : goal.loop-r-preserved
loop-r-preserved c =
    let a = c.args in
    let s = c.go_on-r.ensures.stands a.image.now a.v a.f c.requires.0 (stood-at-3 c _ c.refill-w.ensures.refilled) in
    (s, c.refill-w.ensures.marks_len_unchanged ∙ c.loop-r.invariant.1, c.if-r.false)

pub shape_of-marks : goal.shape_of-marks
shape_of-marks c = c.loop-r.invariant.1

pub returns : goal.returns
returns c =
    let a = c.args in
    let (s, same, used) = c.loop-r.invariant in
    let next = next_none a.image.now a.v a.f a.at c.loop-r.r c.loop-r.marks s used
    (omega (arith, s.most, c.loop-r-test.false)) in
    record { standing = (s, next); marks_len_unchanged = same }
