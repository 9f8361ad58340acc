use Rattle.inside_walk.specs.declared.Spot.{Spot}
use Rattle.inside_walk.specs.WholeWalk.{far}
use Rattle.inside_walk.specs.Entries.{past_of, count_most, entries_within, past_far}
use Rattle.audit_window.specs.Window.{Passed}
use Rattle.audit_window.specs.WindowLaws.{passed_start, passed_next, passed_entries, sought_end, sought_here}
use mathlib.Core.Path.{◌≡◌, ap}
use native.Mathlib.Omega.{arith}
use Rattle.audit_window.proofs.seek.Goals as goal
use Rattle.items.specs.Kinds.{other_kind, same_kind}
use Rattle.items.specs.declared.Kind.TheVariants.{End}

-- the item is passed
passed : (c : goal.After-start_of-least) →
    let a = c.args in
    Passed a.image.now a.v a.s a.from c.step-t.result.next
passed c =
    let a = c.args in
    passed_next a.image.now a.v a.s a.from c.loop-x.spot c.step-t.result c.loop-x.invariant
    c.step-t.ensures
    (other_kind _ End c.eq.ensures c.if-eq.false) (c.ends_past.ensures c.if-ends_past.false)

passed-at-2 : (c : goal.After-past-spot) →
    let a = c.args in
    Passed a.image.now a.v a.s a.from c.step-t.result.next
passed-at-2 c =
    let a = c.args in
    passed_next a.image.now a.v a.s a.from c.loop-x.spot c.step-t.result c.loop-x.invariant
    c.step-t.ensures
    (other_kind _ End c.eq.ensures c.if-eq.false) (c.ends_past.ensures c.if-ends_past.false)

pub loop-x-init : goal.loop-x-init
loop-x-init c =
    let a = c.args in
    passed_start a.image.now a.v a.s a.from c.requires.v_in_bounds.2

pub step-t-requires : goal.step-t-requires
step-t-requires c = let p = c.requires.v_in_bounds in (p.0, p.1, c.loop-x.invariant.valid)

pub returns-then-eq : goal.returns-then-eq
returns-then-eq c =
    let a = c.args in
    sought_end a.image.now a.v a.s a.from c.loop-x.spot c.step-t.result c.loop-x.invariant c.step-t.ensures
    c.requires.from_in_bounds (same_kind _ End c.eq.ensures c.if-eq.true)

pub start_of-low-requires : goal.start_of-low-requires
start_of-low-requires c = c.requires.from_in_bounds

pub returns-then-ends_past : goal.returns-then-ends_past
returns-then-ends_past c =
    let a = c.args in
    let (up, most, is) = c.start_of-low.ensures in
    sought_here a.image.now a.v a.s a.from c.loop-x.spot c.loop-x.invariant c.start_of-low.result c.requires.v_in_bounds.3
    up most is

pub any_past-requires : goal.any_past-requires
any_past-requires c =
    let a = c.args in
    let valid = c.step-t.ensures.valid in
    let within = entries_within a.image.now a.v _ valid in
    (valid.module_fits, valid.cursor.page_small, omega (arith, within, c.entries-k.ensures), c.requires.v_in_bounds.1)

pub start_of-least-requires : goal.start_of-least-requires
start_of-least-requires c =
    c.requires.from_in_bounds

pub returns-then-any_past : goal.returns-then-any_past
returns-then-any_past c =
    let a = c.args in
    let (up, most, is) = c.start_of-least.ensures in
    sought_here a.image.now a.v a.s a.from c.step-t.result.next (passed c) c.start_of-least.result
    c.requires.v_in_bounds.3 up most is

pub past-spot-requires : goal.past-spot-requires
past-spot-requires c =
    (c.entries-k.ensures, omega (arith, c.entries-k.ensures, count_most c.step-t.result.next))

pub loop-x-smaller : goal.loop-x-smaller
loop-x-smaller c =
    let a = c.args in
    let next = c.step-t.result.next in
    let e : far a.v c.past-spot.result ≡ far a.v (past_of next) = ap (λ (s : Spot). far a.v s) c.past-spot.ensures in
    omega (arith, e, past_far a.v next, c.step-t.ensures.less (other_kind _ End c.eq.ensures c.if-eq.false))

pub loop-x-preserved : goal.loop-x-preserved
loop-x-preserved c =
    let a = c.args in
    rw c.past-spot.ensures
    (passed_entries a.image.now a.v a.s a.from c.step-t.result.next (passed-at-2 c)
    (rw c.entries-k.ensures at (c.any_past.ensures c.if-any_past.false)))
