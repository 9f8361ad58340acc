use mathlib.Core.Path.{◌≡◌, ◌∙◌}
use native.Mathlib.Omega.{arith}
use Prim.Native.Nat.{ℕ, ◌+◌, ◌≤◌}
use lib.ListN.{length, drop}
use lib.Seq.{length-take-le}
use Rattle.words.specs.Le.{Bytes}
use Rattle.inside_walk.specs.WholeWalk.{ahead}
use Rattle.audit_lay.specs.Lay.{value}
use Rattle.audit_fill_window.specs.Near.{Has}
use Rattle.audit_window.specs.WindowLaws.{apart_some, passed_start}
use Rattle.audit_pieces.specs.PiecesLaws.{ahead_apart, ahead_fits, piece, drawn_none}
use Rattle.audit_pieces.proofs.next.Goals as goal

pub found-u-requires-clause-v_in_bounds : goal.found-u-requires-clause-v_in_bounds
found-u-requires-clause-v_in_bounds c =
    let a = c.args in
    let (g, e, s, less, some) = c.requires in
    (omega (arith, e, g.walkable.within), omega (arith, g), rw e s.valid, rw e (ahead_apart a.image.now a.r g a.p s))

pub returns-then-to-u-clause-onward : goal.returns-then-to-u-clause-onward
unfolding Bytes
returns-then-to-u-clause-onward c =
    let a = c.args in
    let xs = a.image.now in
    let (g, e, s, less, some) = c.requires in
    let u = c.found-u.result in
    let sought = c.found-u.ensures in
    let from = c.max-from.result in
    let n = c.min-n.result in
    let copy = c.copy_from_slice.ensures in
    let long : length c.copy_from_slice.new.self ≡ n = copy.len ∙ length-take-le n a.window.now (omega arith) in
    let same = c.lay_fixed.ensures.same_length ∙ long in
    let clear : (k w : ℕ) → Has (ahead xs a.v u.spot) k w → u.low ≤ k = λ k w h. sought.low k w h (omega arith) in
    piece xs a.r g a.d.four a.d.eight a.p s u (rw e at sought) c.first_fixed-k.result c.first_fixed-k.ensures.1
    (λ i. omega (arith, c.type_inv.image i)) from n (omega arith) less (omega arith) (λ h. omega arith) _ _ _ (drop n a.window.now) copy.after
    (rw long at c.lay_fixed.ensures)
    (rw e at (drawn_none (value xs a.d.four a.d.eight) (ahead xs a.v u.spot) from n c.lay_fixed.new.window (omega (arith, same)) (λ k w h. omega (arith, clear k w h)))) same
    u.low u.spot (rw e at (passed_start xs a.v u.spot (from + n) sought.passed.valid)) sought.most (λ k w h l. clear k w (rw e h))

pub fill-spot-requires-clause-v_in_bounds : goal.fill-spot-requires-clause-v_in_bounds
fill-spot-requires-clause-v_in_bounds c =
    let a = c.args in
    let (g, e, s, less, some) = c.requires in
    let sought = c.found-u.ensures in
    let back = sought.passed.back in (
      omega (arith, e, g.walkable.within),
      omega (arith, g),
      sought.passed.valid,
      apart_some _ _ back (rw e (ahead_apart a.image.now a.r g a.p s)),
      λ k w h. ahead_fits a.image.now a.r g a.p s k w (rw e at (back k w h)),
    )

pub returns-clause-onward : goal.returns-clause-onward
unfolding Bytes
returns-clause-onward c =
    let a = c.args in
    let xs = a.image.now in
    let (g, e, s, less, some) = c.requires in
    let sought = c.found-u.ensures in
    let from = c.max-from.result in
    let n = c.min-n.result in
    let copy = c.copy_from_slice.ensures in
    let long : length c.copy_from_slice.new.self ≡ n = copy.len ∙ length-take-le n a.window.now (omega arith) in
    let same = c.lay_fixed.ensures.same_length ∙ long in
    let filled = c.fill-spot.ensures in
    piece xs a.r g a.d.four a.d.eight a.p s c.found-u.result (rw e at sought) c.first_fixed-k.result c.first_fixed-k.ensures.1
    (λ i. omega (arith, c.type_inv.image i)) from n (omega arith) less (omega arith) (λ h. omega arith) _ _ _ (drop n a.window.now) copy.after
    (rw long at c.lay_fixed.ensures) (rw (same, e) at filled.drawn) (filled.window_len_unchanged ∙ same) (from + n) c.fill-spot.result
    (rw (same, e) at filled.passed) (omega (arith, sought.most)) (λ k w h l. absurd (omega arith))
