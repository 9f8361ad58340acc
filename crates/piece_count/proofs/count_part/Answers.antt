use Prim.Native.Nat.{◌+◌, ◌-◌}
use mathlib.Core.Path.{◌≡◌}
use native.Mathlib.Omega.{arith}
use Rattle.piece_stretch.specs.Stretch.{after}
use Rattle.piece_stretch.specs.StretchLaws.{get_d_after}
use Rattle.piece_count.specs.Counting.{Adds}
use Rattle.piece_count.specs.CountingLaws.{adds_clear, adds_hit, adds_join, few_on}
use Rattle.piece_count.proofs.count_part.Goals as goal

pub loop-at-init : goal.loop-at-init
loop-at-init c =
    let a = c.args in
    (omega arith, omega arith, adds_clear (after a.o a.a.now) a.shipped.now a.r a.from a.from a.t (omega arith) (λ i h l. absurd (omega arith)))

pub counted-u-requires : goal.counted-u-requires
counted-u-requires c =
    let a = c.args in
    let L = c.loop-at in
    let at = c.in-Some.at in
    let ref = after a.o a.a.now in
    let ys = a.shipped.now in
    let (low, high, adds) = L.invariant in
    let (u, less) = c.in-Some.ensures in
    let rest = adds_clear ref ys a.r L.k at L.u u.onward u.clear in
    (c.requires.z_bound.0, omega arith, few_on ref ys a.r a.from at a.t L.u (omega (arith, u.onward)) (adds_join ref ys a.r a.from L.k at a.t L.u L.u low u.onward adds rest) c.requires.z_bound.1)

pub loop-at-preserved : goal.loop-at-preserved
loop-at-preserved c =
    let a = c.args in
    let L = c.loop-at in
    let at = c.in-Some.at in
    let ref = after a.o a.a.now in
    let ys = a.shipped.now in
    let (low, high, adds) = L.invariant in
    let (u, less) = c.in-Some.ensures in
    let here = get_d_after a.o a.a.now at (omega (arith, u.onward)) in
    let rest = adds_clear ref ys a.r L.k at L.u u.onward u.clear in
    let up = adds_join ref ys a.r a.from L.k at a.t L.u L.u low u.onward adds rest in
    let one : Adds ref ys a.r at (at + 1) L.u c.counted-u.result = rw (c.counted-u.ensures, ← here) (adds_hit ref ys a.r at L.u (u.found less)) in
    (omega (arith, u.onward), omega arith, adds_join ref ys a.r a.from at (at + 1) a.t L.u _ (omega (arith, u.onward)) (omega arith) up one)

pub returns : goal.returns
returns c =
    let a = c.args in
    let L = c.loop-at in
    let ref = after a.o a.a.now in
    let (low, high, adds) = L.invariant in
    adds_join ref a.shipped.now a.r a.from L.k a.to a.t L.u L.u low high adds (adds_clear ref a.shipped.now a.r L.k a.to L.u high c.in_default.ensures)
