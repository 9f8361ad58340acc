use Rattle.std.specs.Prelude.{not}
use Rattle.std.proofs.Common.{ap}
use mathlib.Core.List.{List}
use lib.ListN.{length}
use Rattle.table.specs.PassesLaws.{place_placed}
use Rattle.table.specs.Passes.{place}
use Rattle.facts.specs.FactLaws.{granted, refuted}
use Rattle.facts.specs.FirstLaws.{is_first}
use Prim.Native.Nat.{ℕ, ◌≤◌}
use borrow.Author.Count.{below_more}
use mathlib.Core.Path.{◌≡◌}
use native.Mathlib.Omega.{arith}
use native.Mathlib.Nat.{le_trans}
use mathlib.Core.Logic.{inl, inr}
use Rattle.table_scans.proofs.first_overlap.Goals as goal

-- an entry's place lies in the image
near : (xs : List ℕ) (t i p : ℕ) → p ≡ (place xs t i).at → p ≤ length xs
near xs t i p e = rw e (place_placed xs t i).within

pub loop-i-init : goal.loop-i-init
loop-i-init c = ((λ k h. absurd (omega arith)), λ k h. absurd (omega arith))

pub spot_at-a-requires : goal.spot_at-a-requires
spot_at-a-requires c = (omega (arith, c.requires.0), c.requires.2 c.loop-i.i (omega arith))

pub is_outside-requires : goal.is_outside-requires
is_outside-requires c = omega (arith, near c.args.image.now c.args.t c.loop-i.i c.spot_at-a.result c.spot_at-a.ensures)

pub loop-j-init : goal.loop-j-init
loop-j-init c = (
  c.skipped-j.ensures.0,
  λ k h.
      let l = c.skipped-j.ensures.0 in
      elim (c.skipped-j.ensures.1 (omega arith)) [
        | inl sure ↦ c.surely_apart-sure.ensures sure c.loop-i.i (omega arith) k (omega arith)
        | inr up ↦ inr (rw c.spot_at-a.ensures at (le_trans (c.loop-i.invariant.1 k (omega arith)) up))
      ],
)

pub spot_at-requires : goal.spot_at-requires
spot_at-requires c =
    (omega (arith, c.requires.0), c.requires.2 c.loop-j.j (omega arith))

pub is_apart-requires : goal.is_apart-requires
is_apart-requires c =
    let xs = c.args.image.now in
    omega (
      arith,
      c.requires.3,
      near xs c.args.t c.loop-j.j c.spot_at.result c.spot_at.ensures,
      near xs c.args.t c.loop-i.i c.spot_at-a.result c.spot_at-a.ensures,
    )

pub loop-j-preserved : goal.loop-j-preserved
loop-j-preserved c = (
  omega arith,
  below_more _ _ c.loop-j.invariant.1
      (rw (c.spot_at-a.ensures, c.spot_at.ensures) at (granted c.is_apart.ensures (ap not c.if-not-is_apart.false))),
)

pub overflow_add-a : goal.overflow_add-a
overflow_add-a c =
    omega (arith, c.requires.3, near c.args.image.now c.args.t c.loop-i.i c.spot_at-a.result c.spot_at-a.ensures)

pub loop-i-preserved : goal.loop-i-preserved
loop-i-preserved c =
    let a = c.spot_at-a.ensures in (
      below_more _ _ c.loop-i.invariant.0
          (rw a at (granted c.is_outside.ensures (ap not c.if-not-is_outside.false)), λ j h. c.loop-j.invariant.1 j (omega arith)),
      below_more _ _ (λ k h. omega (arith, c.loop-i.invariant.1 k h)) (omega (arith, a)),
    )

pub returns-after-loop-i : goal.returns-after-loop-i
returns-after-loop-i c =
    is_first (record { within = omega arith; clear = λ i h. c.loop-i.invariant.0 i (omega arith); fault = λ h. absurd (omega arith) })

pub returns-then-not-is_outside : goal.returns-then-not-is_outside
returns-then-not-is_outside c = (
  omega arith,
  is_first (record {
    within = omega arith;
    clear = c.loop-i.invariant.0;
    fault = λ h p. refuted c.is_outside.ensures (ap not c.if-not-is_outside.true) (rw c.spot_at-a.ensures p.0);
  }),
)

pub returns-then-not-is_apart : goal.returns-then-not-is_apart
returns-then-not-is_apart c = (
  omega arith,
  is_first (record {
    within = omega arith;
    clear = c.loop-i.invariant.0;
    fault = λ h p.
        refuted c.is_apart.ensures (ap not c.if-not-is_apart.true)
        (rw (c.spot_at-a.ensures, c.spot_at.ensures) (p.1 c.loop-j.j (omega arith)));
  }),
)
