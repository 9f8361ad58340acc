use native.Mathlib.Omega.{arith}
use native.Mathlib.Decide.{ℕ_discrete}
use Rattle.move_image.specs.FixedLaws.{fixed_spread}
use mathlib.Core.Logic.{inl, inr}
use Rattle.audit_pieces.proofs.first_fixed.Goals as goal

pub loop-i-init : goal.loop-i-init
loop-i-init c = (omega arith, λ j h. absurd (omega arith))

pub word_place-p-requires : goal.word_place-p-requires
word_place-p-requires c = (omega (arith, c.requires), omega (arith, c.requires), omega arith)

pub nearer-k-requires : goal.nearer-k-requires
nearer-k-requires c = omega (arith, c.word_place-p.ensures, c.requires, (fixed_spread c.args.image.now c.args.r c.requires).within c.loop-i.i (omega arith))

pub loop-i-preserved : goal.loop-i-preserved
loop-i-preserved c =
    let L = c.loop-i in
    let near = c.nearer-k.ensures in (
      omega (arith, near.0, L.invariant.0),
      λ j h.
          elim (ℕ_discrete j L.i) [
            | yes e ↦ rw (e, ← c.word_place-p.ensures) near.1
            | no e ↦ elim (L.invariant.1 j (omega arith)) [ inl z ↦ inl z | inr z ↦ inr (omega (arith, near.0)) ]
          ],
    )

pub returns : goal.returns
returns c = (c.loop-i.invariant.0, λ j h. c.loop-i.invariant.1 j (omega arith))
