use Prim.Native.Nat.{ℕ}
use mathlib.Core.Logic.{◌⊎◌, inl, inr}
use mathlib.Core.Path.{◌≡◌}
use native.Mathlib.Omega.{arith}
use Rattle.inside_runs.proofs.mark.Goals as goal

-- what isn't 4 is 8
eight : {w : ℕ} → (w ≡ 4) ⊎ (w ≡ 8) → (w ≡ 4 → ⊥) → w ≡ 8
eight (inl e) n = absurd (n e)
eight (inr e) n = e

pub returns-then-w-eq4 : goal.returns-then-w-eq4
returns-then-w-eq4 c = rw c.if-w-eq4.true c.paint_word.ensures

pub paint_word-requires-2 : goal.paint_word-requires-2
paint_word-requires-2 c =
    omega (arith, c.requires.0, eight c.requires.1 c.if-w-eq4.false)

pub returns : goal.returns
returns c =
    rw (eight c.requires.1 c.if-w-eq4.false) c.paint_word-2.ensures
