-- Where no entry of a pile reaches, nothing is set.
-- Assumes nothing.
use Rattle.std.specs.Prelude.{ℕ, suc, ◌+◌, List, [], ◌∷◌, ◌≡◌, refl}
use Rattle.std.proofs.Common.{◌∙◌, arith}
use Rattle.std.proofs.Math.Decide.{dec_lt}
use Rattle.sheet.specs.declared.Entry.{Entry}
use Rattle.sheet.specs.Sheet.{entry_at}
use Rattle.sheet.specs.ByteAt.{byte_by, byte_at}
use Rattle.sheet.specs.ByteAtLaws.{by_passes}
use Rattle.fold_pile.specs.Pile.{sheets}
use Rattle.fold_pile.specs.SheetsLaws.{Fitting, piled_fitting}
use Rattle.fold_cells.specs.SetAt.{set_from, set_at}
use Rattle.fold_cells.specs.Cells.{Good, Reaches}
use Rattle.fold_cells.specs.CellsLaws.{set_nil, set_skip}
use Rattle.fold_runs.specs.Runs.{Clipped, Within, Out}

pub found : (xs : List ℕ) (n top r e : ℕ) (w : Entry) → Clipped w top e → Within xs n r w.offset e → (k : ℕ) → Out xs n top k → Reaches w k → ⊥
found xs n top r e w c i k o h =
    elim (dec_lt k e) [
      | yes l ↦ o.none r i.there (omega (arith, i.from)) (omega (arith, i.to))
      | no l ↦ omega (arith, o.below, c.high (omega arith))
    ]

pub by_next : (s : List ℕ) (i k : ℕ) (w : Entry) → w ≡ entry_at s i → (Reaches w k → ⊥) → byte_by s i k ≡ 0 → byte_by s (i + 1) k ≡ 0
by_next s i k w e out h =
    let z : i + 1 ≡ suc i = omega arith in
    rw z (by_passes s i k (λ c. out (rw e (c.0, c.1))) ∙ h)

-- the sheets ss set, where G holds, what the pile does
pub record Sought (p : List ℕ) (G : ℕ → Type 0) (ss : List (List ℕ)) : Type 0 where
  pub fit : Fitting ss
  pub same : (k : ℕ) → G k → set_at (sheets p) k ≡ set_from 0 ss k

pub sought_start : (p : List ℕ) (G : ℕ → Type 0) → Good p → Sought p G (sheets p)
unfolding set_at
sought_start p G good = record { fit = piled_fitting p 0 (sheets p) good; same = λ k g. refl }

pub sought_next : (p : List ℕ) (G : ℕ → Type 0) (s : List ℕ) (ss : List (List ℕ)) → Sought p G (s ∷ ss) → ((k : ℕ) → G k → byte_at s k ≡ 0)
    → Sought p G ss
sought_next p G s ss c none = record { fit = c.fit.1; same = λ k g. c.same k g ∙ set_skip s ss k (none k g) }

pub sought_end : (p : List ℕ) (G : ℕ → Type 0) → Sought p G [] → (k : ℕ) → G k → set_at (sheets p) k ≡ 0
sought_end p G c k g = c.same k g ∙ set_nil 0 k
