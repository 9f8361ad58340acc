-- A pile of one sheet.
-- Assumes nothing.
use Prim.Native.Nat.{ℕ, zero, suc, ◌+◌, ◌-◌, ◌*◌, ◌^◌, ◌≤◌, ◌<◌}
use mathlib.Core.List.{List, [], ◌∷◌, ◌++◌}
use Rattle.std.specs.Prelude.{◌≡◌, length, get_or, take, drop}
use Rattle.std.proofs.Math.Path.{refl, ap}
use Rattle.std.proofs.Common.{sym, ◌∙◌, arith}
use Rattle.std.proofs.Math.Nat.{mod-eq_of_lt}
use Rattle.std.proofs.Math.ListN.{length-append}
use Rattle.std.proofs.Math.Seq.{drop_at, take-length}
use Rattle.facts.specs.Fact.{test, Holds}
use Rattle.facts.specs.FactLaws.{passes, fails}
use Rattle.facts.specs.Rules.{answer, run}
use Rattle.words.specs.Le.{le}
use Rattle.words.specs.Number.{number}
use Rattle.words.specs.NumberLaws.{length_number, le_front, le_number}
use Rattle.answers.specs.declared.Identity.{Identity}
use Rattle.sheet.specs.Sheet.{sheet_identity, sheet_fits, same_identity}
use Rattle.sheet.specs.ByteAt.{byte_at}
use Rattle.fold_pile.specs.Pile.{lies, sheet_at, after, sheets_from, sheets, sheet_rules, pile_identity, number_of, sheets_number, pile_number, sheet_number}
use Rattle.fold_pile.specs.PileLaws.{at_end_lem, good_sheet, pile_on}
use Rattle.fold_cells.specs.SetAt.{over, set_from, set_at}

-- its length, then the sheet
unfoldable pub alone : List ℕ → List ℕ
alone s = number 4 (length s) ++ s

over_none : (c : ℕ) → over c 0 ≡ c
over_none zero = refl
over_none (suc b) = refl

-- what one sheet sets is what it sets
pub set_one : (s : List ℕ) (k : ℕ) → set_at (s ∷ []) k ≡ byte_at s k
unfolding set_at set_from
set_one s k = over_none (byte_at s k)

module _ (s : List ℕ) (fits : Holds (sheet_fits s)) where
  length_alone : length (alone s) ≡ 4 + length s
  unfolding alone
  length_alone = length-append (number 4 (length s)) s ∙ omega (arith, length_number 4 (length s))

  long_is : le 4 (alone s) 0 ≡ length s
  unfolding alone
  long_is =
      le_front 4 (number 4 (length s)) s 0 (omega (arith, length_number 4 (length s)))
      ∙ le_number 4 (length s) ∙ mod-eq_of_lt (omega (arith, fits.0))

  dropped : drop 4 (alone s) ≡ s
  unfolding alone
  dropped = drop_at (number 4 (length s)) s 4 (length_number 4 (length s))

  pub sheet_is : sheet_at (alone s) 0 ≡ s
  sheet_is = rw long_is (ap (take (length s)) dropped ∙ take-length s)

  after_is : after (alone s) 0 ≡ length (alone s)
  after_is = omega (arith, long_is, length_alone)

  there : Holds (lies (alone s) 0)
  there = (omega (arith, length_alone), omega (arith, length_alone, long_is))

  number_none : sheet_number (pile_identity (alone s)) (sheet_at (alone s) 0) ≡ 0
  unfolding sheet_number run
  number_none =
      rw (
        sheet_is,
        passes (sheet_fits s) fits,
        passes (same_identity (sheet_identity s) (sheet_identity s)) (refl, (refl, refl)),
      )

  pub alone_passes : pile_number (alone s) ≡ 0
  unfolding sheets_number
  alone_passes = pile_on (alone s) (omega (arith, length_alone)) ∙ go (length (alone s)) (omega (arith, length_alone))
    where
      go : (n : ℕ) → 2 ≤ n → number_of (sheet_rules (alone s) (pile_identity (alone s)) 0 n (answer 0)) ≡ 0
      go zero h = absurd (omega arith)
      go (suc zero) h = absurd (omega arith)
      go (suc (suc n)) h =
          good_sheet (alone s) (pile_identity (alone s)) 0 (suc n) (λ e. omega (arith, length_alone)) there (sym number_none)
          ∙ at_end_lem (alone s) (pile_identity (alone s)) (after (alone s) 0) n after_is

  rest_none : (n : ℕ) → sheets_from (alone s) (after (alone s) 0) n ≡ []
  unfolding sheets_from
  rest_none zero = refl
  rest_none (suc n) = rw (fails (lies (alone s) (after (alone s) 0)) (λ l. omega (arith, l.0, after_is)))

  first_one : (n : ℕ) → sheets_from (alone s) 0 (suc n) ≡ s ∷ sheets_from (alone s) (after (alone s) 0) n
  unfolding sheets_from
  first_one n =
      rw (passes (lies (alone s) 0) there) (ap (λ (x : List ℕ). x ∷ sheets_from (alone s) (after (alone s) 0) n) sheet_is)

  pub alone_sheets : sheets (alone s) ≡ s ∷ []
  unfolding sheets
  alone_sheets = go (length (alone s)) (omega (arith, length_alone))
    where
      go : (n : ℕ) → 1 ≤ n → sheets_from (alone s) 0 n ≡ s ∷ []
      go zero h = absurd (omega arith)
      go (suc n) h = first_one n ∙ ap (λ (ss : List (List ℕ)). s ∷ ss) (rest_none n)

  pub alone_names : pile_identity (alone s) ≡ sheet_identity s
  alone_names = ap sheet_identity sheet_is
