-- Which bytes the rules 5 to 7 and the extended number look at, and how large that number can be.
-- Assumes nothing.
use Rattle.std.specs.Prelude.{ℕ, ◌+◌, ◌^◌, ◌≤◌, ◌<◌, Bool, true, false, List, ◌≡◌, length}
use Rattle.std.proofs.Common.{sym, ◌∙◌, arith}
use Rattle.std.proofs.Math.Decide.{dec_lt}
use Rattle.facts.specs.Fact.{Fact, Tells, Holds, test}
use Rattle.facts.specs.FactLaws.{passes, fails}
use Rattle.facts.specs.RulesLaws.{by_test}
use Rattle.words.specs.Le.{le, Bytes, Alike}
use Rattle.words.specs.LeLaws.{le_in, le_lt}
use Rattle.header.specs.Header.{has_extended, header_fits, size_fits, component, extended_number}

-- who tells of one check tells of another that amounts to it
pub retell : {r : Bool} {p q : Fact} → Tells r p → (Holds p → Holds q) → (Holds q → Holds p) → Tells r q
retell {r = true} t there back = record { says = there t.says }
retell {r = false} t there back = record { says = λ h. t.says (back h) }

-- the extended number where the header has one, and where it has none
pub extended_there : (xs : List ℕ) (H : ℕ) → 6 ≤ le 1 xs (H + 11) → extended_number xs H ≡ le 2 xs (H + 76)
unfolding extended_number
extended_there xs H h = rw (passes (has_extended (le 1 xs (H + 11))) h)

pub extended_none : (xs : List ℕ) (H : ℕ) → le 1 xs (H + 11) < 6 → extended_number xs H ≡ 0
unfolding extended_number
extended_none xs H h = rw (fails (has_extended (le 1 xs (H + 11))) (λ k. omega arith))

-- it is one of 16 bits
pub extended_small : (xs : List ℕ) (H : ℕ) → Bytes xs → extended_number xs H < 256 ^ 2
unfolding extended_number
extended_small xs H b =
    by_test (λ (n : ℕ). n < 256 ^ 2) (has_extended (le 1 xs (H + 11))) (le 2 xs (H + 76)) 0 (λ h. le_lt 2 xs (H + 76) b) (λ h. omega arith)

module _ (a b : List ℕ) (H : ℕ) where
  -- bytes H..H+7 and H+11
  pub header_looks : (size : ℕ) → Alike a b H 8 → Alike a b (H + 11) 1 → test (header_fits a H size) ≡ test (header_fits b H size)
  header_looks size head revision =
      rw (
        le_in head 4 H (omega arith) (omega arith),
        le_in revision 1 (H + 11) (omega arith) (omega arith),
        le_in head 4 (H + 4)
            (omega arith) (omega arith),
      )

  -- bytes H+24..H+27
  pub size_looks : length a ≡ length b → Alike a b (H + 24) 4 → test (size_fits a H) ≡ test (size_fits b H)
  size_looks long same = rw (long, le_in same 4 (H + 24) (omega arith) (omega arith))

  -- bytes H+34 and H+35
  pub component_looks : Alike a b (H + 34) 2 → component a H ≡ component b H
  unfolding component
  component_looks same = rw (le_in same 2 (H + 34) (omega arith) (omega arith))

  -- byte H+11, and bytes H+76 and H+77 only where there is an extended number
  pub extended_number_looks : Alike a b (H + 11) 1 → (Holds (has_extended (le 1 a (H + 11))) → Alike a b (H + 76) 2)
      → extended_number a H ≡ extended_number b H
  extended_number_looks revision same =
      let byte : le 1 a (H + 11) ≡ le 1 b (H + 11) = le_in revision 1 (H + 11) (omega arith) (omega arith) in
      elim (dec_lt (le 1 a (H + 11)) 6) [
        | no h ↦ extended_there a H (omega arith) ∙ le_in (same (omega arith)) 2 (H + 76) (omega arith) (omega arith)
            ∙ sym (extended_there b H (omega arith))
        | yes h ↦ extended_none a H h ∙ sym (extended_none b H (omega arith))
      ]
