-- Document 01, "Moving": which base is legal.
-- Assumes nothing.
use Rattle.std.specs.Prelude.{ℕ, ◌+◌, ◌%◌, ◌^◌, Bool, ◌≡◌}
use Rattle.std.proofs.Common.{sym, ◌∙◌}
use Rattle.facts.specs.Fact.{Fact, ◌≤?◌, ◌≡?◌, ◌and◌, Tells}
use Rattle.facts.specs.FactLaws.{is_test}

-- a multiple of 2^12 from which an image of this size ends at 2^32 or below
abbrev pub legal_base : ℕ → ℕ → Fact
legal_base size base = base % 4096 ≡? 0 and base + size ≤? 2 ^ 32

-- the promise of `legal`
abbrev pub SaysLegal : ℕ → ℕ → Bool → Type 0
SaysLegal base size r = Tells r (legal_base size base)

-- it admits one answer
pub one_legal : (base size : ℕ) (r s : Bool) → SaysLegal base size r → SaysLegal base size s → r ≡ s
one_legal base size r s a b = is_test a ∙ sym (is_test b)
