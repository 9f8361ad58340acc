-- Document 02, #114: what the check of a pile answers.
-- Assumes nothing.
use Rattle.std.specs.Prelude.{ℕ, List, ◌≡◌, Result, Ok, Err}
use Rattle.std.proofs.Common.{sym, ap, ◌∙◌}
use Rattle.fold_pile.specs.declared.Refusal.{Refusal}
use Rattle.fold_pile.specs.declared.Pile.{Pile}
use Rattle.fold_pile.specs.Pile.{pile_number}
use Rattle.fold_pile.specs.Refused.{number_of_refusal, number_some, one_number}

-- what can be told of an answer: the bytes of the pile, or the refusal
abbrev pub outcome : Result Pile Refusal → Result (List ℕ) Refusal
outcome (Ok q) = Ok q.bytes.now
outcome (Err e) = Err e

-- the promise of `check`: the pile itself, which passes 15 and 16, or the number of the first that it doesn't pass
abbrev pub Judged : List ℕ → Result Pile Refusal → Type 0
Judged p (Ok q) = (q.bytes.now ≡ p) × (pile_number p ≡ 0)
Judged p (Err e) = number_of_refusal e ≡ pile_number p

-- it admits one outcome
pub one_judged : (p : List ℕ) (r r' : Result Pile Refusal) → Judged p r → Judged p r' → outcome r ≡ outcome r'
one_judged p (Ok q) (Ok q') a b = ap (λ (x : List ℕ). Ok x) (a.0 ∙ sym b.0)
one_judged p (Ok q) (Err e) a b = absurd (number_some e (b ∙ a.1))
one_judged p (Err e) (Ok q) a b = absurd (number_some e (a ∙ b.1))
one_judged p (Err e) (Err e') a b = ap (λ (x : Refusal). Err x) (one_number e e' (a ∙ sym b))
