-- Document 02, #114: a pile of sheets p folded into one, in a buffer o.
-- Assumes nothing.
use Rattle.std.specs.Prelude.{ℕ, cond, List, ◌≡◌, eqb, length}
use Rattle.std.proofs.Common.{sym, ◌∙◌}
use Rattle.facts.specs.Fact.{Fact, ◌≤?◌, ◌and◌}
use Rattle.facts.specs.Rules.{Rules, answer, rule, run}
use Rattle.fold_pile.specs.Pile.{sheets, pile_identity, pile_rules}
use Rattle.fold_cells.specs.SetAt.{set_at}
use Rattle.fold_tally.specs.Tally.{tally_of}
use Rattle.fold_sheet.specs.Folded.{sheet_of, size_of, onto}
use Rattle.fold.specs.declared.Folded.{Folded}

-- what the pile sets at each position
abbrev pub pile_sets : List ℕ → ℕ → ℕ
pile_sets p = set_at (sheets p)

-- 29: the folded sheet has no more than 256 entries and 65,535 bytes, and it has room in the buffer
abbrev pub has_room : (ℕ → ℕ) → ℕ → Fact
has_room f room = (tally_of f).runs ≤? 256 and size_of f ≤? 65535 and size_of f ≤? room

-- a refusal: its number, and zero in every other field
abbrev pub refused_fold : ℕ → ℕ → Folded
refused_fold number index = record { number = number; size = 0; entries = 0 }

-- 15 and 16 of the sheets in their order, then 29
unfoldable pub fold_rules : List ℕ → ℕ → Rules Folded
fold_rules p room =
    pile_rules p
    (rule 29 (has_room (pile_sets p) room)
    (answer (record { number = 0; size = size_of (pile_sets p); entries = (tally_of (pile_sets p)).runs })))

-- the answer
unfoldable pub folding : List ℕ → ℕ → Folded
folding p room = run refused_fold (fold_rules p room)

-- the folded sheet: the first sheet's identity, and what the pile sets
unfoldable pub folded_sheet : List ℕ → List ℕ
folded_sheet p = sheet_of (pile_identity p) (pile_sets p)

-- the buffer afterwards: the sheet at its start, or what it was where the fold is refused
unfoldable pub folded_into : List ℕ → List ℕ → List ℕ
folded_into p o = cond (eqb (folding p (length o)).number 0) (onto (folded_sheet p) o) o

-- the promise of `fold`: the answer, and the buffer afterwards
abbrev pub Folds : List ℕ → List ℕ → Folded → List ℕ → Type 0
Folds p o r q = (r ≡ folding p (length o)) × (q ≡ folded_into p o)

-- it admits one outcome
pub one_fold : (p o : List ℕ) (r r' : Folded) (q q' : List ℕ) → Folds p o r q → Folds p o r' q' → (r ≡ r') × (q ≡ q')
one_fold p o r r' q q' a b = (a.0 ∙ sym b.0, a.1 ∙ sym b.1)
