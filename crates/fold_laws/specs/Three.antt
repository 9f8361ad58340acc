-- Three sheets that overlap, touch and undo, computed: the second sets two bytes of the first anew and goes on after it, the third sets
-- these two back and touches the second's end. Folded they are one run.
-- Assumes nothing.
use Rattle.std.specs.Prelude.{ℕ, zero, suc, ◌+◌, ◌≤◌, ◌<◌, true, List, [], ◌∷◌, ◌++◌, ◌≡◌, refl, length}
use Rattle.std.proofs.Common.{sym, ap, ◌∙◌, arith}
use Rattle.facts.specs.Fact.{test, all_below, Holds, every, ◌≤?◌}
use Rattle.facts.specs.FactLaws.{holds}
use Rattle.facts.specs.Rules.{run}
use Rattle.words.specs.Le.{le}
use Rattle.words.specs.Put.{digit}
use Rattle.words.specs.Number.{number}
use Rattle.sheet.specs.Sheet.{count, offset, size, body_at}
use Rattle.sheet.specs.ByteAt.{byte_by, byte_at}
use Rattle.fold_pile.specs.Pile.{sheets_from, sheets, sheet_rules, pile_rules, pile_number, pile_identity}
use Rattle.fold_cells.specs.SetAt.{over, set_from, set_at}
use Rattle.fold_tally.specs.Tally.{tally_to}
use Rattle.fold_sheet.specs.Folded.{header, entry, entries_to, bodies_to, onto}
use Rattle.fold.specs.Fold.{pile_sets, Folds}
use Rattle.fold_laws.specs.UpTo.{nothing_from, computed}

-- identity, revision, so many entries, no extended number
abbrev top : ℕ → List ℕ
top m = number 8 0x31302D5441455254 ++ (number 4 0x01020304 ++ (number 2 m ++ number 2 0))

abbrev first : List ℕ
first = top 1 ++ (entry 2 4 24 ++ (1 ∷ 2 ∷ 3 ∷ 4 ∷ []))

abbrev second : List ℕ
second = top 1 ++ (entry 4 4 24 ++ (9 ∷ 9 ∷ 5 ∷ 6 ∷ []))

abbrev third : List ℕ
third = top 2 ++ (entry 4 2 32 ++ (entry 8 1 34 ++ (3 ∷ 4 ∷ 7 ∷ [])))

unfoldable pub pile : List ℕ
pile = number 4 28 ++ (first ++ (number 4 28 ++ (second ++ (number 4 35 ++ third))))

-- the folded sheet: bytes 2 to 8
unfoldable pub one : List ℕ
one = top 1 ++ (entry 2 7 24 ++ (1 ∷ 2 ∷ 3 ∷ 4 ∷ 5 ∷ 6 ∷ 7 ∷ []))

pub three_sheets : sheets pile ≡ first ∷ second ∷ third ∷ []
unfolding pile entry number digit le test sheets sheets_from
three_sheets = refl

pub three_pass : pile_number pile ≡ 0
unfolding pile entry number digit le test all_below body_at sheet_rules pile_rules pile_number run
three_pass = refl

ends_first : (k : ℕ) → 9 ≤ k → byte_at first k ≡ 0
unfolding entry number digit le test all_below
ends_first = nothing_from first 9 (holds (every (count first) (λ i. offset first i + size first i ≤? 9)) refl)

ends_second : (k : ℕ) → 9 ≤ k → byte_at second k ≡ 0
unfolding entry number digit le test all_below
ends_second = nothing_from second 9 (holds (every (count second) (λ i. offset second i + size second i ≤? 9)) refl)

ends_third : (k : ℕ) → 9 ≤ k → byte_at third k ≡ 0
unfolding entry number digit le test all_below
ends_third = nothing_from third 9 (holds (every (count third) (λ i. offset third i + size third i ≤? 9)) refl)

-- from 9 on nothing is set
none_from : (k : ℕ) → 9 ≤ k → pile_sets pile k ≡ 0
unfolding set_at set_from
none_from k h =
    rw (three_sheets, ends_first k h, ends_second k h, ends_third k h)

counted : tally_to (pile_sets pile) 10 ≡ record { run = 0; runs = 1; bytes = 7 }
unfolding entry number digit le test byte_at byte_by set_at set_from tally_to
counted = rw three_sheets

written : header (pile_identity pile) 1 ++ (entries_to 1 (pile_sets pile) 10 ++ bodies_to (pile_sets pile) 10) ≡ one
unfolding pile one header entry number digit le test byte_at byte_by set_at set_from tally_to entries_to bodies_to
written = rw three_sheets

-- the fold of the three is that one, in any buffer of 31 bytes or more
pub three_fold : (o : List ℕ) → 31 ≤ length o → Folds pile o (record { number = 0; size = 31; entries = 1 }) (onto one o)
three_fold = computed pile three_pass 9 none_from (omega arith) 1 7 one counted written (omega arith) (omega arith)
