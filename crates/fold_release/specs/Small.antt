-- The small image and two sheets for it, the second of which sets a byte of the first anew: each is accepted after the other, their fold is
-- computed, and released once it makes the same image. So the theorem speaks of something.
-- Assumes nothing.
use Rattle.std.specs.Prelude.{ℕ, zero, suc, ◌+◌, ◌≤◌, ◌<◌, List, [], ◌∷◌, ◌++◌, ◌≡◌, refl, length, take}
use Rattle.std.proofs.Common.{sym, ap, ◌∙◌, arith}
use Rattle.facts.specs.Fact.{test, all_below, Holds, every, ◌≤?◌}
use Rattle.facts.specs.FactLaws.{holds}
use Rattle.facts.specs.Rules.{run}
use Rattle.words.specs.Le.{le, Bytes}
use Rattle.words.specs.Put.{digit}
use Rattle.words.specs.Number.{number, zeros}
use Rattle.answers.specs.declared.Moved.{Moved}
use Rattle.reading_rules.specs.Reading.{reading2}
use Rattle.reading_rules.specs.Small.{small, setting_bytes, small_reads_2}
use Rattle.move_answer.specs.MoveAnswer.{refused_move, accepted_move}
use Rattle.sheet.specs.Sheet.{count, offset, size, body_at}
use Rattle.sheet.specs.ByteAt.{byte_by, byte_at}
use Rattle.sheet_bodies.specs.Small.{sample}
use Rattle.release_judge.specs.Judged.{name_rules, release_rules}
use Rattle.release.specs.Release.{releasing, released_image}
use Rattle.release.specs.ReleaseLaws.{release_judged, release_shows}
use Rattle.release_laws.specs.Small.{two}
use Rattle.release_laws.specs.Theorems.{goes_on}
use Rattle.demands.specs.Met.{bytes_so, maker_bytes, maker_reads, sample_bytes, maker_goes}
use Rattle.fold_pile.specs.Pile.{sheets_from, sheets, sheet_rules, pile_rules, pile_number, pile_identity}
use Rattle.fold_cells.specs.SetAt.{over, set_from, set_at}
use Rattle.fold_tally.specs.Tally.{tally_to}
use Rattle.fold_sheet.specs.Folded.{header, entry, entries_to, bodies_to, onto}
use Rattle.fold.specs.Fold.{pile_sets, Folds}
use Rattle.fold_laws.specs.UpTo.{nothing_from, computed}
use Rattle.fold_release.specs.Each.{released_each, EachAccepted}
use Rattle.fold_release.specs.Theorems.{fold_release}

abbrev maker : List ℕ
maker = small 0xFFF80000 0xFFF80040 (setting_bytes 0 1)

-- identity, revision, so many entries, no extended number
abbrev top : ℕ → List ℕ
top m = number 8 0x31302D5441455254 ++ (number 4 0x01020304 ++ (number 2 m ++ number 2 0))

-- byte 41 to 7, which the sample sets to 0
unfoldable pub second : List ℕ
second = top 1 ++ (entry 41 1 24 ++ (7 ∷ []))

unfoldable pub pile : List ℕ
pile = number 4 26 ++ (sample ++ (number 4 25 ++ second))

-- the folded sheet: bytes 40 and 41
unfoldable pub one : List ℕ
one = top 1 ++ (entry 40 2 24 ++ (1 ∷ 7 ∷ []))

-- ---- each is accepted

judged : run refused_move (release_rules (reading2 maker) (length maker) second 0x00100000 two 1) ≡ accepted_move (reading2 maker) 0x00100000
unfolding run release_rules name_rules test all_below le second entry number digit body_at small zeros
judged = rw small_reads_2

second_goes : (releasing maker second 0x00100000 two 1).number ≡ 0
second_goes = ap (λ (m : Moved). m.number) (release_judged maker second 0x00100000 two 1 maker_reads ∙ judged)

pub each : EachAccepted maker (sample ∷ second ∷ []) 0x00100000 two 1
each = (
  maker_goes,
  (
    goes_on maker sample second 0x00100000 0x00100000 two two 1 1 maker_bytes sample_bytes maker_goes
        (release_shows maker second 0x00100000 two 1 second_goes),
    omega arith,
  ),
)

-- ---- their fold

pile_bytes : Bytes pile
unfolding pile sample second entry number digit
pile_bytes = bytes_so pile refl

pile_sheets : sheets pile ≡ sample ∷ second ∷ []
unfolding pile sample second entry number digit le test sheets sheets_from
pile_sheets = refl

pile_passes : pile_number pile ≡ 0
unfolding pile sample second entry number digit le test all_below body_at sheet_rules pile_rules pile_number run
pile_passes = refl

ends_first : (k : ℕ) → 42 ≤ k → byte_at sample k ≡ 0
unfolding sample number digit le test all_below
ends_first = nothing_from sample 42 (holds (every (count sample) (λ i. offset sample i + size sample i ≤? 42)) refl)

ends_second : (k : ℕ) → 42 ≤ k → byte_at second k ≡ 0
unfolding second entry number digit le test all_below
ends_second = nothing_from second 42 (holds (every (count second) (λ i. offset second i + size second i ≤? 42)) refl)

none_from : (k : ℕ) → 42 ≤ k → pile_sets pile k ≡ 0
unfolding set_at set_from
none_from k h = rw (pile_sheets, ends_first k h, ends_second k h)

counted : tally_to (pile_sets pile) 43 ≡ record { run = 0; runs = 1; bytes = 2 }
unfolding sample second entry number digit le test byte_at byte_by set_at set_from tally_to
counted = rw pile_sheets

written : header (pile_identity pile) 1 ++ (entries_to 1 (pile_sets pile) 43 ++ bodies_to (pile_sets pile) 43) ≡ one
unfolding pile sample second one header entry number digit le test byte_at byte_by set_at set_from tally_to entries_to bodies_to
written = rw pile_sheets

pub small_fold : (o : List ℕ) → 26 ≤ length o → Folds pile o (record { number = 0; size = 26; entries = 1 }) (onto one o)
small_fold = computed pile pile_passes 42 none_from (omega arith) 1 2 one counted written (omega arith) (omega arith)

-- ---- released once, as one after the other

pub small_same : released_image maker one 0x00100000 two 1 ≡ released_each maker (sample ∷ second ∷ []) 0x00100000 two 1
unfolding one entry number digit
small_same =
    rw pile_sheets at
    (fold_release pile one pile_bytes (record { number = 0; size = 26; entries = 1 }) (onto one one) (small_fold one (omega arith)) refl maker
    maker_bytes 0x00100000 two 1 (rw pile_sheets each))
