-- The five releases of the small image that `year` computes, of which three are accepted: the image that they leave, with one byte of its
-- first line a stray, is mended by the checker; and the three sheets, of two owners, are folded and released once.
-- Assumes nothing.
use Prim.{tt}
use Rattle.std.specs.Prelude.{ℕ, ◌+◌, ◌≤◌, Bool, false, cond, List, [], ◌∷◌, ◌++◌, ◌≡◌, refl, length, get_or, take, set}
use Rattle.std.proofs.Common.{sym, ap, ◌∙◌, arith, length-set, get_or-set_same, get_or-set_other}
use Rattle.facts.specs.Fact.{test, all_below, Holds, every, ◌≤?◌}
use Rattle.facts.specs.FactLaws.{holds, passes}
use Rattle.words.specs.Le.{le, Bytes}
use Rattle.words.specs.LeLaws.{le_cong}
use Rattle.words.specs.Put.{digit, put, add}
use Rattle.words.specs.Number.{number, zeros}
use Rattle.volume.specs.Volume.{sum_bytes, file_sum}
use Rattle.table.specs.Entry.{place_of}
use Rattle.table.specs.Passes.{place}
use Rattle.items.specs.Items.{words_in}
use Rattle.inside_files.specs.Parts.{sections_from, sections_at, files_from, first_at, first_place}
use Rattle.inside_files.specs.Parts as files
use Rattle.inside_rows.specs.Rows.{row_at, judged}
use Rattle.inside_modules.specs.Modules.{te_of, module_of}
use Rattle.inside_places.specs.Places.{shifted, found}
use Rattle.inside_blocks.specs.Blocks.{head_item, heads_from, head_count, word_of, item_of, entries_from, blocks_from, items}
use Rattle.inside_walk.specs.Whole.{module_in, item_for, spread, walked}
use Rattle.inside_judge.specs.Rules.{patch_from}
use Rattle.answers.specs.declared.Reading.{Reading}
use Rattle.reading_rules.specs.Words.{met}
use Rattle.reading_rules.specs.Reading.{reading2}
use Rattle.reading_rules.specs.Small.{small, small_reading, small_reads_2}
use Rattle.moves.specs.Moves.{difference, moved_to}
use Rattle.move_image.specs.Moving.{move_to, moved_image}
use Rattle.sheet.specs.Sheet.{count, offset, size, body_at}
use Rattle.sheet.specs.ByteAt.{byte_by, byte_at}
use Rattle.sheet_bodies.specs.Small.{sample}
use Rattle.owners.specs.Owners.{owners_fit, fields_owned}
use Rattle.release.specs.Release.{releasing, released_image}
use Rattle.release_laws.specs.Small.{two}
use Rattle.audit.specs.AuditLaws.{all_few}
use Rattle.mend.specs.Mend.{mending, mended_file, mended_list}
use Rattle.fold_pile.specs.Pile.{sheets_from, sheets, sheet_rules, pile_rules, pile_number, pile_identity}
use Rattle.facts.specs.Rules.{run}
use Rattle.fold_cells.specs.SetAt.{set_from, set_at}
use Rattle.fold_tally.specs.Tally.{tally_to}
use Rattle.fold_sheet.specs.Folded.{header, entry, entries_to, bodies_to, onto}
use Rattle.fold.specs.Fold.{pile_sets, Folds}
use Rattle.fold_laws.specs.UpTo.{nothing_from, computed}
use Rattle.demands.specs.Calls.{Call}
use Rattle.demands.specs.Met.{bytes_so, maker_bytes, maker_reads}
use Rattle.demands.specs.IsolationMet.{second}
use Rattle.year.specs.Year.{accepted, last_base, set_all}
use Rattle.year.specs.YearLaws.{year_stands}
use Rattle.year.specs.YearHolds.{year_image}
use Rattle.year.specs.YearMet.{maker, undo, calls, answered, settled, x₅, plays, three, all_set, last}
use Rattle.year.specs.YearMet as played
use Rattle.year_after.specs.AfterYear.{Keeps, Righted, sheets_of, AllOwn}
use Rattle.year_after.specs.Mended.{mended_year}
use Rattle.year_after.specs.Folded.{folded_year}

-- ---- the year's image, byte by byte: two settings are the other owner's, and it is at 0x00200000

abbrev left : List ℕ
left = small 0x00200000 0x00200040 (zeros 8 ++ (0 ∷ 1 ∷ 7 ∷ 8 ∷ zeros 4))

reads : reading2 (settled 0 1) ≡ small_reading
reads = rw all_set at (year_stands maker maker_bytes maker_reads calls answered x₅ played.sheets plays).reads ∙ small_reads_2

moves : move_to (settled 0 1) small_reading 0x00200000 ≡ left
unfolding small number zeros digit le test place_of place move_to moved_to difference add put met words_in patch_from all_below sum_bytes
    file_sum walked spread module_in item_for items sections_from sections_at files_from first_at first_place files.ahead row_at judged te_of module_of
    shifted found head_item heads_from head_count word_of item_of entries_from blocks_from
moves = refl

pub are_x₅ : x₅ ≡ left
unfolding moved_image
are_x₅ =
    year_image maker calls answered x₅ maker_bytes maker_reads played.sheets plays
    ∙ ap (λ (b : ℕ). moved_image (set_all maker (accepted calls answered)) b) last
    ∙ ap (λ (l : List ℕ). moved_image l 0x00200000) all_set
    ∙ ap (λ (r : Reading). move_to (settled 0 1) r 0x00200000) reads ∙ moves

-- ---- mended

-- its first byte another
pub harmed : List ℕ
harmed = set x₅ 0 7

abbrev places : List ℕ
places = zeros 360

left_long : length left ≡ 360
unfolding small number zeros
left_long = refl

long : length x₅ ≡ 360
long = ap (λ (l : List ℕ). length l) are_x₅ ∙ left_long

maker_long : length maker ≡ 360
unfolding small number zeros
maker_long = refl

places_long : length places ≡ 360
unfolding zeros
places_long = refl

first : get_or left 0 0 ≡ 0
unfolding small number zeros
first = refl

-- it is a stray
pub differs : harmed ≡ x₅ → ⊥
unfolding harmed
differs same =
    let seven : get_or (set x₅ 0 7) 0 0 ≡ 7 = get_or-set_same x₅ 0 7 0 (omega (arith, long)) in
    let none : get_or x₅ 0 0 ≡ 0 = ap (λ (l : List ℕ). get_or l 0 0) are_x₅ ∙ first in
    let e : get_or (set x₅ 0 7) 0 0 ≡ get_or x₅ 0 0 = ap (λ (l : List ℕ). get_or l 0 0) same in
    omega (arith, seven, none, e)

pub keeps : Keeps (reading2 maker) harmed x₅
unfolding harmed
keeps =
    record {
      base = le_cong 4 (set x₅ 0 7) x₅ ((reading2 maker).H + 28)
          (record { same = λ j h. get_or-set_other x₅ 0 ((reading2 maker).H + 28 + j) 7 0 (λ e. omega arith) });
      settings = λ k s. get_or-set_other x₅ 0 k 7 0 (λ e. omega (arith, s.0));
    }

righted : Righted maker (accepted calls answered) x₅ harmed (length places) (mending maker harmed (length places))
    (mended_file maker harmed (length places))
righted =
    mended_year.0 maker calls answered x₅ harmed places (mending maker harmed (length places)) (mended_list maker harmed places)
    (mended_file maker harmed (length places)) maker_bytes maker_reads played.sheets plays (refl, refl, refl)

harmed_long : length harmed ≡ length maker
unfolding harmed
harmed_long = length-set x₅ 0 7 ∙ long ∙ sym maker_long

-- the mending is accepted, and leaves the year's image
pub year_mends : (mending maker harmed (length places)).number ≡ 0
year_mends = righted.goes harmed_long keeps (omega (arith, all_few maker harmed, maker_long, places_long))

pub year_mended : mended_file maker harmed (length places) ≡ left
year_mended = righted.back year_mends keeps ∙ are_x₅

-- ---- folded

unfoldable pub pile : List ℕ
pile = number 4 26 ++ (sample ++ (number 4 26 ++ (second ++ (number 4 26 ++ undo))))

-- the folded sheet: bytes 40 to 43 in one entry, the first two as the last sheet sets them
unfoldable pub one : List ℕ
one = number 8 0x31302D5441455254 ++ (number 4 0x01020304 ++ (number 2 1 ++ (number 2 0 ++ (entry 40 4 24 ++ (0 ∷ 1 ∷ 7 ∷ 8 ∷ [])))))

pile_bytes : Bytes pile
unfolding pile sample second undo number digit
pile_bytes = bytes_so pile refl

pile_sheets : sheets pile ≡ sample ∷ second ∷ undo ∷ []
unfolding pile sample second undo number digit le test sheets sheets_from
pile_sheets = refl

-- they are the accepted calls'
pub piled : sheets pile ≡ sheets_of (accepted calls answered)
unfolding sheets_of
piled = pile_sheets ∙ sym (ap (λ (l : List Call). sheets_of l) three)

pile_passes : pile_number pile ≡ 0
unfolding pile sample second undo number digit le test all_below body_at sheet_rules pile_rules pile_number run
pile_passes = refl

ends_first : (k : ℕ) → 44 ≤ k → byte_at sample k ≡ 0
unfolding sample number digit le test all_below
ends_first = nothing_from sample 44 (holds (every (count sample) (λ i. offset sample i + size sample i ≤? 44)) refl)

ends_second : (k : ℕ) → 44 ≤ k → byte_at second k ≡ 0
unfolding second number digit le test all_below
ends_second = nothing_from second 44 (holds (every (count second) (λ i. offset second i + size second i ≤? 44)) refl)

ends_third : (k : ℕ) → 44 ≤ k → byte_at undo k ≡ 0
unfolding undo number digit le test all_below
ends_third = nothing_from undo 44 (holds (every (count undo) (λ i. offset undo i + size undo i ≤? 44)) refl)

none_from : (k : ℕ) → 44 ≤ k → pile_sets pile k ≡ 0
unfolding set_at set_from
none_from k h = rw (pile_sheets, ends_first k h, ends_second k h, ends_third k h)

counted : tally_to (pile_sets pile) 45 ≡ record { run = 0; runs = 1; bytes = 4 }
unfolding sample second undo number digit le test byte_at byte_by set_at set_from tally_to
counted = rw pile_sheets

written : header (pile_identity pile) 1 ++ (entries_to 1 (pile_sets pile) 45 ++ bodies_to (pile_sets pile) 45) ≡ one
unfolding pile sample second undo one header entry number digit le test byte_at byte_by set_at set_from tally_to entries_to bodies_to
written = rw pile_sheets

pub year_fold : (o : List ℕ) → 28 ≤ length o → Folds pile o (record { number = 0; size = 28; entries = 1 }) (onto one o)
year_fold = computed pile pile_passes 44 none_from (omega arith) 1 4 one counted written (omega arith) (omega arith)

-- a list that gives all four bytes to owner 1, whom the calls' own list gives but two
unfoldable pub all : List ℕ
all = number 4 40 ++ (number 2 4 ++ number 2 1)

abbrev sheet : List ℕ
sheet = take 28 (onto one one)

abbrev base : ℕ
base = last_base (reading2 maker).base (accepted calls answered)

good : Holds (owners_fit all 1 48)
unfolding all number digit le test all_below
good = holds (owners_fit all 1 48) refl

first_own : Holds (fields_owned sample all 1)
unfolding sample all number digit le test all_below
first_own = holds (fields_owned sample all 1) refl

second_own : Holds (fields_owned second all 1)
unfolding second all number digit le test all_below
second_own = holds (fields_owned second all 1) refl

third_own : Holds (fields_owned undo all 1)
unfolding undo all number digit le test all_below
third_own = holds (fields_owned undo all 1) refl

own : AllOwn all 1 (accepted calls answered)
unfolding AllOwn
own = rw three (first_own, (second_own, (third_own, tt)))

abbrev Once : List ℕ → Type 0
Once o =
    ((releasing maker sheet base o 1).number ≡ 0 → released_image maker sheet base o 1 ≡ x₅)
    × ((releasing maker sheet base o 1).number ≡ 0 → Holds (owners_fit o 1 (reading2 maker).z) × AllOwn o 1 (accepted calls answered))
    × (Holds (owners_fit o 1 (reading2 maker).z) → AllOwn o 1 (accepted calls answered) → (releasing maker sheet base o 1).number ≡ 0)

one_long : length one ≡ 28
unfolding one entry number digit
one_long = refl

once : (o : List ℕ) → Once o
once o =
    folded_year maker calls answered x₅ maker_bytes maker_reads played.sheets plays pile one (record { number = 0; size = 28; entries = 1 })
    (onto one one) pile_bytes piled (year_fold one (omega (arith, one_long))) refl o 1 (releasing maker sheet base o 1)
    (released_image maker sheet base o 1) (refl, refl)

-- one release by that list makes what the five calls left
pub once_goes : (releasing maker sheet base all 1).number ≡ 0
once_goes = (once all).2 (rw small_reads_2 good) own

pub once_made : released_image maker sheet base all 1 ≡ left
once_made = (once all).0 once_goes ∙ are_x₅

-- by the calls' own list neither owner may
not_own : test (fields_owned second two 1) ≡ false
unfolding second number digit le test all_below
not_own = refl

pub once_refused : (releasing maker sheet base two 1).number ≡ 0 → ⊥
unfolding AllOwn
once_refused goes =
    let all = rw three at ((once two).1 goes).1 in
    let e = sym (passes (fields_owned second two 1) all.1.0) ∙ not_own in
    let n : ◌≡◌ {A = ℕ} 1 0 = ap (λ (b : Bool). cond b 1 0) e in
    omega arith
