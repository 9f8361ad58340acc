-- The small image, released by the owner of region bytes 40 and 41 with the sample sheet to another base: its base word, its patch word, its
-- module's two words and these two bytes are others, and no other byte is; by the other owner it is refused. The image of header revision 6 takes the sheet that
-- has its extended number, and refuses the sample, which has 0.
-- Assumes nothing.
use Rattle.std.specs.Prelude.{ℕ, List, ◌++◌, ◌≡◌, negsuc, length}
use Rattle.std.proofs.Common.{ap, ◌∙◌}
use Rattle.facts.specs.Fact.{test, all_below}
use Rattle.facts.specs.Rules.{run}
use Rattle.words.specs.Le.{le}
use Rattle.words.specs.Put.{digit}
use Rattle.words.specs.Number.{number, zeros}
use Rattle.answers.specs.declared.Reading.{Reading}
use Rattle.reading_rules.specs.Reading.{reading2, Read2}
use Rattle.reading_rules.specs.Small.{small, later, setting_bytes, small_reads_2, six_reads_2, five_reads_2}
use Rattle.answers.specs.declared.Moved.{Moved}
use Rattle.move_image.specs.Moving.{move_to}
use Rattle.move_answer.specs.MoveAnswer.{refused_move, accepted_move}
use Rattle.move_image.specs.Small.{small_move, small_moves}
use Rattle.sheet.specs.Sheet.{body_at}
use Rattle.sheet_bodies.specs.Set.{set_image}
use Rattle.sheet_bodies.specs.Small.{sample, sample_for, small_set}
use Rattle.release.specs.Release.{releasing, two_steps, released_image}
use Rattle.release_judge.specs.Judged.{name_rules, release_rules}
use Rattle.release.specs.ReleaseLaws.{release_judged, release_changed}

-- bytes 40 and 41 are owner 1's, the next two owner 2's
abbrev pub two : List ℕ
two = number 4 40 ++ (number 2 2 ++ (number 2 1 ++ (number 4 42 ++ (number 2 2 ++ number 2 2))))

abbrev maker : List ℕ
maker = small 0xFFF80000 0xFFF80040 (setting_bytes 0 1)

read : Read2 maker
read = ap (λ (r : Reading). r.number) small_reads_2

judged : run refused_move (release_rules (reading2 maker) (length maker) sample 0x00100000 two 1) ≡ accepted_move (reading2 maker) 0x00100000
unfolding run release_rules name_rules test all_below le sample number digit body_at small zeros
judged = rw small_reads_2

-- its answer: down by 4,293,394,432
pub small_release : releasing maker sample 0x00100000 two 1 ≡ record { number = 0; index = 0; distance = negsuc 4293394431 }
small_release = release_judged maker sample 0x00100000 two 1 read ∙ judged ∙ small_move

goes : (releasing maker sample 0x00100000 two 1).number ≡ 0
goes = ap (λ (m : Moved). m.number) small_release

-- and the image afterwards
pub small_released : released_image maker sample 0x00100000 two 1 ≡ small 0x00100000 0x00100040 (setting_bytes 1 0)
unfolding two_steps set_image
small_released =
    release_changed maker sample 0x00100000 two 1 goes
    ∙ ap (λ (l : List ℕ). move_to l (reading2 maker) 0x00100000) small_set
    ∙ ap (λ (r : Reading). move_to (small 0xFFF80000 0xFFF80040 (setting_bytes 1 0)) r 0x00100000) small_reads_2
    ∙ small_moves 1 0

-- the same sheet by the other owner is refused with 24
pub small_other : releasing maker sample 0x00100000 two 2 ≡ refused_move 24 0
unfolding run release_rules name_rules test all_below le sample number digit body_at small zeros
small_other = release_judged maker sample 0x00100000 two 2 read ∙ rw small_reads_2

-- ---- the extended number

abbrev six : List ℕ
six = later 80 6 0x0201 (setting_bytes 0 1)

abbrev five : ℕ → List ℕ
five any = later 79 5 any (setting_bytes 0 1)

six_read : Read2 six
six_read = ap (λ (r : Reading). r.number) six_reads_2

-- the sheet's own extended number is the image's
pub six_applied : (releasing six (sample_for 0x0201) 0xFFF80000 two 1).number ≡ 0
unfolding run release_rules name_rules test all_below le number digit body_at later zeros
six_applied = ap (λ (m : Moved). m.number) (release_judged six (sample_for 0x0201) 0xFFF80000 two 1 six_read) ∙ rw six_reads_2

-- an older sheet has 0, and each half alone is another too
pub six_older : releasing six (sample_for 0) 0xFFF80000 two 1 ≡ refused_move 16 0
unfolding run release_rules name_rules test all_below le number digit body_at
six_older = release_judged six (sample_for 0) 0xFFF80000 two 1 six_read ∙ rw six_reads_2

pub six_low : releasing six (sample_for 0x0200) 0xFFF80000 two 1 ≡ refused_move 16 0
unfolding run release_rules name_rules test all_below le number digit body_at
six_low = release_judged six (sample_for 0x0200) 0xFFF80000 two 1 six_read ∙ rw six_reads_2

pub six_high : releasing six (sample_for 0x0001) 0xFFF80000 two 1 ≡ refused_move 16 0
unfolding run release_rules name_rules test all_below le number digit body_at
six_high = release_judged six (sample_for 0x0001) 0xFFF80000 two 1 six_read ∙ rw six_reads_2

-- at header revision 5 the older sheet is taken whatever stands at H+76, and one with a number is not
five_read : (any : ℕ) → Read2 (five any)
five_read any = ap (λ (r : Reading). r.number) (five_reads_2 any)

pub five_older : (any : ℕ) → (releasing (five any) (sample_for 0) 0xFFF80000 two 1).number ≡ 0
unfolding run release_rules name_rules test all_below le number digit body_at later zeros
five_older any =
    ap (λ (m : Moved). m.number) (release_judged (five any) (sample_for 0) 0xFFF80000 two 1 (five_read any)) ∙ rw (five_reads_2 any)

pub five_other : (any : ℕ) → releasing (five any) (sample_for 0x0201) 0xFFF80000 two 1 ≡ refused_move 16 0
unfolding run release_rules name_rules test all_below le number digit body_at
five_other any = release_judged (five any) (sample_for 0x0201) 0xFFF80000 two 1 (five_read any) ∙ rw (five_reads_2 any)
