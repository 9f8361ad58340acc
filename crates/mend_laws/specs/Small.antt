-- The small image mended: it was moved, two settings were changed, and a byte of each kind of place is a stray: the first and the last of
-- the file, one of the header, the table, the region's header, the patch word, the module's image base and its relocation word.
-- Assumes nothing.
use Rattle.std.specs.Prelude.{ℕ, false, List, [], ◌∷◌, ◌≡◌, refl, length, set}
use Rattle.std.proofs.Common.{ap, ◌∙◌, arith}
use Rattle.facts.specs.Fact.{test}
use Rattle.words.specs.Le.{le}
use Rattle.words.specs.Put.{digit}
use Rattle.words.specs.Number.{number, zeros}
use Rattle.answers.specs.declared.Audited.{Audited}
use Rattle.answers.specs.declared.Reading.{Reading}
use Rattle.reading_rules.specs.Reading.{Read2}
use Rattle.reading_rules.specs.Small.{small, setting_bytes, small_reading, small_reads, small_reads_2}
use Rattle.audit_count.specs.Differences.{differences, settings, strays, bits, flips}
use Rattle.audit.specs.Audit.{told_by}
use Rattle.audit.specs.AuditLaws.{later_told}
use Rattle.audit.specs.Small.{small_reference, small_told}
use Rattle.mend_file.specs.PutBack.{put_back, restored}
use Rattle.mend.specs.Mend.{mended, mending, mended_file}
use Rattle.mend.specs.MendLaws.{mend_read, file_mended}

abbrev maker : List ℕ
maker = small 0xFFF80000 0xFFF80040 (setting_bytes 0 1)

-- what it is compared with
abbrev moved : List ℕ
moved = small 0x00100000 0x00100040 (setting_bytes 0 1)

-- what it was before the strays
abbrev pub settled : List ℕ
settled = small 0x00100000 0x00100040 (setting_bytes 1 0)

abbrev pub harmed : List ℕ
harmed = set (set (set (set (set (set (set (set settled 0 7) 112 7) 180 7) 222 7) 265 7) 317 7) 353 7) 359 7

abbrev found : List ℕ
found = 0 ∷ 112 ∷ 180 ∷ 222 ∷ 256 ∷ 257 ∷ 265 ∷ 317 ∷ 353 ∷ 359 ∷ []

long : length harmed ≡ 360
unfolding small number zeros
long = refl

base : le 4 harmed 128 ≡ 0x00100000
unfolding small number zeros digit le
base = refl

differ_there : differences moved harmed 0 360 ≡ found
unfolding small number zeros digit test differences
differ_there = refl

told_by_lem : told_by maker ≡ small_reading
told_by_lem = later_told maker maker (ap (λ (q : Reading). q.number) small_reads, rw small_reads (omega arith)) ∙ small_reads

reads : Read2 maker
reads = ap (λ (q : Reading). q.number) small_reads_2

-- ten places are enough: two settings and eight strays
pub small_mending : mending maker harmed 10
    ≡ record { number = 0; index = 0; base = 0x00100000; settings = 2; strays = 8; bits = 2; explained = false }
unfolding small number zeros digit test settings strays bits flips
small_mending = mend_read maker harmed 10 reads ∙ small_told harmed long base found differ_there 10

back : restored moved small_reading harmed ≡ settled
unfolding small number zeros digit test differences restored put_back
back = refl

-- and afterwards the file is what it was before them
pub small_mended : mended_file maker harmed 10 ≡ settled
unfolding mended
small_mended =
    file_mended maker harmed 10 (ap (λ (a : Audited). a.number) small_mending)
    ∙ ap (λ (l : List ℕ). restored l (told_by maker) harmed) (small_reference harmed long base)
    ∙ ap (λ (q : Reading). restored moved q harmed) told_by_lem ∙ back

-- nine are not, and no byte changes
pub small_short : (mending maker harmed 9).number ≡ 20
unfolding small number zeros digit test settings strays bits flips
small_short = ap (λ (a : Audited). a.number) (mend_read maker harmed 9 reads ∙ small_told harmed long base found differ_there 9)
