-- The sample sheet, and the small image with its bytes set: bytes 40 and 41 of its region are others, and no other byte is.
-- Assumes nothing.
use Rattle.std.specs.Prelude.{ℕ, List, [], ◌∷◌, ◌++◌, ◌≡◌}
use Rattle.std.proofs.Common.{ap}
use Rattle.words.specs.Le.{le}
use Rattle.words.specs.Put.{digit}
use Rattle.words.specs.Number.{number, zeros}
use Rattle.answers.specs.declared.Reading.{Reading}
use Rattle.reading_rules.specs.Small.{small, setting_bytes, small_reads_2}
use Rattle.sheet.specs.Sheet.{body_at}
use Rattle.sheet_bodies.specs.Set.{copied, written, set_by, set_image}

-- identity, revision, one entry, this extended number; offset 40, two bytes, from 24 on; the bytes
abbrev pub sample_for : ℕ → List ℕ
sample_for extended =
    number 8 0x31302D5441455254
    ++ (number 4 0x01020304 ++ (number 2 1 ++ (number 2 extended ++ (number 4 40 ++ (number 2 2 ++ (number 2 24 ++ (1 ∷ 0 ∷ [])))))))

-- the document's
unfoldable pub sample : List ℕ
sample = sample_for 0

abbrev maker : List ℕ
maker = small 0xFFF80000 0xFFF80040 (setting_bytes 0 1)

pub small_set : set_image maker sample ≡ small 0xFFF80000 0xFFF80040 (setting_bytes 1 0)
unfolding small number zeros digit le sample set_image set_by written copied body_at
small_set = ap (λ (r : Reading). set_by maker r sample) small_reads_2
