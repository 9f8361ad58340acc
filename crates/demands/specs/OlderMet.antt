-- Request #109: edition 1 images, computed: a volume of 176 bytes with the header file alone, whose section holds the header. They are read
-- at every boundary of rules 4 and 5, and audited.
-- Assumes nothing.
use Rattle.std.specs.Prelude.{ℕ, true, false, List, [], ◌∷◌, ◌++◌, ◌≡◌, refl, set}
use Rattle.std.proofs.Common.{ap, ◌∙◌}
use Rattle.facts.specs.Fact.{test, all_below}
use Rattle.facts.specs.First.{first_fault, first_from}
use Rattle.facts.specs.Rules.{run}
use Rattle.words.specs.Le.{le}
use Rattle.words.specs.Put.{digit}
use Rattle.words.specs.Number.{number, zeros}
use Rattle.volume.specs.Volume.{sum_words, sum_bytes, file_sum}
use Rattle.header.specs.Header.{component, extended_number}
use Rattle.answers.specs.declared.Reading.{Reading}
use Rattle.reading_rules.specs.Reading.{identity_at, older_accepted, rules, reading, f, p, Older}
use Rattle.reading_rules.specs.Small.{volume, file, header}
use Rattle.audit_count.specs.Differences.{differences}
use Rattle.audit.specs.Audit.{auditing}
use Rattle.demands.specs.Older.{plain_tally, plain_audit}
use Rattle.demands.specs.OlderHolds.{plain}

-- a header of this length, revision and c, in a section of so many bytes, at most 76; the header's size field is at most 176
unfoldable pub older_image : ℕ → ℕ → ℕ → ℕ → List ℕ
older_image L kind c section = volume 176 0x7053 ++ (file 192 100 section ++ (header L kind 176 0xFFF80000 c ++ zeros 4))

-- what it gives; c and z are what they are: 2^32 - 1 lies in no image
abbrev pub older_reading : ℕ → Reading
older_reading c =
    record {
      number = 0;
      index = 0;
      H = 100;
      component = 0;
      identity = record { image = 0x31302D5441455254; revision = 0x01020304; extended = 0 };
      base = 0xFFF80000;
      c = c;
      z = 48;
      n = 0;
      E = 0;
    }

-- L of 60 in a section of 64 bytes, and L of 64 in one of 68
pub older_60 : reading (older_image 60 1 0xFFFFFFFF 64) ≡ older_reading 0xFFFFFFFF
unfolding older_image number zeros digit le reading rules run f p test all_below first_fault first_from sum_words sum_bytes file_sum component extended_number identity_at older_accepted
older_60 = refl

pub older_64 : reading (older_image 64 1 0 68) ≡ older_reading 0
unfolding older_image number zeros digit le reading rules run f p test all_below first_fault first_from sum_words sum_bytes file_sum component extended_number identity_at older_accepted
older_64 = refl

-- rule 4: sections of 63, 64, 75 and 76 bytes, of edition 1 and then of header revision 3, whose table is missing
abbrev read_number : ℕ → ℕ → ℕ → ℕ
read_number L kind section = (reading (older_image L kind 0 section)).number

pub rule_4 : read_number 60 1 63 ∷ read_number 60 1 64 ∷ read_number 60 1 75 ∷ read_number 60 1 76
    ∷ read_number 72 3 63 ∷ read_number 72 3 64 ∷ read_number 72 3 75 ∷ read_number 72 3 76 ∷ []
    ≡ 4 ∷ 0 ∷ 0 ∷ 0 ∷ 4 ∷ 4 ∷ 4 ∷ 9 ∷ []
unfolding older_image number zeros digit le reading rules run f p test all_below first_fault first_from sum_words sum_bytes file_sum component extended_number identity_at older_accepted
rule_4 = refl

-- rule 5: revision bytes 0, 1, 2 and 3 with L of 60; L of 59, 60, 61, 63, 64, 65 and 72 of edition 1; and L of 64 that overruns a section of
-- 67 bytes
pub rule_5 : read_number 60 0 76 ∷ read_number 60 1 76 ∷ read_number 60 2 76 ∷ read_number 60 3 76 ∷ read_number 59 1 76
    ∷ read_number 60 1 76 ∷ read_number 61 1 76 ∷ read_number 63 1 76 ∷ read_number 64 1 76 ∷ read_number 65 1 76 ∷ read_number 72 1 76
    ∷ read_number 64 1 67 ∷ []
    ≡ 5 ∷ 0 ∷ 5 ∷ 5 ∷ 5 ∷ 0 ∷ 5 ∷ 5 ∷ 0 ∷ 5 ∷ 5 ∷ 5 ∷ []
unfolding older_image number zeros digit le reading rules run f p test all_below first_fault first_from sum_words sum_bytes file_sum component extended_number identity_at older_accepted
rule_5 = refl

-- ---- audited: against itself, with a byte changed, with another legal base, and with room for one difference too few

abbrev maker : List ℕ
maker = older_image 60 1 0xFFFFFFFF 64

-- its first byte is another, and its base is 0x00100000
abbrev pub shipped : List ℕ
shipped = set (set (set maker 130 0x10) 131 0x00) 0 7

pub maker_older : Older maker
maker_older = rw older_60 (refl, refl)

at_maker : (ys : List ℕ) (room : ℕ) → auditing maker ys room ≡ plain_audit 100 maker ys room
at_maker ys room = plain maker ys room maker_older ∙ ap (λ (r : Reading). plain_audit r.H maker ys room) older_60

pub older_equal : auditing maker maker 0
    ≡ record { number = 0; index = 0; base = 0xFFF80000; settings = 0; strays = 0; bits = 0; explained = true }
unfolding older_image number zeros digit le test run plain_audit plain_tally differences
older_equal = at_maker maker 0

pub older_unequal : auditing maker shipped 3
    ≡ record { number = 0; index = 0; base = 0x00100000; settings = 0; strays = 3; bits = 0; explained = false }
unfolding older_image number zeros digit le test run plain_audit plain_tally differences
older_unequal = at_maker shipped 3

pub older_short : auditing maker shipped 2
    ≡ record { number = 20; index = 0; base = 0x00100000; settings = 0; strays = 3; bits = 0; explained = false }
unfolding older_image number zeros digit le test run plain_audit plain_tally differences
older_short = at_maker shipped 2
