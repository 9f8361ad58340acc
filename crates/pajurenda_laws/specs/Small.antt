-- The answers of the C calls for the small image, byte by byte: each field stands where the header says.
-- Assumes nothing.
use Rattle.std.specs.Prelude.{ℕ, ◌+◌, ◌-◌, ◌^◌, List, [], ◌++◌, ◌≡◌, refl, ◌∷◌}
use Rattle.std.proofs.Common.{ap, ◌∙◌}
use Rattle.facts.specs.Fact.{test, all_below}
use Rattle.facts.specs.Rules.{run}
use Rattle.words.specs.Le.{le}
use Rattle.words.specs.Put.{digit, put, put_all}
use Rattle.words.specs.Number.{number, zeros}
use Rattle.answers.specs.declared.Reading.{Reading}
use Rattle.reading_rules.specs.Reading.{reading, reading2}
use Rattle.reading_rules.specs.Small.{small, setting_bytes, small_reads, small_reads_2}
use Rattle.answers.specs.declared.Moved.{Moved}
use Rattle.sheet.specs.Sheet.{body_at}
use Rattle.sheet.specs.ReadSheet.{sheet_reading}
use Rattle.sheet_bodies.specs.Small.{sample}
use Rattle.setting.specs.Small.{small_found}
use Rattle.release.specs.Release.{releasing}
use Rattle.release_laws.specs.Small.{two, small_release}
use Rattle.answers.specs.declared.Audited.{Audited}
use Rattle.audit.specs.Audit.{auditing}
use Rattle.audit.specs.Small.{shipped, small_audit}
use Rattle.answers.specs.declared.Listed.{Listed}
use Rattle.contents.specs.Listing.{contents}
use Rattle.contents.specs.Small.{small_contents}
use Rattle.answers.specs.declared.Found.{Found}
use Rattle.c_answers.specs.Answers.{if_room, result, answered, twos, read_fields, move_fields, sheet_fields, setting_fields, audit_fields, list_fields}
use Rattle.setting.specs.Finding.{finding}
use Rattle.setting.specs.FindingLaws.{found_accepted}
use Rattle.answers.specs.After.{unless_refused}
use Rattle.station_order.specs.Order.{temp_ram_init, at_reset, noted, by_rows, ordered}
use Rattle.station_bytes.specs.Stored.{stationed, station_bytes}

abbrev maker : List ℕ
maker = small 0xFFF80000 0xFFF80040 (setting_bytes 0 1)

-- number, index, H, component, identity, revision, base, c, z, n, E, extended number
pub read_answer : answered (zeros 96) (read_fields (reading maker))
    ≡ number 8 0
    ++ (number 8 0
    ++ (number 8 100
    ++ (number 8 1
    ++ (number 8 0x31302D5441455254
    ++ (number 8 0x01020304 ++ (number 8 0xFFF80000 ++ (number 8 216 ++ (number 8 48 ++ (number 8 1 ++ (number 8 188 ++ number 8 0))))))))))
unfolding if_room test put_all put digit number zeros
read_answer = ap (λ (r : Reading). answered (zeros 96) (read_fields r)) small_reads

-- number, index, how far, in two's complement
pub release_answer : answered (zeros 24) (move_fields (releasing maker sample 0x00100000 two 1))
    ≡ number 8 0 ++ (number 8 0 ++ number 8 (2 ^ 64 - 4293394432))
unfolding if_room test put_all put digit number zeros twos
release_answer = ap (λ (r : Moved). answered (zeros 24) (move_fields r)) small_release

-- number, entries, identity, revision, extended number
pub sheet_answer : answered (zeros 40) (sheet_fields (sheet_reading sample))
    ≡ number 8 0 ++ (number 8 1 ++ (number 8 0x31302D5441455254 ++ (number 8 0x01020304 ++ number 8 0)))
unfolding if_room test put_all put digit number zeros sheet_reading run all_below le sample body_at
sheet_answer = refl

-- number, place, length
pub setting_answer : answered (zeros 24) (setting_fields (finding maker 40 2)) ≡ number 8 0 ++ (number 8 256 ++ number 8 2)
unfolding if_room test put_all put digit number zeros
setting_answer =
    ap (λ (r : Found). answered (zeros 24) (setting_fields r)) (found_accepted maker 40 2 small_found)
    ∙ ap (λ (k : ℕ). answered (zeros 24) (setting_fields (record { number = k; place = (reading2 maker).c + 40; length = 2 }))) small_found
    ∙ ap (λ (r : Reading). answered (zeros 24) (setting_fields (record { number = 0; place = r.c + 40; length = 2 }))) small_reads_2

-- number, index, base, settings, strays, bits, explained
pub audit_answer : answered (zeros 56) (audit_fields (auditing maker shipped 3))
    ≡ number 8 0 ++ (number 8 0 ++ (number 8 0x00100000 ++ (number 8 2 ++ (number 8 1 ++ (number 8 2 ++ number 8 0)))))
unfolding if_room test put_all put digit number zeros
audit_answer = ap (λ (r : Audited). answered (zeros 56) (audit_fields r)) small_audit

-- number, index, modules, words, entries
pub contents_answer : answered (zeros 40) (list_fields (contents maker 24))
    ≡ number 8 0 ++ (number 8 0 ++ (number 8 1 ++ (number 8 4 ++ number 8 6)))
unfolding if_room test put_all put digit number zeros
contents_answer = ap (λ (r : Listed). answered (zeros 40) (list_fields r)) small_contents

-- one byte less, and the result is 100
pub short_result : (k : ℕ) → result 12 (zeros 95) k ≡ 100
unfolding if_room test zeros
short_result k = refl

-- ---- request #108: the station's state of eight bytes and a byte after them

-- TempRamInit at reset: 0, and the next state
pub station_answer : (result 1 (number 8 0 ++ (0xAA ∷ [])) (stationed (number 8 0 ++ (0xAA ∷ [])) temp_ram_init 0).number ≡ 0)
    × (if_room 1 (number 8 0 ++ (0xAA ∷ [])) (station_bytes (number 8 0 ++ (0xAA ∷ [])) temp_ram_init 0) [] ≡ number 8 1 ++ (0xAA ∷ []))
unfolding if_room unless_refused test le put digit number noted by_rows ordered
station_answer = (refl, refl)

-- 2^32 isn't cut down to the reset's state: 40, or 41 first, and every byte is kept
pub station_other : ((stationed (number 8 (2 ^ 32)) temp_ram_init 0).number ≡ 40)
    × ((stationed (number 8 (2 ^ 32)) 6 0).number ≡ 41)
    × (station_bytes (number 8 (2 ^ 32)) temp_ram_init 0 ≡ number 8 (2 ^ 32))
unfolding unless_refused test le put digit number noted by_rows ordered
station_other = (refl, refl, refl)

-- the reset, in any state; seven bytes are too few
pub station_reset : (if_room 1 (number 8 (2 ^ 64 - 1)) (put 8 (number 8 (2 ^ 64 - 1)) 0 at_reset) [] ≡ number 8 0)
    × (result 1 (number 7 0) 0 ≡ 100)
unfolding if_room test put digit number
station_reset = (refl, refl)
