-- A setting of the small image: two bytes at 40 in its region are found, and stand at 228.
-- Assumes nothing.
use Rattle.std.specs.Prelude.{ℕ, ◌≤◌, List, ◌≡◌}
use Rattle.std.proofs.Common.{arith, ap}
use Rattle.facts.specs.Fact.{Holds}
use Rattle.answers.specs.declared.Reading.{Reading}
use Rattle.reading_rules.specs.Reading.{reading2, Read2}
use Rattle.reading_rules.specs.Small.{small, setting_bytes, small_reads_2}
use Rattle.setting.specs.Setting.{setting_fits, setting_number, setting_place}
use Rattle.setting.specs.SettingLaws.{setting_accepted}

abbrev maker : List ℕ
maker = small 0xFFF80000 0xFFF80040 (setting_bytes 0 1)

read : Read2 maker
read = ap (λ (r : Reading). r.number) small_reads_2

inside : Holds (setting_fits 40 2 (reading2 maker).z)
inside = rw small_reads_2 (omega arith, (omega arith, omega arith))

pub small_found : setting_number maker 40 2 ≡ 0
small_found = (setting_accepted maker 40 2 read inside).0

pub small_place : setting_place maker 40 2 ≡ 256
unfolding setting_place
small_place = rw (small_found, small_reads_2)
