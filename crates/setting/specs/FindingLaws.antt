-- A lookup, where it is refused and where it is accepted.
-- Assumes nothing.
use Rattle.std.specs.Prelude.{ℕ, ◌+◌, List, ◌≡◌, length, take, drop}
use Rattle.std.proofs.Common.{eq-eqb, ne_eqb}
use Rattle.reading_rules.specs.Reading.{reading2}
use Rattle.setting.specs.Setting.{setting_number, setting_part}
use Rattle.setting.specs.SettingLaws.{setting_passed, setting_accepted}
use Rattle.setting.specs.Finding.{finding}

-- ---- a lookup

module _ (xs : List ℕ) (offset size : ℕ) where
  pub found_refused : (setting_number xs offset size ≡ 0 → ⊥)
      → finding xs offset size ≡ record { number = setting_number xs offset size; place = 0; length = 0 }
  unfolding finding
  found_refused h = rw (ne_eqb (setting_number xs offset size) 0 h)

  pub found_accepted : setting_number xs offset size ≡ 0
      → finding xs offset size ≡ record { number = setting_number xs offset size; place = (reading2 xs).c + offset; length = size }
  unfolding finding
  found_accepted e = rw (eq-eqb (setting_number xs offset size) 0 e)

  -- the part that it names is the setting's
  pub found_part : setting_number xs offset size ≡ 0
      → setting_part xs offset size ≡ take (finding xs offset size).length (drop (finding xs offset size).place xs)
  found_part e = let p = setting_passed xs offset size e in rw (found_accepted e) (setting_accepted xs offset size p.0 p.1).1
