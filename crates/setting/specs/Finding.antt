-- Where a setting stands, as numbers.
-- Assumes nothing.
use Rattle.std.specs.Prelude.{ℕ, ◌+◌, cond, List, ◌≡◌, eqb, length}
use Rattle.std.proofs.Common.{sym, ◌∙◌}
use Rattle.reading_rules.specs.Reading.{reading2}
use Rattle.setting.specs.Setting.{setting_number}
use Rattle.answers.specs.declared.Found.{Found}

-- where the part of the lent image that holds a setting starts, and its length; zeros where it is refused
unfoldable pub finding : List ℕ → ℕ → ℕ → Found
finding xs offset size =
    let number = setting_number xs offset size in
    record {
      number = number;
      place = cond (eqb number 0) ((reading2 xs).c + offset) 0;
      length = cond (eqb number 0) size 0;
    }

-- the promise of `find`
abbrev pub Finds : List ℕ → ℕ → ℕ → Found → Type 0
Finds xs offset size r = r ≡ finding xs offset size

-- it admits one answer
pub one_find : (xs : List ℕ) (offset size : ℕ) (r s : Found) → Finds xs offset size r → Finds xs offset size s → r ≡ s
one_find xs offset size r s a b = a ∙ sym b
