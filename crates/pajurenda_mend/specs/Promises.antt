-- Request #110, the C call: it answers in the lent buffer A, eight bytes a field, as the audit does.
-- Assumes nothing.
use Rattle.std.specs.Prelude.{ℕ, ◌/◌, List, ◌≡◌, length}
use Rattle.c_answers.specs.Answers.{if_room, result, answered, audit_fields}
use Rattle.mend.specs.Mend.{mending, mended_file, mended_bytes}

-- `pajurenda_mend`; ys is the file before, zs afterwards, bytes the list before, l afterwards
abbrev pub MendCall : List ℕ → List ℕ → List ℕ → List ℕ → ℕ → List ℕ → List ℕ → List ℕ → Type 0
MendCall xs ys bytes A r zs l a =
    (r ≡ result 7 A (mending xs ys (length bytes / 4)).number)
    × ((zs ≡ if_room 7 A (mended_file xs ys (length bytes / 4)) ys)
    × ((l ≡ if_room 7 A (mended_bytes xs ys bytes) bytes) × (a ≡ answered A (audit_fields (mending xs ys (length bytes / 4))))))
