-- Document 02, #114: what a pile of sheets sets at a position of the region, the last of its bytes there. 0 is nothing, and b + 1 the byte b.
-- Assumes nothing.
use Rattle.std.specs.Prelude.{ℕ, zero, suc, List, [], ◌∷◌}
use Rattle.sheet.specs.ByteAt.{byte_at}

-- what stands where `old` stood and `new` is set
abbrev pub over : ℕ → ℕ → ℕ
over zero old = old
over (suc b) old = suc b

-- what stands at k after the sheets ss, in their order, where `old` stood before
unfoldable pub set_from : ℕ → List (List ℕ) → ℕ → ℕ
set_from old [] k = old
set_from old (s ∷ ss) k = set_from (over (byte_at s k) old) ss k

-- what they set at k
unfoldable pub set_at : List (List ℕ) → ℕ → ℕ
set_at ss k = set_from 0 ss k
