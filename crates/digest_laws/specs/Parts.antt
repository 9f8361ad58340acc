-- SHA-256 of bytes that come in parts: what is kept between them.
-- Assumes nothing.
use Rattle.std.specs.Prelude.{ℕ, ◌+◌, ◌*◌, ◌/◌, List, [], ◌∷◌, ◌++◌, length, drop}
use Rattle.digest_rounds.specs.declared.Eight.{Eight}
use Rattle.digest_blocks.specs.Blocks.{chained}
use Rattle.digest_message.specs.Message.{padding, H₀}
use Rattle.digest.specs.Digest.{bytes_of}

-- the hash value after the whole blocks so far, the bytes after these, and how many bytes there were in all
pub record Running : Type 0 where
  pub value : Eight
  pub kept : List ℕ
  pub count : ℕ

unfoldable pub begun : Running
begun = record { value = H₀; kept = []; count = 0 }

-- a part more: its bytes follow those that were kept, and whole blocks go into the hash value
unfoldable pub more : Running → List ℕ → Running
more r xs =
    record {
      value = chained r.value (r.kept ++ xs) (length (r.kept ++ xs) / 64);
      kept = drop (64 * (length (r.kept ++ xs) / 64)) (r.kept ++ xs);
      count = r.count + length xs;
    }

-- all of some parts, and their bytes in one list
unfoldable pub all_more : Running → List (List ℕ) → Running
all_more r [] = r
all_more r (p ∷ ps) = all_more (more r p) ps

unfoldable pub joined : List (List ℕ) → List ℕ
joined [] = []
joined (p ∷ ps) = p ++ joined ps

-- the digest at the end: what was kept and the padding
unfoldable pub ended : Running → List ℕ
ended r = bytes_of (chained r.value (r.kept ++ padding r.count) (length (r.kept ++ padding r.count) / 64))
