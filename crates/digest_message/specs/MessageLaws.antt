-- The blocks of a padded message, one after the other.
-- Assumes nothing.
use Rattle.std.specs.Prelude.{ℕ, ◌+◌, ◌*◌, ◌/◌, ◌≤◌, List, ◌≡◌, length, get_or}
use Rattle.std.proofs.Common.{sym, ap, ◌∙◌, arith, zero-add}
use Rattle.digest_rounds.specs.declared.Eight.{Eight}
use Rattle.digest_blocks.specs.Blocks.{compressed, chained}
use Rattle.digest_blocks.specs.BlocksLaws.{chained_turn, same_compressed, same_chained}
use Rattle.digest_message.specs.Message.{padded, H₀, hashed}
use Rattle.digest_message.specs.PaddedLaws.{blocks, length_padded, padded_in, Holding}

-- the whole blocks of the message are those of the padded one
message_blocks : (xs : List ℕ) (k : ℕ) → 64 * k ≤ length xs → chained H₀ xs k ≡ chained H₀ (padded xs) k
message_blocks xs k h = same_chained H₀ xs (padded xs) k (λ i l. sym (padded_in xs i (omega arith)))

pub message_begun : (xs : List ℕ) (v w : Eight) → w ≡ H₀ → v ≡ chained w xs (length xs / 64)
    → v ≡ chained H₀ (padded xs) (length xs / 64)
message_begun xs v w e f = f ∙ ap (λ (q : Eight). chained q xs (length xs / 64)) e ∙ message_blocks xs (length xs / 64) (omega arith)

-- one block more, from a copy of it
pub padded_turn : (xs t : List ℕ) (i : ℕ) (v r : Eight) → Holding xs (64 * i) t 64 → v ≡ chained H₀ (padded xs) i → r ≡ compressed v t 0
    → r ≡ chained H₀ (padded xs) (i + 1)
padded_turn xs t i v r holds e f =
    chained_turn H₀ (padded xs) i v r e
    (f ∙ same_compressed v t (padded xs) 0 (64 * i) (λ j h. ap (λ (n : ℕ). get_or t n 0) (zero-add j) ∙ holds j h))

pub all_blocks : (xs : List ℕ) → chained H₀ (padded xs) (blocks (length xs)) ≡ hashed xs
unfolding hashed
all_blocks xs =
    let e : length (padded xs) / 64 ≡ blocks (length xs) = omega (arith, length_padded xs) in
    rw e
