-- Examples of the standard's, computed by the checker: the empty message, one block, two blocks.
-- Assumes nothing.
use Rattle.std.specs.Prelude.{ℕ, List, ◌≡◌, refl}
use Rattle.digest_words.specs.Functions.{Ch, Maj, Σ₀, Σ₁, σ₀, σ₁}
use Rattle.digest_rounds.specs.Rounds.{K, T₁, T₂, turned, rounds, plus}
use Rattle.digest_schedule.specs.Schedule.{word, loaded, next, expanded, scheduled}
use Rattle.digest_blocks.specs.Blocks.{compressed, chained}
use Rattle.digest_message.specs.Message.{big, padded, hashed}
use Rattle.digest.specs.Digest.{bytes_of, SHA256}
use Rattle.text_lines.specs.Text.{ascii}

-- a digest, as a number that is written in 64 hex digits
abbrev numbered : ℕ → List ℕ
numbered n = big 32 n

pub empty : SHA256 (ascii "") ≡ numbered
    0xe3b0c44298fc1c149afbf4c8996fb92427ae41e4649b934ca495991b7852b855
unfolding Ch Maj Σ₀ Σ₁ σ₀ σ₁ K T₁ T₂ turned rounds plus word loaded next expanded scheduled compressed chained big padded hashed bytes_of SHA256
empty = refl

pub abc : SHA256 (ascii "abc") ≡ numbered
    0xba7816bf8f01cfea414140de5dae2223b00361a396177a9cb410ff61f20015ad
unfolding Ch Maj Σ₀ Σ₁ σ₀ σ₁ K T₁ T₂ turned rounds plus word loaded next expanded scheduled compressed chained big padded hashed bytes_of SHA256
abc = refl

pub two_blocks : SHA256 (ascii "abcdbcdecdefdefgefghfghighijhijkijkljklmklmnlmnomnopnopq") ≡ numbered
    0x248d6a61d20638b8e5c026930c3e6039a33ce45964ff2167f6ecedd419db06c1
unfolding Ch Maj Σ₀ Σ₁ σ₀ σ₁ K T₁ T₂ turned rounds plus word loaded next expanded scheduled compressed chained big padded hashed bytes_of SHA256
two_blocks = refl
