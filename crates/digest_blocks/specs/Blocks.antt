-- FIPS 180-4, section 6.2.2: the hash value after a block of 64 bytes, and after the first i blocks.
-- Assumes nothing.
use Rattle.std.specs.Prelude.{ℕ, zero, suc, ◌*◌, List}
use Rattle.digest_rounds.specs.declared.Eight.{Eight}
use Rattle.digest_rounds.specs.Rounds.{K, rounds, plus}
use Rattle.digest_schedule.specs.Schedule.{scheduled}

unfoldable pub compressed : Eight → List ℕ → ℕ → Eight
compressed v xs at = plus (rounds K v (scheduled xs at) 64) v

unfoldable pub chained : Eight → List ℕ → ℕ → Eight
chained v xs zero = v
chained v xs (suc i) = compressed (chained v xs i) xs (64 * i)
