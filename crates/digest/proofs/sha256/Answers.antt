use Rattle.std.proofs.Common.{arith}
use Rattle.digest.specs.DigestLaws.{digests_short, digests_long, digests_bytes}
use Rattle.digest.proofs.sha256.Goals as goal

-- Assumes nothing.
pub returns-then-out-lt-DIGEST_LEN : goal.returns-then-out-lt-DIGEST_LEN
returns-then-out-lt-DIGEST_LEN c = digests_short _ _ (omega arith)

pub returns-then-bytes-gt-LONGEST : goal.returns-then-bytes-gt-LONGEST
returns-then-bytes-gt-LONGEST c = digests_long _ _ (omega arith) (omega arith)

pub returns : goal.returns
returns c =
    digests_bytes _ _ (omega arith) (omega arith) _ _ _ c.hash-v.ensures c.put_words.ensures
