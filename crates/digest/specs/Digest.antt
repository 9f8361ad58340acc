-- FIPS 180-4, section 6.2: the digest, and the promise of `sha256`.
-- Assumes nothing.
use Rattle.std.specs.Prelude.{ℕ, ◌+◌, ◌^◌, List, ◌++◌, ◌≡◌, length, drop, Result, Ok, Err}
use Rattle.facts.specs.Fact.{◌≤?◌}
use Rattle.facts.specs.Rules.{Rules, answer, rule, run}
use Rattle.digest_rounds.specs.declared.Eight.{Eight}
use Rattle.digest_message.specs.Message.{big, hashed}
use Rattle.digest.specs.declared.Refusal.{Refusal}
use Rattle.digest.specs.declared.Refusal.TheVariants.{NoRoom, TooLong}

-- the 32 bytes of a hash value
unfoldable pub bytes_of : Eight → List ℕ
bytes_of v =
    big 4 v.a
    ++ (big 4 v.b
    ++ (big 4 v.c ++ (big 4 v.d ++ (big 4 v.e ++ (big 4 v.f ++ (big 4 v.g ++ big 4 v.h))))))

-- the digest of a message
unfoldable pub SHA256 : List ℕ → List ℕ
SHA256 xs = bytes_of (hashed xs)

-- 100: the lent buffer, which holds l, has room for 32 bytes; 1: the message is shorter than 2 ^ 61 bytes, so that the standard has a digest
-- for it
unfoldable pub digest_rules : {A : Type 0} → List ℕ → List ℕ → A → Rules A
digest_rules xs l a = rule 100 (32 ≤? length l) (rule 1 (length xs + 1 ≤? 2 ^ 61) (answer a))

-- a refusal by its number, and an outcome: 0 where nothing is refused
abbrev pub refusal_number : Refusal → ℕ
refusal_number NoRoom = 100
refusal_number TooLong = 1

abbrev pub outcome_number : {A : Type 0} → Result A Refusal → ℕ
outcome_number (Ok a) = 0
outcome_number (Err e) = refusal_number e

-- the promise of `sha256`: the number, 0 or that of the refusal, and the buffer afterwards: the digest over its first bytes, or l where
-- refused
unfoldable pub digest_number : List ℕ → List ℕ → ℕ
digest_number xs l = run (λ k i. k) (digest_rules xs l 0)

unfoldable pub digest_over : List ℕ → List ℕ → List ℕ
digest_over xs l = run (λ k i. l) (digest_rules xs l (SHA256 xs ++ drop 32 l))

abbrev pub Digests : List ℕ → List ℕ → ℕ → List ℕ → Type 0
Digests xs l r m = (r ≡ digest_number xs l) × (m ≡ digest_over xs l)
