-- Request #111: which bytes are free, and the map of them.
-- Assumes nothing.
use Rattle.std.specs.Prelude.{ℕ, zero, suc, ◌+◌, ◌-◌, ◌^◌, min, cond, List, [], ◌∷◌, length}
use Rattle.facts.specs.Fact.{Fact, ◌≤?◌, ◌≡?◌, deny, ◌and◌, ◌or◌, test, Holds}
use Rattle.map_ranges.specs.declared.Range.{Range}

-- the byte at x lies in a range
abbrev pub covers : Range → ℕ → Fact
covers r x = r.start ≤? x and x + 1 ≤? r.start + r.size

-- it lies in some range of a type
abbrev pub held : ℕ → List Range → ℕ → Fact
held code [] x = 1 ≤? 0
held code (r ∷ rs) x = (r.code ≡? code and covers r x) or held code rs x

-- it is free: in some range of system memory, in none that is reserved
abbrev pub free_byte : List Range → ℕ → Fact
free_byte rs x = held 0 rs x and deny (held 5 rs x)

-- the claim that it is
abbrev pub Free : List Range → ℕ → Type 0
Free rs x = Holds (free_byte rs x)

-- bytes by the first and the last of them
pub record Span : Type 0 where
  pub first : ℕ
  pub last : ℕ

abbrev pub span : ℕ → ℕ → Span
span first last = record { first = first; last = last }

-- where free bytes can begin: where memory starts, and where a reserved range ends
abbrev pub begin : Range → ℕ
begin r = cond (test (r.code ≡? 0)) r.start (r.start + r.size)

-- where they can stop: where memory ends, and where a reserved range starts
abbrev pub stop : Range → ℕ
stop r = cond (test (r.code ≡? 0)) (r.start + r.size) r.start

-- the lowest of these that passes a check, 2^64 where none does
unfoldable pub lowest : (Range → ℕ) → (ℕ → Fact) → List Range → ℕ
lowest edge p [] = 2 ^ 64
lowest edge p (r ∷ rs) = cond (test (p (edge r))) (min (edge r) (lowest edge p rs)) (lowest edge p rs)

unfoldable pub next_free : List Range → ℕ → ℕ
next_free rs at = lowest begin (λ x. at ≤? x and free_byte rs x) rs

unfoldable pub next_taken : List Range → ℕ → ℕ
next_taken rs at = lowest stop (λ x. at ≤? x and deny (free_byte rs x)) rs

-- from `at` on the next free byte, the last before one that isn't, and so on, at most so many times
unfoldable pub spans_from : ℕ → List Range → ℕ → List Span
spans_from zero rs at = []
spans_from (suc k) rs at =
    let first = next_free rs at in
    let past = next_taken rs first in
    cond (test (first + 1 ≤? 2 ^ 64)) (span first (past - 1) ∷ spans_from k rs past) []

-- the map: there are no more runs of free bytes than ranges
unfoldable pub map_from : List Range → ℕ → List Span
map_from rs at = spans_from (length rs) rs at

unfoldable pub memory_map : List Range → List Span
memory_map rs = map_from rs 0
