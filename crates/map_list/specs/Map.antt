-- Request #111: the memory map of a hand-off list, into a buffer that the caller lends.
-- Assumes nothing.
use Rattle.std.specs.Prelude.{ℕ, cond, List, [], ◌∷◌, ◌≡◌, length}
use Rattle.facts.specs.Fact.{◌≤?◌, ◌≡?◌, test}
use Rattle.facts.specs.Rules.{answer, rule, run}
use Rattle.words.specs.Put.{put_all}
use Rattle.map_ranges.specs.Ranges.{ranges, after_ranges}
use Rattle.map_free.specs.Free.{Span, memory_map}
use Rattle.map_list.specs.declared.Mapped.{Mapped}

-- a refusal: its number, and no runs
abbrev pub refused_map : ℕ → ℕ → Mapped
refused_map number index = record { number = number; count = 0 }

abbrev pub mapped_to : List Span → Mapped
mapped_to l = record { number = 0; count = length l }

-- 100: a buffer that hasn't room for 128 runs of 16 bytes; then 30 to 35; then how many runs of free bytes there are
unfoldable pub mapping : List ℕ → ℕ → Mapped
mapping xs room = run refused_map (rule 100 (2048 ≤? room) (after_ranges xs (λ rs. answer (mapped_to (memory_map rs)))))

-- each run by its first and its last byte
unfoldable pub numbers : List Span → List ℕ
numbers [] = []
numbers (s ∷ l) = s.first ∷ s.last ∷ numbers l

-- the buffer afterwards: these from its start on, eight bytes each, and what it held after them; what it held where the call is refused
unfoldable pub map_in : List ℕ → List ℕ → List ℕ
map_in xs out = cond (test ((mapping xs (length out)).number ≡? 0)) (put_all 8 out 0 (numbers (memory_map (ranges xs)))) out

-- the promise of `map`: the answer, and the buffer afterwards
abbrev pub Maps : List ℕ → List ℕ → Mapped → List ℕ → Type 0
Maps xs out r after = (r ≡ mapping xs (length out)) × (after ≡ map_in xs out)
