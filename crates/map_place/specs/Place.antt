-- Request #111: the lowest legal base at which an image lies whole in one run of free bytes.
-- Assumes nothing.
use Rattle.std.specs.Prelude.{ℕ, ◌+◌, ◌*◌, ◌/◌, ◌^◌, cond, List, [], ◌∷◌, ◌≡◌}
use Rattle.facts.specs.Fact.{Fact, ◌≤?◌, ◌and◌, test}
use Rattle.facts.specs.Rules.{Rules, answer, rule, run}
use Rattle.header.specs.Base.{legal_base}
use Rattle.map_ranges.specs.Ranges.{after_ranges}
use Rattle.map_free.specs.Free.{Span, memory_map}
use Rattle.map_place.specs.declared.Placed.{Placed}

-- the lowest multiple of 4,096 that isn't below x
abbrev pub page_up : ℕ → ℕ
page_up x = (x + 4095) / 4096 * 4096

-- from there on an image of this size ends inside the run, and the base is legal
abbrev pub fits_in : ℕ → Span → Fact
fits_in size s = page_up s.first + size ≤? s.last + 1 and legal_base size (page_up s.first)

-- that base in the first run that has one, 2^32 where none has
unfoldable pub lowest_base : ℕ → List Span → ℕ
lowest_base size [] = 2 ^ 32
lowest_base size (s ∷ l) = cond (test (fits_in size s)) (page_up s.first) (lowest_base size l)

-- a refusal: its number, and base 0
abbrev pub refused_place : ℕ → ℕ → Placed
refused_place number index = record { number = number; base = 0 }

abbrev pub placed_at : ℕ → Placed
placed_at base = record { number = 0; base = base }

-- 36: an image of no bytes or of more than 16,777,216; 37: no place
unfoldable pub place_rules : ℕ → List Span → Rules Placed
place_rules size l =
    rule 36 (1 ≤? size and size ≤? 16777216) (rule 37 (lowest_base size l + 1 ≤? 2 ^ 32) (answer (placed_at (lowest_base size l))))

-- after the map's own refusals
unfoldable pub placing : List ℕ → ℕ → Placed
placing xs size = run refused_place (after_ranges xs (λ rs. place_rules size (memory_map rs)))

-- the promise of `place`
abbrev pub Places : List ℕ → ℕ → Placed → Type 0
Places xs size r = r ≡ placing xs size
