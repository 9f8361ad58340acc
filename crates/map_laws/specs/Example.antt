-- A hand-off list that the checker computes: memory that overlaps, lies inside other memory, touches it, is empty and ends with the last
-- of all bytes; reserved ranges that cut a start, a middle and an end; a type that doesn't count.
-- Assumes nothing.
use Rattle.std.specs.Prelude.{ℕ, ◌+◌, ◌-◌, ◌%◌, ◌/◌, ◌^◌, List, [], ◌∷◌, ◌++◌, ◌≡◌, refl, replicate}
use Rattle.facts.specs.Fact.{test}
use Rattle.facts.specs.Rules.{run}
use Rattle.words.specs.Le.{le}
use Rattle.words.specs.Number.{number}
use Rattle.words.specs.Put.{digit}
use Rattle.handoff_step.specs.Step.{from_resource, from_guid, from_end, from_later, from_first, from_head, step_rules, stepped}
use Rattle.handoff_list.specs.Blocks.{turn, within, blocks_from, blocks}
use Rattle.map_ranges.specs.declared.Range.{Range}
use Rattle.map_ranges.specs.Ranges.{range, ranges_of, ranges, after_ranges}
use Rattle.map_free.specs.Free.{span, lowest, next_free, next_taken, spans_from, map_from, memory_map}
use Rattle.map_list.specs.Map.{refused_map, mapping}
use Rattle.map_place.specs.Place.{refused_place, placed_at, lowest_base, place_rules, placing}

abbrev head : ℕ → ℕ → List ℕ
head t n = number 2 t ++ (number 2 n ++ replicate 4 0)

-- a resource of a type, from `start` on, with so many bytes
abbrev resource : ℕ → ℕ → ℕ → List ℕ
resource code start size = head 3 48 ++ (replicate 16 0 ++ (number 4 code ++ (replicate 4 0 ++ (number 8 start ++ number 8 size))))

abbrev list_of : List ℕ → List ℕ
list_of rest = head 1 56 ++ (replicate 48 0 ++ (rest ++ head 0xFFFF 8))

abbrev pub bytes : List ℕ
bytes =
    list_of
    (resource 0 0x8000 0x4000
    ++ (resource 5 0x800 0x1000
    ++ (resource 0 0x1000 0x9000
    ++ (resource 0 0x2000 0x1000
    ++ (resource 1 0x5000 0x1000
    ++ (resource 0 0xC000 0x1000
    ++ (resource 5 0x5000 0x800 ++ (resource 5 0xC800 0x1000 ++ (resource 0 0x4000 0 ++ resource 0 0xFFFFFFFFFFFFF000 0x1000)))))))))

abbrev found : List Range
found =
    range 0 0x8000 0x4000
    ∷ range 5 0x800 0x1000
    ∷ range 0 0x1000 0x9000
    ∷ range 0 0x2000 0x1000
    ∷ range 0 0xC000 0x1000
    ∷ range 5 0x5000 0x800
    ∷ range 5 0xC800 0x1000
    ∷ range 0 0x4000 0
    ∷ range 0 0xFFFFFFFFFFFFF000 0x1000
    ∷ []

pub example_ranges : ranges bytes ≡ found
unfolding ranges ranges_of blocks blocks_from within turn stepped step_rules from_head from_first from_later from_resource from_guid from_end run test le number digit
example_ranges = refl

pub example_map : memory_map found ≡ span 0x1800 0x4FFF ∷ span 0x5800 0xC7FF ∷ span 0xFFFFFFFFFFFFF000 0xFFFFFFFFFFFFFFFF ∷ []
unfolding memory_map map_from spans_from next_free next_taken lowest test
example_map = refl

-- the calls: three runs, and no room for them in 2,047 bytes
pub example_mapped : (mapping bytes 2048 ≡ record { number = 0; count = 3 }) × (mapping bytes 2047 ≡ refused_map 100 0)
unfolding mapping after_ranges ranges ranges_of blocks blocks_from within turn stepped step_rules from_head from_first from_later from_resource from_guid from_end run test le number digit memory_map map_from spans_from next_free next_taken lowest
example_mapped = (refl, refl)

-- the first run has a base for a page, the second for four, neither for seven; 36 on both sides
pub example_placed : (placing bytes 0x1000 ≡ placed_at 0x2000)
    × (placing bytes 0x4000 ≡ placed_at 0x6000)
    × (placing bytes 0x6800 ≡ placed_at 0x6000)
    × (placing bytes 0x6801 ≡ refused_place 37 0)
    × (placing bytes 1 ≡ placed_at 0x2000)
    × (placing bytes 0 ≡ refused_place 36 0)
    × (placing bytes 16777216 ≡ refused_place 37 0)
    × (placing bytes 16777217 ≡ refused_place 36 0)
unfolding placing place_rules lowest_base after_ranges ranges ranges_of blocks blocks_from within turn stepped step_rules from_head from_first from_later from_resource from_guid from_end run test le number digit memory_map map_from spans_from next_free next_taken lowest
example_placed = (refl, refl, refl, refl, refl, refl, refl, refl)

-- an image may end with the byte before 4 GiB and not after it, where free bytes go on
pub example_top : (placing (list_of (resource 0 0xFFFF0001 0x20000)) 0xF000 ≡ placed_at 0xFFFF1000)
    × (placing (list_of (resource 0 0xFFFF0001 0x20000)) 0xF001 ≡ refused_place 37 0)
    × (placing (list_of (resource 0 0x100000000 0x20000)) 1 ≡ refused_place 37 0)
unfolding placing place_rules lowest_base after_ranges ranges ranges_of blocks blocks_from within turn stepped step_rules from_head from_first from_later from_resource from_guid from_end run test le number digit memory_map map_from spans_from next_free next_taken lowest
example_top = (refl, refl, refl)

-- 34: one byte past 2^64, of either type that counts, and of one that doesn't
pub example_over : (mapping (list_of (resource 0 0xFFFFFFFFFFFFFFFF 2)) 2048 ≡ refused_map 34 0)
    × (mapping (list_of (resource 5 0xFFFFFFFFFFFFFFFF 2)) 2048 ≡ refused_map 34 0)
    × (mapping (list_of (resource 0 0xFFFFFFFFFFFFFFFF 1)) 2048 ≡ record { number = 0; count = 1 })
    × (mapping (list_of (resource 1 0xFFFFFFFFFFFFFFFF 2)) 2048 ≡ record { number = 0; count = 0 })
unfolding mapping after_ranges ranges ranges_of blocks blocks_from within turn stepped step_rules from_head from_first from_later from_resource from_guid from_end run test le number digit memory_map map_from spans_from next_free next_taken lowest
example_over = (refl, refl, refl, refl)
