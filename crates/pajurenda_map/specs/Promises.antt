-- Request #111, the C calls: each answers in the lent buffer A, eight bytes a field, the number first.
-- Assumes nothing.
use Rattle.std.specs.Prelude.{ℕ, List, [], ◌∷◌, ◌≡◌, length}
use Rattle.c_answers.specs.Answers.{if_room, result, answered}
use Rattle.map_list.specs.declared.Mapped.{Mapped}
use Rattle.map_list.specs.Map.{mapping, map_in}
use Rattle.map_place.specs.declared.Placed.{Placed}
use Rattle.map_place.specs.Place.{placing}

-- a map: number, how many runs
abbrev pub map_fields : Mapped → List ℕ
map_fields r = r.number ∷ r.count ∷ []

-- a place: number, base
abbrev pub place_fields : Placed → List ℕ
place_fields r = r.number ∷ r.base ∷ []

-- `pajurenda_map`; out is the map's buffer before, m afterwards
abbrev pub MapCall : List ℕ → List ℕ → List ℕ → ℕ → List ℕ → List ℕ → Type 0
MapCall xs out A r m a =
    (r ≡ result 2 A (mapping xs (length out)).number)
    × ((m ≡ if_room 2 A (map_in xs out) out) × (a ≡ answered A (map_fields (mapping xs (length out)))))

-- `pajurenda_lowest_base`
abbrev pub PlaceCall : List ℕ → ℕ → List ℕ → ℕ → List ℕ → Type 0
PlaceCall xs size A r a = (r ≡ result 2 A (placing xs size).number) × (a ≡ answered A (place_fields (placing xs size)))
