-- One step of the walk over files and sections: the next part of those ahead, and the place after it.
-- Assumes nothing.
use Rattle.std.specs.Prelude.{ℕ, ◌+◌, ◌-◌, ◌*◌, ◌≤◌, ◌<◌, List, [], ◌∷◌, ◌≡◌}
use Rattle.inside_files.specs.declared.Place.{Place}
use Rattle.inside_files.specs.declared.Turn.{Turn}
use Rattle.inside_files.specs.declared.PartKind.{PartKind}
use Rattle.inside_files.specs.Parts.{ahead, no_part, section_part, part_number}

-- how far it is from the end
abbrev pub far : ℕ → Place → ℕ
far v c = (v - c.file) * 33554432 + (c.end - c.at)

-- a place as the walk makes it
pub record Valid (v : ℕ) (c : Place) : Type 0 where
  pub within : c.end ≤ v
  pub at_small : c.at ≤ 33554432
  pub file_small : c.file ≤ 33554432

-- a part after which none comes before the file at v
abbrev pub last_turn : ℕ → PartKind → ℕ → ℕ → Turn
last_turn v kind at len =
    record { part = record { kind = kind; at = at; len = len; sort = 0 }; next = record { file = v; end = 0; at = 0 } }

-- a step from c: its part is the next of those ahead, and the rest is ahead of the place that it gives
pub record Stepped (xs : List ℕ) (v : ℕ) (c : Place) (s : Turn) : Type 0 where
  pub ends : part_number s.part.kind ≡ no_part → ahead xs v c ≡ []
  pub goes : (part_number s.part.kind ≡ no_part → ⊥) → ahead xs v c ≡ s.part ∷ ahead xs v s.next
  pub less : (part_number s.part.kind ≡ no_part → ⊥) → far v s.next < far v c
  pub valid : Valid v s.next
  -- a section has its 4 bytes, and lies in the volume
  pub inside : part_number s.part.kind ≡ section_part → (4 ≤ s.part.len) × (s.part.at + s.part.len ≤ v)
  pub small : s.part.at + s.part.len ≤ 33554432
