-- What an accepted reading guarantees.
-- Assumes nothing.
use Rattle.std.specs.Prelude.{ℕ, ◌+◌, ◌-◌, ◌*◌, ◌≤◌, ◌<◌, true, List, ◌⊎◌, ◌≡◌, length}
use Rattle.std.proofs.Math.Logic.{inl, inr}
use Rattle.std.proofs.Math.Path.{refl, ap}
use Rattle.std.proofs.Common.{sym, ◌∙◌}
use native.Mathlib.Omega.{arith}
use Rattle.facts.specs.Fact.{◌and◌, ◌or◌, Holds}
use Rattle.facts.specs.Rules.{run}
use Rattle.facts.specs.RulesLaws.{Passed, passed}
use Rattle.words.specs.Le.{le}
use Rattle.words.specs.Round.{round4}
use Rattle.header.specs.Header.{older, older_length, later_length, component, component_fits}
use Rattle.header.specs.Base.{legal_base}
use Rattle.volume.specs.Volume.{length_fits, file_fits, section_fits}
use Rattle.table.specs.Passes.{place, outside, apart, clear}
use Rattle.table.specs.PassesLaws.{place_placed}
use Rattle.inside_walk.specs.Walkable.{Walkable}
use Rattle.inside_judge.specs.Rules.{modules_fit, words_fit, types_fit}
use Rattle.answers.specs.declared.Reading.{Reading}
use Rattle.reading_rules.specs.Reading.{refusal, identity_at, accepted, older_accepted, entries_at, file_at, word_at, reading, Reads}
use Rattle.reading_rules.specs.Stages.{from_modules, from_entries, from_region, from_patch, from_table, from_component, from_older, from_edition, from_header, from_section, from_file, from_extension, from_volume, stages, by_stages}

-- r, an accepted reading of xs of either edition: its length, what it has of the header at H, and a legal base
pub record Shared (xs : List ℕ) (r : Reading) : Type 0 where
  pub length_least : 72 ≤ length xs
  pub length_most : length xs ≤ 16777216
  pub header_within : r.H + 60 ≤ length xs
  pub base_is : r.base ≡ le 4 xs (r.H + 28)
  pub identity_is : r.identity ≡ identity_at xs r.H
  pub c_is : r.c ≡ le 4 xs (r.H + 36)
  pub z_is : r.z ≡ le 4 xs (r.H + 40)
  pub legal : Holds (legal_base (length xs) r.base)

-- r, of edition 1: no component and no patch table
abbrev pub Bare : Reading → Type 0
Bare r = (r.component ≡ 0) × (r.n ≡ 0) × (r.E ≡ 0)

-- r, an accepted reading of xs of edition 2: its fields, the order of its places, and its patch words
pub record Guaranteed (xs : List ℕ) (r : Reading) : Type 0 where
  pub length_least : 72 ≤ length xs
  pub length_most : length xs ≤ 16777216
  pub base_is : r.base ≡ le 4 xs (r.H + 28)
  pub identity_is : r.identity ≡ identity_at xs r.H
  pub component_is : r.component ≡ component xs r.H
  pub c_is : r.c ≡ le 4 xs (r.H + 36)
  pub z_is : r.z ≡ le 4 xs (r.H + 40)
  pub component_least : 1 ≤ r.component
  pub component_most : r.component ≤ 4
  pub legal : Holds (legal_base (length xs) r.base)
  pub header_below : r.H + 84 ≤ entries_at r
  pub entries_end : entries_at r + 4 * r.n ≡ r.E
  pub n_most : r.n ≤ 1024
  pub region_after : r.E ≤ r.c
  pub z_least : 32 ≤ r.z
  pub z_most : r.z ≤ 65536
  pub region_within : r.c + r.z ≤ length xs
  pub placed : (i : ℕ) → i < r.n → (place xs (entries_at r) i).number ≡ 0
  pub word_within : (i : ℕ) → i < r.n → word_at xs r i + 4 ≤ length xs
  pub word_outside : (i : ℕ) → i < r.n → Holds (outside (word_at xs r i) r.E r.c r.z)
  pub word_apart : (i j : ℕ) → j < i → i < r.n → Holds (apart (word_at xs r i) (word_at xs r j))
  -- the walk over the modules starts after the tables, and has passed rules 25, 26 and 27
  pub walkable : Walkable xs (le 8 xs 32) (file_at r)
  pub tables_within : r.E ≤ file_at r + 24 + le 3 xs (file_at r + 24)
  pub file_at_lem : file_at r + 28 ≡ r.H
  pub modules : Holds (modules_fit xs (le 8 xs 32) (file_at r) r.c r.z)
  pub words : Holds (words_fit xs (le 8 xs 32) (file_at r) (entries_at r) r.n r.c r.z)
  pub types : Holds (types_fit xs (le 8 xs 32) (file_at r))

-- E - 4n is where the entries start
start : (t n : ℕ) → t + 4 * n - 4 * n ≡ t
start t n = omega arith

-- rules 1, 3 and 4 let the walk start
pub file_walkable : (xs : List ℕ) (v f : ℕ) → v ≤ length xs → Holds (length_fits xs) → Holds (file_fits xs v f)
    → Holds (section_fits xs f (le 3 xs (f + 20))) → Walkable xs v f
file_walkable xs v f inside fits file section =
    record {
      within = inside;
      small = omega arith;
      head = omega arith;
      ends = omega arith;
      low = omega arith;
      section = omega arith;
    }

-- of the two editions, the other
pub later_by : (xs : List ℕ) (H : ℕ)
    → Holds ((older xs H and older_length (le 4 xs (H + 4))) or later_length (le 1 xs (H + 11)) (le 4 xs (H + 4)))
    → (Holds (older xs H) → ⊥) → Holds (later_length (le 1 xs (H + 11)) (le 4 xs (H + 4)))
later_by xs H (inl both) new = absurd (new both.0)
later_by xs H (inr later) new = later

module _ (xs : List ℕ) (r : Reading) (fits : Holds (length_fits xs)) where
  -- the answer has the header's fields, whichever edition's it is
  shared_at : (H : ℕ) → H + 60 ≤ length xs → Holds (legal_base (length xs) (le 4 xs (H + 28))) → r.H ≡ H
      → r.base ≡ le 4 xs (H + 28) → r.identity ≡ identity_at xs H → r.c ≡ le 4 xs (H + 36) → r.z ≡ le 4 xs (H + 40) → Shared xs r
  shared_at H inside legal at base identity c z =
      record {
        length_least = omega arith;
        length_most = omega arith;
        header_within = rw at inside;
        base_is = rw at base;
        identity_is = rw at identity;
        c_is = rw at c;
        z_is = rw at z;
        legal = rw base legal;
      }

  from_patch_lem : (f p end : ℕ) → Walkable xs (le 8 xs 32) f → end ≡ f + 24 + le 3 xs (f + 24) → end ≤ length xs → f + 28 + 72 ≤ p
      → Holds (component_fits (component xs (f + 28))) → Holds (legal_base (length xs) (le 4 xs (f + 28 + 28)))
      → Passed (from_patch xs (f + 28) p end) r → Shared xs r × Guaranteed xs r
  unfolding from_patch from_region from_entries from_modules accepted
  from_patch_lem f p end walk ends inside below comp legal
      (patch, (region, (marks, (types, (reserved, (places, (clears, (modules, (words, (kinds, e)))))))))) =
      let back : f + 28 - 28 ≡ f = omega arith in
      let n = le 4 xs (p + 8) in
      let t = start (p + 12) n in
      let zero : (i : ℕ) → i < n → (place xs (p + 12) i).number ≡ 0 =
      λ i h. (place_placed xs (p + 12) i).numbers (types i h) (reserved i h) (places i h) in
      let both =
      shared_at (f + 28) (omega arith) legal (ap (λ (s : Reading). s.H) e) (ap (λ (s : Reading). s.base) e)
      (ap (λ (s : Reading). s.identity) e) (ap (λ (s : Reading). s.c) e) (ap (λ (s : Reading). s.z) e) in
      let shared = rw e at both in (
        both,
        rw e (record {
          length_least = shared.length_least;
          length_most = shared.length_most;
          base_is = shared.base_is;
          identity_is = shared.identity_is;
          component_is = refl;
          c_is = shared.c_is;
          z_is = shared.z_is;
          component_least = comp.0;
          component_most = comp.1;
          legal = shared.legal;
          header_below = omega arith;
          entries_end = omega arith;
          n_most = omega arith;
          region_after = omega arith;
          z_least = omega arith;
          z_most = omega arith;
          region_within = omega arith;
          placed = rw t zero;
          word_within = rw (word_at, t) (λ i h. (place_placed xs (p + 12) i).fits (zero i h));
          word_outside = rw (word_at, t) (λ i h. (clears i h).0);
          word_apart = rw (word_at, t) (λ i j l h. (clears i h).1 j l);
          walkable = rw back walk;
          tables_within = rw back (omega arith);
          file_at_lem = omega arith;
          modules = modules;
          words = rw t words;
          types = kinds;
        }),
      )

  -- edition 2, by the length of its header
  from_later_lem : (f : ℕ) → Walkable xs (le 8 xs 32) f → f + 24 + le 3 xs (f + 24) ≤ length xs
      → Holds (later_length (le 1 xs (f + 28 + 11)) (le 4 xs (f + 28 + 4)))
      → Passed (from_component xs (f + 28) (round4 (f + 28 + le 4 xs (f + 28 + 4))) (f + 24 + le 3 xs (f + 24))) r → Shared xs r × Guaranteed xs r
  unfolding from_component from_table
  from_later_lem f walk inside (rev, (long, more)) (comp, (legal, inl (there, (ext, rest)))) =
      from_patch_lem f _ (f + 24 + le 3 xs (f + 24)) walk refl inside (omega arith) comp legal rest
  from_later_lem f walk inside (rev, (long, more)) (comp, (legal, inr (none, rest))) =
      from_patch_lem f _ (f + 24 + le 3 xs (f + 24)) walk refl inside (omega arith) comp legal rest

  -- either edition: edition 1 has no component
  from_header_lem : (f : ℕ) → Walkable xs (le 8 xs 32) f → 64 ≤ le 3 xs (f + 24) → f + 24 + le 3 xs (f + 24) ≤ length xs
      → Passed (from_header xs f (le 3 xs (f + 24))) r → Shared xs r × (Bare r ⊎ Guaranteed xs r)
  unfolding from_header from_edition from_older older_accepted
  from_header_lem f walk room inside (head, (same, inl (old, (legal, e)))) = (
    shared_at (f + 28) (omega arith) legal (ap (λ (s : Reading). s.H) e) (ap (λ (s : Reading). s.base) e)
        (ap (λ (s : Reading). s.identity) e) (ap (λ (s : Reading). s.c) e) (ap (λ (s : Reading). s.z) e),
    inl (ap (λ (s : Reading). s.component) e, ap (λ (s : Reading). s.n) e, ap (λ (s : Reading). s.E) e),
  )
  from_header_lem f walk room inside (head, (same, inr (new, rest))) =
      let (shared, later) = from_later_lem f walk inside (later_by xs (f + 28) head.1.1 new) rest in (shared, inr later)

  from_file_lem : (f : ℕ) → le 8 xs 32 ≤ length xs → Passed (from_file xs (le 8 xs 32) f) r
      → Shared xs r × (Bare r ⊎ Guaranteed xs r)
  unfolding from_file from_section
  from_file_lem f inside (file, (section, rest)) =
      from_header_lem f (file_walkable xs (le 8 xs 32) f inside fits file section) (omega arith) (omega arith) rest

-- an image that reads and has a component: edition 2
abbrev pub Later : List ℕ → Type 0
Later xs = ((reading xs).number ≡ 0) × (1 ≤ (reading xs).component)

-- an accepted reading has passed every rule
pub all_passed : (xs : List ℕ) → (reading xs).number ≡ 0 → Passed (stages xs) (reading xs)
unfolding stages from_volume from_extension from_file from_section from_header from_edition from_older from_component from_table from_patch from_region from_entries from_modules
all_passed xs e = rw (by_stages xs) (passed refusal (λ (r : Reading). r.number) (λ k i. refl) (stages xs) refl (rw (by_stages xs) at e))

from_rules : (xs : List ℕ) (r : Reading) → Passed (stages xs) r → Shared xs r × (Bare r ⊎ Guaranteed xs r)
unfolding stages from_volume from_extension
from_rules xs r (fits, (volume, inl (none, rest))) = from_file_lem xs r fits _ (omega arith) rest
from_rules xs r (fits, (volume, inr (some, (extension, rest)))) = from_file_lem xs r fits _ (omega arith) rest

-- what the editions share, and what edition 2 gives beside it
pub shared : (xs : List ℕ) → (reading xs).number ≡ 0 → Shared xs (reading xs)
shared xs e = (from_rules xs (reading xs) (all_passed xs e)).0

pub guaranteed : (xs : List ℕ) → Later xs → Guaranteed xs (reading xs)
guaranteed xs (e, kind) =
    elim (from_rules xs (reading xs) (all_passed xs e)).1 [ inl bare ↦ absurd (omega (arith, kind, bare.0)) | inr g ↦ g ]

-- a reading that has no component has no patch table
pub bare : (xs : List ℕ) → (reading xs).number ≡ 0 → (reading xs).component ≡ 0 → Bare (reading xs)
bare xs e none =
    elim (from_rules xs (reading xs) (all_passed xs e)).1 [ inl b ↦ b | inr g ↦ absurd (omega (arith, g.component_least, none)) ]

-- any two answers that the promise of a reading admits are the same
pub one_reading : (xs : List ℕ) (r s : Reading) → Reads xs r → Reads xs s → r ≡ s
one_reading xs r s a b = a ∙ sym b
