-- What setting the bytes of a sheet does, byte by byte.
-- Assumes nothing.
use Rattle.std.specs.Prelude.{◌≡◌, refl, List, ◌⊎◌, ℕ, zero, suc, ◌+◌, ◌-◌, ◌≤◌, ◌<◌, length, get_or, take, drop}
use Rattle.std.proofs.Common.{◌∙◌, length-set, length-drop, get_or-set_same, get_or-set_other, length-take-le}
use Rattle.std.proofs.Math.Logic.{inl, inr}
use native.Mathlib.Omega.{arith}
use Rattle.std.proofs.Math.Decide.{dec_lt}
use Rattle.std.proofs.Math.Seq.{get_or-take, get_or-drop}
use Rattle.facts.specs.Fact.{Holds}
use Rattle.answers.specs.declared.Reading.{Reading}
use Rattle.reading_rules.specs.Guarantee.{Guaranteed}
use Rattle.reading_rules.specs.Settings.{settings_at, settings_size, OutsideSettings}
use Rattle.moves.specs.Moves.{Beside}
use Rattle.moves.specs.MovesLaws.{find}
use Rattle.sheet_bodies.specs.PartLaws.{length_joined, joined_low, joined_mid, joined_high}
use Rattle.sheet.specs.Sheet.{Sound, count, offset, size, body_at, field_fits}
use Rattle.sheet.specs.SheetLaws.{bodies_within, ascending}
use Rattle.sheet.specs.ByteAt.{covers, byte_at, laid}
use Rattle.sheet.specs.ByteAtLaws.{byte_one, byte_none}
use Rattle.sheet_bodies.specs.Set.{fields_of, copied, written, set_by}

-- ---- a copy

pub length_copied : (xs : List ℕ) (at : ℕ) (s : List ℕ) (from k : ℕ) → length (copied xs at s from k) ≡ length xs
unfolding copied
length_copied xs at s from zero = refl
length_copied xs at s from (suc k) = length-set (copied xs at s from k) (at + k) (get_or s (from + k) 0) ∙ length_copied xs at s from k

pub copied_beside : (xs : List ℕ) (at : ℕ) (s : List ℕ) (from k i : ℕ) → (i < at) ⊎ (at + k ≤ i)
    → get_or (copied xs at s from k) i 0 ≡ get_or xs i 0
unfolding copied
copied_beside xs at s from zero i h = refl
copied_beside xs at s from (suc k) i h =
    get_or-set_other (copied xs at s from k) (at + k) i (get_or s (from + k) 0) 0 (other h) ∙ copied_beside xs at s from k i (less h)
  where
    other : (i < at) ⊎ (at + suc k ≤ i) → i ≡ at + k → ⊥
    other (inl h) e = omega arith
    other (inr h) e = omega arith

    less : (i < at) ⊎ (at + suc k ≤ i) → (i < at) ⊎ (at + k ≤ i)
    less (inl h) = inl h
    less (inr h) = inr (omega arith)

pub copied_in : (xs : List ℕ) (at : ℕ) (s : List ℕ) (from k j : ℕ) → at + k ≤ length xs → j < k
    → get_or (copied xs at s from k) (at + j) 0 ≡ get_or s (from + j) 0
unfolding copied
copied_in xs at s from zero j fits h = absurd (omega arith)
copied_in xs at s from (suc k) j fits h =
    elim (dec_lt j k) [
      | yes l ↦ get_or-set_other (copied xs at s from k) (at + k) (at + j) (get_or s (from + k) 0) 0 (omega arith)
          ∙ copied_in xs at s from k j (omega arith) l
      | no l ↦ let e : j ≡ k =
          omega arith in rw e (get_or-set_same (copied xs at s from k) (at + k) (get_or s (from + k) 0) 0 (rw length_copied (omega arith)))
    ]

-- ---- the bodies of a sheet

module _ (s : List ℕ) (z : ℕ) (sound : Sound s z) where
  -- a body lies in the sheet
  pub body_within : (i : ℕ) → i < count s → body_at s i + size s i ≤ length s
  body_within = bodies_within s sound.bodies

  -- an entry starts at or past the end of each before it
  pub entries_ascend : (j i : ℕ) → i < j → j < count s → offset s i + size s i ≤ offset s j
  entries_ascend = ascending s sound.bodies

-- ---- the settings part, written

pub length_written : (p s : List ℕ) (n : ℕ) → length (written p s n) ≡ length p
unfolding written
length_written p s zero = refl
length_written p s (suc n) = length_copied (written p s n) (offset s n - 32) s (body_at s n) (size s n) ∙ length_written p s n

pub written_beside : (p s : List ℕ) (n k : ℕ) → ((i : ℕ) → i < n → (k < offset s i - 32) ⊎ (offset s i - 32 + size s i ≤ k))
    → get_or (written p s n) k 0 ≡ get_or p k 0
unfolding written
written_beside p s zero k out = refl
written_beside p s (suc n) k out =
    copied_beside (written p s n) (offset s n - 32) s (body_at s n) (size s n) k (out n (omega arith)) ∙ written_beside p s n k
    (λ i h. out i (omega arith))

pub written_in : (p s : List ℕ) (z : ℕ) → Sound s z → length p ≡ z - 32 → (n i j : ℕ) → n ≤ count s → i < n → j < size s i
    → get_or (written p s n) (offset s i - 32 + j) 0 ≡ get_or s (body_at s i + j) 0
unfolding written
written_in p s z sound long zero i j hn hi hj = absurd (omega arith)
written_in p s z sound long (suc n) i j hn hi hj =
    elim (dec_lt i n) [
      | yes l ↦
          copied_beside (written p s n) (offset s n - 32) s (body_at s n) (size s n) (offset s i - 32 + j)
          (inl (omega (arith, entries_ascend s z sound n i l (omega arith), sound.fields i (omega arith), sound.fields n (omega arith))))
          ∙ written_in p s z sound long n i j (omega arith) l hj
      | no l ↦
          let e : i ≡ n = omega arith in
          let fits : offset s n - 32 + size s n ≤ length (written p s n) =
          rw length_written (omega (arith, sound.fields n (omega arith))) in
          rw e (copied_in (written p s n) (offset s n - 32) s (body_at s n) (size s n) j fits (rw e at hj))
    ]

-- ---- the image, set

-- the settings part
abbrev settings_part : List ℕ → Reading → List ℕ
settings_part xs r = take (settings_size r) (drop (settings_at r) xs)

module _ (xs : List ℕ) (r : Reading) (s : List ℕ) (g : Guaranteed xs r) (sound : Sound s r.z) where
  room : settings_at r + (settings_size r) ≤ length xs
  room = omega (arith, g)

  part_long : length (settings_part xs r) ≡ settings_size r
  part_long = length-take-le (settings_size r) (drop (settings_at r) xs) (rw length-drop (omega (arith, g)))

  new_long : length (written (settings_part xs r) s (count s)) ≡ settings_size r
  new_long = length_written (settings_part xs r) s (count s) ∙ part_long

  pub length_set_by : length (set_by xs r s) ≡ length xs
  unfolding set_by
  length_set_by = length_joined xs (settings_at r) (settings_size r) (written (settings_part xs r) s (count s)) room new_long

  -- outside the settings part every byte is kept
  pub set_outside : (k : ℕ) → OutsideSettings r k → get_or (set_by xs r s) k 0 ≡ get_or xs k 0
  unfolding set_by
  set_outside k (inl h) = joined_low xs (settings_at r) (settings_size r) (written (settings_part xs r) s (count s)) room new_long k h
  set_outside k (inr h) = joined_high xs (settings_at r) (settings_size r) (written (settings_part xs r) s (count s)) room new_long k
      (omega (arith, g))

  -- outside the sheet's own entries every byte is kept
  pub set_beside : (k : ℕ) → Beside (fields_of r s) (count s) k → get_or (set_by xs r s) k 0 ≡ get_or xs k 0
  unfolding set_by
  set_beside k out =
      elim (dec_lt k (settings_at r)) [
        | yes h ↦ set_outside k (inl h)
        | no h ↦ elim (dec_lt k (r.c + r.z)) [
          | no l ↦ set_outside k (inr (omega arith))
          | yes l ↦
              let j = k - (settings_at r) in
              let e : settings_at r + j ≡ k = omega arith in
              rw e at (joined_mid xs (settings_at r) (settings_size r) (written (settings_part xs r) s (count s)) room new_long j (omega arith)
              ∙ written_beside (settings_part xs r) s (count s) j (λ i hi. near i (omega arith) (out i hi) (sound.fields i hi))
              ∙ get_or-take (settings_size r) (drop (settings_at r) xs) j 0 (omega arith) ∙ get_or-drop (settings_at r) xs j 0)
        ]
      ]
    where
      near : (i : ℕ) → settings_at r ≤ k → (k < r.c + offset s i) ⊎ (r.c + offset s i + size s i ≤ k) → Holds (field_fits s r.z i)
          → (k - (settings_at r) < offset s i - 32) ⊎ (offset s i - 32 + size s i ≤ k - (settings_at r))
      near i hi (inl a) f = inl (omega arith)
      near i hi (inr a) f = inr (omega arith)

  -- inside them it is the body's
  pub set_in : (i j : ℕ) → i < count s → j < size s i → get_or (set_by xs r s) (r.c + offset s i + j) 0 ≡ get_or s (body_at s i + j) 0
  unfolding set_by
  set_in i j hi hj =
      let f = sound.fields i hi in
      let e : settings_at r + (offset s i - 32 + j) ≡ r.c + offset s i + j = omega arith in
      rw e at (joined_mid xs (settings_at r) (settings_size r) (written (settings_part xs r) s (count s)) room new_long (offset s i - 32 + j)
      (omega arith)
      ∙ written_in (settings_part xs r) s r.z sound part_long (count s) i j (omega arith) hi hj)

  -- each byte of the region is what the sheet sets there, or what it was
  pub set_laid : (k : ℕ) → get_or (set_by xs r s) (r.c + k) 0 ≡ laid (byte_at s k) (get_or xs (r.c + k) 0)
  set_laid k = go (find (fields_of r s) (count s) (r.c + k))
    where
      go : ((i : ℕ) × (i < count s) × (r.c + offset s i ≤ r.c + k) × (r.c + k < r.c + offset s i + size s i))
          ⊎ Beside (fields_of r s) (count s) (r.c + k)
          → get_or (set_by xs r s) (r.c + k) 0 ≡ laid (byte_at s k) (get_or xs (r.c + k) 0)
      go (inl (i, h, low, high)) =
          let j : ℕ = k - offset s i in
          let e : r.c + offset s i + j ≡ r.c + k = omega arith in
          let reach : Holds (covers s i k) = (omega arith, omega arith) in
          rw (byte_one s sound.bodies i k reach h) (rw e at (set_in i j h (omega arith)))
      go (inr out) =
          rw (byte_none s k (λ i h c. not i (out i h) c.0 c.1)) (set_beside (r.c + k) out)
        where
          not : (i : ℕ) → (r.c + k < r.c + offset s i) ⊎ (r.c + offset s i + size s i ≤ r.c + k) → offset s i ≤ k
              → k < offset s i + size s i → ⊥
          not i (inl a) l g = omega arith
          not i (inr a) l g = omega arith
