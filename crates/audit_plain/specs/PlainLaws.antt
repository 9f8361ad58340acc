-- What the loops over the differences of two files keep; and where nothing is a setting, counts and entries are those of strays alone.
-- Assumes nothing.
use Rattle.std.specs.Prelude.{◌≡◌, ℕ, ◌+◌, ◌-◌, ◌≤◌, ◌<◌, length, get_or}
use Rattle.std.proofs.Math.Path.{refl, sym}
use Rattle.std.proofs.Common.{ap, ◌∙◌, arith}
use mathlib.Core.List.{List, [], ◌∷◌}
use Rattle.facts.specs.Fact.{Holds}
use Rattle.facts.specs.FactLaws.{fails}
use Rattle.answers.specs.declared.Reading.{Reading}
use Rattle.audit_stretch.specs.Stretch.{SameBytes, Until}
use Rattle.audit_count.specs.Differences.{differences, setting, entry, settings, strays, bits, entries, counts_of}
use Rattle.audit_count.specs.DifferenceLaws.{rest, rest_over, rest_hit, rest_none}
use Rattle.audit_places.specs.Writing.{Writing}
use Rattle.audit_plain.specs.Plain.{strayed}

-- ---- the loops

module _ (a b : List ℕ) where
  -- n are passed before k, and those and what is left are all
  pub record Counting (n k : ℕ) : Type 0 where
    pub most : k ≤ length b
    pub few : n ≤ k
    pub all : n + length (rest a b k) ≡ length (differences a b 0 (length b))

  from_start : rest a b 0 ≡ differences a b 0 (length b)
  from_start = let e : length b - 0 ≡ length b = omega arith in rw e

  -- none is left
  past : (k : ℕ) → k ≤ length b → SameBytes a b k (length b) → rest a b k ≡ []
  past k h same = rest_over a b k (length b) h (omega arith) same ∙ rest_none a b (length b) (omega arith)

  pub counting_start : Counting 0 0
  counting_start = record { most = omega arith; few = omega arith; all = rw from_start (omega arith) }

  pub counting_end : (n k : ℕ) → Counting n k → SameBytes a b k (length b) → n ≡ length (differences a b 0 (length b))
  counting_end n k c same =
      let left : n + length {A = ℕ} [] ≡ length (differences a b 0 (length b)) = rw (past k c.most same) at c.all in
      omega (arith, left)

  -- the next one stands at p
  module _ (n k p : ℕ) (c : Counting n k) (u : Until a b k (length b) p) (less : p < length b) where
    pub first : rest a b k ≡ p ∷ rest a b (p + 1)
    first = rest_over a b k p u.onward u.most u.clear ∙ rest_hit a b p less (u.found less)

    left : n + length (p ∷ rest a b (p + 1)) ≡ length (differences a b 0 (length b))
    left = rw first at c.all

    pub counting_on : Counting (n + 1) (p + 1)
    counting_on = record { most = omega (arith, less); few = omega (arith, c.few, u.onward); all = omega (arith, left) }

    -- there is room for it
    pub room : (most : ℕ) → length (differences a b 0 (length b)) ≤ most → n < most
    room most fits = omega (arith, left)

  module _ {A : Type 0} (w : Writing A) where
    -- the same with l the list before, and m now
    pub record Listing (l m : List A) (i k : ℕ) : Type 0 where
      pub counting : Counting i k
      pub long : length m ≡ length l
      pub kept : w.all m i (strayed (rest a b k)) ≡ w.all l 0 (strayed (differences a b 0 (length b)))

    pub listing_start : (l : List A) → Listing l l 0 0
    listing_start l = record { counting = counting_start; long = refl; kept = ap (λ (ks : List ℕ). w.all l 0 (strayed ks)) from_start }

    pub listing_on : (l m : List A) (i k p : ℕ) → Listing l m i k → Until a b k (length b) p → p < length b
        → Listing l (w.one m i (p + 16777216)) (i + 1) (p + 1)
    unfolding strayed
    listing_on l m i k p c u less =
        record {
          counting = counting_on i k p c.counting u less;
          long = w.long m i (p + 16777216) ∙ c.long;
          kept = sym (w.more m i (p + 16777216) (strayed (rest a b (p + 1))))
              ∙ sym (ap (λ (ks : List ℕ). w.all m i (strayed ks)) (first i k p c.counting u less))
              ∙ c.kept;
        }

    pub listing_end : (l m : List A) (i k : ℕ) → Listing l m i k → SameBytes a b k (length b)
        → m ≡ w.all l 0 (strayed (differences a b 0 (length b)))
    unfolding strayed
    listing_end l m i k c same =
        sym (w.none m i) ∙ sym (ap (λ (ks : List ℕ). w.all m i (strayed ks)) (past k c.counting.most same)) ∙ c.kept

-- ---- a reading without a settings part

module _ (r : Reading) (c : r.c ≡ 0) (z : r.z ≡ 0) where
  none : (k : ℕ) → Holds (setting r k) → ⊥
  none k h = omega (arith, h.0, h.1)

  pub no_settings : (ks : List ℕ) → settings r ks ≡ 0
  unfolding settings
  no_settings [] = refl
  no_settings (k ∷ ks) = rw (fails (setting r k) (none k), no_settings ks)

  pub only_strays : (ks : List ℕ) → strays r ks ≡ length ks
  unfolding strays
  only_strays [] = refl
  only_strays (k ∷ ks) = rw (fails (setting r k) (none k), only_strays ks) (omega arith)

  pub no_bits : (a b ks : List ℕ) → bits a b r ks ≡ 0
  unfolding bits
  no_bits a b [] = refl
  no_bits a b (k ∷ ks) = rw (fails (setting r k) (none k), no_bits a b ks)

  pub stray_entries : (ks : List ℕ) → entries r ks ≡ strayed ks
  unfolding entries entry strayed
  stray_entries [] = refl
  stray_entries (k ∷ ks) = rw (fails (setting r k) (none k), stray_entries ks)

  pub stray_counts : (a b : List ℕ)
      → counts_of a b r ≡ record { settings = 0; strays = length (differences a b 0 (length b)); bits = 0 }
  unfolding counts_of
  stray_counts a b =
      let ks = differences a b 0 (length b) in
      rw (no_settings ks, only_strays ks, no_bits a b ks)
