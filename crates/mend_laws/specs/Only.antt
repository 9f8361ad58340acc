-- The settings among some positions, and which positions differ once all but the settings is the reference's.
-- Assumes nothing.
use Rattle.std.specs.Prelude.{ℕ, zero, suc, ◌+◌, ◌⊎◌, ◌≡◌, List, [], ◌∷◌, refl, get_or}
use Rattle.std.proofs.Common.{inl, inr, ◌∙◌, arith, sym, ap}
use Rattle.std.proofs.Math.Decide.{ℕ_discrete}
use Rattle.facts.specs.Fact.{Holds}
use Rattle.facts.specs.FactLaws.{passes, fails}
use Rattle.answers.specs.declared.Reading.{Reading}
use Rattle.reading_rules.specs.Settings.{OutsideSettings}
use Rattle.audit_count.specs.Differences.{agrees, differences, setting, entry, settings, strays, flips, bits, entries}
use Rattle.mend_file.specs.PutBack.{put_back}
use Rattle.mend_file.specs.PutBackLaws.{not_setting, sided}
use Rattle.mend_laws.specs.Cleared.{settings_only}

module _ (r : Reading) (k : ℕ) (ks : List ℕ) where
  module _ (s : Holds (setting r k)) where
    only_in : settings_only r (k ∷ ks) ≡ k ∷ settings_only r ks
    unfolding settings_only
    only_in = rw (passes (setting r k) s)

    settings_in : settings r (k ∷ ks) ≡ 1 + settings r ks
    unfolding settings
    settings_in = rw (passes (setting r k) s)

    strays_in : strays r (k ∷ ks) ≡ strays r ks
    unfolding strays
    strays_in = rw (passes (setting r k) s) (omega arith)

    bits_in : (a b : List ℕ) → bits a b r (k ∷ ks) ≡ flips 8 (get_or b k 0) (get_or a k 0) + bits a b r ks
    unfolding bits
    bits_in a b = rw (passes (setting r k) s)

    entries_in : entries r (k ∷ ks) ≡ k ∷ entries r ks
    unfolding entries entry
    entries_in = rw (passes (setting r k) s)

  module _ (out : Holds (setting r k) → ⊥) where
    only_out : settings_only r (k ∷ ks) ≡ settings_only r ks
    unfolding settings_only
    only_out = rw (fails (setting r k) out)

    settings_out : settings r (k ∷ ks) ≡ settings r ks
    unfolding settings
    settings_out = rw (fails (setting r k) out) (omega arith)

    strays_out : strays r (k ∷ ks) ≡ 1 + strays r ks
    unfolding strays
    strays_out = rw (fails (setting r k) out)

    bits_out : (a b : List ℕ) → bits a b r (k ∷ ks) ≡ bits a b r ks
    unfolding bits
    bits_out a b = rw (fails (setting r k) out) (omega arith)

module _ (r : Reading) where
  -- as many settings as before
  pub only_settings : (ks : List ℕ) → settings r (settings_only r ks) ≡ settings r ks
  unfolding settings_only
  only_settings [] = refl
  only_settings (k ∷ ks) = go (only_settings ks) (sided r k)
    where
      go : settings r (settings_only r ks) ≡ settings r ks → Holds (setting r k) ⊎ OutsideSettings r k → settings r (settings_only r (k ∷ ks)) ≡ settings r (k ∷ ks)
      go rest (inl s) =
          ap (λ (l : List ℕ). settings r l) (only_in r k ks s) ∙ settings_in r k (settings_only r ks) s
          ∙ ap (λ (n : ℕ). 1 + n) rest ∙ sym (settings_in r k ks s)
      go rest (inr o) =
          ap (λ (l : List ℕ). settings r l) (only_out r k ks (not_setting r k o)) ∙ rest
          ∙ sym (settings_out r k ks (not_setting r k o))

  -- no strays
  pub only_strays : (ks : List ℕ) → strays r (settings_only r ks) ≡ 0
  unfolding settings_only strays
  only_strays [] = refl
  only_strays (k ∷ ks) = go (only_strays ks) (sided r k)
    where
      go : strays r (settings_only r ks) ≡ 0 → Holds (setting r k) ⊎ OutsideSettings r k → strays r (settings_only r (k ∷ ks)) ≡ 0
      go rest (inl s) =
          ap (λ (l : List ℕ). strays r l) (only_in r k ks s) ∙ strays_in r k (settings_only r ks) s ∙ rest
      go rest (inr o) = ap (λ (l : List ℕ). strays r l) (only_out r k ks (not_setting r k o)) ∙ rest

  -- each stands in a list as its position
  pub only_entries : (ks : List ℕ) → entries r (settings_only r ks) ≡ settings_only r ks
  unfolding settings_only entries
  only_entries [] = refl
  only_entries (k ∷ ks) = go (only_entries ks) (sided r k)
    where
      go : entries r (settings_only r ks) ≡ settings_only r ks → Holds (setting r k) ⊎ OutsideSettings r k → entries r (settings_only r (k ∷ ks)) ≡ settings_only r (k ∷ ks)
      go rest (inl s) =
          ap (λ (l : List ℕ). entries r l) (only_in r k ks s) ∙ entries_in r k (settings_only r ks) s
          ∙ ap (λ (l : List ℕ). k ∷ l) (rest) ∙ sym (only_in r k ks s)
      go rest (inr o) =
          ap (λ (l : List ℕ). entries r l) (only_out r k ks (not_setting r k o)) ∙ rest
          ∙ sym (only_out r k ks (not_setting r k o))

  -- where there are no strays nothing is put back
  pub back_none : (ref ys ks : List ℕ) → strays r ks ≡ 0 → put_back ref r ys ks ≡ ys
  unfolding put_back
  back_none ref ys [] z = refl
  back_none ref ys (k ∷ ks) z = go (λ e. back_none ref ys ks e) (sided r k)
    where
      go : (strays r ks ≡ 0 → put_back ref r ys ks ≡ ys) → Holds (setting r k) ⊎ OutsideSettings r k → put_back ref r ys (k ∷ ks) ≡ ys
      go rest (inl s) = rw (passes (setting r k) s) (rest (sym (strays_in r k ks s) ∙ z))
      go rest (inr o) = absurd (omega (arith, z, strays_out r k ks (not_setting r k o)))

module _ (ref ys zs : List ℕ) (r : Reading) (own : (k : ℕ) → Holds (setting r k) → get_or zs k 0 ≡ get_or ys k 0)
    (back : (k : ℕ) → OutsideSettings r k → get_or zs k 0 ≡ get_or ref k 0) where
  skips : (l : List ℕ) (a n : ℕ) → Holds (agrees ref l a) → differences ref l a (suc n) ≡ differences ref l (suc a) n
  unfolding differences
  skips l a n h = rw (passes (agrees ref l a) h)

  hits : (l : List ℕ) (a n : ℕ) → (Holds (agrees ref l a) → ⊥) → differences ref l a (suc n) ≡ a ∷ differences ref l (suc a) n
  unfolding differences
  hits l a n h = rw (fails (agrees ref l a) h)

  -- the settings that differed, and nothing else
  pub left_over : (a n : ℕ) → differences ref zs a n ≡ settings_only r (differences ref ys a n)
  unfolding differences settings_only
  left_over a zero = refl
  left_over a (suc n) = go (left_over (suc a) n) (ℕ_discrete (get_or ys a 0) (get_or ref a 0)) (sided r a)
    where
      go : differences ref zs (suc a) n ≡ settings_only r (differences ref ys (suc a) n)
          → Dec (get_or ys a 0 ≡ get_or ref a 0) → Holds (setting r a) ⊎ OutsideSettings r a
          → differences ref zs a (suc n) ≡ settings_only r (differences ref ys a (suc n))
      go rest (yes f) (inl s) =
          skips zs a n (own a s ∙ f) ∙ rest ∙ ap (λ (l : List ℕ). settings_only r l) (sym (skips ys a n f))
      go rest (yes f) (inr o) =
          skips zs a n (back a o) ∙ rest ∙ ap (λ (l : List ℕ). settings_only r l) (sym (skips ys a n f))
      go rest (no f) (inl s) =
          hits zs a n (λ e. f (sym (own a s) ∙ e)) ∙ ap (λ (l : List ℕ). a ∷ l) rest
          ∙ sym (only_in r a (differences ref ys (suc a) n) s) ∙ ap (λ (l : List ℕ). settings_only r l) (sym (hits ys a n f))
      go rest (no f) (inr o) =
          skips zs a n (back a o) ∙ rest ∙ sym (only_out r a (differences ref ys (suc a) n) (not_setting r a o))
          ∙ ap (λ (l : List ℕ). settings_only r l) (sym (hits ys a n f))

  -- the same bits
  pub only_bits : (ks : List ℕ) → bits ref zs r (settings_only r ks) ≡ bits ref ys r ks
  unfolding settings_only bits
  only_bits [] = refl
  only_bits (k ∷ ks) = go (only_bits ks) (sided r k)
    where
      go : bits ref zs r (settings_only r ks) ≡ bits ref ys r ks → Holds (setting r k) ⊎ OutsideSettings r k → bits ref zs r (settings_only r (k ∷ ks)) ≡ bits ref ys r (k ∷ ks)
      go rest (inl s) =
          ap (λ (l : List ℕ). bits ref zs r l) (only_in r k ks s) ∙ bits_in r k (settings_only r ks) s ref zs
          ∙ ap (λ (n : ℕ). flips 8 (get_or zs k 0) (get_or ref k 0) + n) (rest)
          ∙ ap (λ (x : ℕ). flips 8 x (get_or ref k 0) + bits ref ys r ks) (own k s) ∙ sym (bits_in r k ks s ref ys)
      go rest (inr o) =
          ap (λ (l : List ℕ). bits ref zs r l) (only_out r k ks (not_setting r k o)) ∙ rest
          ∙ sym (bits_out r k ks (not_setting r k o) ref ys)
