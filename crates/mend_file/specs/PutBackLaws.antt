-- The restored file, byte by byte: the reference's bytes outside the settings part, the file's own in it.
-- Assumes nothing.
use Prim.Native.Nat.{ℕ, zero, suc, ◌+◌, ◌-◌, ◌≤◌, ◌<◌}
use mathlib.Core.List.{List, [], ◌∷◌}
use Rattle.std.specs.Prelude.{◌⊎◌, ◌≡◌, take, drop, set}
use Rattle.std.proofs.Math.Logic.{inl, inr}
use Rattle.std.proofs.Math.Path.{refl, sym}
use Rattle.std.proofs.Common.{◌∙◌, length-take, length-drop, ext_get_or, get_or-take, get_or-drop}
use native.Mathlib.Omega.{arith}
use Rattle.std.proofs.Math.Decide.{dec_lt, ℕ_discrete}
use Rattle.std.proofs.Math.ListN.{length, get_or, length-set, get_or-eq_default}
use Rattle.std.proofs.Math.Seq.{get_or-set_same, get_or-set_other}
use Rattle.facts.specs.Fact.{Holds}
use Rattle.facts.specs.RulesLaws.{by_test}
use Rattle.answers.specs.declared.Reading.{Reading}
use Rattle.reading_rules.specs.Settings.{settings_at, settings_size, OutsideSettings}
use Rattle.audit_count.specs.Differences.{agrees, differences, setting}
use Rattle.sheet_bodies.specs.Set.{joined}
use Rattle.sheet_bodies.specs.PartLaws.{length_joined, joined_low, joined_mid, joined_high}
use Rattle.mend_file.specs.PutBack.{put_back, restored}

-- a position outside the settings part is no setting's
pub not_setting : (r : Reading) (k : ℕ) → OutsideSettings r k → Holds (setting r k) → ⊥
not_setting r k (inl h) s = omega arith
not_setting r k (inr h) s = omega arith

-- a position is in the part or outside it
pub sided : (r : Reading) (k : ℕ) → Holds (setting r k) ⊎ OutsideSettings r k
sided r k =
    elim (dec_lt k (r.c + 32)) [
      | yes low ↦ inr (inl low)
      | no low ↦ elim (dec_lt k (r.c + r.z)) [ yes high ↦ inl (omega arith, omega arith) | no high ↦ inr (inr (omega arith)) ]
    ]

module _ (ref : List ℕ) (r : Reading) (ys : List ℕ) where
  length_back : (ks : List ℕ) → length (put_back ref r ys ks) ≡ length ys
  unfolding put_back
  length_back [] = refl
  length_back (k ∷ ks) =
      by_test (λ (l : List ℕ). length l ≡ length ys) (setting r k) (put_back ref r ys ks) (set (put_back ref r ys ks) k (get_or ref k 0))
      (λ s. length_back ks) (λ s. length-set (put_back ref r ys ks) k (get_or ref k 0) ∙ length_back ks)

  -- one more position: another byte is what it was
  back_other : (a k : ℕ) (ks : List ℕ) → ((Holds (setting r a) → ⊥) → k ≡ a → ⊥)
      → get_or (put_back ref r ys (a ∷ ks)) k 0 ≡ get_or (put_back ref r ys ks) k 0
  unfolding put_back
  back_other a k ks other =
      by_test (λ (l : List ℕ). get_or l k 0 ≡ get_or (put_back ref r ys ks) k 0) (setting r a) (put_back ref r ys ks)
      (set (put_back ref r ys ks) a (get_or ref a 0)) (λ s. refl)
      (λ s. get_or-set_other (put_back ref r ys ks) a k (get_or ref a 0) 0 (other s))

  back_same : (a : ℕ) (ks : List ℕ) → (Holds (setting r a) → ⊥) → a < length ys → get_or (put_back ref r ys (a ∷ ks)) a 0 ≡ get_or ref a 0
  unfolding put_back
  back_same a ks stray h =
      by_test (λ (l : List ℕ). get_or l a 0 ≡ get_or ref a 0) (setting r a) (put_back ref r ys ks)
      (set (put_back ref r ys ks) a (get_or ref a 0)) (λ s. absurd (stray s))
      (λ s. get_or-set_same (put_back ref r ys ks) a (get_or ref a 0) 0 (rw length_back h))

  -- a byte below all the positions, or a setting's, is the file's own
  keeps : (a n k : ℕ) → (k < a) ⊎ Holds (setting r k) → get_or (put_back ref r ys (differences ref ys a n)) k 0 ≡ get_or ys k 0
  unfolding differences put_back
  keeps a zero k h = refl
  keeps a (suc n) k h =
      let ks = differences ref ys (suc a) n in
      let rest = keeps (suc a) n k (elim h [ inl l ↦ inl (omega arith) | inr s ↦ inr s ]) in
      by_test (λ (l : List ℕ). get_or (put_back ref r ys l) k 0 ≡ get_or ys k 0) (agrees ref ys a) ks (a ∷ ks) (λ e. rest)
      (λ e. back_other a k ks (apart h) ∙ rest)
    where
      apart : (k < a) ⊎ Holds (setting r k) → (Holds (setting r a) → ⊥) → k ≡ a → ⊥
      apart (inl l) stray e = omega arith
      apart (inr s) stray e = stray (rw e at s)

  -- any other among the n from a on is the reference's
  gives : (a n k : ℕ) → a ≤ k → k < a + n → k < length ys → (Holds (setting r k) → ⊥)
      → get_or (put_back ref r ys (differences ref ys a n)) k 0 ≡ get_or ref k 0
  unfolding differences
  gives a zero k low high h stray = absurd (omega arith)
  gives a (suc n) k low high h stray =
      let ks = differences ref ys (suc a) n in
      elim (ℕ_discrete k a) [
        | yes e ↦
            by_test (λ (l : List ℕ). get_or (put_back ref r ys l) k 0 ≡ get_or ref k 0) (agrees ref ys a) ks (a ∷ ks)
            (λ f. keeps (suc a) n k (inl (omega arith)) ∙ rw e f)
            (λ f. rw e (back_same a ks (rw e at stray) (rw e at h)))
        | no e ↦
            let rest = gives (suc a) n k (omega arith) (omega arith) h stray in
            by_test (λ (l : List ℕ). get_or (put_back ref r ys l) k 0 ≡ get_or ref k 0) (agrees ref ys a) ks (a ∷ ks) (λ f. rest)
            (λ f. back_other a k ks (λ s g. e g) ∙ rest)
      ]

  pub length_restored : length (restored ref r ys) ≡ length ys
  unfolding restored
  length_restored = length_back (differences ref ys 0 (length ys))

  -- a setting's byte is the file's own
  pub restored_setting : (k : ℕ) → Holds (setting r k) → get_or (restored ref r ys) k 0 ≡ get_or ys k 0
  unfolding restored
  restored_setting k s = keeps 0 (length ys) k (inr s)

  module _ (long : length ref ≡ length ys) where
    -- any other is the reference's
    pub restored_other : (k : ℕ) → OutsideSettings r k → get_or (restored ref r ys) k 0 ≡ get_or ref k 0
    unfolding restored
    restored_other k out =
        elim (dec_lt k (length ys)) [
          | yes h ↦ gives 0 (length ys) k (omega arith) (omega arith) h (not_setting r k out)
          | no h ↦
              let here : length (restored ref r ys) ≤ k = omega (arith, length_restored) in
              let there : length ref ≤ k = omega arith in
              get_or-eq_default (restored ref r ys) 0 here ∙ sym (get_or-eq_default ref 0 there)
        ]

    -- what has these bytes is it
    pub restored_is : (l : List ℕ) → length l ≡ length ys → ((k : ℕ) → OutsideSettings r k → get_or l k 0 ≡ get_or ref k 0)
        → ((k : ℕ) → Holds (setting r k) → get_or l k 0 ≡ get_or ys k 0) → l ≡ restored ref r ys
    restored_is l same out own =
        ext_get_or 0 l (restored ref r ys) (same ∙ sym length_restored) (λ k h. byte k (sided r k))
      where
        byte : (k : ℕ) → Holds (setting r k) ⊎ OutsideSettings r k → get_or l k 0 ≡ get_or (restored ref r ys) k 0
        byte k (inl s) = own k s ∙ sym (restored_setting k s)
        byte k (inr o) = out k o ∙ sym (restored_other k o)

    -- in other words: the reference with the file's own settings part in it
    module _ (low : 32 ≤ r.z) (fits : r.c + r.z ≤ length ys) where
      abbrev part : List ℕ
      part = take (settings_size r) (drop (settings_at r) ys)

      part_long : length part ≡ settings_size r
      part_long = simp (length-take, length-drop) (omega arith)

      inside : settings_at r + settings_size r ≤ length ref
      inside = omega arith

      pub restored_joined : joined ref (settings_at r) (settings_size r) part ≡ restored ref r ys
      restored_joined =
          restored_is (joined ref (settings_at r) (settings_size r) part)
          (length_joined ref (settings_at r) (settings_size r) part inside part_long ∙ long) outside own
        where
          outside : (k : ℕ) → OutsideSettings r k → get_or (joined ref (settings_at r) (settings_size r) part) k 0 ≡ get_or ref k 0
          outside k (inl h) = joined_low ref (settings_at r) (settings_size r) part inside part_long k h
          outside k (inr h) = joined_high ref (settings_at r) (settings_size r) part inside part_long k (omega arith)

          own : (k : ℕ) → Holds (setting r k) → get_or (joined ref (settings_at r) (settings_size r) part) k 0 ≡ get_or ys k 0
          own k s =
              let j = k - settings_at r in
              let e : settings_at r + j ≡ k = omega arith in
              let hj : j < settings_size r = omega arith in
              rw e at
              (joined_mid ref (settings_at r) (settings_size r) part inside part_long j hj
              ∙ get_or-take (settings_size r) (drop (settings_at r) ys) j 0 hj ∙ get_or-drop (settings_at r) ys j 0)
