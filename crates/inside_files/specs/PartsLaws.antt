-- The walk goes through the list of parts.
-- Assumes nothing.
use Prim.Native.Nat.{ℕ, zero, suc, ◌+◌, ◌-◌, ◌*◌, ◌/◌, ◌%◌, ◌≤◌, ◌<◌}
use Rattle.std.specs.Prelude.{Bool, true, false, List, [], ◌∷◌, ◌++◌, ◌≡◌}
use Rattle.std.proofs.Math.Path.{refl}
use Rattle.std.proofs.Common.{sym, ap, ◌∙◌, lt-ltb, le-ltb}
use native.Mathlib.Omega.{arith}
use Rattle.std.proofs.Math.Decide.{dec_lt}
use Rattle.words.specs.Round.{round8, round4}
use Rattle.facts.specs.Fact.{Holds, Says, test}
use Rattle.facts.specs.FactLaws.{says, passes, fails}
use Rattle.facts.specs.RulesLaws.{by_test}
use Rattle.words.specs.Le.{le}
use Rattle.inside_files.specs.declared.Part.{Part}
use Rattle.inside_files.specs.declared.Place.{Place}
use Rattle.inside_files.specs.Parts.{header, broken, section, first_at, first_place, free, file_fits, passed_over, section_fits}
use Rattle.inside_files.specs.PartsWalk.{Valid}
use Rattle.inside_files.specs.Parts.{sections_from, sections_at, files_from, ahead}

-- ---- sections

module _ (xs : List ℕ) (end : ℕ) where
  pub sections_none : (p : ℕ) → sections_from xs end 0 p ≡ []
  unfolding sections_from
  sections_none p = refl

  pub sections_end : (n p : ℕ) → end ≤ p → sections_from xs end n p ≡ []
  unfolding sections_from
  sections_end zero p h = refl
  sections_end (suc n) p h = rw (le-ltb p end h)

  pub sections_broken : (n p : ℕ) → p < end → (Holds (section_fits xs end p) → ⊥) → sections_from xs end (suc n) p ≡ broken p ∷ []
  unfolding sections_from
  sections_broken n p h bad = rw (lt-ltb p end h, fails (section_fits xs end p) bad)

  pub sections_next : (n p : ℕ) → p < end → Holds (section_fits xs end p)
      → sections_from xs end (suc n) p ≡ section p (le 3 xs p) (le 1 xs (p + 3)) ∷ sections_from xs end n (round4 (p + le 3 xs p))
  unfolding sections_from
  sections_next n p h ok = rw (lt-ltb p end h, passes (section_fits xs end p) ok)

  sections_room : (n k p : ℕ) → end ≤ p + n → end ≤ p + k → sections_from xs end n p ≡ sections_from xs end k p
  sections_room zero k p a b = sections_none p ∙ sym (sections_end k p (omega arith))
  sections_room (suc n) zero p a b = sections_end (suc n) p (omega arith) ∙ sym (sections_none p)
  sections_room (suc n) (suc k) p a b =
      elim (dec_lt p end) [
        | no h ↦ sections_end (suc n) p (omega arith) ∙ sym (sections_end (suc k) p (omega arith))
        | yes h ↦ go h (test (section_fits xs end p)) (says (section_fits xs end p)) (sections_room n k (round4 (p + le 3 xs p)))
      ]
    where
      go : p < end → (t : Bool) → Says t (Holds (section_fits xs end p))
          → (end ≤ round4 (p + le 3 xs p) + n → end ≤ round4 (p + le 3 xs p) + k
          → sections_from xs end n (round4 (p + le 3 xs p)) ≡ sections_from xs end k (round4 (p + le 3 xs p)))
          → sections_from xs end (suc n) p ≡ sections_from xs end (suc k) p
      go h false bad rest = sections_broken n p h bad ∙ sym (sections_broken k p h bad)
      go h true ok rest =
          let same = rest (omega (arith, ok.1.0)) (omega (arith, ok.1.0)) in
          sections_next n p h ok ∙ rw same (sym (sections_next k p h ok))

-- ---- files

-- the walk's start lies in the volume, where rule 3 holds
pub first_valid : (xs : List ℕ) (v f : ℕ) → v ≤ 16777216 → f + le 3 xs (f + 20) ≤ v → 24 ≤ le 3 xs (f + 20)
    → le 3 xs (f + 24) ≤ le 3 xs (f + 20) - 24
    → Valid v (first_place xs f)
unfolding first_place first_at
first_valid xs v f small h low fits =
    record {
      within = h;
      at_small = by_test (λ (n : ℕ). n ≤ 33554432) (passed_over (le 1 xs (f + 18))) _ _ (λ p. omega arith) (λ p. omega arith);
      file_small = omega arith;
    }

pub sections_at_lem : (xs : List ℕ) (f : ℕ) → 24 ≤ le 3 xs (f + 20) → (f + 24 ≤ sections_at xs f) × (sections_at xs f ≤ f + le 3 xs (f + 20))
unfolding sections_at
sections_at_lem xs f h =
    by_test (λ (n : ℕ). (f + 24 ≤ n) × (n ≤ f + le 3 xs (f + 20))) (passed_over (le 1 xs (f + 18))) _ _
    (λ p. (omega arith, omega arith)) (λ p. (omega arith, omega arith))

module _ (xs : List ℕ) (v : ℕ) where
  abbrev pub end_of : ℕ → ℕ
  end_of f = f + le 3 xs (f + 20)

  abbrev pub sections_of : ℕ → List Part
  sections_of f = sections_from xs (end_of f) (end_of f - sections_at xs f) (sections_at xs f)

  pub files_none : (f : ℕ) → files_from xs v 0 f ≡ []
  unfolding files_from
  files_none f = refl

  pub files_end : (n f : ℕ) → v ≤ f → files_from xs v n f ≡ []
  unfolding files_from
  files_end zero f h = refl
  files_end (suc n) f h = rw (le-ltb f v h)

  pub files_free : (n f : ℕ) → f < v → Holds (free xs v f) → files_from xs v (suc n) f ≡ header f (v - f) ∷ []
  unfolding files_from
  files_free n f h e = rw (lt-ltb f v h, passes (free xs v f) e)

  pub files_broken : (n f : ℕ) → f < v → (Holds (free xs v f) → ⊥) → (Holds (file_fits xs v f) → ⊥) → files_from xs v (suc n) f ≡ broken f ∷ []
  unfolding files_from
  files_broken n f h e bad = rw (lt-ltb f v h, fails (free xs v f) e, fails (file_fits xs v f) bad)

  pub files_next : (n f : ℕ) → f < v → (Holds (free xs v f) → ⊥) → Holds (file_fits xs v f)
      → files_from xs v (suc n) f ≡ header f 24 ∷ (sections_of f ++ files_from xs v n (round8 (end_of f)))
  unfolding files_from
  files_next n f h e ok = rw (lt-ltb f v h, fails (free xs v f) e, passes (file_fits xs v f) ok)

  files_room : (n k f : ℕ) → v ≤ f + n → v ≤ f + k → files_from xs v n f ≡ files_from xs v k f
  files_room zero k f a b = files_none f ∙ sym (files_end k f (omega arith))
  files_room (suc n) zero f a b = files_end (suc n) f (omega arith) ∙ sym (files_none f)
  files_room (suc n) (suc k) f a b =
      elim (dec_lt f v) [
        | no h ↦ files_end (suc n) f (omega arith) ∙ sym (files_end (suc k) f (omega arith))
        | yes h ↦
            go h (test (free xs v f)) (says (free xs v f)) (test (file_fits xs v f)) (says (file_fits xs v f))
            (files_room n k (round8 (end_of f)))
      ]
    where
      go : f < v → (s : Bool) → Says s (Holds (free xs v f)) → (t : Bool) → Says t (Holds (file_fits xs v f))
          → (v ≤ round8 (end_of f) + n → v ≤ round8 (end_of f) + k
          → files_from xs v n (round8 (end_of f)) ≡ files_from xs v k (round8 (end_of f)))
          → files_from xs v (suc n) f ≡ files_from xs v (suc k) f
      go h true e t ok rest = files_free n f h e ∙ sym (files_free k f h e)
      go h false e false bad rest = files_broken n f h e bad ∙ sym (files_broken k f h e bad)
      go h false e true ok rest =
          let same = rest (omega (arith, ok.1.1.1.0)) (omega (arith, ok.1.1.1.0)) in
          files_next n f h e ok ∙ rw same (sym (files_next k f h e ok))

  -- ---- what is ahead

  pub ahead_end : (c : Place) → c.end ≤ c.at → v ≤ c.file → ahead xs v c ≡ []
  unfolding ahead
  ahead_end c a b = rw (sections_end xs c.end (c.end - c.at) c.at a, files_end (v - c.file) c.file b)

  -- no section is left in the file at hand
  ahead_files : (c : Place) → c.end ≤ c.at → ahead xs v c ≡ files_from xs v (v - c.file) c.file
  unfolding ahead
  ahead_files c a = rw (sections_end xs c.end (c.end - c.at) c.at a)

  pub ahead_section : (c : Place) → c.at < c.end → Holds (section_fits xs c.end c.at)
      → ahead xs v c
      ≡ section c.at (le 3 xs c.at) (le 1 xs (c.at + 3))
      ∷ ahead xs v (record { file = c.file; end = c.end; at = round4 (c.at + le 3 xs c.at) })
  unfolding ahead
  ahead_section c h ok =
      let p = round4 (c.at + le 3 xs c.at) in
      let n : c.end - c.at ≡ suc (c.end - c.at - 1) = omega arith in
      let same = sections_room xs c.end (c.end - c.at - 1) (c.end - p) p (omega (arith, ok.1.0)) (omega arith) in
      rw (n, sections_next xs c.end (c.end - c.at - 1) c.at h ok, same)

  pub ahead_cut : (c d : Place) → c.at < c.end → (Holds (section_fits xs c.end c.at) → ⊥) → d.file ≡ c.file → d.end ≤ d.at
      → ahead xs v c ≡ broken c.at ∷ ahead xs v d
  unfolding ahead
  ahead_cut c d h bad f e =
      let n : c.end - c.at ≡ suc (c.end - c.at - 1) = omega arith in
      rw (n, sections_broken xs c.end (c.end - c.at - 1) c.at h bad, sections_end xs d.end (d.end - d.at) d.at e, f)

  pub ahead_free : (c d : Place) → c.end ≤ c.at → c.file < v → Holds (free xs v c.file) → d.end ≤ d.at → v ≤ d.file
      → ahead xs v c ≡ header c.file (v - c.file) ∷ ahead xs v d
  ahead_free c d a h e x y =
      let n : v - c.file ≡ suc (v - c.file - 1) = omega arith in
      ahead_files c a ∙ ap (λ (n : ℕ). files_from xs v n c.file) n ∙ files_free (v - c.file - 1) c.file h e ∙ rw (ahead_end d x y)

  pub ahead_broken : (c d : Place) → c.end ≤ c.at → c.file < v → (Holds (free xs v c.file) → ⊥)
      → (Holds (file_fits xs v c.file) → ⊥) → d.end ≤ d.at → v ≤ d.file
      → ahead xs v c ≡ broken c.file ∷ ahead xs v d
  ahead_broken c d a h e bad x y =
      let n : v - c.file ≡ suc (v - c.file - 1) = omega arith in
      ahead_files c a ∙ rw (n, files_broken (v - c.file - 1) c.file h e bad, ahead_end d x y)

  -- the sections of a file, then the files after it
  joined : (f : ℕ) → header f 24 ∷ (sections_of f ++ files_from xs v (v - round8 (end_of f)) (round8 (end_of f)))
      ≡ header f 24 ∷ ahead xs v (record { file = round8 (end_of f); end = end_of f; at = sections_at xs f })
  unfolding ahead
  joined f = refl

  pub ahead_file : (c : Place) → c.end ≤ c.at → c.file < v → (Holds (free xs v c.file) → ⊥) → Holds (file_fits xs v c.file)
      → ahead xs v c
      ≡ header c.file 24 ∷ ahead xs v (record { file = round8 (end_of c.file); end = end_of c.file; at = sections_at xs c.file })
  ahead_file c a h e ok =
      let f = c.file in
      let g = round8 (end_of f) in
      let n : v - f ≡ suc (v - f - 1) = omega arith in
      let same = files_room (v - f - 1) (v - g) g (omega (arith, ok.1.1.1.0)) (omega arith) in
      ahead_files c a ∙ ap (λ (n : ℕ). files_from xs v n f) n ∙ files_next (v - f - 1) f h e ok ∙ rw same (joined f)
