-- The part that a lookup hands back, case by case.
-- Assumes nothing.
use Rattle.std.specs.Prelude.{◌≡◌, ℕ, ◌+◌, ◌-◌, ◌≤◌, ◌<◌, cond, eqb, length, get_or, take, drop}
use Rattle.std.proofs.Math.Path.{refl}
use Rattle.std.proofs.Common.{sym, ap, ◌∙◌, arith, eq-eqb, ne_eqb, length-take, length-drop, ext_get_or, get_or-take, get_or-drop, length-take-le}
use mathlib.Core.List.{List, []}
use Rattle.std.proofs.Math.Decide.{ℕ_discrete}
use Rattle.facts.specs.Fact.{Holds}
use Rattle.facts.specs.FactLaws.{passes, fails}
use Rattle.facts.specs.Rules.{Rules, answer, rule, run}
use Rattle.facts.specs.RulesLaws.{passed, by_test}
use Rattle.reading_rules.specs.Reading.{reading2, Read2}
use Rattle.answers.specs.AfterLaws.{after_accepted, after_refused, changed_so, kept_so}
use Rattle.reading_rules.specs.Edition.{guaranteed}
use Rattle.reading_rules.specs.NumbersLaws.{refused_is2}
use Rattle.answers.specs.declared.Reading.{Reading}
use Rattle.setting.specs.Setting.{setting_fits, region_part, region_place, setting_number, setting_part, setting_place}

-- a part of a part
pub part_of_part : (xs : List ℕ) (c z offset size : ℕ) → c + z ≤ length xs → offset + size ≤ z
    → take size (drop offset (take z (drop c xs))) ≡ take size (drop (c + offset) xs)
part_of_part xs c z offset size fits h =
    ext_get_or 0 (take size (drop offset (take z (drop c xs)))) (take size (drop (c + offset) xs))
    (simp (length-take, length-drop) (omega arith))
    (λ i l.
    let hi : i < size = omega (arith, simp length-take at l) in
    let e : c + (offset + i) ≡ c + offset + i = omega arith in
    get_or-take size (drop offset (take z (drop c xs))) i 0 hi ∙ get_or-drop offset (take z (drop c xs)) i 0
    ∙ get_or-take z (drop c xs) (offset + i) 0 (omega arith) ∙ get_or-drop c xs (offset + i) 0
    ∙ ap (λ (k : ℕ). get_or xs k 0) e
    ∙ sym (get_or-drop (c + offset) xs i 0) ∙ sym (get_or-take size (drop (c + offset) xs) i 0 hi))

-- the rules of a lookup
abbrev setting_rules : List ℕ → ℕ → ℕ → Rules ℕ
setting_rules xs offset size = rule 17 (setting_fits offset size (reading2 xs).z) (answer 0)

module _ (xs : List ℕ) (offset size : ℕ) where
  pub setting_unread : (Read2 xs → ⊥)
      → (setting_number xs offset size ≡ (reading2 xs).number) × (setting_part xs offset size ≡ [])
  unfolding setting_number setting_part
  setting_unread h =
      let e : setting_number xs offset size ≡ (reading2 xs).number =
      after_refused (λ number index. number) (reading2 xs) (setting_rules xs offset size) h in
      (e, kept_so (setting_number xs offset size) (take size (drop ((reading2 xs).c + offset) xs)) [] (λ z. h (sym e ∙ z)))

  pub setting_refused : Read2 xs → (Holds (setting_fits offset size (reading2 xs).z) → ⊥)
      → (setting_number xs offset size ≡ 17) × (setting_part xs offset size ≡ [])
  unfolding setting_number setting_part run
  setting_refused ok h =
      let e : setting_number xs offset size ≡ 17 =
      after_accepted (λ number index. number) (reading2 xs) (setting_rules xs offset size) ok ∙ rw
      (fails (setting_fits offset size (reading2 xs).z) h) in
      (e, kept_so (setting_number xs offset size) (take size (drop ((reading2 xs).c + offset) xs)) [] (λ z. omega arith))

  pub setting_accepted : Read2 xs → Holds (setting_fits offset size (reading2 xs).z)
      → (setting_number xs offset size ≡ 0) × (setting_part xs offset size ≡ take size (drop ((reading2 xs).c + offset) xs))
  unfolding setting_number setting_part run
  setting_accepted ok h =
      let e : setting_number xs offset size ≡ 0 =
      after_accepted (λ number index. number) (reading2 xs) (setting_rules xs offset size) ok ∙ rw
      (passes (setting_fits offset size (reading2 xs).z) h) in
      (e, changed_so (setting_number xs offset size) (take size (drop ((reading2 xs).c + offset) xs)) [] e)

  -- what an accepted lookup has passed
  pub setting_passed : setting_number xs offset size ≡ 0 → Read2 xs × Holds (setting_fits offset size (reading2 xs).z)
  unfolding setting_number
  setting_passed e =
      elim (ℕ_discrete (reading2 xs).number 0) [
        | no h ↦ absurd (h (sym (setting_unread h).0 ∙ e))
        | yes ok ↦
            let judged = after_accepted (λ number index. number) (reading2 xs) (setting_rules xs offset size) ok in
            (ok, (passed (λ number index. number) (λ (n : ℕ). n) (λ k i. refl) (setting_rules xs offset size) refl (sym judged ∙ e)).0)
      ]

-- the region's part, looked up, is the setting's part of the image
pub region_part_lem : (xs : List ℕ) (offset size : ℕ) → Read2 xs
    → region_part (take (reading2 xs).z (drop (reading2 xs).c xs)) offset size ≡ setting_part xs offset size
region_part_lem xs offset size ok =
    let r = reading2 xs in
    let g = guaranteed xs ok in
    let region = take r.z (drop r.c xs) in
    let long : length region ≡ r.z = length-take-le r.z (drop r.c xs) (rw length-drop (omega (arith, g))) in
    by_test (λ (l : List ℕ). l ≡ setting_part xs offset size) (setting_fits offset size (length region)) (take size (drop offset region)) []
    (λ h.
    let k : Holds (setting_fits offset size r.z) = rw long at h in
    part_of_part xs r.c r.z offset size (omega (arith, g)) k.1.1 ∙ sym (setting_accepted xs offset size ok k).1)
    (λ h. sym (setting_refused xs offset size ok (rw long at h)).1)

-- the empty part of a refused image stands at its start
pub unread_place : (xs : List ℕ) (offset size : ℕ) → (Read2 xs → ⊥) → setting_place xs offset size ≡ 0
unfolding setting_place
unread_place xs offset size h =
    let e : setting_number xs offset size ≡ (reading2 xs).number = (setting_unread xs offset size h).0 in
    let none : setting_number xs offset size ≡ 0 → ⊥ = λ z. h (sym e ∙ z) in
    rw (ne_eqb (setting_number xs offset size) 0 none) (omega (arith, ap (λ (r : Reading). r.c) (refused_is2 xs h)))

-- the place in the region's part, seen from the image
pub region_place_lem : (xs : List ℕ) (offset size : ℕ) → Read2 xs
    → region_place (take (reading2 xs).z (drop (reading2 xs).c xs)) offset size + (reading2 xs).c ≡ setting_place xs offset size
unfolding setting_place
region_place_lem xs offset size ok =
    let r = reading2 xs in
    let g = guaranteed xs ok in
    let region = take r.z (drop r.c xs) in
    let long : length region ≡ r.z = length-take-le r.z (drop r.c xs) (rw length-drop (omega (arith, g))) in
    by_test (λ (at : ℕ). at + r.c ≡ r.c + cond (eqb (setting_number xs offset size) 0) offset 0)
    (setting_fits offset size (length region)) offset 0
    (λ h. rw (eq-eqb (setting_number xs offset size) 0 (setting_accepted xs offset size ok (rw long at h)).0) (omega arith))
    (λ h.
    let seventeen : setting_number xs offset size ≡ 17 = (setting_refused xs offset size ok (rw long at h)).0 in
    rw (ne_eqb (setting_number xs offset size) 0 (λ z. omega arith)) (omega arith))

-- the empty part comes back exactly where the lookup is refused
pub empty_refused : (xs : List ℕ) (offset size : ℕ) → setting_part xs offset size ≡ [] → setting_number xs offset size ≡ 0 → ⊥
empty_refused xs offset size none ok =
    let (read, fits) = setting_passed xs offset size ok in
    let g = guaranteed xs read in
    let part = take size (drop ((reading2 xs).c + offset) xs) in
    let e : part ≡ [] = sym (setting_accepted xs offset size read fits).1 ∙ none in
    let long : length part ≡ size = length-take-le size (drop ((reading2 xs).c + offset) xs) (rw length-drop (omega (arith, g, fits))) in
    omega (arith, fits.0, ap (λ (l : List ℕ). length l) e)

pub refused_empty : (xs : List ℕ) (offset size : ℕ) → (setting_number xs offset size ≡ 0 → ⊥) → setting_part xs offset size ≡ []
unfolding setting_part
refused_empty xs offset size h = kept_so (setting_number xs offset size) (take size (drop ((reading2 xs).c + offset) xs)) [] h
