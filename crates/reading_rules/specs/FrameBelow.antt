-- The frame law for an accepted image, so far as the tables go: where the walk over the modules meets the same, bytes at or above E other
-- than c+6 and c+7 don't matter, nor does the base word so long as it stays legal.
-- Assumes nothing.
use Rattle.std.specs.Prelude.{ℕ, ◌+◌, ◌-◌, ◌*◌, ◌≤◌, ◌<◌, List, ◌≡◌, refl, ◌⊎◌, length, get_or}
use Rattle.std.proofs.Common.{sym, ◌∙◌}
use Rattle.std.proofs.Math.Path.{ap}
use Rattle.std.proofs.Math.Logic.{inl, inr}
use native.Mathlib.Omega.{arith}
use Rattle.facts.specs.Fact.{test, Holds}
use Rattle.facts.specs.FactLaws.{passes}
use Rattle.facts.specs.RulesLaws.{Passed}
use Rattle.words.specs.Le.{le, Alike}
use Rattle.words.specs.LeLaws.{le_cong, le_in}
use Rattle.header.specs.Base.{legal_base}
use Rattle.inside_walk.specs.Whole.{walked}
use Rattle.answers.specs.declared.Reading.{Reading}
use Rattle.reading_rules.specs.Reading.{accepted, rebased, parted, file_at, reading, older_accepted}
use Rattle.reading_rules.specs.Stages.{from_modules, from_entries, from_region, from_patch, from_table, from_component, from_older, from_edition, from_header, from_section, from_file, from_extension, from_volume, stages}
use Rattle.reading_rules.specs.Guarantee.{Later, Guaranteed, guaranteed, Shared, shared, all_passed, later_by}
use Rattle.reading_rules.specs.Frame.{AlikeEntries, AlikeRegion, AlikePatch, AlikeTable, AlikeComponent, AlikeHeader, AlikeSection, AlikeFile, AlikeExtension, AlikeVolume, AlikeImage, frame}

-- a and b agree below E but for the base word, and on the two marks
pub record AlikeBelow (a b : List ℕ) (r : Reading) : Type 0 where
  pub long : length a ≡ length b
  pub below : (k : ℕ) → k < r.H + 28 → get_or a k 0 ≡ get_or b k 0
  pub above : (k : ℕ) → r.H + 32 ≤ k → k < r.E → get_or a k 0 ≡ get_or b k 0
  pub marks : Alike a b (r.c + 6) 2

-- a and b agree below H+76 but for the base word, from H+least on up to E, on the extended number where there is one, and on the two marks;
-- the header ends at H+least or after
pub record Framed (a b : List ℕ) (r : Reading) (least : ℕ) : Type 0 where
  pub long : length a ≡ length b
  pub below : (k : ℕ) → k < r.H + 28 → get_or a k 0 ≡ get_or b k 0
  pub within : (k : ℕ) → r.H + 32 ≤ k → k < r.H + 76 → get_or a k 0 ≡ get_or b k 0
  pub above : (k : ℕ) → r.H + least ≤ k → k < r.E → get_or a k 0 ≡ get_or b k 0
  pub extended : 6 ≤ le 1 a (r.H + 11) → Alike a b (r.H + 76) 2
  pub marks : Alike a b (r.c + 6) 2
  pub header_long : 72 ≤ le 4 a (r.H + 4) → least ≤ le 4 a (r.H + 4)
  pub modules : walked a (le 8 a 32) (file_at r) ≡ walked b (le 8 b 32) (file_at r)

-- ---- from the header on back to the image's start, whichever the edition

module _ (a b : List ℕ) (r : Reading) (long : length a ≡ length b) (below : (k : ℕ) → k < r.H + 28 → get_or a k 0 ≡ get_or b k 0)
    (header : (f size : ℕ) → Passed (from_header a f size) r → (r.H ≡ f + 28) × AlikeHeader a b f size) where
  pub low : (p m : ℕ) → p + m ≤ r.H + 28 → Alike a b p m
  low p m h = record { same = λ j l. below (p + j) (omega arith) }

  file : (v f : ℕ) → Passed (from_file a v f) r → (f + 28 ≤ r.H) × AlikeFile a b v f
  unfolding from_file from_section
  file v f (fits, (section, rest)) =
      let (at, alike) = header f _ rest in (
        omega arith,
        (
          (low f 17 (omega arith), low (f + 18) 5 (omega arith)),
          λ h. ((low (f + 24) 4 (omega arith), low (f + 39) 1 (omega arith)), λ k. alike),
        ),
      )

  pub image : Passed (stages a) r → AlikeImage a b
  unfolding stages from_volume from_extension
  image (fits, (volume, inl (none, rest))) =
      let (room, alike) = file (le 8 a 32) _ rest in
      (long, λ h. ((low 32 22 (omega arith), low 0 (le 2 a 48) (omega arith)), λ k. ((λ e. alike), λ e. absurd (e none))))
  image (fits, (volume, inr (some, (ext, rest)))) =
      let (room, alike) = file (le 8 a 32) _ rest in (
        long,
        λ h. (
          (low 32 22 (omega arith), low 0 (le 2 a 48) (omega arith)),
          λ k. ((λ e. absurd (some e)), λ e. (low (le 2 a 52 + 16) 4 (omega arith), λ l. alike)),
        ),
      )

-- ---- edition 2

module _ (a b : List ℕ) (r : Reading) (kind : 1 ≤ r.component) (least : ℕ) (same : Framed a b r least)
    (both : test (legal_base (length a) (le 4 a (r.H + 28))) ≡ test (legal_base (length b) (le 4 b (r.H + 28)))) where
  early : (p m : ℕ) → p + m ≤ r.H + 28 → Alike a b p m
  early p m h = record { same = λ j l. same.below (p + j) (omega arith) }

  middle : (p m : ℕ) → r.H + 32 ≤ p → p + m ≤ r.H + 76 → Alike a b p m
  middle p m h k = record { same = λ j l. same.within (p + j) (omega arith) (omega arith) }

  high : (p m : ℕ) → r.H + least ≤ p → p + m ≤ r.E → Alike a b p m
  high p m h k = record { same = λ j l. same.above (p + j) (omega arith) (omega arith) }

  patch : (H p end : ℕ) → H + least ≤ p → Passed (from_patch a H p end) r → (r.H ≡ H) × (p + 12 ≤ r.E) × AlikePatch a b H p end
  unfolding from_patch from_region from_entries from_modules accepted
  patch H p end far (fits, (region, (marks, (types, (reserved, (places, (clears, (modules, (words, (kinds, e)))))))))) =
      let n = le 4 a (p + 8) in
      let at : r.H ≡ H = ap (λ (s : Reading). s.H) e in
      let end : r.E ≡ p + 12 + 4 * n = ap (λ (s : Reading). s.E) e in
      let c : r.c ≡ le 4 a (H + 36) = ap (λ (s : Reading). s.c) e in (
        at,
        omega arith,
        (
          (λ h. (
            high p 4 (omega arith) (omega arith),
            high (p + 6) 1 (omega arith) (omega arith),
            high (p + 8) 4 (omega arith)
                (omega arith),
          )),
          λ h. (
            middle (H + 36) 8 (omega arith) (omega arith),
            λ k. (
              rw c at same.marks,
              λ l. (
                high (p + 12) (4 * n) (omega arith) (omega arith),
                early (H + 11) 13 (omega arith),
                rw at at same.extended,
                rw at at same.modules,
              ),
            ),
          ),
        ),
      )

  table : (H p end : ℕ) → H + least ≤ p → Passed (from_table a H p end) r → (r.H ≡ H) × (p + 12 ≤ r.E) × AlikeTable a b H p end
  unfolding from_table
  table H p end far (inl (there, (ext, rest))) =
      let (at, room, alike) = patch H _ end (omega arith) rest in (
        at,
        omega arith,
        (
          (λ h. high p 4 (omega arith) (omega arith)),
          (λ h. ((λ k. high (p + 4) 4 (omega arith) (omega arith)), λ k. alike)),
          λ h. absurd
              (h there),
        ),
      )
  table H p end far (inr (none, rest)) =
      let (at, room, alike) = patch H p end far rest in
      (at, room, ((λ h. high p 4 (omega arith) (omega arith)), (λ h. absurd (none h)), λ h. alike))

  -- the header stands where the reading says
  at_table : (H p end : ℕ) → Passed (from_table a H p end) r → r.H ≡ H
  unfolding from_table from_patch from_region from_entries from_modules accepted
  at_table H p end
      (inl (there, (ext, (fits, (region, (marks, (types, (reserved, (places, (clears, (modules, (words, (kinds, e))))))))))))) =
      ap (λ (s : Reading). s.H) e
  at_table H p end (inr (none, (fits, (region, (marks, (types, (reserved, (places, (clears, (modules, (words, (kinds, e)))))))))))) =
      ap (λ (s : Reading). s.H) e

  header : (f size : ℕ) → Passed (from_header a f size) r → (r.H ≡ f + 28) × AlikeHeader a b f size
  unfolding from_header from_edition from_older older_accepted from_component
  header f size (head, (long, inl (old, (legal, e)))) = absurd (omega (arith, kind, ap (λ (s : Reading). s.component) e))
  header f size (head, (long, inr (new, (comp, (legal, rest))))) =
      let later = later_by a (f + 28) head.1.1 new in
      let stands : r.H ≡ f + 28 = at_table (f + 28) _ (f + 24 + size) rest in
      let L : least ≤ le 4 a (f + 28 + 4) = rw stands at same.header_long later.1.0 in
      let (at, room, alike) = table (f + 28) _ (f + 24 + size) (omega arith) rest in (
        at,
        (
          (early (f + 28) 8 (omega arith), early (f + 28 + 11) 1 (omega arith)),
          λ h. (
            early (f + 28 + 24) 4 (omega arith),
            λ k. (
              (λ old. absurd (new old)),
              λ n. (middle (f + 28 + 34) 2 (omega arith) (omega arith), λ l. (rw at at both, λ m. alike)),
            ),
          ),
        ),
      )

-- two images that agree so have one reading but for the base, which is the other's own base word
pub framed : (a b : List ℕ) (least : ℕ) → Later a → Framed a b (reading a) least
    → Holds (legal_base (length b) (le 4 b ((reading a).H + 28))) → reading b ≡ rebased (reading a) (le 4 b ((reading a).H + 28))
framed a b least (e, kind) same legal =
    let r = reading a in
    let g = guaranteed a (e, kind) in
    let ours : Holds (legal_base (length a) (le 4 a (r.H + 28))) = rw g.base_is at g.legal in
    let both = passes (legal_base (length a) (le 4 a (r.H + 28))) ours ∙ sym (passes (legal_base (length b) (le 4 b (r.H + 28))) legal) in
    let f = frame a b (image a b r same.long same.below (header a b r kind least same both) (all_passed a e)) in
    let number : Later b = (ap (λ (s : Reading). s.number) f ∙ e, rw (ap (λ (s : Reading). s.component) f) kind) in
    let at : (reading b).H ≡ r.H = ap (λ (s : Reading). s.H) f in
    let h = guaranteed b number in
    let base : (reading b).base ≡ le 4 b (r.H + 28) = h.base_is ∙ ap (λ (H : ℕ). le 4 b (H + 28)) at in
    let part : Alike b a (r.H + 36) 8 =
    record { same = λ j l. sym (same.within (r.H + 36 + j) (omega arith) (omega arith)) } in
    let c : (reading b).c ≡ r.c =
    h.c_is ∙ ap (λ (H : ℕ). le 4 b (H + 36)) at ∙ le_in part 4 (r.H + 36) (omega arith) (omega arith) ∙ sym g.c_is in
    let z : (reading b).z ≡ r.z =
    h.z_is ∙ ap (λ (H : ℕ). le 4 b (H + 40)) at ∙ le_in part 4 (r.H + 40) (omega arith) (omega arith) ∙ sym g.z_is in
    f ∙ rw (base, c, z)

-- an image that agrees with an accepted one there has the same reading but for the base, which is its own base word
pub frame_below : (a b : List ℕ) → Later a → AlikeBelow a b (reading a)
    → walked a (le 8 a 32) (file_at (reading a)) ≡ walked b (le 8 b 32) (file_at (reading a))
    → Holds (legal_base (length b) (le 4 b ((reading a).H + 28))) → reading b ≡ rebased (reading a) (le 4 b ((reading a).H + 28))
frame_below a b e same modules legal =
    let g = guaranteed a e in
    framed a b 72 e
    (record {
      long = same.long;
      below = same.below;
      within = λ k h l. same.above k h (omega (arith, g));
      above = λ k h l. same.above k (omega arith) l;
      extended = λ six. record { same = λ j l. same.above ((reading a).H + 76 + j) (omega arith) (omega (arith, g)) };
      marks = same.marks;
      header_long = λ h. h;
      modules = modules;
    }) legal

-- ---- edition 1

module _ (a b : List ℕ) (r : Reading) (kind : r.component ≡ 0) (below : (k : ℕ) → k < r.H + 28 → get_or a k 0 ≡ get_or b k 0)
    (both : test (legal_base (length a) (le 4 a (r.H + 28))) ≡ test (legal_base (length b) (le 4 b (r.H + 28)))) where
  -- an edition 2 reading has a component
  some : (H p end : ℕ) → Passed (from_component a H p end) r → 1 ≤ r.component
  unfolding from_component from_table from_patch from_region from_entries from_modules accepted
  some H p end
      (comp, (legal, inl (there, (ext, (fits, (region, (marks, (types, (reserved, (places, (clears, (modules, (words, (kinds, e)))))))))))))) =
      rw e comp.0
  some H p end
      (comp, (legal, inr (none, (fits, (region, (marks, (types, (reserved, (places, (clears, (modules, (words, (kinds, e))))))))))))) =
      rw e comp.0

  older_header : (f size : ℕ) → Passed (from_header a f size) r → (r.H ≡ f + 28) × AlikeHeader a b f size
  unfolding from_header from_edition from_older older_accepted
  older_header f size (head, (long, inr (new, rest))) = absurd (omega (arith, kind, some (f + 28) _ (f + 24 + size) rest))
  older_header f size (head, (long, inl (old, (legal, e)))) =
      let at : r.H ≡ f + 28 = ap (λ (s : Reading). s.H) e in
      let same : (p m : ℕ) → p + m ≤ r.H + 28 → Alike a b p m = λ p m h. record { same = λ j l. below (p + j) (omega arith) } in (
        at,
        (
          (same (f + 28) 8 (omega arith), same (f + 28 + 11) 1 (omega arith)),
          λ h. (
            same (f + 28 + 24) 4 (omega arith),
            λ k. ((λ o. (rw at at both, same (f + 28 + 11) 13 (omega arith))), λ new. absurd (new old)),
          ),
        ),
      )

-- of an edition 1 image no byte from H+32 on is judged: one of its length that agrees below has the same reading, but for c and z, which
-- are given as they stand
pub older_frame : (a b : List ℕ) → (reading a).number ≡ 0 → (reading a).component ≡ 0 → length a ≡ length b
    → ((k : ℕ) → k < (reading a).H + 32 → get_or a k 0 ≡ get_or b k 0)
    → reading b ≡ parted (reading a) (le 4 b ((reading a).H + 36)) (le 4 b ((reading a).H + 40))
older_frame a b e kind long below =
    let r = reading a in
    let word : Alike a b (r.H + 28) 4 = record { same = λ j l. below (r.H + 28 + j) (omega arith) } in
    let base : le 4 a (r.H + 28) ≡ le 4 b (r.H + 28) = le_in word 4 (r.H + 28) (omega arith) (omega arith) in
    let f =
    frame a b
    (image a b r long (λ k h. below k (omega arith))
    (older_header a b r kind (λ k h. below k (omega arith)) (rw (base, long) refl)) (all_passed a e)) in
    let s = shared b (ap (λ (q : Reading). q.number) f ∙ e) in
    let at : (reading b).H ≡ r.H = ap (λ (q : Reading). q.H) f in
    let same : (reading b).base ≡ r.base =
    s.base_is ∙ ap (λ (H : ℕ). le 4 b (H + 28)) at ∙ sym base ∙ sym (shared a e).base_is in
    let c : (reading b).c ≡ le 4 b (r.H + 36) = s.c_is ∙ ap (λ (H : ℕ). le 4 b (H + 36)) at in
    let z : (reading b).z ≡ le 4 b (r.H + 40) = s.z_is ∙ ap (λ (H : ℕ). le 4 b (H + 40)) at in
    f ∙ rw (same, c, z)
