-- Which bytes the files and sections are read from: their headers, and the free end.
-- Assumes nothing.
use Prim.Native.Nat.{ℕ, zero, suc, ◌+◌, ◌-◌, ◌<◌}
use Rattle.std.specs.Prelude.{Bool, List, [], ◌∷◌, ◌++◌, ◌≡◌, get_or}
use Rattle.std.proofs.Math.Bool.{true, false}
use Rattle.std.proofs.Math.Path.{refl, sym}
use Rattle.std.proofs.Common.{◌∙◌, arith}
use Rattle.std.proofs.Math.Decide.{dec_lt}
use Rattle.words.specs.Round.{round8, round4}
use Rattle.facts.specs.Fact.{Holds, Says, test}
use Rattle.facts.specs.FactLaws.{says}
use Rattle.words.specs.Le.{le, Alike}
use Rattle.words.specs.LeLaws.{le_in, alike_in}
use Rattle.volume.specs.Volume.{file_sum}
use Rattle.volume.specs.VolumeLaws.{sum_bytes_lem}
use Rattle.inside_files.specs.declared.Part.{Part}
use Rattle.inside_files.specs.declared.Place.{Place}
use Rattle.inside_files.specs.Parts.{header, broken, section, free, file_fits, section_fits, broken_part, header_part, section_part, part_number}
use Rattle.inside_files.specs.Parts.{sections_from, sections_at, files_from, first_at, first_place, ahead}
use Rattle.inside_files.specs.PartsLaws.{sections_none, sections_end, sections_broken, sections_next}
use Rattle.inside_files.specs.PartsLaws.{end_of, sections_of, files_none, files_end, files_free, files_broken, files_next}
use Rattle.inside_files.specs.PartsEach.{Each, each_fork}

-- it isn't broken, and a and b agree on the bytes of it that are looked at
pub record Seen (a b : List ℕ) (p : Part) : Type 0 where
  pub whole : part_number p.kind ≡ broken_part → ⊥
  pub header : part_number p.kind ≡ header_part → Alike a b p.at p.len
  pub section : part_number p.kind ≡ section_part → Alike a b p.at 4

-- a number of one byte
byte : (xs : List ℕ) (at : ℕ) → le 1 xs at ≡ get_or xs at 0
unfolding le
byte xs at = let e : at + 0 ≡ at = omega arith in rw e (omega arith)

module _ (a b : List ℕ) where
  pub first_cong : (f : ℕ) → Alike a b (f + 18) 5 → Alike a b (f + 24) 3 → first_place a f ≡ first_place b f
  unfolding first_place first_at
  first_cong f high size =
      rw (
        le_in high 3 (f + 20) (omega arith) (omega arith),
        le_in high 1 (f + 18) (omega arith) (omega arith),
        le_in size 3 (f + 24) (omega arith) (omega arith),
      )

  sections_cong : (end n p : ℕ) → Each (Seen a b) (sections_from a end n p) → sections_from a end n p ≡ sections_from b end n p
  unfolding Each
  sections_cong end zero p seen = sections_none a end p ∙ sym (sections_none b end p)
  sections_cong end (suc n) p seen =
      elim (dec_lt p end) [
        | no h ↦ sections_end a end (suc n) p (omega arith) ∙ sym (sections_end b end (suc n) p (omega arith))
        | yes h ↦ go h (test (section_fits a end p)) (says (section_fits a end p)) (sections_cong end n (round4 (p + le 3 a p)))
      ]
    where
      go : p < end → (t : Bool) → Says t (Holds (section_fits a end p))
          → (Each (Seen a b) (sections_from a end n (round4 (p + le 3 a p)))
          → sections_from a end n (round4 (p + le 3 a p)) ≡ sections_from b end n (round4 (p + le 3 a p)))
          → sections_from a end (suc n) p ≡ sections_from b end (suc n) p
      go h false bad rest =
          let seen' : Each (Seen a b) (broken p ∷ []) = rw (sections_broken a end n p h bad) at seen in
          absurd (seen'.0.whole refl)
      go h true ok rest =
          let e = sections_next a end n p h ok in
          let seen' : Each (Seen a b) (section p (le 3 a p) (le 1 a (p + 3)) ∷ sections_from a end n (round4 (p + le 3 a p))) =
          rw e at seen in
          let same : Alike a b p 4 = seen'.0.section refl in
          let size : le 3 a p ≡ le 3 b p = le_in same 3 p (omega arith) (omega arith) in
          let sort : le 1 a (p + 3) ≡ le 1 b (p + 3) = le_in same 1 (p + 3) (omega arith) (omega arith) in
          let ok' : Holds (section_fits b end p) = rw size at ok in
          e ∙ rw (rest seen'.1) (sym (rw (← size, ← sort) at (sections_next b end n p h ok')))

  sum_cong : (f : ℕ) → Alike a b f 24 → file_sum a f ≡ file_sum b f
  unfolding file_sum
  sum_cong f same =
      rw (
        sum_bytes_lem a b f 17 24 (omega arith) same,
        sum_bytes_lem a b (f + 18) 5 6 (omega arith) (alike_in same (f + 18) 6 (omega arith) (omega arith)),
      )

  at_cong : (f : ℕ) → Alike a b f 24 → sections_at a f ≡ sections_at b f
  unfolding sections_at
  at_cong f same =
      rw (le_in same 1 (f + 18) (omega arith) (omega arith), le_in same 3 (f + 20) (omega arith) (omega arith))

  files_cong : (v n f : ℕ) → Each (Seen a b) (files_from a v n f) → files_from a v n f ≡ files_from b v n f
  unfolding Each
  files_cong v zero f seen = files_none a v f ∙ sym (files_none b v f)
  files_cong v (suc n) f seen =
      elim (dec_lt f v) [
        | no h ↦ files_end a v (suc n) f (omega arith) ∙ sym (files_end b v (suc n) f (omega arith))
        | yes h ↦ go h (test (free a v f)) (says (free a v f)) (test (file_fits a v f)) (says (file_fits a v f))
            (files_cong v n (round8 (end_of a v f)))
      ]
    where
      go : f < v → (s : Bool) → Says s (Holds (free a v f)) → (t : Bool) → Says t (Holds (file_fits a v f))
          → (Each (Seen a b) (files_from a v n (round8 (end_of a v f)))
          → files_from a v n (round8 (end_of a v f)) ≡ files_from b v n (round8 (end_of a v f)))
          → files_from a v (suc n) f ≡ files_from b v (suc n) f
      go h true e t ok rest =
          let l = files_free a v n f h e in
          let seen' : Each (Seen a b) (header f (v - f) ∷ []) = rw l at seen in
          l ∙ sym (files_free b v n f h (λ i k. sym ((seen'.0.header refl).same i k) ∙ e i k))
      go h false e false bad rest =
          let seen' : Each (Seen a b) (broken f ∷ []) = rw (files_broken a v n f h e bad) at seen in
          absurd (seen'.0.whole refl)
      go h false e true ok rest =
          let l = files_next a v n f h e ok in
          let seen' : Each (Seen a b) (header f 24 ∷ (sections_of a v f ++ files_from a v n (round8 (end_of a v f)))) = rw l at seen in
          let same : Alike a b f 24 = seen'.0.header refl in
          let (inner, outer) = each_fork (Seen a b) (sections_of a v f) (files_from a v n (round8 (end_of a v f))) seen'.1 in
          let size : le 3 a (f + 20) ≡ le 3 b (f + 20) = le_in same 3 (f + 20) (omega arith) (omega arith) in
          let large : le 1 a (f + 19) ≡ le 1 b (f + 19) = le_in same 1 (f + 19) (omega arith) (omega arith) in
          let sum : file_sum a f ≡ file_sum b f = sum_cong f same in
          let at : sections_at a f ≡ sections_at b f = at_cong f same in
          let ok' : Holds (file_fits b v f) = rw (large, sum, size) at ok in
          let used : Holds (free b v f) → ⊥ = λ z. omega (arith, z 19 (omega (arith, ok.0)), byte b (f + 19), ok.1.0) in
          let next = files_next b v n f h used ok' in
          l ∙ rw (
            sections_cong (end_of a v f) (end_of a v f - sections_at a f) (sections_at a f) inner,
            rest outer,
          ) (sym (rw (← size, ← at) at next))

  -- the same from a place on
  pub ahead_cong : (v : ℕ) (c : Place) → Each (Seen a b) (ahead a v c) → ahead a v c ≡ ahead b v c
  unfolding ahead
  ahead_cong v c seen =
      let l = sections_from a c.end (c.end - c.at) c.at in
      let (inner, outer) = each_fork (Seen a b) l (files_from a v (v - c.file) c.file) seen in
      rw (sections_cong c.end (c.end - c.at) c.at inner, files_cong v (v - c.file) c.file outer)
