-- What holds of each part of a walk, from any place on.
-- Assumes nothing.
use Prim.{Unit, tt}
use Prim.Native.Nat.{ℕ, zero, suc, ◌+◌, ◌-◌, ◌≤◌, ◌<◌}
use Rattle.std.specs.Prelude.{List, [], ◌∷◌, ◌++◌, ◌⊎◌, ◌≡◌, refl, ltb}
use Rattle.std.proofs.Math.Logic.{inl, inr}
use Rattle.std.proofs.Common.{arith}
use borrow.Author.Tests.{ltb-true}
use Rattle.std.proofs.Math.Decide.{dec_lt}
use Rattle.words.specs.Round.{round8, round4}
use Rattle.facts.specs.RulesLaws.{by_cond, by_test}
use Rattle.words.specs.Le.{le}
use Rattle.inside_files.specs.declared.Part.{Part}
use Rattle.inside_files.specs.declared.Place.{Place}
use Rattle.inside_files.specs.Parts.{free, file_fits, section_fits, broken_part, header_part, section_part, part_number}
use Rattle.inside_files.specs.Parts.{sections_from, sections_at, files_from, ahead}
use Rattle.inside_files.specs.PartsLaws.{sections_at_lem, sections_end}

unfoldable pub Each : (Part → Type 0) → List Part → Type 0
Each P [] = Unit {0}
Each P (p ∷ l) = P p × Each P l

pub each_join : (P : Part → Type 0) (l k : List Part) → Each P l → Each P k → Each P (l ++ k)
unfolding Each
each_join P [] k h t = t
each_join P (p ∷ l) k (h, s) t = (h, each_join P l k s t)

pub each_fork : (P : Part → Type 0) (l k : List Part) → Each P (l ++ k) → Each P l × Each P k
unfolding Each
each_fork P [] k h = (tt, h)
each_fork P (p ∷ l) k (h, t) = let (s, r) = each_fork P l k t in ((h, s), r)

-- it starts at n or after; it is a header with some bytes, a section or broken; a header starts below w, a section ends by w
pub record Met (n w : ℕ) (p : Part) : Type 0 where
  pub up : n ≤ p.at
  pub kind : (part_number p.kind ≡ header_part) ⊎ ((part_number p.kind ≡ section_part) ⊎ (part_number p.kind ≡ broken_part))
  pub some : part_number p.kind ≡ header_part → 1 ≤ p.len
  pub under : part_number p.kind ≡ header_part → p.at < w
  pub within : part_number p.kind ≡ section_part → p.at + p.len ≤ w

module _ (xs : List ℕ) (n w : ℕ) where
  sections_met : (end k p : ℕ) → n ≤ p → end ≤ w → Each (Met n w) (sections_from xs end k p)
  unfolding sections_from Each
  sections_met end zero p h e = tt
  sections_met end (suc k) p h e =
      by_cond (Each (Met n w)) (ltb p end) _ _
      (λ l. by_test (Each (Met n w)) (section_fits xs end p) _ _
      (λ ok. (
        record { up = h; kind = inr (inl refl); some = λ z. absurd (omega arith); under = λ z. absurd (omega arith); within = λ z. omega (arith, ok.1.1) },
        sections_met end k (round4 (p + le 3 xs p)) (omega arith) e,
      ))
      (λ bad. (record { up = h; kind = inr (inr refl); some = λ z. absurd (omega arith); under = λ z. absurd (omega arith); within = λ z. absurd (omega arith) }, tt)))
      (λ l. tt)

  files_met : (v k f : ℕ) → n ≤ f → v ≤ w → Each (Met n w) (files_from xs v k f)
  unfolding files_from Each
  files_met v zero f h e = tt
  files_met v (suc k) f h e =
      by_cond (Each (Met n w)) (ltb f v) _ _
      (λ l. by_test (Each (Met n w)) (free xs v f) _ _
      (λ o. (record { up = h; kind = inl refl; some = λ z. omega (arith, ltb-true f v l); under = λ z. omega (arith, ltb-true f v l); within = λ z. absurd (omega arith) }, tt))
      (λ o. by_test (Each (Met n w)) (file_fits xs v f) _ _
      (λ ok. (
        record { up = h; kind = inl refl; some = λ z. omega arith; under = λ z. omega (arith, ltb-true f v l); within = λ z. absurd (omega arith) },
        each_join (Met n w) (sections_from xs (f + le 3 xs (f + 20)) (f + le 3 xs (f + 20) - sections_at xs f) (sections_at xs f))
            (files_from xs v k (round8 (f + le 3 xs (f + 20))))
            (sections_met (f + le 3 xs (f + 20)) (f + le 3 xs (f + 20) - sections_at xs f) (sections_at xs f)
            (omega (arith, (sections_at_lem xs f ok.1.1.1.0).0)) (omega (arith, ok.1.1.1.1)))
            (files_met v k (round8 (f + le 3 xs (f + 20))) (omega arith) e),
      ))
      (λ bad. (record { up = h; kind = inr (inr refl); some = λ z. absurd (omega arith); under = λ z. absurd (omega arith); within = λ z. absurd (omega arith) }, tt))))
      (λ l. tt)

  -- where sections are left in the file at hand, they start at n or after
  pub ahead_met : (v : ℕ) (c : Place) → (c.at < c.end → n ≤ c.at) → n ≤ c.file → c.end ≤ w → v ≤ w → Each (Met n w) (ahead xs v c)
  unfolding ahead
  ahead_met v c h f e g =
      each_join (Met n w) (sections_from xs c.end (c.end - c.at) c.at) (files_from xs v (v - c.file) c.file)
      (at_hand (dec_lt c.at c.end)) (files_met v (v - c.file) c.file f g)
    where
      at_hand : Dec (c.at < c.end) → Each (Met n w) (sections_from xs c.end (c.end - c.at) c.at)
      at_hand (yes l) = sections_met c.end (c.end - c.at) c.at (h l) e
      at_hand (no l) = rw (sections_end xs c.end (c.end - c.at) c.at (omega arith)) (unfold Each in tt)
