-- Request #109: an image that reads as edition 2 has passed every rule of that edition; what that guarantees, and the frame laws.
-- Assumes nothing.
use Rattle.std.specs.Prelude.{ℕ, ◌+◌, ◌≤◌, ◌<◌, Bool, true, false, cond, List, ◌⊎◌, ◌≡◌, refl, length, get_or}
use Rattle.std.proofs.Common.{inl, inr, sym, ap, ◌∙◌, arith}
use Rattle.std.proofs.Math.Decide.{ℕ_discrete}
use Rattle.facts.specs.Fact.{Holds, test}
use Rattle.facts.specs.FactLaws.{passes, fails}
use Rattle.facts.specs.RulesLaws.{by_test}
use Rattle.words.specs.Le.{le}
use Rattle.header.specs.Base.{legal_base}
use Rattle.answers.specs.declared.Reading.{Reading}
use Rattle.inside_walk.specs.Whole.{walked}
use Rattle.reading_rules.specs.Reading.{refusal, rebased, file_at, edition1, reading, reading2, Read2}
use Rattle.reading_rules.specs.Guarantee as one
use Rattle.reading_rules.specs.Guarantee.{Guaranteed, Later}
use Rattle.reading_rules.specs.FrameBelow as one-frame
use Rattle.reading_rules.specs.FrameBelow.{AlikeBelow, Framed}
use Rattle.reading_rules.specs.FrameBut as one-but
use Rattle.reading_rules.specs.FrameBut.{AlikeBut}

-- ---- the two readings

module _ (xs : List ℕ) where
  -- an edition 1 image is refused with 28
  pub older_28 : Holds (edition1 (reading xs)) → reading2 xs ≡ refusal 28 0
  unfolding reading2
  older_28 h = rw (passes (edition1 (reading xs)) h)

  -- any other has one reading
  pub other_same : (Holds (edition1 (reading xs)) → ⊥) → reading2 xs ≡ reading xs
  unfolding reading2
  other_same h = rw (fails (edition1 (reading xs)) h)

  pub refused_same : ((reading xs).number ≡ 0 → ⊥) → reading2 xs ≡ reading xs
  refused_same h = other_same (λ old. h old.0)

  pub later_same : Later xs → reading2 xs ≡ reading xs
  later_same (ok, kind) = other_same (λ old. omega (arith, old.1))

  -- who reads as edition 2 has passed that edition's rules
  pub later_of : Read2 xs → Later xs
  later_of e =
      elim (ℕ_discrete (reading xs).number 0) [
        | no bad ↦ absurd (bad (ap (λ (r : Reading). r.number) (sym (refused_same bad)) ∙ e))
        | yes ok ↦ elim (ℕ_discrete (reading xs).component 0) [
          | yes none ↦ let z : ◌≡◌ {A = ℕ} 28 0 = ap (λ (r : Reading). r.number) (sym (older_28 (ok, none))) ∙ e in absurd (omega arith)
          | no some ↦ (ok, omega (arith, some))
        ]
      ]

  pub same_reading : Read2 xs → reading2 xs ≡ reading xs
  same_reading e = later_same (later_of e)

  pub read2_of : Later xs → Read2 xs
  read2_of h = ap (λ (r : Reading). r.number) (later_same h) ∙ h.0

  -- and so for a reading that is known
  pub read2_as : (r : Reading) → reading xs ≡ r → r.number ≡ 0 → 1 ≤ r.component → reading2 xs ≡ r
  read2_as r e ok kind = later_same (ap (λ (q : Reading). q.number) e ∙ ok, rw e kind) ∙ e

  pub guaranteed : Read2 xs → Guaranteed xs (reading2 xs)
  guaranteed e = rw (same_reading e) (one.guaranteed xs (later_of e))

-- ---- the frame laws

-- an image whose reading is such an image's but for the base reads as edition 2 too
rebased_later : (a b : List ℕ) (w : ℕ) → Later a → reading b ≡ rebased (reading a) w → reading2 b ≡ reading b
rebased_later a b w (ok, kind) e =
    later_same b (ap (λ (r : Reading). r.number) e ∙ ok, rw (ap (λ (r : Reading). r.component) e) kind)

module _ (a b : List ℕ) (e : Read2 a) where
  pub framed : (least : ℕ) → Framed a b (reading2 a) least → Holds (legal_base (length b) (le 4 b ((reading2 a).H + 28)))
      → reading2 b ≡ rebased (reading2 a) (le 4 b ((reading2 a).H + 28))
  framed least =
      rw (same_reading a e)
      (λ same legal. let f = one-frame.framed a b least (later_of a e) same legal in rebased_later a b _ (later_of a e) f ∙ f)

  pub frame_below : AlikeBelow a b (reading2 a)
      → walked a (le 8 a 32) (file_at (reading2 a)) ≡ walked b (le 8 b 32) (file_at (reading2 a))
      → Holds (legal_base (length b) (le 4 b ((reading2 a).H + 28))) → reading2 b ≡ rebased (reading2 a) (le 4 b ((reading2 a).H + 28))
  frame_below =
      rw (same_reading a e)
      (λ same modules legal.
      let f = one-frame.frame_below a b (later_of a e) same modules legal in rebased_later a b _ (later_of a e) f ∙ f)

  pub frame_but : AlikeBut a b (reading2 a) → Holds (legal_base (length b) (le 4 b ((reading2 a).H + 28)))
      → reading2 b ≡ rebased (reading2 a) (le 4 b ((reading2 a).H + 28))
  frame_but =
      rw (same_reading a e)
      (λ but legal. let f = one-but.frame_but a b (later_of a e) but legal in rebased_later a b _ (later_of a e) f ∙ f)
