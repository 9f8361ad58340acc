-- What releases one after another leave, byte by byte; and a sheet that sets the same in one.
-- Assumes nothing.
use Prim.Native.Nat.{ℕ, zero, suc, ◌+◌, ◌-◌, ◌≤◌, ◌<◌}
use mathlib.Core.List.{List, [], ◌∷◌}
use Rattle.std.proofs.Common.{inl, inr, ◌∙◌}
use Rattle.std.specs.Prelude.{◌≡◌, length}
use Rattle.std.proofs.Math.Path.{refl, sym, ap}
use native.Mathlib.Omega.{arith}
use Rattle.std.proofs.Math.Decide.{dec_lt, ℕ_discrete}
use Rattle.std.proofs.Math.ListN.{get_or}
use Rattle.std.proofs.Math.Seq.{ext_get_or}
use Rattle.facts.specs.Fact.{Holds}
use Rattle.words.specs.Le.{Bytes}
use Rattle.answers.specs.declared.Identity.{Identity}
use Rattle.answers.specs.declared.Reading.{Reading}
use Rattle.answers.specs.declared.Moved.{Moved}
use Rattle.reading_rules.specs.Reading.{reading2}
use Rattle.reading_rules.specs.Edition.{guaranteed}
use Rattle.sheet.specs.Sheet.{sheet_identity, count, offset, size, sheet_fits, same_identity, field_fits}
use Rattle.sheet.specs.ByteAt.{covers, byte_at, laid}
use Rattle.sheet.specs.ByteAtLaws.{byte_some, byte_one}
use Rattle.sheet_bodies.specs.Set.{set_image, Fits}
use Rattle.sheet_bodies.specs.SetLaws.{set_laid}
use Rattle.owners.specs.Owners.{owned, fields_owned}
use Rattle.move_image.specs.Moving.{moved_image}
use Rattle.release_steps.specs.MoveStep.{length_after, moved_reads}
use Rattle.release_steps.specs.SetStep.{kept_outside, length_after_set}
use Rattle.release_steps.specs.TwoSteps.{fits_moved}
use Rattle.release.specs.Release.{releasing, released_image}
use Rattle.release.specs.Releasable.{Releasable}
use Rattle.release.specs.ReleaseLaws.{release_shows, release_accepted, release_goes}
use Rattle.release_laws.specs.Theorems.{released_fits, moved_then_set, released_reads, bytes_released, length_released, present_sets}
use Rattle.fold_cells.specs.SetAt.{over, set_from, set_at}
use Rattle.fold_release.specs.Each.{released_each, EachAccepted}

abbrev pub AllBytes : List (List ℕ) → Type 0
AllBytes [] = 1 ≤ 1
AllBytes (s ∷ ss) = Bytes s × AllBytes ss

pub laid_over : (new old v : ℕ) → laid new (laid old v) ≡ laid (over new old) v
laid_over zero old v = refl
laid_over (suc b) old v = refl

laid_none : (new v : ℕ) → laid new v ≡ laid (over new 0) v
laid_none zero v = refl
laid_none (suc b) v = refl

-- a sheet that fits, set: the bytes of the region, and those before it
module _ (ys s : List ℕ) (fits : Fits ys s) (c : ℕ) (at : (reading2 ys).c ≡ c) where
  set_region : (k : ℕ) → get_or (set_image ys s) (c + k) 0 ≡ laid (byte_at s k) (get_or ys (c + k) 0)
  unfolding set_image
  set_region k = rw (sym at) (set_laid ys (reading2 ys) s (guaranteed ys fits.read) fits.sound k)

  set_before : (k : ℕ) → k < c → get_or (set_image ys s) k 0 ≡ get_or ys k 0
  set_before k h = kept_outside ys s fits k (inl (omega (arith, at)))

module _ (base : ℕ) (o : List ℕ) (owner c z : ℕ) where
  -- an image of this region
  record Regional (ys : List ℕ) : Type 0 where
    bytes : Bytes ys
    at : (reading2 ys).c ≡ c
    long : (reading2 ys).z ≡ z

  module _ (ys s : List ℕ) (w : Regional ys) (bs : Bytes s) (ok : (releasing ys s base o owner).number ≡ 0) where
    reads_on : Regional (released_image ys s base o owner) × ((reading2 (released_image ys s base o owner)).base ≡ base)
    reads_on =
        let e = released_reads ys s base o owner ok w.bytes bs in (
          record {
            bytes = bytes_released ys s base o owner ok w.bytes bs;
            at = ap (λ (r : Reading). r.c) e ∙ w.at;
            long = ap (λ (r : Reading). r.z) e ∙ w.long;
          },
          ap (λ (r : Reading). r.base) e,
        )

    -- at the present base
    module _ (home : (reading2 ys).base ≡ base) where
      sets : released_image ys s base o owner ≡ set_image ys s
      sets = present_sets ys s base o owner ok w.bytes bs (sym home)

      step_byte : (k old v : ℕ) → get_or ys (c + k) 0 ≡ laid old v
          → get_or (released_image ys s base o owner) (c + k) 0 ≡ laid (over (byte_at s k) old) v
      step_byte k old v e =
          rw sets (set_region ys s (released_fits ys s base o owner ok) c w.at k) ∙ ap (laid (byte_at s k)) e ∙ laid_over (byte_at s k) old v

      step_low : (k : ℕ) → k < c → get_or (released_image ys s base o owner) k 0 ≡ get_or ys k 0
      step_low k h = rw sets (set_before ys s (released_fits ys s base o owner ok) c w.at k h)

  each_byte : (ss : List (List ℕ)) (ys : List ℕ) → Regional ys → (reading2 ys).base ≡ base → AllBytes ss → EachAccepted ys ss base o owner
      → (k old v : ℕ) → get_or ys (c + k) 0 ≡ laid old v
      → get_or (released_each ys ss base o owner) (c + k) 0 ≡ laid (set_from old ss k) v
  unfolding released_each set_from
  each_byte [] ys w home b ok k old v e = e
  each_byte (s ∷ ss) ys w home b ok k old v e =
      let on = reads_on ys s w b.0 ok.0 in
      each_byte ss (released_image ys s base o owner) on.0 on.1 b.1 ok.1 k (over (byte_at s k) old) v
      (step_byte ys s w b.0 ok.0 home k old v e)

  each_low : (ss : List (List ℕ)) (ys : List ℕ) → Regional ys → (reading2 ys).base ≡ base → AllBytes ss → EachAccepted ys ss base o owner
      → (k : ℕ) → k < c → get_or (released_each ys ss base o owner) k 0 ≡ get_or ys k 0
  unfolding released_each
  each_low [] ys w home b ok k h = refl
  each_low (s ∷ ss) ys w home b ok k h =
      let on = reads_on ys s w b.0 ok.0 in
      each_low ss (released_image ys s base o owner) on.0 on.1 b.1 ok.1 k h
      ∙ step_low ys s w b.0 ok.0 home k h

  each_long : (ss : List (List ℕ)) (ys : List ℕ) → Regional ys → AllBytes ss → EachAccepted ys ss base o owner
      → length (released_each ys ss base o owner) ≡ length ys
  unfolding released_each
  each_long [] ys w b ok = refl
  each_long (s ∷ ss) ys w b ok =
      each_long ss (released_image ys s base o owner) (reads_on ys s w b.0 ok.0).0 b.1 ok.1
      ∙ length_released ys s base o owner ok.0 w.bytes b.0

  -- a position that such a release may set
  abbrev Own : ℕ → Type 0
  Own k = (32 ≤ k) × (k < z) × Holds (owned o owner k)

  own_of : (ys s : List ℕ) → (reading2 ys).z ≡ z → Releasable ys s base o owner → (k : ℕ) → (byte_at s k ≡ 0 → ⊥) → Own k
  own_of ys s long takes k some =
      let (i, h, reach) = byte_some s k some in
      let f = takes.fits.sound.fields i h in
      let e : offset s i + (k - offset s i) ≡ k = omega (arith, reach.0) in
      (omega (arith, reach.0, f.0), omega (arith, reach.1, f.1, long), rw e at (takes.own i h (k - offset s i) (omega (arith, reach))))

  each_own : (ss : List (List ℕ)) (ys : List ℕ) → Regional ys → AllBytes ss → EachAccepted ys ss base o owner
      → (k old : ℕ) → ((old ≡ 0 → ⊥) → Own k) → (set_from old ss k ≡ 0 → ⊥) → Own k
  unfolding set_from
  each_own [] ys w b ok k old mine some = mine some
  each_own (s ∷ ss) ys w b ok k old mine some =
      each_own ss (released_image ys s base o owner) (reads_on ys s w b.0 ok.0).0 b.1 ok.1 k (over (byte_at s k) old)
      (λ n.
      elim (ℕ_discrete (byte_at s k) 0) [
        | yes e ↦ mine (rw e at n)
        | no e ↦ own_of ys s w.long (release_shows ys s base o owner ok.0) k e
      ])
      some

-- a sheet t of the same identity that sets what the sheets s, ss set
module _ (xs : List ℕ) (bx : Bytes xs) (base : ℕ) (o : List ℕ) (owner : ℕ) (s : List ℕ) (ss : List (List ℕ)) (b : AllBytes (s ∷ ss))
    (ok : EachAccepted xs (s ∷ ss) base o owner) (t : List ℕ) (bt : Bytes t) (fits : Holds (sheet_fits t))
    (names : sheet_identity t ≡ sheet_identity s) (sets : (k : ℕ) → byte_at t k ≡ set_at (s ∷ ss) k) where
  abbrev c : ℕ
  c = (reading2 xs).c

  abbrev z : ℕ
  z = (reading2 xs).z

  here : Regional base o owner c z xs
  here = record { bytes = bx; at = refl; long = refl }

  first : Releasable xs s base o owner
  first = release_shows xs s base o owner ok.0

  own : (k : ℕ) → (byte_at t k ≡ 0 → ⊥) → Own base o owner c z k
  unfolding set_at
  own k some = each_own base o owner c z (s ∷ ss) xs here b ok k 0 (λ n. absurd (n refl)) (λ e. some (sets k ∙ e))

  own_entry : (i j : ℕ) → i < count t → j < size t i → Own base o owner c z (offset t i + j)
  own_entry i j h l =
      let reach : Holds (covers t i (offset t i + j)) = (omega arith, omega arith) in
      own (offset t i + j) (λ e. let q = sym (byte_one t fits.1 i (offset t i + j) reach h) ∙ e in absurd (omega arith))

  field : (i : ℕ) → i < count t → Holds (field_fits t z i)
  field i h =
      let some : 1 ≤ size t i = (fits.1.0 i h).0 in
      let low = own_entry i 0 h some in
      let high = own_entry i (size t i - 1) h (omega arith) in
      (omega (arith, low.0), omega (arith, high.1))

  named : Holds (same_identity (sheet_identity t) (reading2 xs).identity)
  named =
      let n = first.fits.names in (
        ap (λ (i : Identity). i.image) names ∙ n.0,
        (ap (λ (i : Identity). i.revision) names ∙ n.1.0, ap (λ (i : Identity). i.extended) names ∙ n.1.1),
      )

  -- is accepted itself
  pub takes : Releasable xs t base o owner
  takes =
      record {
        fits = record {
          read = first.fits.read;
          sound = record { contents = fits.0; bodies = fits.1; fields = field };
          names = named;
        };
        good = first.good;
        own = λ i h j l. (own_entry i j h l).2;
        legal = first.legal;
      }

  pub goes : (releasing xs t base o owner).number ≡ 0
  goes = release_goes xs t base o owner takes

  -- with the answer that the first of them has
  pub answers_same : releasing xs t base o owner ≡ releasing xs s base o owner
  answers_same = release_accepted xs t base o owner takes ∙ sym (release_accepted xs s base o owner first)

  abbrev ms : List ℕ
  ms = moved_image xs base

  moved_c : (reading2 ms).c ≡ c
  moved_c = ap (λ (r : Reading). r.c) (moved_reads xs bx first.fits.read base first.legal)

  one : released_image xs t base o owner ≡ set_image ms t
  one = moved_then_set xs t base o owner goes bx bt

  two : released_image xs s base o owner ≡ set_image ms s
  two = moved_then_set xs s base o owner ok.0 bx b.0

  fits_one : Fits ms t
  fits_one = fits_moved xs t base bx takes.fits first.legal

  fits_two : Fits ms s
  fits_two = fits_moved xs s base bx first.fits first.legal

  abbrev ys : List ℕ
  ys = released_image xs s base o owner

  after : Regional base o owner c z ys × ((reading2 ys).base ≡ base)
  after = reads_on base o owner c z xs s here b.0 ok.0

  abbrev each : List ℕ
  each = released_each ys ss base o owner

  same_low : (k : ℕ) → k < c → get_or (released_image xs t base o owner) k 0 ≡ get_or each k 0
  same_low k h =
      let left : get_or (released_image xs t base o owner) k 0 ≡ get_or ms k 0 = rw one (set_before ms t fits_one c moved_c k h) in
      let right : get_or ys k 0 ≡ get_or ms k 0 = rw two (set_before ms s fits_two c moved_c k h) in
      left ∙ sym (each_low base o owner c z ss ys after.0 after.1 b.1 ok.1 k h ∙ right)

  same_high : (k : ℕ) → get_or (released_image xs t base o owner) (c + k) 0 ≡ get_or each (c + k) 0
  unfolding set_at set_from
  same_high k =
      let v : ℕ = get_or ms (c + k) 0 in
      let start : get_or ys (c + k) 0 ≡ laid (over (byte_at s k) 0) v =
      rw two (set_region ms s fits_two c moved_c k) ∙ laid_none (byte_at s k) v in
      rw one (set_region ms t fits_one c moved_c k) ∙ ap (λ (b : ℕ). laid b v) (sets k)
      ∙ sym (each_byte base o owner c z ss ys after.0 after.1 b.1 ok.1 k (over (byte_at s k) 0) v start)

  -- and makes the same image
  pub makes : released_image xs t base o owner ≡ released_each xs (s ∷ ss) base o owner
  unfolding released_each
  makes =
      ext_get_or 0 (released_image xs t base o owner) each
      (length_released xs t base o owner goes bx bt
      ∙ sym (each_long base o owner c z ss ys after.0 b.1 ok.1 ∙ length_released xs s base o owner ok.0 bx b.0))
      (λ k h.
      elim (dec_lt k c) [
        | yes l ↦ same_low k l
        | no l ↦ let e : c + (k - c) ≡ k = omega arith in rw e at (same_high (k - c))
      ])
