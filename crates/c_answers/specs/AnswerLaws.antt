-- What a call gives, by whether its answer has room.
-- Assumes nothing.
use Rattle.std.specs.Prelude.{ℕ, suc, ◌+◌, ◌*◌, ◌≤◌, ◌<◌, List, ◌≡◌, refl, ℤ, pos, negsuc, length, get_or, drop, ◌-◌, ◌^◌, true, false, nat_abs}
use Rattle.std.proofs.Common.{arith, le-leb, drop-cons, ltb-true}
use Rattle.std.proofs.lemmas.Bool.{lt-leb}
use Rattle.std.proofs.Math.Seq.{drop-length}
use Rattle.std.specs.Int.Signed.{lt_z}
use Rattle.facts.specs.Fact.{test}
use Rattle.words.specs.Put.{put, put_all}
use Rattle.c_answers.specs.Answers.{if_room, twos}

module _ {T : Type 0} (k : ℕ) (A : List ℕ) (x y : T) where
  pub roomy : 8 * k ≤ length A → if_room k A x y ≡ x
  unfolding if_room test
  roomy h = rw (le-leb (8 * k) (length A) h)

  pub short : length A < 8 * k → if_room k A x y ≡ y
  unfolding if_room test
  short h = rw (lt-leb (8 * k) (length A) h)

-- a signed number in two's complement: below 0 its distance counted down from 2^64, else the number itself
pub twos_below : (z : ℤ) → lt_z z (pos 0) ≡ true → (1 ≤ nat_abs z) × (twos z ≡ 2 ^ 64 - 1 - (nat_abs z - 1))
unfolding twos
twos_below (pos n) e = absurd (omega (arith, ltb-true n 0 e))
twos_below (negsuc n) e = (omega arith, omega arith)

pub twos_above : (z : ℤ) → lt_z z (pos 0) ≡ false → twos z ≡ nat_abs z
unfolding twos
twos_above (pos n) e = refl
twos_above (negsuc n) e = let z : ◌≡◌ {A = ℕ} 0 1 = cc in absurd (omega arith)

-- ---- fields one after the other

-- one more field is written
pub field_next : (A fields : List ℕ) (i : ℕ) → i < length fields
    → put_all 8 (put 8 A (8 * i) (get_or fields i 0)) (8 * (i + 1)) (drop (i + 1) fields) ≡ put_all 8 A (8 * i) (drop i fields)
unfolding put_all
field_next A fields i h =
    let e : 8 * (i + 1) ≡ 8 * i + 8 = omega arith in
    let f : i + 1 ≡ suc i = omega arith in
    rw (drop-cons fields i 0 h, e, f)

-- none is left
pub fields_end : (A fields : List ℕ) (at i : ℕ) → i ≡ length fields → put_all 8 A at (drop i fields) ≡ A
unfolding put_all
fields_end A fields at i e = rw (e, drop-length fields)
