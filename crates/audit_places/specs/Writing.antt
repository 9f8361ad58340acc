-- How numbers are written in a list of places.
-- Assumes nothing.
use Rattle.std.specs.Prelude.{◌≡◌, refl, ℕ, ◌+◌, ◌*◌, ◌/◌, ◌≤◌, List, [], ◌∷◌, length, set}
use Rattle.std.proofs.Common.{add-one, length-set}
use native.Mathlib.Omega.{arith}
use Rattle.std.proofs.lemmas.List.Edits.{sets}
use Rattle.words.specs.Put.{put, put_all}
use Rattle.words.specs.PutLaws.{length_put}

-- one number at a place, and those of a list from a place on
pub record Writing (A : Type 0) : Type 0 where
  pub one : List A → ℕ → ℕ → List A
  pub all : List A → ℕ → List ℕ → List A
  pub more : (l : List A) (i v : ℕ) (vs : List ℕ) → all l i (v ∷ vs) ≡ all (one l i v) (i + 1) vs
  pub long : (l : List A) (i v : ℕ) → length (one l i v) ≡ length l
  pub none : (l : List A) (i : ℕ) → all l i [] ≡ l

-- a place is an element, or four bytes
pub more_words : (l : List ℕ) (i v : ℕ) (vs : List ℕ) → sets l i (v ∷ vs) ≡ sets (set l i v) (i + 1) vs
more_words l i v vs = rw add-one

pub more_bytes : (l : List ℕ) (i v : ℕ) (vs : List ℕ) → put_all 4 l (4 * i) (v ∷ vs) ≡ put_all 4 (put 4 l (4 * i) v) (4 * (i + 1)) vs
unfolding put_all
more_bytes l i v vs = let e : 4 * (i + 1) ≡ 4 * i + 4 = omega arith in rw e

pub none_bytes : (l : List ℕ) (i : ℕ) → put_all 4 l (4 * i) [] ≡ l
unfolding put_all
none_bytes l i = refl

abbrev pub in_words : Writing ℕ
in_words = record { one = set; all = sets; more = more_words; long = length-set; none = λ l i. refl }

abbrev pub in_bytes : Writing ℕ
in_bytes =
    record {
      one = λ l i v. put 4 l (4 * i) v;
      all = λ l i vs. put_all 4 l (4 * i) vs;
      more = more_bytes;
      long = λ l i v. length_put 4 l (4 * i) v;
      none = none_bytes;
    }

-- which are no more than elements
pub few_words : (n : ℕ) → n ≤ n
few_words n = omega arith

pub few_bytes : (n : ℕ) → n / 4 ≤ n
few_bytes n = omega arith
