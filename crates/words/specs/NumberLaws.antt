-- How a number is read in a list that is joined of parts.
-- Assumes nothing.
use Rattle.std.specs.Prelude.{◌≡◌, ℕ, zero, suc, ◌+◌, ◌/◌, ◌%◌, ◌^◌, ◌<◌, ◌≤◌, List, [], ◌∷◌, ◌++◌, length, slice_index_or, refl}
use Rattle.std.proofs.Common.{ap, ◌∙◌, arith, pow-suc, mul_comm, length-append, get_or-append-add}
use Rattle.std.proofs.Math.Arith.{mod-mul}
use Rattle.std.proofs.Math.ListN.{get_or-append}
use Rattle.words.specs.Le.{le, Bytes}
use Rattle.words.specs.LeLaws.{le_cong}
use Rattle.words.specs.Put.{digit}
use Rattle.words.specs.PutLaws.{pos256}
use Rattle.words.specs.Number.{number, zeros}

pub length_number : (k w : ℕ) → length (number k w) ≡ k
unfolding number
length_number zero w = refl
length_number (suc k) w = length-append (number k w) (digit w k ∷ []) ∙ omega (arith, length_number k w)

-- parts that have bytes only make a list of bytes
pub bytes_append : (a b : List ℕ) → Bytes a → Bytes b → Bytes (a ++ b)
unfolding Bytes
bytes_append [] b ba bb k = bb k
bytes_append (x ∷ a) b ba bb zero = ba zero
bytes_append (x ∷ a) b ba bb (suc k) = bytes_append a b (λ j. ba (suc j)) bb k

bytes_one : (x : ℕ) → x < 256 → Bytes (x ∷ [])
unfolding Bytes
bytes_one x h zero = h
bytes_one x h (suc k) = omega arith

-- a number in the first of two parts
pub le_front : (k : ℕ) (a b : List ℕ) (at : ℕ) → at + k ≤ length a → le k (a ++ b) at ≡ le k a at
le_front k a b at h = le_cong k (a ++ b) a at (record { same = λ j l. get_or-append a b 0 (at + j) (omega arith) })

-- and one in the second
pub le_back : (k : ℕ) (a b : List ℕ) (at : ℕ) → le k (a ++ b) (length a + at) ≡ le k b at
unfolding le
le_back zero a b at = refl
le_back (suc k) a b at =
    let e : length a + at + k ≡ length a + (at + k) = omega arith in
    rw (e, get_or-append-add a b (at + k) 0, le_back k a b at)

-- the number is read as it was
pub le_number : (k w : ℕ) → le k (number k w) 0 ≡ w % 256 ^ k
unfolding le number digit
le_number zero w = omega arith
le_number (suc k) w =
    let e : length (number k w) + 0 ≡ k = omega (arith, length_number k w) in
    let z : 0 + k ≡ k = omega arith in
    let last : slice_index_or (number k w ++ (digit w k ∷ [])) k 0 ≡ w / 256 ^ k % 256 =
    rw e at (get_or-append-add (number k w) (digit w k ∷ []) 0 0) in
    rw (
      le_front k (number k w) (digit w k ∷ []) 0 (omega (arith, length_number k w)),
      le_number k w,
      z,
      last,
      pow-suc 256 k,
      mul_comm
          (256 ^ k) 256,
    )
    (omega (arith, mod-mul w {m = 256} {c = 256 ^ k} (omega arith) (pos256 k), mul_comm (w / 256 ^ k % 256) (256 ^ k)))

-- it has bytes only
pub bytes_number : (k w : ℕ) → Bytes (number k w)
unfolding number digit Bytes
bytes_number zero w = λ i. omega arith
bytes_number (suc k) w = bytes_append (number k w) (digit w k ∷ []) (bytes_number k w) (bytes_one (digit w k) (omega arith))

pub length_zeros : (k : ℕ) → length (zeros k) ≡ k
unfolding zeros
length_zeros zero = refl
length_zeros (suc k) = ap suc (length_zeros k)
