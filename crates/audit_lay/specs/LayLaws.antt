-- Laying a word byte by byte, or in one go.
-- Assumes nothing.
use Rattle.std.specs.Prelude.{◌≡◌, ℕ, zero, suc, ◌+◌, ◌-◌, ◌/◌, ◌%◌, ◌<◌, ◌≤◌, min, max, List, ◌++◌, length, get_or, take, drop, slice_range, refl}
use Rattle.std.specs.Int.{to_le_bytes, w64}
use Rattle.std.proofs.Common.{sym, ◌∙◌, arith, length-drop, length-take-le, get_or-take, get_or-drop, get_or-append-add}
use Rattle.std.proofs.Math.ListN.{get_or-append}
use Rattle.std.proofs.Math.Decide.{dec_lt}
use borrow.Rule.Slice.PartMut.{put_mid, same_len_mid}
use Rattle.words.specs.Put.{digit, put}
use Rattle.words.specs.PutLaws.{length_put, put_in, put_below, put_above}
use Rattle.items.specs.declared.Item.{Item}
use Rattle.items.specs.Items.{word_kind, kind_number}
use Rattle.audit_lay.specs.Lay.{In, Laid, ItemLaid}

-- ---- the bytes of a word

-- no byte of it lies there
pub laid_off : (from n p m w : ℕ) (l : List ℕ) → ((i : ℕ) → i < n → In p m (from + i) → ⊥) → Laid from n p m w l l
laid_off from n p m w l off = record { same_length = refl; here = λ i h a. absurd (off i h a); other = λ i o. refl }

-- ---- a list with a part of it replaced

in_mid : (a : ℕ) (l bytes rest : List ℕ) (j : ℕ) → a ≤ length l → j < length bytes
    → get_or (take a l ++ (bytes ++ rest)) (a + j) 0 ≡ get_or bytes j 0
in_mid a l bytes rest j fits h =
    let e : length (take a l) ≡ a = length-take-le a l fits in
    rw e at (get_or-append-add (take a l) (bytes ++ rest) j 0) ∙ get_or-append bytes rest 0 j h

below_mid : (a : ℕ) (l rest : List ℕ) (i : ℕ) → i < a → a ≤ length l → get_or (take a l ++ rest) i 0 ≡ get_or l i 0
below_mid a l rest i h fits =
    get_or-append (take a l) rest 0 i (omega (arith, length-take-le a l fits)) ∙ get_or-take a l i 0 h

above_mid : (a k : ℕ) (l bytes : List ℕ) (i : ℕ) → a ≤ length l → length bytes ≡ k → a + k ≤ i
    → get_or (take a l ++ (bytes ++ drop k (drop a l))) i 0 ≡ get_or l i 0
above_mid a k l bytes i fits long h =
    let j = i - a - k in
    let e : length (take a l) + (length bytes + j) ≡ i = omega (arith, length-take-le a l fits) in
    let s : a + (k + j) ≡ i = omega arith in
    rw e at (get_or-append-add (take a l) (bytes ++ drop k (drop a l)) (length bytes + j) 0 ∙ get_or-append-add bytes (drop k (drop a l)) j 0)
    ∙ get_or-drop k (drop a l) j 0 ∙ get_or-drop a l (k + j) 0 ∙ rw s

byte_none : (w : ℕ) → w % 256 ≡ w / 1 % 256
byte_none w = let e : w / 1 ≡ w = omega arith in rw e

-- byte i of the eight
byte_digit : (w i : ℕ) → i < 8 → get_or (to_le_bytes w64 w) i 0 ≡ digit w i
unfolding digit
byte_digit w zero h = byte_none w
byte_digit w (suc zero) h = refl
byte_digit w (suc (suc zero)) h = refl
byte_digit w (suc (suc (suc zero))) h = refl
byte_digit w (suc (suc (suc (suc zero)))) h = refl
byte_digit w (suc (suc (suc (suc (suc zero))))) h = refl
byte_digit w (suc (suc (suc (suc (suc (suc zero)))))) h = refl
byte_digit w (suc (suc (suc (suc (suc (suc (suc zero))))))) h = refl
byte_digit w (suc (suc (suc (suc (suc (suc (suc (suc i)))))))) h = absurd (omega arith)

-- those from position low on and below high, which are all that lie there
module _ (from p m w low high : ℕ) (l bytes : List ℕ) (small : m ≤ 8) (is-low : low ≡ max p from)
    (is-high : high ≡ min (p + m) (from + length l)) (some : low < high)
    (e : bytes ≡ slice_range (to_le_bytes w64 w) (low - p) (high - p)) where
  -- where they stand in the window, and how many they are
  abbrev at : ℕ
  at = low - from

  abbrev k : ℕ
  k = high - from - (low - from)

  count : length bytes ≡ k
  count =
      let eight : length (to_le_bytes w64 w) ≡ 8 = refl in
      let left = length-drop (low - p) (to_le_bytes w64 w) in
      rw e (length-take-le (high - p - (low - p)) (drop (low - p) (to_le_bytes w64 w)) (omega (arith, eight, left)) ∙ omega arith)

  byte_in : (j : ℕ) → j < k → get_or bytes j 0 ≡ digit w (low - p + j)
  byte_in j h =
      let some-j : j < high - p - (low - p) = omega arith in
      rw e
      (get_or-take (high - p - (low - p)) (drop (low - p) (to_le_bytes w64 w)) j 0 some-j
      ∙ get_or-drop (low - p) (to_le_bytes w64 w) j 0 ∙ byte_digit w (low - p + j) (omega arith))

  here_in : (i : ℕ) → i < length l → In p m (from + i) → get_or (put_mid at k l bytes) i 0 ≡ digit w (from + i - p)
  here_in i h (a, b) =
      let s : at + (i - at) ≡ i = omega arith in
      let t : low - p + (i - at) ≡ from + i - p = omega arith in
      let there : get_or (put_mid at k l bytes) (at + (i - at)) 0 ≡ get_or bytes (i - at) 0 =
      in_mid at l bytes (drop k (drop at l)) (i - at) (omega arith) (omega (arith, count)) in
      rw s at (there ∙ rw t at (byte_in (i - at) (omega arith)))

  off_in : (i : ℕ) → (In p m (from + i) → ⊥) → get_or (put_mid at k l bytes) i 0 ≡ get_or l i 0
  off_in i o =
      elim (dec_lt i at) [
        | yes z ↦ below_mid at l (bytes ++ drop k (drop at l)) i z (omega arith)
        | no z ↦
            elim (dec_lt i (high - from)) [
              | yes y ↦ absurd (o (omega arith, omega arith))
              | no y ↦ above_mid at k l bytes i (omega arith) count (omega arith)
            ]
      ]

  pub laid_part : Laid from (length l) p m w l (put_mid at k l bytes)
  laid_part =
      let mid = length-take-le k (drop at l) (omega (arith, length-drop at l)) in
      record { same_length = same_len_mid at k l bytes (count ∙ sym mid); here = here_in; other = off_in }

-- in one go
pub laid_whole : (from p m w : ℕ) (l : List ℕ) → from ≤ p → p - from + m ≤ length l → Laid from (length l) p m w l (put m l (p - from) w)
laid_whole from p m w l h fits =
    record {
      same_length = length_put m l (p - from) w;
      here = λ i g (a, b).
          let s : p - from + (from + i - p) ≡ i = omega arith in
          rw s at (put_in m l (p - from) w (from + i - p) (omega arith) (omega arith));
      other = λ i o.
          elim (dec_lt i (p - from)) [
            | yes b ↦ put_below m l (p - from) w i b
            | no b ↦
                elim (dec_lt (from + i) (p + m)) [
                  | yes d ↦ absurd (o (omega arith, d))
                  | no d ↦ put_above m l (p - from) w i (omega arith)
                ]
          ];
    }

-- ---- an item

pub item_off : (value : ℕ → ℕ → ℕ) (from n : ℕ) (x : Item) (l : List ℕ)
    → ((i : ℕ) → i < n → kind_number x.kind ≡ word_kind → In x.at x.len (from + i) → ⊥) → ItemLaid value from n x l l
item_off value from n x l off = record { same_length = refl; here = λ i h k a. absurd (off i h k a); other = λ i o. refl }

pub item_laid : (value : ℕ → ℕ → ℕ) (from n : ℕ) (x : Item) (w : ℕ) (old new : List ℕ) → kind_number x.kind ≡ word_kind → w ≡ value x.at x.len
    → Laid from n x.at x.len w old new → ItemLaid value from n x old new
item_laid value from n x w old new kind is laid =
    record {
      same_length = laid.same_length;
      here = λ i h k a. laid.here i h a ∙ rw is;
      other = λ i o. laid.other i (λ a. o (kind, a));
    }
