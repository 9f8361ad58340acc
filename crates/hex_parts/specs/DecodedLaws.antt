-- Parts that stand in a text, and the bytes read from them.
-- Assumes nothing.
use Rattle.std.specs.Prelude.{ℕ, zero, suc, ◌+◌, ◌-◌, ◌*◌, ◌/◌, ◌%◌, ◌^◌, ◌≤◌, ◌<◌, Bool, ◌≡◌, length, take, drop}
use Rattle.std.proofs.Math.Bool.{true, false}
use mathlib.Core.List.{List, [], ◌∷◌, ◌++◌}
use Rattle.std.proofs.Math.Path.{refl, ap}
use Rattle.std.proofs.Common.{◌∙◌, length-append, take_all, take-add, drop_at, get_or-take, get_or-drop}
use native.Mathlib.Omega.{arith}
use Rattle.std.proofs.Math.Decide.{dec_lt}
use Rattle.std.proofs.Math.ListN.{get_or}
use Rattle.facts.specs.Fact.{Holds, test}
use Rattle.words.specs.Le.{Bytes}
use Rattle.words.specs.NumberLaws.{bytes_append}
use Rattle.hex_text.specs.Hex.{line, upper_line, data_line, end_line, turns, part, parts, exported}
use Rattle.hex_text.specs.Sizes.{up_to, part_length, chunk, length_chunk}
use Rattle.hex_text.specs.Sizes.{length_parts, part_begins, part_turns, part_stays, length_upper}
use Rattle.hex_text.specs.Splits.{part_of_parts, parts_more}
use Rattle.hex_judge.specs.Stands.{stands, byte_at, bytes_at}
use Rattle.hex_judge.specs.StandsLaws.{stands_split, stands_join, stands_self, line_read, length_bytes, bytes_small}
use Rattle.hex_parts.specs.Decoded.{data_at, chunk_at, decoded, decoded_all}

-- ---- the upper bits

bytes_two : (x y : ℕ) → x < 256 → y < 256 → Bytes (x ∷ y ∷ [])
unfolding Bytes
bytes_two x y h l zero = h
bytes_two x y h l (suc zero) = l
bytes_two x y h l (suc (suc k)) = omega arith

module _ (text : List ℕ) (at a : ℕ) where
  upper_read : a < 2 ^ 32 → Holds (stands text at (upper_line a)) → bytes_at text (at + 9) 2 ≡ a / 16777216 ∷ a / 65536 % 256 ∷ []
  unfolding upper_line
  upper_read small h =
      line_read text at 4 0 (a / 16777216 ∷ a / 65536 % 256 ∷ []) (bytes_two (a / 16777216) (a / 65536 % 256) (omega arith) (omega arith)) h

  pub upper_high : a < 2 ^ 32 → Holds (stands text at (upper_line a)) → byte_at text (at + 9) ≡ a / 16777216
  unfolding bytes_at
  upper_high small h = let e = upper_read small h in ap (λ (l : List ℕ). get_or l 0 0) e

  pub upper_low : a < 2 ^ 32 → Holds (stands text at (upper_line a)) → byte_at text (at + 11) ≡ a / 65536 % 256
  unfolding bytes_at
  upper_low small h =
      let f : at + 9 + 2 ≡ at + 11 = omega arith in
      let e = upper_read small h in
      rw f at (ap (λ (l : List ℕ). get_or l 1 0) e)

  -- any record of that kind with these two bytes is the line
  pub upper_told : byte_at text (at + 9) ≡ a / 16777216 → byte_at text (at + 11) ≡ a / 65536 % 256
      → Holds (stands text at (line 4 0 (bytes_at text (at + 9) 2))) → Holds (stands text at (upper_line a))
  unfolding upper_line bytes_at
  upper_told h l s =
      let f : at + 9 + 2 ≡ at + 11 = omega arith in
      rw (f, h, l) at s

  pub upper_record : a < 2 ^ 32 → Holds (stands text at (upper_line a)) → Holds (stands text at (line 4 0 (bytes_at text (at + 9) 2)))
  unfolding upper_line
  upper_record small h = rw (upper_read small h) h

-- ---- a part

module _ (text : List ℕ) (base i at : ℕ) where
  pub data_turns : test (turns base i) ≡ true → data_at base i at ≡ at + 16 + 9
  unfolding data_at
  data_turns e = rw e

  pub data_stays : test (turns base i) ≡ false → data_at base i at ≡ at + 9
  unfolding data_at
  data_stays e = rw e

  pub part_split : (bs : List ℕ) → test (turns base i) ≡ true → Holds (stands text at (part base i bs))
      → Holds (stands text at (upper_line (base + i))) × Holds (stands text (at + 16) (data_line (base + i) bs))
  part_split bs e h =
      rw (length_upper (base + i)) at
      (stands_split text at (upper_line (base + i)) (data_line (base + i) bs) (rw (part_turns base i bs e) at h))

  pub part_joined : (bs : List ℕ) → test (turns base i) ≡ true → Holds (stands text at (upper_line (base + i)))
      → Holds (stands text (at + 16) (data_line (base + i) bs)) → Holds (stands text at (part base i bs))
  part_joined bs e u d =
      rw (part_turns base i bs e)
      (stands_join text at (upper_line (base + i)) (data_line (base + i) bs) u (rw (length_upper (base + i)) d))

  -- the data of a part that stands there are those that its digits stand for
  pub part_read : (bs : List ℕ) → Bytes bs → Holds (stands text at (part base i bs)) → bytes_at text (data_at base i at) (length bs) ≡ bs
  unfolding data_line
  part_read bs bytes h = go (test (turns base i)) refl
    where
      go : (b : Bool) → test (turns base i) ≡ b → bytes_at text (data_at base i at) (length bs) ≡ bs
      go true e = rw (data_turns e) (line_read text (at + 16) 0 ((base + i) % 65536) bs bytes (part_split bs e h).1)
      go false e = rw (data_stays e) (line_read text at 0 ((base + i) % 65536) bs bytes (rw (part_stays base i bs e) at h))

-- ---- all parts

bytes_chunk : (bytes : List ℕ) (i : ℕ) → Bytes bytes → (d : ℕ) → Bytes (take d (drop i bytes))
unfolding Bytes
bytes_chunk bytes i h d j =
    elim (dec_lt j d) [
      | yes l ↦ rw (get_or-take d (drop i bytes) j 0 l, get_or-drop i bytes j 0) (h (i + j))
      | no l ↦ rw (past d (drop i bytes) j (omega arith)) (omega arith)
    ]
  where
    past : (d : ℕ) (l : List ℕ) (j : ℕ) → d ≤ j → get_or (take d l) j 0 ≡ 0
    past zero l j h = refl
    past (suc d) [] j h = refl
    past (suc d) (x ∷ l) zero h = absurd (omega arith)
    past (suc d) (x ∷ l) (suc j) h = past d l j (omega arith)

-- what stands there where the first m parts of bytes stand
module _ (text : List ℕ) (base : ℕ) (bytes : List ℕ) (m : ℕ) (good : Bytes bytes) (even : base % 16 ≡ 0)
    (all : Holds (stands text 0 (parts base bytes m))) (k : ℕ) (l : k < m) (h : 16 * k < length bytes) where
  pub part_there : Holds (stands text (up_to base (16 * k)) (part base (16 * k) (take 16 (drop (16 * k) bytes))))
  part_there =
      let i = 16 * k in
      let p = part_of_parts base bytes m k l in
      let next = part base i (take 16 (drop i bytes)) in
      let s = (stands_split text 0 (parts base bytes k) (next ++ p.rest) (rw p.is at all)).1 in
      let q : i / 16 ≡ k = omega arith in
      let e : length (parts base bytes k) ≡ up_to base i = rw q at (part_begins base bytes i even (omega arith) h) in
      let z : 0 + length (parts base bytes k) ≡ up_to base i = rw e (omega arith) in
      (stands_split text (up_to base i) next p.rest (rw z at s)).0

  pub chunk_read : chunk_at text base (length bytes) (16 * k) ≡ take 16 (drop (16 * k) bytes)
  unfolding chunk_at
  chunk_read =
      rw (← length_chunk bytes (16 * k))
      (part_read text base (16 * k) (up_to base (16 * k)) (take 16 (drop (16 * k) bytes)) (bytes_chunk bytes (16 * k) good 16) part_there)

  -- its part has the bytes that are read there
  pub part_told : Holds (stands text (up_to base (16 * k)) (part base (16 * k) (chunk_at text base (length bytes) (16 * k))))
  part_told = rw chunk_read part_there

-- the first k parts read
decoded_front : (text : List ℕ) (base : ℕ) (bytes : List ℕ) (m : ℕ) → Bytes bytes → base % 16 ≡ 0 → Holds
    (stands text 0 (parts base bytes m))
    → 16 * m < length bytes + 16 → (k : ℕ) → k ≤ m → decoded text base (length bytes) k ≡ take (16 * k) bytes
unfolding decoded
decoded_front text base bytes m good even all near zero h = refl
decoded_front text base bytes m good even all near (suc k) h =
    let e : 16 * suc k ≡ 16 * k + 16 = omega arith in
    rw (
      decoded_front text base bytes m good even all near k (omega arith),
      chunk_read text base bytes m good even all k (omega arith) (omega arith),
      e,
      take-add (16 * k) 16 bytes,
    )

-- all parts read
pub decoded_is : (text : List ℕ) (base : ℕ) (bytes : List ℕ) → Bytes bytes → base % 16 ≡ 0
    → Holds (stands text 0 (parts base bytes ((length bytes + 15) / 16))) → decoded_all text base (length bytes) ≡ bytes
unfolding decoded_all
decoded_is text base bytes good even all =
    let m = (length bytes + 15) / 16 in
    decoded_front text base bytes m good even all (omega arith) m (omega arith) ∙ take_all (16 * m) bytes (omega arith)

-- of a text that was exported
pub decoded_exported : (base : ℕ) (bytes : List ℕ) → Bytes bytes → base % 16 ≡ 0
    → decoded_all (exported base bytes) base (length bytes) ≡ bytes
unfolding exported
decoded_exported base bytes good even =
    let m = (length bytes + 15) / 16 in
    decoded_is (exported base bytes) base bytes good even
    (stands_split (exported base bytes) 0 (parts base bytes m) end_line (stands_self (exported base bytes))).0

-- ---- what is read, whatever the text

pub length_chunk_at : (text : List ℕ) (base n i : ℕ) → length (chunk_at text base n i) ≡ part_length n i
unfolding chunk_at
length_chunk_at text base n i = length_bytes text (data_at base i (up_to base i)) (part_length n i)

pub length_decoded : (text : List ℕ) (base n k : ℕ) → 16 * k < n + 16 → length (decoded text base n k) ≡ 16 * k - (16 * k - n)
unfolding decoded
length_decoded text base n zero h = omega arith
length_decoded text base n (suc k) h =
    let l : 16 * k < n = omega arith in
    let c = chunk n (16 * k) l in
    let e : 16 * k - (16 * k - n) ≡ 16 * k = omega (arith, l) in
    length-append (decoded text base n k) (chunk_at text base n (16 * k))
    ∙ rw (length_decoded text base n k (omega (arith, l)), length_chunk_at text base n (16 * k), e) (c.after k refl)

pub length_all : (text : List ℕ) (base n : ℕ) → length (decoded_all text base n) ≡ n
unfolding decoded_all
length_all text base n = length_decoded text base n ((n + 15) / 16) (omega arith) ∙ omega arith

bytes_decoded : (text : List ℕ) (base n k : ℕ) → Bytes (decoded text base n k)
unfolding decoded chunk_at Bytes
bytes_decoded text base n zero = λ i. omega arith
bytes_decoded text base n (suc k) =
    bytes_append (decoded text base n k) (chunk_at text base n (16 * k)) (bytes_decoded text base n k)
    (bytes_small text (data_at base (16 * k) (up_to base (16 * k))) (part_length n (16 * k)))

pub bytes_all : (text : List ℕ) (base n : ℕ) → Bytes (decoded_all text base n)
unfolding decoded_all
bytes_all text base n = bytes_decoded text base n ((n + 15) / 16)

-- one part more
pub parts_told : (text : List ℕ) (base n k : ℕ) → base % 16 ≡ 0 → 16 * k < n → Holds (stands text 0 (parts base (decoded text base n k) k))
    → Holds (stands text (up_to base (16 * k)) (part base (16 * k) (chunk_at text base n (16 * k))))
    → Holds (stands text 0 (parts base (decoded text base n (suc k)) (suc k)))
unfolding decoded parts
parts_told text base n k even h s p =
    let a = decoded text base n k in
    let b = chunk_at text base n (16 * k) in
    let c = chunk n (16 * k) h in
    let e : length a ≡ 16 * k = length_decoded text base n k (omega arith) ∙ omega arith in
    let long : length (parts base a k) ≡ up_to base (16 * k) =
    length_parts base a k even (omega (arith, e)) ∙ ap (λ (x : ℕ). up_to base x) (rw e (omega arith)) in
    let z : 0 + length (parts base a k) ≡ up_to base (16 * k) = rw long (omega arith) in
    let tail : take 16 (drop (16 * k) (a ++ b)) ≡ b =
    ap (take 16) (drop_at a b (16 * k) e) ∙ take_all 16 b (rw (length_chunk_at text base n (16 * k)) c.most) in
    rw (parts_more base a b k (omega (arith, e)), tail) (stands_join text 0 (parts base a k) (part base (16 * k) b) s (rw z p))
