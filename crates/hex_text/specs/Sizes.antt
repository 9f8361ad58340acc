-- How long the text is: it goes by the base and the number of bytes alone.
-- Assumes nothing.
use Rattle.std.specs.Prelude.{ℕ, zero, suc, ◌+◌, ◌-◌, ◌*◌, ◌/◌, ◌%◌, ◌≤◌, ◌<◌, true, false, cond, List, [], ◌∷◌, ◌++◌, ◌≡◌, refl, length, take, drop}
use Rattle.std.proofs.Common.{ap, ◌∙◌, arith, le_refl, le_of_lt, length-append, length-drop, length-take-le, take_all}
use Rattle.std.proofs.Math.Decide.{dec_le, dec_lt}
use Rattle.facts.specs.Fact.{test, Holds}
use Rattle.facts.specs.RulesLaws.{by_test}
use Rattle.hex_text.specs.Hex.{pairs, total, sum_byte, front, line, upper_line, data_line, end_line, turns, part, parts, exported}

-- the lines of the first m bytes: a colon, ten digits and a line feed for each 16 bytes, two digits a byte, 16 characters for the upper
-- bits
-- at first and at each new 64 KiB
abbrev pub up_to : ℕ → ℕ → ℕ
up_to base m = 16 + 12 * ((m + 15) / 16) + 2 * m + 16 * ((base % 65536 + m - 1) / 65536)

-- the whole text
abbrev pub text_length : ℕ → ℕ → ℕ
text_length base n = up_to base n + 12

-- how many bytes the part from byte i on has, of n
abbrev pub part_length : ℕ → ℕ → ℕ
part_length n i = 16 - (16 - (n - i))

pub length_pairs : (bs : List ℕ) → length (pairs bs) ≡ 2 * length bs
length_pairs [] = refl
length_pairs (b ∷ bs) = omega (arith, length_pairs bs)

pub pairs_append : (a b : List ℕ) → pairs (a ++ b) ≡ pairs a ++ pairs b
pairs_append [] b = refl
pairs_append (x ∷ a) b = rw (pairs_append a b)

pub total_append : (a b : List ℕ) → total (a ++ b) ≡ total a + total b
total_append [] b = omega arith
total_append (x ∷ a) b = omega (arith, total_append a b)

pub length_line : (kind address : ℕ) (bs : List ℕ) → length (line kind address bs) ≡ 12 + 2 * length bs
unfolding line
length_line kind address bs =
    let bytes = front kind address (length bs) ++ bs in
    let last : List ℕ = sum_byte (total bytes) ∷ [] in
    omega (arith, length-append (pairs (bytes ++ last)) (10 ∷ []), length_pairs (bytes ++ last), length-append bytes last)

pub length_upper : (a : ℕ) → length (upper_line a) ≡ 16
unfolding upper_line
length_upper a = length_line 4 0 (a / 16777216 ∷ a / 65536 % 256 ∷ [])

pub length_data : (a : ℕ) (bs : List ℕ) → length (data_line a bs) ≡ 12 + 2 * length bs
unfolding data_line
length_data a bs = length_line 0 (a % 65536) bs

pub length_end : length end_line ≡ 12
unfolding end_line
length_end = length_line 1 0 []

-- a part goes by the turn
pub part_turns : (base i : ℕ) (bs : List ℕ) → test (turns base i) ≡ true → part base i bs ≡ upper_line (base + i) ++ data_line (base + i) bs
unfolding part
part_turns base i bs e = rw e

pub part_stays : (base i : ℕ) (bs : List ℕ) → test (turns base i) ≡ false → part base i bs ≡ data_line (base + i) bs
unfolding part
part_stays base i bs e = rw e

-- where the bs of a part begin, before it `at` characters
unfoldable pub data_place : ℕ → ℕ → ℕ → ℕ
data_place base i at = cond (test (turns base i)) (at + 16) at

-- the line of a part is one more
rows : (i d : ℕ) → i % 16 ≡ 0 → 1 ≤ d → d ≤ 16 → (i + d + 15) / 16 ≡ (i + 15) / 16 + 1
rows i d sixteen least most = omega arith

-- 16 bytes that don't begin a new 64 KiB lie in the one before them, and others in the next
same_block : (x d : ℕ) → x % 16 ≡ 0 → (x % 65536 ≡ 0 → ⊥) → 1 ≤ d → d ≤ 16 → (x + d - 1) / 65536 ≡ (x - 1) / 65536
same_block x d sixteen away least most =
    let q = x / 65536 in
    let r = x % 65536 in
    let s = x / 16 in
    omega arith

next_block : (x d : ℕ) → 1 ≤ x → x % 65536 ≡ 0 → 1 ≤ d → d ≤ 16 → (x + d - 1) / 65536 ≡ (x - 1) / 65536 + 1
next_block x d some turn least most = omega arith

first_block : (b d : ℕ) → b < 65536 → b % 16 ≡ 0 → 1 ≤ d → d ≤ 16 → (b + 0 + d - 1) / 65536 ≡ (b + 0 - 1) / 65536
first_block b d small sixteen least most = omega arith

module _ (base i d : ℕ) (even : base % 16 ≡ 0) (sixteen : i % 16 ≡ 0) (least : 1 ≤ d) (most : d ≤ 16) where
  turned : Holds (turns base i) → up_to base i + (16 + (12 + 2 * d)) ≡ up_to base (i + d)
  turned (some, turn) =
      let x = base % 65536 + i in
      let e : x % 65536 ≡ 0 = omega arith in
      let a : base % 65536 + (i + d) - 1 ≡ x + d - 1 = omega arith in
      rw (a, rows i d sixteen least most, next_block x d (omega arith) e least most) (omega arith)

  stayed : (Holds (turns base i) → ⊥) → up_to base i + (12 + 2 * d) ≡ up_to base (i + d)
  stayed h =
      let x = base % 65536 + i in
      let a : base % 65536 + (i + d) - 1 ≡ x + d - 1 = omega arith in
      let block : (x + d - 1) / 65536 ≡ (x - 1) / 65536 =
      elim (dec_le i 0) [
        | yes z ↦ let none : i ≡ 0 = omega arith in rw none (first_block (base % 65536) d (omega arith) (omega arith) least most)
        | no z ↦ same_block x d (omega arith) (λ e. h (omega arith, omega arith)) least most
      ] in
      rw (a, rows i d sixteen least most, block) (omega arith)

-- a part is as long as the lines up to its end are more than those up to its start
pub length_part : (base i : ℕ) (bs : List ℕ) → base % 16 ≡ 0 → i % 16 ≡ 0 → 1 ≤ length bs → length bs ≤ 16
    → up_to base i + length (part base i bs) ≡ up_to base (i + length bs)
unfolding part
length_part base i bs even sixteen least most =
    by_test (λ (t : List ℕ). up_to base i + length t ≡ up_to base (i + length bs)) (turns base i) _ _
    (λ h. rw (length-append, length_upper, length_data) (turned base i (length bs) even sixteen least most h))
    (λ h. rw length_data (stayed base i (length bs) even sixteen least most h))

pub length_chunk : (bytes : List ℕ) (i : ℕ) → length (take 16 (drop i bytes)) ≡ part_length (length bytes) i
length_chunk bytes i =
    elim (dec_le 16 (length bytes - i)) [
      | yes h ↦ omega (arith, length-take-le 16 (drop i bytes) (omega (arith, length-drop i bytes)))
      | no h ↦ omega (arith, ap length (take_all 16 (drop i bytes) (omega (arith, length-drop i bytes))), length-drop i bytes)
    ]

-- what a part before the end has
pub record Chunk (n i d : ℕ) : Type 0 where
  pub least : 1 ≤ d
  pub most : d ≤ 16
  pub within : i + d ≤ n
  pub after : (k : ℕ) → i ≡ 16 * k → i + d ≡ 16 * suc k - (16 * suc k - n)

pub chunk : (n i : ℕ) → i < n → Chunk n i (part_length n i)
chunk n i h = record { least = omega arith; most = omega arith; within = omega arith; after = λ k e. omega arith }

pub chunk_of : (bytes : List ℕ) (i : ℕ) → i < length bytes → Chunk (length bytes) i (length (take 16 (drop i bytes)))
chunk_of bytes i h = rw (length_chunk bytes i) (chunk (length bytes) i h)

before_end : (n k : ℕ) → 16 * suc k < n + 16 → (16 * k < n) × (16 * k - (16 * k - n) ≡ 16 * k)
before_end n k h = (omega arith, omega arith)

-- the lines of the first k parts
pub length_parts : (base : ℕ) (bytes : List ℕ) (k : ℕ) → base % 16 ≡ 0 → 16 * k < length bytes + 16
    → length (parts base bytes k) ≡ up_to base (16 * k - (16 * k - length bytes))
unfolding parts
length_parts base bytes zero even h = omega (arith, length_upper base)
length_parts base bytes (suc k) even h =
    let bs = take 16 (drop (16 * k) bytes) in
    let (l, e) = before_end (length bytes) k h in
    let c = chunk_of bytes (16 * k) l in
    let before : length (parts base bytes k) ≡ up_to base (16 * k) =
    length_parts base bytes k even (omega (arith, l)) ∙ ap (λ (m : ℕ). up_to base m) e in
    length-append (parts base bytes k) (part base (16 * k) bs)
    ∙ rw before
    (length_part base (16 * k) bs even (omega arith) c.least c.most
    ∙ ap (λ (m : ℕ). up_to base m) (c.after k refl))

-- the whole text
pub length_exported : (base : ℕ) (bytes : List ℕ) → base % 16 ≡ 0 → length (exported base bytes) ≡ text_length base (length bytes)
unfolding exported
length_exported base bytes even =
    let k = (length bytes + 15) / 16 in
    let e : 16 * k - (16 * k - length bytes) ≡ length bytes = omega arith in
    length-append (parts base bytes k) end_line
    ∙ rw (length_end, length_parts base bytes k even (omega arith), e)

-- more bytes make a longer text
pub longer : (base m n : ℕ) → m < n → up_to base m < up_to base n
longer base m n h = omega arith

pub no_shorter : (base m n : ℕ) → m ≤ n → up_to base m ≤ up_to base n
no_shorter base m n h =
    elim (dec_lt m n) [
      | yes l ↦ le_of_lt (longer base m n l)
      | no l ↦ let e : m ≡ n = omega arith in rw e (le_refl (up_to base n))
    ]

-- the room that a part takes
pub room_stays : (base i : ℕ) (bytes : List ℕ) (at m : ℕ) → test (turns base i) ≡ false → at + length
    (part base i (take 16 (drop i bytes))) ≤ m
    → at + 12 + 2 * part_length (length bytes) i ≤ m
room_stays base i bytes at m e h =
    let f = rw (part_stays base i (take 16 (drop i bytes)) e, length_data (base + i) (take 16 (drop i bytes)), length_chunk bytes i) at h in
    omega arith

pub room_turns : (base i : ℕ) (bytes : List ℕ) (at m : ℕ) → test (turns base i) ≡ true → at + length
    (part base i (take 16 (drop i bytes))) ≤ m
    → at + 16 + 12 + 2 * part_length (length bytes) i ≤ m
room_turns base i bytes at m e h =
    let bs = take 16 (drop i bytes) in
    let f = rw (
      part_turns base i bs e,
      length-append (upper_line (base + i)) (data_line (base + i) bs),
      length_upper (base + i),
      length_data (base + i) bs,
      length_chunk bytes i,
    ) at h in
    omega arith

-- where a part begins, and that it ends before the end's line
module _ (base : ℕ) (bytes : List ℕ) (i : ℕ) (even : base % 16 ≡ 0) (sixteen : i % 16 ≡ 0) (h : i < length bytes) where
  pub part_begins : length (parts base bytes (i / 16)) ≡ up_to base i
  part_begins =
      let e : 16 * (i / 16) - (16 * (i / 16) - length bytes) ≡ i = omega arith in
      length_parts base bytes (i / 16) even (omega arith) ∙ ap (λ (m : ℕ). up_to base m) e

  pub part_ends : up_to base i + length (part base i (take 16 (drop i bytes))) ≤ up_to base (length bytes)
  part_ends =
      let c = chunk_of bytes i h in
      rw (length_part base i (take 16 (drop i bytes)) even sixteen c.least c.most)
      (no_shorter base (i + length (take 16 (drop i bytes))) (length bytes) c.within)

-- all parts
pub all_parts_lem : (n i : ℕ) → i % 16 ≡ 0 → n ≤ i → i < n + 16 → i / 16 ≡ (n + 15) / 16
all_parts_lem n i sixteen h l = omega arith

-- where a part ends
module _ (base n i : ℕ) (even : base % 16 ≡ 0) (sixteen : i % 16 ≡ 0) (h : i < n) where
  pub fits_stays : (Holds (turns base i) → ⊥) → up_to base i + (12 + 2 * part_length n i) ≤ up_to base n
  fits_stays t =
      let c = chunk n i h in
      rw (stayed base i (part_length n i) even sixteen c.least c.most t) (no_shorter base (i + part_length n i) n c.within)

  pub fits_turns : Holds (turns base i) → up_to base i + (16 + (12 + 2 * part_length n i)) ≤ up_to base n
  fits_turns t =
      let c = chunk n i h in
      rw (turned base i (part_length n i) even sixteen c.least c.most t) (no_shorter base (i + part_length n i) n c.within)
