-- Writing the bytes part by part.
-- Assumes nothing.
use Prim.Native.Nat.{ℕ, suc, ◌+◌, ◌-◌, ◌*◌, ◌/◌, ◌%◌, ◌≤◌, ◌<◌}
use Rattle.std.specs.Prelude.{Bool, true, false, List, [], ◌∷◌, ◌≡◌, refl, length, set}
use Rattle.std.proofs.Common.{◌∙◌, add-one}
use native.Mathlib.Omega.{arith}
use Rattle.std.proofs.lemmas.List.Edits.{sets-eq}
use Rattle.facts.specs.Fact.{test}
use Rattle.facts.specs.FactLaws.{holds, fails_not}
use Rattle.text_lines.specs.Lines.{Wrote}
use Rattle.text_lines.specs.LineLaws.{wrote_then, wrote_none, wrote_byte}
use Rattle.hex_text.specs.Hex.{turns, over}
use Rattle.hex_text.specs.Sizes.{up_to, part_length, chunk, all_parts_lem, fits_stays, fits_turns, no_shorter}
use Rattle.hex_judge.specs.Stands.{byte_at, bytes_at}
use Rattle.hex_judge.specs.StandsLaws.{bytes_last, length_bytes}
use Rattle.hex_parts.specs.Decoded.{data_at, chunk_at, decoded, decoded_all, Sized}
use Rattle.hex_parts.specs.DecodedLaws.{data_turns, data_stays, length_all}
use Rattle.hex_parts.specs.Told.{Placed, placed_first, placed_next}

-- one byte more
pub bytes_more : {l m : List ℕ} (text : List ℕ) (at i j b : ℕ) → b ≡ byte_at text (at + 2 * j) → Wrote l m i (bytes_at text at j) (i + j)
    → Wrote l (set m (i + j) b) i (bytes_at text at (j + 1)) (i + (j + 1))
bytes_more {m = m} text at i j b e w =
    let f : i + j + 1 ≡ i + suc j = omega arith in
    rw (add-one, bytes_last text at j, ← e) (rw f at (wrote_then (bytes_at text at j) (b ∷ []) w (wrote_byte m (i + j) b)))

-- the buffer held l and holds m with the bytes before byte i, whose part begins at `at`
pub record Got (text : List ℕ) (base n : ℕ) (l m : List ℕ) (at i : ℕ) : Type 0 where
  pub placed : Placed base n at i
  pub wrote : Wrote l m 0 (decoded text base n (i / 16)) (i - (i - n))

pub got_none : (text : List ℕ) (base n : ℕ) (l : List ℕ) → Got text base n l l 16 0
unfolding decoded
got_none text base n l =
    let e : 0 - (0 - n) ≡ 0 = omega arith in
    record { placed = placed_first base n; wrote = rw e (wrote_none l 0) }

after : (n i : ℕ) → i < n → i + part_length n i ≡ i + 16 - (i + 16 - n)
after n i h = omega arith

module _ (text : List ℕ) (base n : ℕ) (l m : List ℕ) (at i d : ℕ) (h : i < n) (g : Got text base n l m at i) (is : d ≡ part_length n i) where
  pub got_next : (k : List ℕ) (p r next : ℕ) → p ≡ data_at base i at → next ≡ up_to base (i + d) → Wrote m k i (bytes_at text p d) r
      → Got text base n l k next (i + 16)
  unfolding decoded chunk_at
  got_next k p r next e f w =
      let q : (i + 16) / 16 ≡ suc (i / 16) = omega arith in
      let s : 16 * (i / 16) ≡ i = omega (arith, g.placed.sixteen) in
      let here : i - (i - n) ≡ i = omega (arith, h) in
      let long : r ≡ i + 16 - (i + 16 - n) = w.after ∙ rw (length_bytes text p d, is) (after n i h) in
      let bs : bytes_at text p d ≡ chunk_at text base n (16 * (i / 16)) = rw (s, e, g.placed.place h, is) in
      record {
        placed = placed_next base n at i d next h g.placed is f;
        wrote = rw (q, ← long)
            (wrote_then (decoded text base n (i / 16)) (chunk_at text base n (16 * (i / 16))) (rw here at g.wrote) (rw bs at w));
      }

  -- the digits of a part lie in the text, and its bytes in the buffer
  pub got_room : Sized text base n → data_at base i at + 2 * d ≤ length text
  got_room z = rw (g.placed.place h, is, z.long) (go (test (turns base i)) refl)
    where
      even16 : base % 16 ≡ 0
      even16 = omega (arith, z.even)

      turn : (x p y : ℕ) → x + (16 + (12 + 2 * p)) ≤ y → x + 16 + 9 + 2 * p ≤ y + 12
      turn x p y w = omega arith

      stay : (x p y : ℕ) → x + (12 + 2 * p) ≤ y → x + 9 + 2 * p ≤ y + 12
      stay x p y w = omega arith

      go : (b : Bool) → test (turns base i) ≡ b → data_at base i (up_to base i) + 2 * part_length n i ≤ up_to base n + 12
      go true e =
          rw (data_turns text base i (up_to base i) e)
          (turn (up_to base i) (part_length n i) (up_to base n) (fits_turns base n i even16 g.placed.sixteen h (holds (turns base i) e)))
      go false e =
          rw (data_stays text base i (up_to base i) e)
          (stay (up_to base i) (part_length n i) (up_to base n) (fits_stays base n i even16 g.placed.sixteen h (fails_not (turns base i) e)))

  pub got_within : i + d ≤ n
  got_within = rw is (chunk n i h).within

  pub got_near : Sized text base n → at ≤ up_to base n
  got_near z = rw (g.placed.place h) (no_shorter base i n (omega (arith, h)))

-- all of them
pub got_all : {text : List ℕ} {base n : ℕ} {l m : List ℕ} {at i : ℕ} → n ≤ i → n ≤ length l → Got text base n l m at i
    → m ≡ over (decoded_all text base n) l
unfolding decoded_all
got_all {text} {base} {n} {l} {i = i} h room g =
    let w = rw (all_parts_lem n i g.placed.sixteen h g.placed.near) at g.wrote in
    let long : length (decoded text base n ((n + 15) / 16)) ≡ n = length_all text base n in
    let z : 0 + length (decoded text base n ((n + 15) / 16)) ≡ length (decoded text base n ((n + 15) / 16)) = omega arith in
    w.bytes ∙ sets-eq (decoded text base n ((n + 15) / 16)) l 0 (omega (arith, long)) ∙ rw z

pub small_up : (base i : ℕ) → i ≤ 16777216 → up_to base i ≤ 50000000
small_up base i h = omega arith

pub got_small : {text : List ℕ} {base n : ℕ} {l m : List ℕ} {at i : ℕ} → n ≤ 16777216 → i < n → Got text base n l m at i → at ≤ 50000000
got_small {base = base} {i = i} most h g = rw (g.placed.place h) (small_up base i (omega arith))
