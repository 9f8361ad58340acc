-- Judging a text part by part.
-- Assumes nothing.
use Rattle.std.specs.Prelude.{ℕ, suc, ◌+◌, ◌-◌, ◌*◌, ◌/◌, ◌%◌, ◌^◌, ◌≤◌, ◌<◌, Bool, true, false, List, ◌++◌, ◌≡◌, refl, take, drop}
use Rattle.std.proofs.Common.{ap, ◌∙◌, arith}
use Rattle.std.proofs.Math.ListN.{length}
use Rattle.facts.specs.Fact.{Fact, Holds, test}
use Rattle.facts.specs.FactLaws.{holds, fails_not}
use Rattle.hex_text.specs.Hex.{turns, upper_line, end_line, part, parts, exported}
use Rattle.hex_text.specs.Sizes.{up_to, text_length, part_length, chunk, length_parts, all_parts_lem, fits_stays, fits_turns}
use Rattle.hex_text.specs.Splits.{part_of_parts}
use Rattle.hex_judge.specs.Stands.{stands, bytes_at}
use Rattle.hex_judge.specs.StandsLaws.{stands_split, stands_join}
use Rattle.hex_parts.specs.Decoded.{data_at, chunk_at, decoded, decoded_all, Sized}
use Rattle.hex_parts.specs.DecodedLaws.{part_told, parts_told, length_all, bytes_all}

-- byte i, of n, begins a part, which begins at `at`
pub record Placed (base n at i : ℕ) : Type 0 where
  pub sixteen : i % 16 ≡ 0
  pub near : i < n + 16
  pub place : i < n → at ≡ up_to base i

no_bytes : (base : ℕ) → 16 ≡ up_to base 0
no_bytes base = omega arith

whole : (n i : ℕ) → i + 16 < n → i + part_length n i ≡ i + 16
whole n i h = omega arith

pub placed_first : (base n : ℕ) → Placed base n 16 0
placed_first base n = record { sixteen = refl; near = omega arith; place = λ l. no_bytes base }

pub placed_next : (base n at i d next : ℕ) → i < n → Placed base n at i → d ≡ part_length n i → next ≡ up_to base (i + d)
    → Placed base n next (i + 16)
placed_next base n at i d next h p is e =
    record {
      sixteen = omega (arith, p.sixteen);
      near = omega arith;
      place = λ l. e ∙ rw is (ap (λ (x : ℕ). up_to base x) (whole n i l));
    }

-- and the parts before it stand
pub record Told (text : List ℕ) (base n at i : ℕ) : Type 0 where
  pub placed : Placed base n at i
  pub told : Holds (stands text 0 (parts base (decoded text base n (i / 16)) (i / 16)))

pub told_none : (text : List ℕ) (base n : ℕ) → Holds (stands text 0 (upper_line base)) → Told text base n 16 0
unfolding parts
told_none text base n h = record { placed = placed_first base n; told = h }

module _ (text : List ℕ) (base n at i d : ℕ) (even : base % 4096 ≡ 0) (h : i < n) (t : Told text base n at i)
    (is : d ≡ part_length n i) where
  abbrev pub here : Fact
  here = stands text at (part base i (bytes_at text (data_at base i at) d))

  back_sixteen : 16 * (i / 16) ≡ i
  back_sixteen = omega (arith, t.placed.sixteen)

  as_chunk : Holds here → Holds (stands text (up_to base i) (part base i (chunk_at text base n i)))
  unfolding chunk_at
  as_chunk p = rw (t.placed.place h, is) at p

  from_chunk : Holds (stands text (up_to base i) (part base i (chunk_at text base n i))) → Holds here
  unfolding chunk_at
  from_chunk p = rw (t.placed.place h, is) p

  pub told_next : (next : ℕ) → next ≡ up_to base (i + d) → Holds here → Told text base n next (i + 16)
  told_next next e p =
      let k : (i + 16) / 16 ≡ suc (i / 16) = omega arith in
      let c = rw (← back_sixteen) at (as_chunk p) in
      record {
        placed = placed_next base n at i d next h t.placed is e;
        told = rw k (parts_told text base n (i / 16) (omega arith) (omega arith) t.told c);
      }

  pub told_not : (Holds here → ⊥) → Holds (stands text 0 (parts base (decoded_all text base n) ((n + 15) / 16))) → ⊥
  told_not no_part all =
      let D = decoded_all text base n in
      let e = length_all text base n in
      let p = part_told text base D ((n + 15) / 16) (bytes_all text base n) (omega arith) all (i / 16) (omega arith)
      (omega (arith, e, back_sixteen)) in
      no_part (from_chunk (rw (e, back_sixteen) at p))

pub upper_first : (text : List ℕ) (base n : ℕ) → 1 ≤ n → Holds (stands text 0 (parts base (decoded_all text base n) ((n + 15) / 16)))
    → Holds (stands text 0 (upper_line base))
unfolding parts
upper_first text base n h all =
    let D = decoded_all text base n in
    let p = part_of_parts base D ((n + 15) / 16) 0 (omega arith) in
    (stands_split text 0 (upper_line base) (part base 0 (take 16 (drop 0 D)) ++ p.rest) (rw p.is at all)).0

pub told_all : {text : List ℕ} {base n at i : ℕ} → n ≤ i → Told text base n at i
    → Holds (stands text 0 (parts base (decoded_all text base n) ((n + 15) / 16)))
unfolding decoded_all
told_all {n = n} {i = i} h t = rw (all_parts_lem n i t.placed.sixteen h t.placed.near) at t.told

-- ---- the end

module _ (text : List ℕ) (base n : ℕ) (sized : Sized text base n) where
  abbrev D : List ℕ
  D = decoded_all text base n

  place : length (parts base D ((n + 15) / 16)) ≡ length text - 12
  place =
      let k = (n + 15) / 16 in
      let e = length_all text base n in
      let f : 16 * k - (16 * k - length D) ≡ n = rw e (omega arith) in
      length_parts base D k (omega (arith, sized.even)) (omega (arith, e)) ∙ ap (λ (x : ℕ). up_to base x) f ∙ rw sized.long (omega arith)

  pub text_split : Holds (stands text 0 (exported base (decoded_all text base n)))
      → Holds (stands text 0 (parts base (decoded_all text base n) ((n + 15) / 16))) × Holds (stands text (length text - 12) end_line)
  unfolding exported
  text_split h =
      let (a, b) = stands_split text 0 (parts base D ((n + 15) / 16)) end_line (rw (length_all text base n) at h) in
      let z : 0 + length (parts base D ((n + 15) / 16)) ≡ length text - 12 = rw place (omega arith) in
      (a, rw z at b)

  pub text_joined : Holds (stands text 0 (parts base (decoded_all text base n) ((n + 15) / 16))) → Holds
      (stands text (length text - 12) end_line)
      → Holds (stands text 0 (exported base (decoded_all text base n)))
  unfolding exported
  text_joined a b =
      let z : 0 + length (parts base D ((n + 15) / 16)) ≡ length text - 12 = rw place (omega arith) in
      rw (length_all text base n) (stands_join text 0 (parts base D ((n + 15) / 16)) end_line a (rw z b))

-- ---- the room of a part

pub fits_part : (text : List ℕ) (base n at i d : ℕ) → Sized text base n → i < n → Told text base n at i → d ≡ part_length n i
    → (at + 12 + 2 * d ≤ length text) × (Holds (turns base i) → at + 28 + 2 * d ≤ length text) × (d ≤ 16) × (base + i < 2 ^ 32)
fits_part text base n at i d z h t is =
    let even16 : base % 16 ≡ 0 = omega (arith, z.even) in
    rw (t.placed.place h, is, z.long) (
      stays_or_turns base n i even16 t.placed.sixteen h,
      (λ w. let f = fits_turns base n i even16 t.placed.sixteen h w in add_up (up_to base i) (part_length n i) (up_to base n) f),
      (chunk n i h).most,
      omega (arith, h, z.ends),
    )
  where
    add_up : (x p y : ℕ) → x + (16 + (12 + 2 * p)) ≤ y → x + 28 + 2 * p ≤ y + 12
    add_up x p y h = omega arith

    twelve : (x p y : ℕ) → x + (12 + 2 * p) ≤ y → x + 12 + 2 * p ≤ y + 12
    twelve x p y h = omega arith

    less : (x p y : ℕ) → x + (16 + (12 + 2 * p)) ≤ y → x + 12 + 2 * p ≤ y + 12
    less x p y h = omega arith

    stays_or_turns : (base n i : ℕ) → base % 16 ≡ 0 → i % 16 ≡ 0 → i < n → up_to base i + 12 + 2 * part_length n i ≤ up_to base n + 12
    stays_or_turns base n i even16 sixteen h = go (test (turns base i)) refl
      where
        go : (b : Bool) → test (turns base i) ≡ b → up_to base i + 12 + 2 * part_length n i ≤ up_to base n + 12
        go true e = less (up_to base i) (part_length n i) (up_to base n) (fits_turns base n i even16 sixteen h (holds (turns base i) e))
        go false e = twelve (up_to base i) (part_length n i) (up_to base n) (fits_stays base n i even16 sixteen h (fails_not (turns base i) e))

pub minus_twelve : (r base m : ℕ) → r ≡ text_length base m → r - 12 ≡ up_to base m
minus_twelve r base m e = rw e (less (up_to base m))
  where
    less : (x : ℕ) → x + 12 - 12 ≡ x
    less x = omega arith
