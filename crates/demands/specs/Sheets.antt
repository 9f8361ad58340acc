-- A sheet that sets a whole settings part: one entry from 32 on, or none where the part is empty. With it, what is explained can be made.
-- Assumes nothing.
use Rattle.std.specs.Prelude.{ℕ, ◌+◌, ◌-◌, ◌^◌, ◌≤◌, ◌<◌, ◌≡◌, length, get_or, List, [], ◌++◌}
use Rattle.std.proofs.Common.{◌∙◌, mod-eq_of_lt, length-append, get_or-append-add, arith}
use Rattle.facts.specs.Fact.{Holds}
use Rattle.words.specs.Le.{le, Bytes}
use Rattle.words.specs.Number.{number}
use Rattle.words.specs.NumberLaws.{length_number, le_front, le_back, le_number, bytes_append, bytes_number}
use Rattle.answers.specs.declared.Identity.{Identity}
use Rattle.sheet.specs.Sheet.{sheet_identity, count, offset, size, position, body_at, same_identity, Sound}

-- a number that stands first
pub at_number : (k w : ℕ) (b : List ℕ) → w < 256 ^ k → le k (number k w ++ b) 0 ≡ w
at_number k w b h = le_front k (number k w) b 0 (omega (arith, length_number k w)) ∙ le_number k w ∙ mod-eq_of_lt h

-- what stands after one
pub past_number : (k j w : ℕ) (b : List ℕ) (at : ℕ) → le k (number j w ++ b) (j + at) ≡ le k b at
past_number k j w b at = let e : length (number j w) ≡ j = length_number j w in rw e at (le_back k (number j w) b at)

byte_past : (j w : ℕ) (b : List ℕ) (i : ℕ) → get_or (number j w ++ b) (j + i) 0 ≡ get_or b i 0
byte_past j w b i = let e : length (number j w) ≡ j = length_number j w in rw e at (get_or-append-add (number j w) b i 0)

pub length_past : (j w : ℕ) (b : List ℕ) → length (number j w ++ b) ≡ j + length b
length_past j w b = length-append (number j w) b ∙ omega (arith, length_number j w)

module _ (i : Identity) (part : List ℕ) where
  -- the entry: from 32 on, as many bytes as there are, from 24 on in the sheet
  abbrev entry : List ℕ
  entry = number 4 32 ++ (number 2 (length part) ++ (number 2 24 ++ part))

  -- one entry
  pub whole : List ℕ
  whole = number 8 i.image ++ (number 4 i.revision ++ (number 2 1 ++ (number 2 i.extended ++ entry)))

  -- no entry
  pub bare : List ℕ
  bare = number 8 i.image ++ (number 4 i.revision ++ (number 2 0 ++ (number 2 i.extended ++ [])))

  module _ (image : i.image < 256 ^ 8) (revision : i.revision < 256 ^ 4) (extended : i.extended < 256 ^ 2) where
    -- ---- one entry

    whole_extended : le 2 whole 14 ≡ i.extended
    unfolding whole
    whole_extended =
        past_number 2 8 i.image _ 6 ∙ past_number 2 4 i.revision _ 2 ∙ past_number 2 2 1 _ 0 ∙ at_number 2 i.extended _ extended

    pub whole_names : Holds (same_identity (sheet_identity whole) i)
    unfolding whole
    whole_names =
        (at_number 8 i.image _ image, (past_number 4 8 i.image _ 0 ∙ at_number 4 i.revision _ revision, whole_extended))

    pub whole_count : count whole ≡ 1
    unfolding whole
    whole_count = past_number 2 8 i.image _ 4 ∙ past_number 2 4 i.revision _ 0 ∙ at_number 2 1 _ (omega arith)

    in_entry : (k at : ℕ) → le k whole (8 + (4 + (2 + (2 + at)))) ≡ le k entry at
    unfolding whole
    in_entry k at =
        past_number k 8 i.image _ (4 + (2 + (2 + at))) ∙ past_number k 4 i.revision _ (2 + (2 + at)) ∙ past_number k 2 1 _ (2 + at)
        ∙ past_number k 2 i.extended _ at

    pub whole_byte : (j : ℕ) → get_or whole (24 + j) 0 ≡ get_or part j 0
    unfolding whole
    whole_byte j =
        let e : 24 + j ≡ 8 + (4 + (2 + (2 + (4 + (2 + (2 + j)))))) = omega arith in
        rw e
        (byte_past 8 i.image _ (4 + (2 + (2 + (4 + (2 + (2 + j)))))) ∙ byte_past 4 i.revision _ (2 + (2 + (4 + (2 + (2 + j)))))
        ∙ byte_past 2 1 _ (2 + (4 + (2 + (2 + j)))) ∙ byte_past 2 i.extended _ (4 + (2 + (2 + j))) ∙ byte_past 4 32 _ (2 + (2 + j))
        ∙ byte_past 2 (length part) _ (2 + j) ∙ byte_past 2 24 part j)

    whole_length : length whole ≡ 24 + length part
    unfolding whole
    whole_length =
        length_past 8 i.image _
        ∙ omega (
          arith,
          length_past 4 i.revision (number 2 1 ++ (number 2 i.extended ++ entry)),
          length_past 2 1 (number 2 i.extended ++ entry),
          length_past 2 i.extended entry,
          length_past 4 32 (number 2 (length part) ++ (number 2 24 ++ part)),
          length_past 2 (length part) (number 2 24 ++ part),
          length_past 2 24 part,
        )

    module _ (z : ℕ) (least : 32 < z) (most : z ≤ 65536) (long : length part ≡ z - 32) where
      pub whole_offset : offset whole 0 ≡ 32
      whole_offset = in_entry 4 0 ∙ at_number 4 32 _ (omega arith)

      pub whole_size : size whole 0 ≡ z - 32
      whole_size = in_entry 2 4 ∙ past_number 2 4 32 _ 0 ∙ at_number 2 (length part) _ (omega arith) ∙ long

      whole_position : position whole 0 ≡ 24
      whole_position = in_entry 2 6 ∙ past_number 2 4 32 _ 2 ∙ past_number 2 2 (length part) _ 0 ∙ at_number 2 24 _ (omega arith)

      only : (k : ℕ) → k < count whole → k ≡ 0
      only k h = omega (arith, whole_count)

      pub whole_sound : Sound whole z
      unfolding body_at
      whole_sound =
          let n = whole_count in
          let o = whole_offset in
          let w = whole_size in
          let p = whole_position in
          let l = whole_length in
          record {
            contents = (omega arith, (omega arith, (omega arith, omega arith)));
            bodies = ((λ k h. let e = only k h in rw e (omega arith, (omega arith, omega arith))), rw n (omega arith));
            fields = λ k h. let e = only k h in rw e (omega arith, omega arith);
          }

    -- ---- none

    bare_extended : le 2 bare 14 ≡ i.extended
    unfolding bare
    bare_extended =
        past_number 2 8 i.image _ 6 ∙ past_number 2 4 i.revision _ 2 ∙ past_number 2 2 0 _ 0 ∙ at_number 2 i.extended _ extended

    pub bare_names : Holds (same_identity (sheet_identity bare) i)
    unfolding bare
    bare_names =
        (at_number 8 i.image _ image, (past_number 4 8 i.image _ 0 ∙ at_number 4 i.revision _ revision, bare_extended))

    pub bare_count : count bare ≡ 0
    unfolding bare
    bare_count = past_number 2 8 i.image _ 4 ∙ past_number 2 4 i.revision _ 0 ∙ at_number 2 0 _ (omega arith)

    bare_length : length bare ≡ 16
    unfolding bare
    bare_length =
        length_past 8 i.image _
        ∙ omega (
          arith,
          length_past 4 i.revision (number 2 0 ++ (number 2 i.extended ++ [])),
          length_past 2 0 (number 2 i.extended ++ []),
          length_past 2 i.extended [],
        )

    pub bare_sound : (z : ℕ) → Sound bare z
    unfolding body_at
    bare_sound z =
        let n = bare_count in
        let l = bare_length in
        record {
          contents = (omega arith, (omega arith, (omega arith, omega arith)));
          bodies = ((λ k h. absurd (omega arith)), rw n (omega arith));
          fields = λ k h. absurd (omega arith);
        }

  pub whole_bytes : Bytes part → Bytes whole
  unfolding whole
  whole_bytes b =
      bytes_append (number 8 i.image) _ (bytes_number 8 i.image)
      (bytes_append (number 4 i.revision) _ (bytes_number 4 i.revision)
      (bytes_append (number 2 1) _ (bytes_number 2 1)
      (bytes_append (number 2 i.extended) _ (bytes_number 2 i.extended)
      (bytes_append (number 4 32) _ (bytes_number 4 32)
      (bytes_append (number 2 (length part)) _ (bytes_number 2 (length part)) (bytes_append (number 2 24) part (bytes_number 2 24) b))))))

  pub bare_bytes : Bytes bare
  unfolding bare Bytes
  bare_bytes =
      bytes_append (number 8 i.image) _ (bytes_number 8 i.image)
      (bytes_append (number 4 i.revision) _ (bytes_number 4 i.revision)
      (bytes_append (number 2 0) _ (bytes_number 2 0)
      (bytes_append (number 2 i.extended) [] (bytes_number 2 i.extended) (λ k. omega arith))))
