-- Writing a record piece by piece.
-- Assumes nothing.
use Rattle.std.specs.Prelude.{ℕ, ◌+◌, ◌*◌, ◌/◌, ◌%◌, ◌<◌, List, [], ◌∷◌, ◌++◌, ◌≡◌, refl, length, get_or, set, take}
use Rattle.std.proofs.Common.{ap, ◌∙◌, arith, add-one, take-suc, length-take-le}
use Rattle.std.proofs.Math.Seq.{length-sets}
use Rattle.text_lines.specs.Lines.{Wrote}
use Rattle.text_lines.specs.LineLaws.{sets_append, wrote_then}
use Rattle.hex_text.specs.Hex.{pairs, total, line}
use Rattle.hex_text.specs.Sizes.{length_pairs, pairs_append, total_append}
use Rattle.hex_text.specs.Splits.{sum_of, front_line, back_line, line_split}
use Rattle.hex_line.specs.Written.{WrotePairs}

pub wrote_two : (l : List ℕ) (at x y a b : ℕ) → x ≡ a → y ≡ b → Wrote l (set (set l at x) (at + 1) y) at (a ∷ b ∷ []) (at + 2)
wrote_two l at x y a b e f = rw (e, f, add-one) (record { bytes = refl; after = refl })

pub pairs_none : (l : List ℕ) (at : ℕ) → WrotePairs l l at [] 0
pairs_none l at = record { bytes = refl; sum = refl }

pub pairs_length : {l m : List ℕ} {at r : ℕ} {bs : List ℕ} → WrotePairs l m at bs r → length m ≡ length l
pairs_length {l = l} {at = at} {bs = bs} w = ap length w.bytes ∙ length-sets l at (pairs bs)

-- one byte more
pub pairs_more : {l m n : List ℕ} {at s r : ℕ} (xs : List ℕ) (j b : ℕ) → j < length xs → get_or xs j 0 ≡ b
    → WrotePairs l m at (take j xs) s → Wrote m n (at + 2 * j) (pairs (b ∷ [])) r → WrotePairs l n at (take (j + 1) xs) (s + b)
pairs_more {l} {m} {n} {at} {s} xs j b h is w f =
    let one : take (j + 1) xs ≡ take j xs ++ (b ∷ []) = rw (add-one, take-suc xs j 0, is) in
    let long : length (pairs (take j xs)) ≡ 2 * j = length_pairs (take j xs) ∙ ap (λ (k : ℕ). 2 * k) (length-take-le j xs (omega arith)) in
    rw one
    (record {
      bytes = f.bytes ∙ rw (w.bytes, pairs_append (take j xs) (b ∷ []), sets_append l at (pairs (take j xs)) (pairs (b ∷ [])), long);
      sum = rw (w.sum, total_append (take j xs) (b ∷ [])) (omega arith);
    })

-- a record's front, its data and its back
pub wrote_line : {l m n o : List ℕ} {at p s r : ℕ} (kind address d : ℕ) (bs : List ℕ) → length bs ≡ d
    → Wrote l m at (front_line kind address d) p → WrotePairs m n p bs s
    → Wrote n o (p + 2 * d) (back_line (d + address / 256 + address % 256 + kind + s)) r
    → Wrote l o at (line kind address bs) r
wrote_line {m = m} {n = n} {p = p} {s = s} kind address d bs long f w g =
    let sum : d + address / 256 + address % 256 + kind + s ≡ sum_of kind address (length bs) (total bs) = omega (arith, w.sum) in
    let mid : Wrote m n p (pairs bs) (p + 2 * d) = record { bytes = w.bytes; after = omega (arith, length_pairs bs) } in
    rw line_split
    (wrote_then (front_line kind address (length bs)) (pairs bs ++ back_line (sum_of kind address (length bs) (total bs)))
    (rw long f) (wrote_then (pairs bs) (back_line (sum_of kind address (length bs) (total bs))) mid (rw sum at g)))
