-- A line's pieces, and a text's parts.
-- Assumes nothing.
use Rattle.std.specs.Prelude.{ℕ, zero, suc, ◌+◌, ◌*◌, ◌/◌, ◌%◌, ◌≤◌, ◌<◌, List, [], ◌∷◌, ◌++◌, ◌≡◌, refl, length, take, drop}
use Rattle.std.proofs.Common.{append_assoc, append-nil, ap, ◌∙◌, arith, length-drop}
use Rattle.std.proofs.Math.Decide.{dec_lt}
use Rattle.std.proofs.lemmas.List.{take-append-le, drop-append-le}
use Rattle.hex_text.specs.Hex.{pairs, total, sum_byte, front, line, end_line, part, parts, exported}
use Rattle.hex_text.specs.Sizes.{pairs_append}

-- what a record's sum byte is made of
abbrev pub sum_of : ℕ → ℕ → ℕ → ℕ → ℕ
sum_of kind address d s = d + address / 256 + address % 256 + kind + s

-- a record's front, its data, and its back
abbrev pub front_line : ℕ → ℕ → ℕ → List ℕ
front_line kind address d = 58 ∷ pairs (front kind address d)

abbrev pub back_line : ℕ → List ℕ
back_line s = pairs (sum_byte s ∷ []) ++ (10 ∷ [])

pub line_split : (kind address : ℕ) (bs : List ℕ)
    → line kind address bs
    ≡ front_line kind address (length bs) ++ (pairs bs ++ back_line (sum_of kind address (length bs) (total bs)))
unfolding line
line_split kind address bs =
    let head = front kind address (length bs) in
    let sum = total (head ++ bs) in
    let last : List ℕ = sum_byte sum ∷ [] in
    let e : sum ≡ sum_of kind address (length bs) (total bs) = omega arith in
    ap (λ (t : List ℕ). 58 ∷ (t ++ (10 ∷ []))) (pairs_append head (bs ++ last) ∙ ap (λ (t : List ℕ). pairs head ++ t)
    (pairs_append bs last))
    ∙ ap (λ (t : List ℕ). front_line kind address (length bs) ++ t) (append_assoc (pairs bs) (pairs last) (10 ∷ []))
    ∙ ap (λ (s : ℕ). front_line kind address (length bs) ++ (pairs bs ++ back_line s)) e

-- part k of a text, and the lines before it and after it
pub record PartOf (base : ℕ) (bytes : List ℕ) (k : ℕ) (text : List ℕ) : Type 0 where
  pub rest : List ℕ
  pub is : text ≡ parts base bytes k ++ (part base (16 * k) (take 16 (drop (16 * k) bytes)) ++ rest)

pub part_of_parts : (base : ℕ) (bytes : List ℕ) (m k : ℕ) → k < m → PartOf base bytes k (parts base bytes m)
unfolding parts
part_of_parts base bytes zero k h = absurd (omega arith)
part_of_parts base bytes (suc m) k h =
    elim (dec_lt k m) [
      | yes l ↦
          let p = part_of_parts base bytes m k l in
          let last = part base (16 * m) (take 16 (drop (16 * m) bytes)) in
          record { rest = p.rest ++ last; is = ap (λ (t : List ℕ). t ++ last) p.is ∙ simp append_assoc }
      | no l ↦ let e : k ≡ m = omega arith in record { rest = []; is = rw e (simp append-nil) }
    ]

pub part_of : (base : ℕ) (bytes : List ℕ) (k : ℕ) → 16 * k < length bytes → PartOf base bytes k (exported base bytes)
unfolding exported
part_of base bytes k h =
    let p = part_of_parts base bytes ((length bytes + 15) / 16) k (omega arith) in
    record { rest = p.rest ++ end_line; is = ap (λ (t : List ℕ). t ++ end_line) p.is ∙ simp append_assoc }

-- parts go by their own bytes
pub parts_more : (base : ℕ) (a b : List ℕ) (k : ℕ) → 16 * k ≤ length a → parts base (a ++ b) k ≡ parts base a k
unfolding parts
parts_more base a b zero h = refl
parts_more base a b (suc k) h =
    let whole : take 16 (drop (16 * k) (a ++ b)) ≡ take 16 (drop (16 * k) a) =
    ap (take 16) (drop-append-le (16 * k) a b (omega arith))
    ∙ take-append-le 16 (drop (16 * k) a) b (omega (arith, length-drop (16 * k) a)) in
    rw (whole, parts_more base a b k (omega arith))
