-- Characters one after the other; digits read back.
-- Assumes nothing.
use Rattle.std.specs.Prelude.{Bool, true, false, ℕ, zero, suc, ◌+◌, ◌*◌, ◌/◌, ◌%◌, ◌≤◌, ◌<◌, List, [], ◌∷◌, ◌++◌, ◌≡◌, refl, length, get_or, drop}
use Rattle.std.proofs.Common.{append_assoc, append-nil, sym, ap, subst, ◌∙◌, arith, add-zero, length-append, drop-cons}
use Rattle.std.proofs.Math.Decide.{dec_le}
use Rattle.std.proofs.Math.Seq.{drop-length, get_or-append_seam}
use Rattle.facts.specs.Fact.{Fact, ◌≤?◌, Holds, Tells}
use Rattle.facts.specs.FactLaws.{passes, fails}
use Rattle.words.specs.Le.{Bytes}
use Rattle.text_lines.specs.Text.{hex_digit}
use Rattle.hex_text.specs.Hex.{pairs, total, line}
use Rattle.hex_text.specs.Sizes.{pairs_append, total_append, length_pairs}
use Rattle.hex_text.specs.Splits.{sum_of, front_line, back_line, line_split}
use Rattle.hex_judge.specs.Stands.{stands, value_of, byte_at, bytes_at}

-- an answer says so of a check that amounts to the one it was made for
pub tells_so : (r : Bool) (p q : Fact) → Tells r p → (Holds p → Holds q) → (Holds q → Holds p) → Tells r q
tells_so true p q t f g = record { says = f t.says }
tells_so false p q t f g = record { says = λ h. t.says (g h) }

-- ---- characters one after the other

pub stands_split : (text : List ℕ) (at : ℕ) (a b : List ℕ) → Holds (stands text at (a ++ b))
    → Holds (stands text at a) × Holds (stands text (at + length a) b)
stands_split text at [] b h = (omega arith, rw add-zero h)
stands_split text at (c ∷ a) b h =
    let (f, g) = stands_split text (at + 1) a b h.1 in
    let e : at + suc (length a) ≡ at + 1 + length a = omega arith in
    ((h.0, f), rw e g)

pub stands_join : (text : List ℕ) (at : ℕ) (a b : List ℕ) → Holds (stands text at a) → Holds (stands text (at + length a) b)
    → Holds (stands text at (a ++ b))
stands_join text at [] b f g = rw add-zero at g
stands_join text at (c ∷ a) b f g =
    let e : at + suc (length a) ≡ at + 1 + length a = omega arith in
    (f.0, stands_join text (at + 1) a b f.1 (rw e at g))

-- what a text is joined of stands in it
pub stands_here : (a s r : List ℕ) → Holds (stands (a ++ (s ++ r)) (length a) s)
stands_here a [] r = omega arith
stands_here a (c ∷ s) r =
    let e : a ++ (c ∷ (s ++ r)) ≡ (a ++ (c ∷ [])) ++ (s ++ r) = sym (append_assoc a (c ∷ []) (s ++ r)) in
    let n : length (a ++ (c ∷ [])) ≡ length a + 1 = length-append a (c ∷ []) in (
      get_or-append_seam a c (s ++ r) 0,
      subst (λ (text : List ℕ). Holds (stands text (length a + 1) s)) (sym e)
          (subst (λ (at : ℕ). Holds (stands ((a ++ (c ∷ [])) ++ (s ++ r)) at s)) n (stands_here (a ++ (c ∷ [])) s r)),
    )

stands_rest : (text : List ℕ) (at : ℕ) (s : List ℕ) → Holds (stands text at s) → length text ≡ at + length s → drop at text ≡ s
stands_rest text at [] h long = let e : at ≡ length text = omega arith in rw e (drop-length text)
stands_rest text at (c ∷ s) h long =
    let e : at + 1 ≡ suc at = omega arith in
    drop-cons text at 0 (omega arith) ∙ rw h.0 (ap (λ (r : List ℕ). c ∷ r) (rw e at (stands_rest text (at + 1) s h.1 (omega arith))))

-- a text of that length has nothing else
pub stands_whole : (text s : List ℕ) → Holds (stands text 0 s) → length text ≡ length s → text ≡ s
stands_whole text s h long = stands_rest text 0 s h (omega arith)

pub stands_self : (s : List ℕ) → Holds (stands s 0 s)
stands_self s = rw append-nil at (stands_here [] s [])

-- ---- digits

value_low : (d : ℕ) → d ≤ 9 → value_of (48 + d) ≡ d
value_low d h =
    let q : (48 + d) / 64 ≡ 0 = omega arith in
    let r : (48 + d) % 16 ≡ d = omega arith in
    rw (q, r) (omega arith)

value_high : (d : ℕ) → (d ≤ 9 → ⊥) → d < 16 → value_of (55 + d) ≡ d
value_high d l h =
    let q : (55 + d) / 64 ≡ 1 = omega arith in
    let r : (55 + d) % 16 + 9 ≡ d = omega arith in
    rw q (omega arith)

pub digit_value : (d : ℕ) → d < 16 → value_of (hex_digit d) ≡ d
unfolding hex_digit
digit_value d h =
    elim (dec_le d 9) [ yes s ↦ rw (passes (d ≤? 9) s) (value_low d s) | no l ↦ rw (fails (d ≤? 9) l) (value_high d l h) ]

pub byte_read : (text : List ℕ) (at b : ℕ) → b < 256 → Holds (stands text at (pairs (b ∷ []))) → byte_at text at ≡ b
byte_read text at b small h =
    rw (h.0, h.1.0, digit_value (b / 16) (omega arith), digit_value (b % 16) (omega arith)) (omega arith)

pub byte_small : (text : List ℕ) (at : ℕ) → byte_at text at < 256
byte_small text at = omega arith

pub bytes_read : (text : List ℕ) (at : ℕ) (bs : List ℕ) → Bytes bs → Holds (stands text at (pairs bs)) → bytes_at text at (length bs) ≡ bs
unfolding bytes_at Bytes
bytes_read text at [] bytes h = refl
bytes_read text at (b ∷ bs) bytes h =
    let e : at + 1 + 1 ≡ at + 2 = omega arith in
    let one : byte_at text at ≡ b = byte_read text at b (bytes 0) (h.0, (h.1.0, omega arith)) in
    rw (one, bytes_read text (at + 2) bs (λ k. bytes (suc k)) (rw e at h.1.1))

pub length_bytes : (text : List ℕ) (at d : ℕ) → length (bytes_at text at d) ≡ d
unfolding bytes_at
length_bytes text at zero = refl
length_bytes text at (suc d) = ap suc (length_bytes text (at + 2) d)

pub bytes_small : (text : List ℕ) (at d : ℕ) → Bytes (bytes_at text at d)
unfolding bytes_at Bytes
bytes_small text at zero k = omega arith
bytes_small text at (suc d) zero = byte_small text at
bytes_small text at (suc d) (suc k) = bytes_small text (at + 2) d k

pub bytes_last : (text : List ℕ) (at d : ℕ) → bytes_at text at (suc d) ≡ bytes_at text at d ++ (byte_at text (at + 2 * d) ∷ [])
unfolding bytes_at
bytes_last text at zero = let e : at + 2 * 0 ≡ at = omega arith in rw e
bytes_last text at (suc d) =
    let e : at + 2 * suc d ≡ at + 2 + 2 * d = omega arith in
    rw e (ap (λ (r : List ℕ). byte_at text at ∷ r) (bytes_last text (at + 2) d))

-- the place after d bytes
pub stands_more : (text : List ℕ) (at d : ℕ) → Holds (stands text at (pairs (bytes_at text at d)))
    → Holds (stands text (at + 2 * d) (pairs (byte_at text (at + 2 * d) ∷ []))) → Holds (stands text at (pairs (bytes_at text at (suc d))))
stands_more text at d h g =
    let b = byte_at text (at + 2 * d) in
    let bs = bytes_at text at d in
    let n : length (pairs bs) ≡ 2 * d = length_pairs bs ∙ ap (λ (k : ℕ). 2 * k) (length_bytes text at d) in
    rw (bytes_last text at d, pairs_append bs (b ∷ [])) (stands_join text at (pairs bs) (pairs (b ∷ [])) h (rw n g))

-- what stands after d bytes of more
pub stands_at : (text : List ℕ) (at d m : ℕ) → d < m → Holds (stands text at (pairs (bytes_at text at m)))
    → Holds (stands text (at + 2 * d) (pairs (byte_at text (at + 2 * d) ∷ [])))
unfolding bytes_at
stands_at text at d zero h g = absurd (omega arith)
stands_at text at zero (suc m) h g = let e : at + 2 * 0 ≡ at = omega arith in rw e (g.0, (g.1.0, omega arith))
stands_at text at (suc d) (suc m) h g =
    let e : at + 2 * suc d ≡ at + 2 + 2 * d = omega arith in
    let f : at + 1 + 1 ≡ at + 2 = omega arith in
    rw e (stands_at text (at + 2) d m (omega arith) (rw f at g.1.1))

pub total_more : (text : List ℕ) (at d : ℕ) → total (bytes_at text at (suc d)) ≡ total (bytes_at text at d) + byte_at text (at + 2 * d)
total_more text at d =
    ap total (bytes_last text at d) ∙ total_append (bytes_at text at d) (byte_at text (at + 2 * d) ∷ []) ∙ omega arith

-- ---- a record

pub line_parts : (text : List ℕ) (at kind address : ℕ) (bs : List ℕ) → Holds (stands text at (line kind address bs))
    → Holds (stands text at (front_line kind address (length bs))) × Holds (stands text (at + 9) (pairs bs))
    × Holds (stands text (at + 9 + 2 * length bs) (back_line (sum_of kind address (length bs) (total bs))))
line_parts text at kind address bs h =
    let back = back_line (sum_of kind address (length bs) (total bs)) in
    let (f, g) = stands_split text at (front_line kind address (length bs)) (pairs bs ++ back) (rw line_split at h) in
    let (p, q) = stands_split text (at + 9) (pairs bs) back g in
    (f, p, rw length_pairs at q)

pub line_joined : (text : List ℕ) (at kind address : ℕ) (bs : List ℕ) → Holds (stands text at (front_line kind address (length bs)))
    → Holds (stands text (at + 9) (pairs bs))
    → Holds (stands text (at + 9 + 2 * length bs) (back_line (sum_of kind address (length bs) (total bs))))
    → Holds (stands text at (line kind address bs))
line_joined text at kind address bs f p q =
    let back = back_line (sum_of kind address (length bs) (total bs)) in
    rw line_split
    (stands_join text at (front_line kind address (length bs)) (pairs bs ++ back) f
    (stands_join text (at + 9) (pairs bs) back p (rw length_pairs q)))

-- the data of a record that stands there are the bytes that its digits stand for
pub line_read : (text : List ℕ) (at kind address : ℕ) (bs : List ℕ) → Bytes bs → Holds (stands text at (line kind address bs))
    → bytes_at text (at + 9) (length bs) ≡ bs
line_read text at kind address bs bytes h = bytes_read text (at + 9) bs bytes (line_parts text at kind address bs h).1

-- the same of a record that has its data from the text
module _ (text : List ℕ) (at kind address d : ℕ) where
  abbrev pub told : List ℕ
  told = bytes_at text (at + 9) d

  pub record_parts : Holds (stands text at (line kind address told))
      → Holds (stands text at (front_line kind address d)) × Holds (stands text (at + 9) (pairs told))
      × Holds (stands text (at + 9 + 2 * d) (back_line (sum_of kind address d (total told))))
  record_parts h = rw (length_bytes text (at + 9) d) at (line_parts text at kind address told h)

  pub record_joined : Holds (stands text at (front_line kind address d)) → Holds (stands text (at + 9) (pairs told))
      → Holds (stands text (at + 9 + 2 * d) (back_line (sum_of kind address d (total told)))) → Holds
      (stands text at (line kind address told))
  record_joined f p q =
      let n = length_bytes text (at + 9) d in
      line_joined text at kind address told (rw n f) p (rw n q)

-- the front of a record, piece by piece
pub record Front (text : List ℕ) (at kind address d : ℕ) : Type 0 where
  pub colon : get_or text at 0 ≡ 58
  pub count : Holds (stands text (at + 1) (pairs (d ∷ [])))
  pub high : Holds (stands text (at + 3) (pairs (address / 256 ∷ [])))
  pub low : Holds (stands text (at + 5) (pairs (address % 256 ∷ [])))
  pub sort : Holds (stands text (at + 7) (pairs (kind ∷ [])))

module _ (text : List ℕ) (at kind address d : ℕ) where
  two_more : (k : ℕ) → at + k + 2 ≡ at + (k + 2)
  two_more k = omega arith

  pub front_parts : Holds (stands text at (front_line kind address d)) → Front text at kind address d
  front_parts h =
      let hi = address / 256 in
      let lo = address % 256 in
      let (p, q) = stands_split text (at + 1) (pairs (d ∷ [])) (pairs (hi ∷ lo ∷ kind ∷ [])) h.1 in
      let (r, s) = stands_split text (at + 3) (pairs (hi ∷ [])) (pairs (lo ∷ kind ∷ [])) (rw (two_more 1) at q) in
      let (t, u) = stands_split text (at + 5) (pairs (lo ∷ [])) (pairs (kind ∷ [])) (rw (two_more 3) at s) in
      record { colon = h.0; count = p; high = r; low = t; sort = rw (two_more 5) at u }

  pub front_joined : Front text at kind address d → Holds (stands text at (front_line kind address d))
  front_joined f =
      let hi = address / 256 in
      let lo = address % 256 in
      let s = stands_join text (at + 5) (pairs (lo ∷ [])) (pairs (kind ∷ [])) f.low (rw (two_more 5) f.sort) in
      let q = stands_join text (at + 3) (pairs (hi ∷ [])) (pairs (lo ∷ kind ∷ [])) f.high (rw (two_more 3) s) in
      (f.colon, stands_join text (at + 1) (pairs (d ∷ [])) (pairs (hi ∷ lo ∷ kind ∷ [])) f.count (rw (two_more 1) q))
