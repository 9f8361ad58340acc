-- A stretch is marked as a list of its own, which lies between what is before it and after it.
-- Assumes nothing.
use Rattle.std.specs.Prelude.{ℕ, zero, ◌+◌, ◌-◌, ◌*◌, ◌^◌, ◌≤◌, ◌<◌, suc, refl, max, Bool, true, false, List, [], ◌∷◌, ◌≡◌, length, get_or, take, drop}
use Rattle.std.specs.List.{fold}
use Rattle.std.specs.Bool.{nat_eq}
use Rattle.std.proofs.Common.{sym, ap, ◌∙◌, arith, mul-zero, mul-suc, length-take, length-drop}
use Rattle.std.proofs.lemmas.List.{get_or-take, get_or-drop, get_or-replicate}
use Rattle.std.proofs.lemmas.Bool.{eqb-true, eq-eqb}
use Rattle.std.proofs.lemmas.Slice.{drop-put_mid, between-put_mid}
use borrow.Rule.Slice.PartMut.{put_mid, same_len_mid, take_put}
use Rattle.std.proofs.Math.Decide.{dec_lt, ℕ_discrete}
use Rattle.words.specs.Le.{le, Word}
use Rattle.words.specs.PutLaws.{pos256}
use Rattle.apart_strokes.specs.Strokes.{Struck, Painting, Within, Stroked, Painted}

pub false_true : {P : Type 0} → false ≡ true → P
false_true e = absurd (let z : ◌≡◌ {A = ℕ} 0 1 = cc in omega arith)

-- ---- the highest of some numbers

-- from the first on it never falls
max_from : (top : ℕ) (xs : List ℕ) → top ≤ fold max top xs
max_from top [] = omega arith
max_from top (x ∷ xs) = omega (arith, max_from (max top x) xs)

-- none is above it
max_most : (top : ℕ) (xs : List ℕ) (i : ℕ) → i < length xs → get_or xs i 0 ≤ fold max top xs
max_most top [] i h = absurd (omega arith)
max_most top (x ∷ xs) zero h = omega (arith, max_from (max top x) xs)
max_most top (x ∷ xs) (suc i) h = max_most (max top x) xs i (omega arith)

-- where it is past the limit one of them is
max_some : (limit top : ℕ) (xs : List ℕ) → top ≤ limit → limit < fold max top xs → (i : ℕ) × ((i < length xs) × (limit < get_or xs i 0))
max_some limit top [] low h = absurd (omega arith)
max_some limit top (x ∷ xs) low h =
    elim (dec_lt limit x) [
      | yes l ↦ (0, (omega arith, l))
      | no l ↦ let s = max_some limit (max top x) xs (omega arith) h in (suc s.0, (omega (arith, s.1.0), s.1.1))
    ]

-- ---- several bytes in one go: a number that is 0 is bytes that are all 0

top_none : (k b : ℕ) → 256 ^ k * b ≡ 0 → b ≡ 0
top_none k zero e = refl
top_none k (suc b) e = absurd (omega (arith, pos256 k, mul-suc (256 ^ k) b))

-- the bytes of 0 are 0
pub le_none : (k : ℕ) (xs : List ℕ) (at : ℕ) → le k xs at ≡ 0 → (i : ℕ) → at ≤ i → i < at + k → get_or xs i 0 ≡ 0
unfolding le
le_none zero xs at e i g h = absurd (omega arith)
le_none (suc k) xs at e i g h =
    elim (dec_lt i (at + k)) [
      | yes l ↦ le_none k xs at (omega arith) i g l
      | no l ↦ let z : i ≡ at + k = omega arith in rw z (top_none k (get_or xs (at + k) 0) (omega arith))
    ]

-- any other number has a byte that isn't 0
pub le_some : (k : ℕ) (xs : List ℕ) (at : ℕ) → (le k xs at ≡ 0 → ⊥) → Struck xs at (at + k) 0
unfolding le
le_some zero xs at n = absurd (n refl)
le_some (suc k) xs at n =
    elim (ℕ_discrete (get_or xs (at + k) 0) 0) [
      | no d ↦ record { at = at + k; low = omega arith; high = omega arith; over = omega arith }
      | yes d ↦
          let s = le_some k xs at (λ e. n (rw (d, mul-zero (256 ^ k)) (omega arith))) in
          record { at = s.at; low = s.low; high = omega (arith, s.high); over = s.over }
    ]

module _ (k n : ℕ) (xs : List ℕ) (w : Word xs 0 k n) (long : length xs ≡ k) where
  none : n ≡ 0 → fold max 0 xs ≤ 0
  none e =
      elim (dec_lt 0 (fold max 0 xs)) [
        | yes l ↦
            let s = max_some 0 0 xs (omega arith) l in
            absurd (omega (arith, s.1.1, le_none k xs 0 (sym w.is ∙ e) s.0 (omega arith) (omega (arith, s.1.0))))
        | no l ↦ omega arith
      ]

  some : (n ≡ 0 → ⊥) → 0 < fold max 0 xs
  some other = let s = le_some k xs 0 (λ e. other (w.is ∙ e)) in omega (arith, max_most 0 xs s.at (omega (arith, s.high)), s.over)

  -- whether a word is all 0 tells whether its bytes are
  pub within : (r : Bool) → r ≡ nat_eq n 0 → Within xs 0 r
  within r e =
      record {
        met = λ t. none (eqb-true n 0 (sym e ∙ t));
        bad = λ f. some (λ z. false_true (sym f ∙ e ∙ eq-eqb n 0 z));
      }

-- ---- a stretch a..e of a list

part_at : (xs : List ℕ) (a e i : ℕ) → a ≤ i → i < e → get_or (take (e - a) (drop a xs)) (i - a) 0 ≡ get_or xs i 0
part_at xs a e i g h =
    let z : a + (i - a) ≡ i = omega arith in
    get_or-take (e - a) (drop a xs) (i - a) 0 (omega arith) ∙ get_or-drop a xs (i - a) 0 ∙ rw z

part_long : (xs : List ℕ) (a e : ℕ) → e ≤ length xs → length (take (e - a) (drop a xs)) ≡ e - a
part_long xs a e h = omega (arith, length-take (e - a) (drop a xs), length-drop a xs)

-- marked as a list of its own, it is marked where it lies
pub painted_part : (ms ns : List ℕ) (a e limit mark : ℕ) (r : Bool) → a ≤ e → e ≤ length ms
    → Stroked (take (e - a) (drop a ms)) ns limit mark r → Painted ms (put_mid a (e - a) ms ns) a e limit mark r
painted_part ms ns a e limit mark r h fits s = record { long = long; all = all; bad = bad }
  where
    part : List ℕ
    part = take (e - a) (drop a ms)

    os : List ℕ
    os = put_mid a (e - a) ms ns

    size : length part ≡ e - a
    size = part_long ms a e fits

    own : length ns ≡ e - a
    own = s.long ∙ size

    long : length os ≡ length ms
    long = same_len_mid a (e - a) ms ns s.long

    all : r ≡ true → Painting ms os a e limit mark
    all t =
        record {
          up = h;
          long = long;
          met = λ i g k. omega (arith, part_at ms a e i g k, max_most 0 part (i - a) (omega (arith, size)), s.met t);
          done = λ i g k.
              sym (part_at os a e i g k)
              ∙ ap (λ (l : List ℕ). get_or l (i - a) 0) (between-put_mid a (e - a) ms ns e (omega arith) own ∙ s.done t)
              ∙ get_or-replicate (length part) (i - a) mark 0 (omega (arith, size));
          below = λ i k.
              sym (get_or-take a os i 0 k) ∙ ap (λ (l : List ℕ). get_or l i 0) (take_put a (e - a) ms ns (omega arith)) ∙ get_or-take a ms i 0 k;
          above = λ i k.
              let z : e + (i - e) ≡ i = omega arith in
              let same = drop-put_mid a (e - a) ms ns e (omega arith) (omega arith) own in
              rw z at (sym (get_or-drop e os (i - e) 0) ∙ ap (λ (l : List ℕ). get_or l (i - e) 0) same ∙ get_or-drop e ms (i - e) 0);
        }

    bad : r ≡ false → Struck ms a e limit
    bad t =
        let found = max_some limit 0 part (omega arith) (s.bad t) in
        let j : ℕ = found.0 in
        let z : a + j - a ≡ j = omega arith in
        let within : a + j < e = omega (arith, found.1.0, size) in
        record { at = a + j; low = omega arith; high = within; over = omega (arith, rw z at (part_at ms a e (a + j) (omega arith) within), found.1.1) }
