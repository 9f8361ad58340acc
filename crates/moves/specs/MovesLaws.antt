-- The laws of moving, over any list of words that lie apart.
-- Assumes nothing.
use Rattle.std.specs.Prelude.{◌≡◌, refl, List, ◌⊎◌, get_or}
use Rattle.std.proofs.Common.{sym, ap, ◌∙◌, add_assoc, mod-eq_of_lt, ext_get_or}
use Rattle.std.proofs.Math.Logic.{inl, inr}
use Prim.Native.Nat.{ℕ, zero, suc, ◌+◌, ◌-◌, ◌%◌, ◌^◌, ◌≤◌, ◌<◌}
use native.Mathlib.Omega.{arith}
use Rattle.std.proofs.Math.Decide.{dec_lt}
use Rattle.std.proofs.Math.Nat.{mod-add-mod, add-mod-mod, add-mod_right, mod-mod, mod_self, zero-mod}
use Rattle.std.proofs.Math.ListN.{length}
use Rattle.words.specs.Le.{le, Bytes, Alike}
use Rattle.words.specs.LeLaws.{le_lt, le_cong}
use Rattle.words.specs.Put.{add}
use Rattle.words.specs.PutLaws.{length_add, add_below, add_above, bytes_add, le_add, le_one}
use Rattle.moves.specs.Moves.{Words, difference, moved_to, moved, Beside, Spread}

pub length_moved : (xs : List ℕ) (ws : Words) (d : ℕ → ℕ) (i : ℕ) → length (moved_to xs ws d i) ≡ length xs
unfolding moved_to
length_moved xs ws d zero = refl
length_moved xs ws d (suc i) = length_add (ws.width i) (moved_to xs ws d i) (ws.at i) (d (ws.width i)) ∙ length_moved xs ws d i

pub bytes_moved : (xs : List ℕ) (ws : Words) (d : ℕ → ℕ) (i : ℕ) → Bytes xs → Bytes (moved_to xs ws d i)
unfolding moved_to
bytes_moved xs ws d zero b = b
bytes_moved xs ws d (suc i) b = bytes_add (ws.width i) (moved_to xs ws d i) (ws.at i) (d (ws.width i)) (bytes_moved xs ws d i b)

add_beside : (k : ℕ) (xs : List ℕ) (at d i : ℕ) → (i < at) ⊎ (at + k ≤ i) → get_or (add k xs at d) i 0 ≡ get_or xs i 0
add_beside k xs at d i (inl h) = add_below k xs at d i h
add_beside k xs at d i (inr h) = add_above k xs at d i h

-- a byte in none of the words keeps its value
pub moved_beside : (xs : List ℕ) (ws : Words) (d : ℕ → ℕ) (i k : ℕ) → Beside ws i k → get_or (moved_to xs ws d i) k 0 ≡ get_or xs k 0
unfolding moved_to
moved_beside xs ws d zero k h = refl
moved_beside xs ws d (suc i) k h =
    add_beside (ws.width i) (moved_to xs ws d i) (ws.at i) (d (ws.width i)) k (h i (omega arith))
    ∙ moved_beside xs ws d i k (λ j l. h j (omega arith))

-- words at the same places are moved alike
pub moved_cong : (xs : List ℕ) (vs ws : Words) (d e : ℕ → ℕ) (i : ℕ) → ((j : ℕ) → j < i → vs.at j ≡ ws.at j)
    → ((j : ℕ) → j < i → vs.width j ≡ ws.width j) → ((j : ℕ) → j < i → d (ws.width j) ≡ e (ws.width j))
    → moved_to xs vs d i ≡ moved_to xs ws e i
unfolding moved_to
moved_cong xs vs ws d e zero at width same = refl
moved_cong xs vs ws d e (suc i) at width same =
    rw (
      at i (omega arith),
      width i (omega arith),
      same i (omega arith),
      moved_cong xs vs ws d e i (λ j h. at j (omega arith))
          (λ j h. width j (omega arith)) (λ j h. same j (omega arith)),
    )

-- the byte at k lies in one of the first i words, or in none
pub find : (ws : Words) (i k : ℕ) → ((j : ℕ) × (j < i) × (ws.at j ≤ k) × (k < ws.at j + ws.width j)) ⊎ Beside ws i k
find ws zero k = inr (λ j h. absurd (omega arith))
find ws (suc i) k = go (dec_lt k (ws.at i)) (dec_lt k (ws.at i + ws.width i)) (find ws i k)
  where
    up : ((j : ℕ) × (j < i) × (ws.at j ≤ k) × (k < ws.at j + ws.width j)) ⊎ Beside ws i k → (k < ws.at i) ⊎ (ws.at i + ws.width i ≤ k)
        → ((j : ℕ) × (j < suc i) × (ws.at j ≤ k) × (k < ws.at j + ws.width j)) ⊎ Beside ws (suc i) k
    up (inl (j, h, a, b)) out = inl (j, omega arith, a, b)
    up (inr rest) out =
        inr (λ j h. elim (dec_lt j i) [ yes l ↦ rest j l | no l ↦ let e : j ≡ i = omega arith in rw e out ])

    go : Dec (k < ws.at i) → Dec (k < ws.at i + ws.width i)
        → ((j : ℕ) × (j < i) × (ws.at j ≤ k) × (k < ws.at j + ws.width j)) ⊎ Beside ws i k
        → ((j : ℕ) × (j < suc i) × (ws.at j ≤ k) × (k < ws.at j + ws.width j)) ⊎ Beside ws (suc i) k
    go (yes a) b rest = up rest (inl a)
    go (no a) (yes b) rest = inl (i, omega arith, omega arith, b)
    go (no a) (no b) rest = up rest (inr (omega arith))

-- two lists of bytes that agree beside the words and in each word's number are one
pub by_words : (a b : List ℕ) (ws : Words) → length a ≡ length b → Bytes a → Bytes b
    → ((k : ℕ) → Beside ws ws.count k → get_or a k 0 ≡ get_or b k 0)
    → ((j : ℕ) → j < ws.count → le (ws.width j) a (ws.at j) ≡ le (ws.width j) b (ws.at j)) → a ≡ b
by_words a b ws long ba bb beside number = ext_get_or 0 a b long (λ k h. go k (find ws ws.count k))
  where
    go : (k : ℕ) → ((j : ℕ) × (j < ws.count) × (ws.at j ≤ k) × (k < ws.at j + ws.width j)) ⊎ Beside ws ws.count k
        → get_or a k 0 ≡ get_or b k 0
    go k (inr out) = beside k out
    go k (inl (j, h, l, r)) =
        let e : ws.at j + (k - ws.at j) ≡ k = omega arith in
        rw e at ((le_one (ws.width j) a b (ws.at j) ba bb (number j h)).same (k - ws.at j) (omega arith))

module _ (xs : List ℕ) (ws : Words) (spread : Spread xs ws) where
  -- no byte of the word j lies in another of the words
  other : (i j k : ℕ) → i ≤ ws.count → j < ws.count → ((l : ℕ) → l < i → l ≡ j → ⊥) → k < ws.width j → Beside ws i (ws.at j + k)
  other i j k hi hj not-j hk l hl =
      elim (dec_lt l j) [
        | yes g ↦ flip (spread.apart l j g hj)
        | no g ↦ straight (spread.apart j l (lt l hl g) (omega arith))
      ]
    where
      lt : (l : ℕ) → l < i → (l < j → ⊥) → j < l
      lt l hl g = elim (dec_lt j l) [ yes h ↦ h | no h ↦ absurd (not-j l hl (omega arith)) ]

      flip : {l : ℕ} → (ws.at l + ws.width l ≤ ws.at j) ⊎ (ws.at j + ws.width j ≤ ws.at l)
          → (ws.at j + k < ws.at l) ⊎ (ws.at l + ws.width l ≤ ws.at j + k)
      flip (inl h) = inr (omega arith)
      flip (inr h) = inl (omega arith)

      straight : {l : ℕ} → (ws.at j + ws.width j ≤ ws.at l) ⊎ (ws.at l + ws.width l ≤ ws.at j)
          → (ws.at j + k < ws.at l) ⊎ (ws.at l + ws.width l ≤ ws.at j + k)
      straight (inl h) = inl (omega arith)
      straight (inr h) = inr (omega arith)

  -- a word whose turn is still to come holds what it held
  pub later_word : (d : ℕ → ℕ) (i j : ℕ) → i ≤ j → j < ws.count
      → le (ws.width j) (moved_to xs ws d i) (ws.at j) ≡ le (ws.width j) xs (ws.at j)
  later_word d i j h l =
      le_cong (ws.width j) (moved_to xs ws d i) xs (ws.at j)
      (record { same = λ k m. moved_beside xs ws d i (ws.at j + k) (other i j k (omega arith) l (λ p q e. omega arith) m) })

  -- each word holds old plus d, modulo its width
  pub moved_word : (d : ℕ → ℕ) (i j : ℕ) → i ≤ ws.count → j < i
      → le (ws.width j) (moved_to xs ws d i) (ws.at j) ≡ (le (ws.width j) xs (ws.at j) + d (ws.width j)) % 256 ^ ws.width j
  unfolding moved_to
  moved_word d zero j hi h = absurd (omega arith)
  moved_word d (suc i) j hi h =
      elim (dec_lt j i) [
        | yes l ↦
            le_cong (ws.width j) (add (ws.width i) (moved_to xs ws d i) (ws.at i) (d (ws.width i))) (moved_to xs ws d i) (ws.at j)
            (record {
              same = λ k m. add_beside (ws.width i) (moved_to xs ws d i) (ws.at i) (d (ws.width i)) (ws.at j + k)
                  (apart_from_lem i j k l (omega arith) m);
            })
            ∙ moved_word d i j (omega arith) l
        | no l ↦
            let e : j ≡ i = omega arith in
            let fits : ws.at i + ws.width i ≤ length (moved_to xs ws d i) = rw length_moved (spread.within i (omega arith)) in
            rw e (le_add (ws.width i) (moved_to xs ws d i) (ws.at i) (d (ws.width i)) fits ∙ rw
            (later_word d i i (omega arith) (omega arith)))
      ]
    where
      apart_from_lem : (i j k : ℕ) → j < i → i < ws.count → k < ws.width j
          → (ws.at j + k < ws.at i) ⊎ (ws.at i + ws.width i ≤ ws.at j + k)
      apart_from_lem i j k l h m = elim (spread.apart j i l h) [ inl a ↦ inl (omega arith) | inr a ↦ inr (omega arith) ]

-- they lie apart in the moved list too
pub spread_moved : (xs : List ℕ) (ws : Words) (d : ℕ → ℕ) (i : ℕ) → Spread xs ws → Spread (moved_to xs ws d i) ws
spread_moved xs ws d i s = record { within = λ j h. rw length_moved (s.within j h); apart = s.apart }

-- moving twice is moving once by the sum
pub moved_twice : (xs : List ℕ) (ws : Words) (d e f : ℕ → ℕ) → Spread xs ws → Bytes xs
    → ((j : ℕ) → j < ws.count → (d (ws.width j) + e (ws.width j)) % 256 ^ ws.width j ≡ f (ws.width j) % 256 ^ ws.width j)
    → moved (moved xs ws d) ws e ≡ moved xs ws f
moved_twice xs ws d e f spread b sum =
    let n = ws.count in
    let ys = moved_to xs ws d n in
    by_words (moved_to ys ws e n) (moved_to xs ws f n) ws (simp length_moved)
    (bytes_moved ys ws e n (bytes_moved xs ws d n b)) (bytes_moved xs ws f n b)
    (λ k out. moved_beside ys ws e n k out ∙ moved_beside xs ws d n k out ∙ sym (moved_beside xs ws f n k out))
    (λ j h.
    let m = 256 ^ ws.width j in
    let x = le (ws.width j) xs (ws.at j) in
    let p = d (ws.width j) in
    let q = e (ws.width j) in
    moved_word ys ws (spread_moved xs ws d n spread) e n j (omega arith) h
    ∙ ap (λ (v : ℕ). (v + q) % m) (moved_word xs ws spread d n j (omega arith) h)
    ∙ mod-add-mod (x + p) m q
    ∙ ap (λ (v : ℕ). v % m) (add_assoc x p q)
    ∙ sym (add-mod-mod x (p + q) m)
    ∙ ap (λ (v : ℕ). (x + v) % m) (sum j h)
    ∙ add-mod-mod x (f (ws.width j)) m
    ∙ sym (moved_word xs ws spread f n j (omega arith) h))

-- moving by nothing changes nothing
pub moved_none : (xs : List ℕ) (ws : Words) (d : ℕ → ℕ) → Spread xs ws → Bytes xs
    → ((j : ℕ) → j < ws.count → d (ws.width j) % 256 ^ ws.width j ≡ 0) → moved xs ws d ≡ xs
moved_none xs ws d spread b none =
    let n = ws.count in
    by_words (moved_to xs ws d n) xs ws (length_moved xs ws d n) (bytes_moved xs ws d n b) b (λ k out. moved_beside xs ws d n k out)
    (λ j h.
    let m = 256 ^ ws.width j in
    let x = le (ws.width j) xs (ws.at j) in
    let e : x + 0 ≡ x = omega arith in
    moved_word xs ws spread d n j (omega arith) h ∙ sym (add-mod-mod x (d (ws.width j)) m)
    ∙ rw (none j h, e) (mod-eq_of_lt (le_lt (ws.width j) xs (ws.at j) b)))

-- there and back
pub moved_back : (xs : List ℕ) (ws : Words) (d e : ℕ → ℕ) → Spread xs ws → Bytes xs
    → ((j : ℕ) → j < ws.count → (d (ws.width j) + e (ws.width j)) % 256 ^ ws.width j ≡ 0) → moved (moved xs ws d) ws e ≡ xs
moved_back xs ws d e spread b none =
    moved_twice xs ws d e (λ w. d w + e w) spread b (λ j h. refl) ∙ moved_none xs ws (λ w. d w + e w) spread b none

-- two differences add up
pub difference_sum : (w a b c : ℕ) → a < 256 ^ w → b < 256 ^ w
    → (difference a b w + difference b c w) % 256 ^ w ≡ difference a c w % 256 ^ w
unfolding difference
difference_sum w a b c ha hb =
    let m = 256 ^ w in
    let e : b + (m - a) + (c + (m - b)) ≡ c + (m - a) + m = omega arith in
    mod-add-mod (b + (m - a)) m ((c + (m - b)) % m) ∙ add-mod-mod (b + (m - a)) (c + (m - b)) m ∙ rw e (add-mod_right (c + (m - a)) m) ∙ sym
    (mod-mod (c + (m - a)) m)

pub difference_none : (w a : ℕ) → a < 256 ^ w → difference a a w % 256 ^ w ≡ 0
unfolding difference
difference_none w a ha =
    let m = 256 ^ w in
    let e : a + (m - a) ≡ m = omega arith in
    rw (e, mod_self) (zero-mod m)
