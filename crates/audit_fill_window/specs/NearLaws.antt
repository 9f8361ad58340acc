-- The words of a list, and the walk to the first word that is yet to come.
-- Assumes nothing.
use Rattle.std.specs.Prelude.{ℕ, zero, suc, ◌+◌, ◌-◌, ◌≤◌, ◌<◌, Bool, true, false, List, [], ◌∷◌, ◌++◌, ◌⊎◌, ◌≡◌, refl, length}
use Rattle.std.proofs.Common.{inl, inr, sym, ap, ◌∙◌, arith}
use Rattle.std.proofs.Math.Decide.{ℕ_discrete, dec_lt}
use Rattle.facts.specs.Fact.{Holds}
use Rattle.words.specs.Le.{le}
use Rattle.items.specs.declared.Item.{Item}
use Rattle.items.specs.Items.{each, apart_from, inside, words_in, nth, kind_number, word_kind, end_kind}
use Rattle.items.specs.Listed.{words_none, words_more, words_same, spread}
use Rattle.items.specs.Shapes.{from as above}
use Rattle.inside_rows.specs.declared.Module.{Module}
use Rattle.inside_blocks.specs.declared.Cursor.{Cursor}
use Rattle.inside_blocks.specs.Blocks.{heads_from, item_of, entries_from, blocks_from}
use Rattle.inside_blocks.specs.BlocksWalk as blocksWalk
use Rattle.inside_walk.specs.declared.Spot.{Spot}
use Rattle.inside_walk.specs.declared.Move.{Move}
use Rattle.inside_walk.specs.WholeWalk.{ahead, Valid, Stepped}
use Rattle.inside_walk.specs.WholeAbove.{ahead_above}
use Rattle.inside_walk.specs.Entries.{entries_of, past_of, ahead_entries, past_valid}
use Rattle.audit_fill_window.specs.Near.{Has, Telling, Done, Low, Passed, Sought}

-- ---- the words of a list

pub has_nth : (l : List Item) (k w : ℕ) → Has l k w
    → (i : ℕ) × (i < length (words_in l)) × ((nth (words_in l) i).at ≡ k) × ((nth (words_in l) i).len ≡ w)
unfolding Has
has_nth [] k w h = absurd h
has_nth (x ∷ l) k w (inl h) = rw (words_more x l h.0) (0, omega arith, h.1, h.2)
has_nth (x ∷ l) k w (inr h) = go (ℕ_discrete (kind_number x.kind) word_kind) (has_nth l k w h)
  where
    go : Dec (kind_number x.kind ≡ word_kind) → (i : ℕ) × (i < length (words_in l)) × ((nth (words_in l) i).at ≡ k) × ((nth (words_in l) i).len ≡ w)
        → (i : ℕ) × (i < length (words_in (x ∷ l))) × ((nth (words_in (x ∷ l)) i).at ≡ k) × ((nth (words_in (x ∷ l)) i).len ≡ w)
    go (yes e) (i, a, b, c) = rw (words_more x l e) (suc i, omega arith, b, c)
    go (no e) r = rw (words_same x l e) r

pub nth_has : (l : List Item) (i : ℕ) → i < length (words_in l) → Has l (nth (words_in l) i).at (nth (words_in l) i).len
unfolding Has
nth_has [] i h = absurd (omega (arith, words_none))
nth_has (x ∷ l) i h = go i h (ℕ_discrete (kind_number x.kind) word_kind) (nth_has l)
  where
    go : (i : ℕ) → i < length (words_in (x ∷ l)) → Dec (kind_number x.kind ≡ word_kind)
        → ((j : ℕ) → j < length (words_in l) → Has l (nth (words_in l) j).at (nth (words_in l) j).len)
        → Has (x ∷ l) (nth (words_in (x ∷ l)) i).at (nth (words_in (x ∷ l)) i).len
    go i h (no n) rest = rw (words_same x l n) (inr (rest i (rw (words_same x l n) at h)))
    go zero h (yes n) rest = rw (words_more x l n) (inl (n, refl, refl))
    go (suc i) h (yes n) rest =
        let less : suc i < suc (length (words_in l)) = rw (words_more x l n) at h in
        rw (words_more x l n) (inr (rest i (omega arith)))

pub has_inside : (n : ℕ) (l : List Item) (k w : ℕ) → Holds (each (inside n) l) → Has l k w → (k + w ≤ n) × (0 < w) × (w < 256)
unfolding Has each
has_inside n [] k w h g = absurd g
has_inside n (x ∷ l) k w (h, t) (inr g) = has_inside n l k w t g
has_inside n (x ∷ l) k w (inl z, t) (inl (a, b, c)) = absurd (z a)
has_inside n (x ∷ l) k w (inr (p, inl q), t) (inl (a, b, c)) = (omega arith, omega arith, omega arith)
has_inside n (x ∷ l) k w (inr (p, inr q), t) (inl (a, b, c)) = (omega arith, omega arith, omega arith)

-- two words at one place are one
pub has_one : (xs : List ℕ) (l : List Item) → Holds (each (inside (length xs)) l) → Holds (apart_from [] l)
    → (k w u : ℕ) → Has l k w → Has l k u → w ≡ u
has_one xs l within separate k w u g h =
    let (i, a, b, c) = has_nth l k w g in
    let (j, d, e, f) = has_nth l k u h in
    let big = has_inside (length xs) l k w within g in
    let more = has_inside (length xs) l k u within h in
    let apart = (spread xs l within separate).apart in
    elim (ℕ_discrete i j) [
      | yes s ↦ sym c ∙ (ap (λ n. (nth (words_in l) n).len) s ∙ f)
      | no s ↦
          elim (dec_lt i j) [
            | yes z ↦ elim (apart i j z d) [ inl o ↦ absurd (omega arith) | inr o ↦ absurd (omega arith) ]
            | no z ↦ elim (apart j i (omega arith) a) [ inl o ↦ absurd (omega arith) | inr o ↦ absurd (omega arith) ]
          ]
    ]

-- ---- a step of the walk

module _ (xs : List ℕ) (v : ℕ) (t : Spot) (m : Move) (step : Stepped xs v t m) where
  -- at the end there is none
  pub step_none : kind_number m.item.kind ≡ end_kind → (k w : ℕ) → Has (ahead xs v t) k w → ⊥
  unfolding Has
  step_none z k w h = rw (step.ends z) at h

  -- a word ahead is the item, or ahead of the next spot
  pub step_fork : (kind_number m.item.kind ≡ end_kind → ⊥) → (k w : ℕ) → Has (ahead xs v t) k w
      → ((kind_number m.item.kind ≡ word_kind) × (m.item.at ≡ k) × (m.item.len ≡ w)) ⊎ Has (ahead xs v m.next) k w
  unfolding Has
  step_fork is k w h = rw (step.goes is) at h

  pub step_join : (kind_number m.item.kind ≡ end_kind → ⊥) → (k w : ℕ)
      → ((kind_number m.item.kind ≡ word_kind) × (m.item.at ≡ k) × (m.item.len ≡ w)) ⊎ Has (ahead xs v m.next) k w → Has (ahead xs v t) k w
  unfolding Has
  step_join is k w h = rw (step.goes is) h

-- ---- the entries of a block

-- the first of them, and the rest
pub entries_next : (xs : List ℕ) (m : Module) (page at k : ℕ) (x : Item) → x ≡ item_of xs m page (le 2 xs at) → 0 < k
    → entries_from xs m page at k ≡ x ∷ entries_from xs m page (at + 2) (k - 1)
unfolding entries_from
entries_next xs m page at zero x e some = absurd (omega arith)
entries_next xs m page at (suc k) x e some = let one : suc k - 1 ≡ k = omega arith in rw (one, e) refl

-- the words of k entries at `at` start below n, but for those that are left
abbrev pub Below : List Item → List Item → ℕ → Type 0
Below l rest n = (k w : ℕ) → Has l k w → (k < n) ⊎ Has rest k w

pub below_next : (xs : List ℕ) (m : Module) (page at k n : ℕ) (x : Item) (l : List Item) → x ≡ item_of xs m page (le 2 xs at) → 0 < k
    → Below l (entries_from xs m page at k) n → (kind_number x.kind ≡ word_kind → x.at < n) → Below l (entries_from xs m page (at + 2) (k - 1)) n
unfolding Has
below_next xs m page at k n x l e some below old i w h =
    elim (rw (entries_next xs m page at k x e some) at (below i w h)) [
      | inl a ↦ inl a
      | inr (inl (a, b, c)) ↦ inl (omega (arith, old a))
      | inr (inr a) ↦ inr a
    ]

pub below_end : (xs : List ℕ) (m : Module) (page at k n : ℕ) (l : List Item) → k ≡ 0 → Below l (entries_from xs m page at k) n
    → (i w : ℕ) → Has l i w → i < n
unfolding Has entries_from
below_end xs m page at k n l e below i w h = elim (below i w h) [ inl a ↦ a | inr a ↦ absurd (rw e at a) ]

pub has_split : (l m : List Item) (k w : ℕ) → Has (l ++ m) k w → Has l k w ⊎ Has m k w
unfolding Has
has_split [] m k w h = inr h
has_split (x ∷ l) m k w (inl h) = inl (inl h)
has_split (x ∷ l) m k w (inr h) = elim (has_split l m k w h) [ inl a ↦ inl (inr a) | inr a ↦ inr a ]

pub has_later : (l m : List Item) (k w : ℕ) → Has m k w → Has (l ++ m) k w
unfolding Has
has_later [] m k w h = h
has_later (x ∷ l) m k w h = inr (has_later l m k w h)

-- ---- what is ahead starts no lower

module_none : (xs : List ℕ) (m : Module) (c : Cursor) → Done m c → blocksWalk.ahead xs m c ≡ []
unfolding blocksWalk.ahead heads_from entries_from blocks_from
module_none xs m c (heads, left, used) = let e : m.size - c.used ≡ 0 = omega arith in rw (heads, left, e)

has_from : (n : ℕ) (l : List Item) (k w : ℕ) → Holds (each (above n) l) → Has l k w → 0 < w → n ≤ k
unfolding Has each
has_from n [] k w h g some = absurd g
has_from n (x ∷ l) k w (h, t) (inr g) some = has_from n l k w t g some
has_from n (x ∷ l) k w (inl z, t) (inl (a, b, c)) some = absurd (omega (arith, z.1))
has_from n (x ∷ l) k w (inr z, t) (inl (a, b, c)) some = omega arith

pub low_above : (xs : List ℕ) (v n : ℕ) (s : Spot) → Valid xs v s → Low s n → (k w : ℕ) → Has (ahead xs v s) k w → 0 < w → n ≤ k
low_above xs v n s valid low k w h =
    has_from n (ahead xs v s) k w (ahead_above xs v n s valid.module_fits (lies low.hand) low.section low.file) h
  where
    lies : (n ≤ s.m.lo) ⊎ Done s.m s.c → (n ≤ s.m.lo) ⊎ (blocksWalk.ahead xs s.m s.c ≡ [])
    lies (inl l) = inl l
    lies (inr d) = inr (module_none xs s.m s.c d)

pub low_less : (s : Spot) (n k : ℕ) → k ≤ n → Low s n → Low s k
low_less s n k h low =
    record {
      hand = elim low.hand [ inl l ↦ inl (omega arith) | inr d ↦ inr d ];
      section = λ l. omega (arith, low.section l);
      file = omega (arith, low.file);
    }

-- on and on
pub passed_join : (xs : List ℕ) (v : ℕ) (s t u : Spot) (n m : ℕ) → n ≤ m → Passed xs v s n t → Passed xs v t m u → Passed xs v s m u
passed_join xs v s t u n m up a b =
    record {
      valid = b.valid;
      below = λ k w h. elim (a.below k w h) [ inl z ↦ inl (omega arith) | inr z ↦ b.below k w z ];
      back = λ k w h. a.back k w (b.back k w h);
    }

-- a spot that is kept while nothing passed comes too late
pub kept_on : (xs : List ℕ) (v : ℕ) (s : Spot) (n : ℕ) (late : Bool) (kept spot new next : Spot) → Passed xs v s n kept
    → (late ≡ false → (kept ≡ spot) × (Passed xs v s n spot → Passed xs v s n new))
    → (late ≡ true → next ≡ kept) → (late ≡ false → next ≡ new) → Passed xs v s n next
kept_on xs v s n true kept spot new next p early stays goes = rw (stays refl) p
kept_on xs v s n false kept spot new next p early stays goes =
    let (same, on) = early refl in
    rw (goes refl) (on (rw same at p))

-- ---- on to the first word that is yet to come

module _ (xs : List ℕ) (v : ℕ) (s : Spot) (n : ℕ) where
  pub passed_start : Valid xs v s → Passed xs v s n s
  passed_start valid = record { valid = valid; below = λ k w h. inr h; back = λ k w h. h }

  pub passed_entries : (t : Spot) → Passed xs v s n t → ((k w : ℕ) → Has (entries_of xs t) k w → k < n) → Passed xs v s n (past_of t)
  passed_entries t passed old =
      record {
        valid = past_valid xs v t passed.valid;
        below = λ k w h.
            elim (passed.below k w h) [
              | inl z ↦ inl z
              | inr z ↦
                  elim (has_split (entries_of xs t) (ahead xs v (past_of t)) k w (rw (ahead_entries xs v t) at z)) [
                    | inl a ↦ inl (old k w a)
                    | inr a ↦ inr a
                  ]
            ];
        back = λ k w h.
            passed.back k w (rw (ahead_entries xs v t) (has_later (entries_of xs t) (ahead xs v (past_of t)) k w h));
      }

  module _ (t : Spot) (m : Move) (passed : Passed xs v s n t) (step : Stepped xs v t m) where
    pub passed_next : (kind_number m.item.kind ≡ end_kind → ⊥) → (kind_number m.item.kind ≡ word_kind → m.item.at < n) → Passed xs v s n m.next
    passed_next is old =
        record {
          valid = step.valid;
          below = λ k w h.
              elim (passed.below k w h) [
                | inl z ↦ inl z
                | inr z ↦
                    elim (step_fork xs v t m step is k w z) [ inl (a, b, c) ↦ inl (omega (arith, old a)) | inr g ↦ inr g ]
              ];
          back = λ k w h. passed.back k w (step_join xs v t m step is k w (inr h));
        }

    pub sought_end : n ≤ length xs → kind_number m.item.kind ≡ end_kind → Sought xs v s n (record { spot = t; low = length xs })
    sought_end most z =
        record { passed = passed; low = λ k w h. absurd (step_none xs v t m step z k w h); onward = most; most = omega arith }

  pub sought_here : (t : Spot) → Passed xs v s n t → (low : ℕ) → Telling (ahead xs v s) → n ≤ low → low ≤ length xs
      → (low ≡ n) ⊎ Low t low → Sought xs v s n (record { spot = t; low = low })
  sought_here t passed low telling up most is =
      record {
        passed = passed;
        low = λ k w h g.
            elim is [
              | inl e ↦ omega arith
              | inr e ↦ low_above xs v low t passed.valid e k w h (telling k w (passed.back k w h)).0
            ];
        onward = up;
        most = most;
      }
