-- What one mark more means.
-- Assumes nothing.
use Rattle.std.specs.Prelude.{ℕ, zero, suc, ◌+◌, ◌-◌, ◌≤◌, ◌<◌, Bool, true, false, List, [], ◌∷◌, ◌++◌, ◌⊎◌, ◌≡◌, refl, length, get_or, set}
use Rattle.std.proofs.Common.{inl, inr, sym, ap, ◌∙◌, arith, add-one, length-set, get_or-set_same, get_or-set_other}
use Rattle.std.proofs.Math.Decide.{dec_lt}
use Rattle.facts.specs.Fact.{Fact, Holds}
use Rattle.table.specs.Passes.{place}
use Rattle.items.specs.declared.Item.{Item}
use Rattle.items.specs.Items.{word, each, apart, word_kind, kind_number}
use Rattle.items.specs.ItemsLaws.{each_none, each_so, each_more, each_last}
use Rattle.inside_judge.specs.Rules.{patch_from}
use Rattle.apart_strokes.specs.Strokes.{Struck, Painting, Painted}
use Rattle.apart_strokes.specs.StrokesLaws.{false_true}
use Rattle.apart_marks.specs.Marks.{has, apart_at, free, calm, Mark, Marks}
use Rattle.apart_marks.specs.Marks.{StruckIn, PaintedIn, Clipped, Added}

pub each_all : (p : Item → Fact) (l : List Item) → ((x : Item) → Holds (p x)) → Holds (each p l)
unfolding each
each_all p [] f = omega arith
each_all p (x ∷ l) f = (f x, each_all p l f)

-- what is apart is apart at each byte
pub pair_at : (k : ℕ) (x y : Item) → Holds (apart x y) → Holds (apart_at k x y)
pair_at k x y (inl h) = inl h
pair_at k x y (inr (inl h)) =
    elim (dec_lt k (x.at + x.len)) [ yes l ↦ inr (inr (λ e. omega (arith, e.0))) | no l ↦ inr (inl (λ e. omega (arith, e.1))) ]
pair_at k x y (inr (inr h)) =
    elim (dec_lt k (y.at + y.len)) [ yes l ↦ inr (inl (λ e. omega (arith, e.0))) | no l ↦ inr (inr (λ e. omega (arith, e.1))) ]

-- ---- one mark

pub mark_none : (k m : ℕ) → m ≡ 0 → Mark [] k m
mark_none k m e =
    record {
      small = omega arith;
      empty = λ z. each_none (free k);
      taken = λ h. e;
      wordless = λ z. each_none (calm k);
      worded = λ h. omega arith;
    }

module _ (l : List Item) (x : Item) (k m : ℕ) (is : Mark l k m) where
  -- x hasn't the byte
  pub mark_same : (Holds (has k x) → ⊥) → Mark (l ++ (x ∷ [])) k m
  mark_same n =
      record {
        small = is.small;
        empty = λ z. each_more (free k) l x (is.empty z) n;
        taken = λ h. is.taken (each_last (free k) l x h).0;
        wordless = λ z. each_more (calm k) l x (is.wordless z) (inr n);
        worded = λ h. is.worded (each_last (calm k) l x h).0;
      }

  -- x is a word that has it
  pub mark_word : kind_number x.kind ≡ word_kind → Holds (has k x) → Mark (l ++ (x ∷ [])) k 2
  mark_word w h =
      record {
        small = omega arith;
        empty = λ z. absurd (omega arith);
        taken = λ f. absurd ((each_last (free k) l x f).1 h);
        wordless = λ z. absurd (omega arith);
        worded = λ f. elim (each_last (calm k) l x f).1 [ inl n ↦ absurd (n w) | inr n ↦ absurd (n h) ];
      }

  -- x has it and is no word, nor has a word been there
  pub mark_kept : (kind_number x.kind ≡ word_kind → ⊥) → m ≤ 1 → Holds (has k x) → Mark (l ++ (x ∷ [])) k 1
  mark_kept w low h =
      record {
        small = omega arith;
        empty = λ z. absurd (omega arith);
        taken = λ f. absurd ((each_last (free k) l x f).1 h);
        wordless = λ z. each_more (calm k) l x (is.wordless low) (inl w);
        worded = λ f. omega arith;
      }

  -- ---- a mark tells whether x fits

  pub fits_off : (Holds (has k x) → ⊥) → Holds (each (apart_at k x) l)
  fits_off n = each_all (apart_at k x) l (λ y. inr (inl n))

  pub fits_word : m ≡ 0 → Holds (each (apart_at k x) l)
  fits_word z = each_so (free k) (apart_at k x) l (λ y h. inr (inr h)) (is.empty z)

  pub fits_kept : (kind_number x.kind ≡ word_kind → ⊥) → m ≤ 1 → Holds (each (apart_at k x) l)
  fits_kept w low = each_so (calm k) (apart_at k x) l go (is.wordless low)
    where
      go : (y : Item) → Holds (calm k y) → Holds (apart_at k x y)
      go y (inl n) = inl (w, n)
      go y (inr n) = inr (inr n)

  pub clash_word : kind_number x.kind ≡ word_kind → Holds (has k x) → 0 < m → Holds (each (apart x) l) → ⊥
  clash_word w h some all = let z = is.taken (each_so (apart x) (free k) l (λ y a. go y (pair_at k x y a)) all) in omega arith
    where
      go : (y : Item) → Holds (apart_at k x y) → Holds (free k y)
      go y (inl n) = absurd (n.0 w)
      go y (inr (inl n)) = absurd (n h)
      go y (inr (inr n)) = n

  pub clash_kept : Holds (has k x) → 1 < m → Holds (each (apart x) l) → ⊥
  clash_kept h some all = let z = is.worded (each_so (apart x) (calm k) l (λ y a. go y (pair_at k x y a)) all) in omega arith
    where
      go : (y : Item) → Holds (apart_at k x y) → Holds (calm k y)
      go y (inl n) = inl n.1
      go y (inr (inl n)) = absurd (n h)
      go y (inr (inr n)) = inr n

-- ---- a range

pub marks_none : (w : ℕ) (ms : List ℕ) → length ms ≡ 65536 → ((j : ℕ) → j < 65536 → get_or ms j 0 ≡ 0) → Marks [] w ms
marks_none w ms long none = record { long = long; at = λ j h. mark_none (w + j) (get_or ms j 0) (none j h) }

pub clipped_order : (at end w a e : ℕ) → at ≤ end → Clipped at w a → Clipped end w e → a ≤ e
clipped_order at end w a e h p q =
    elim (dec_lt e a) [
      | no l ↦ omega arith
      | yes l ↦ absurd (omega (arith, p.below e l, p.small, q.above e (omega (arith, p.small)) (omega arith)))
    ]

pub painted_in : (ms ns : List ℕ) (w at end limit mark a e : ℕ) (r : Bool) → Clipped at w a → Clipped end w e
    → Painted ms ns a e limit mark r → PaintedIn ms ns w at end limit mark r
painted_in ms ns w at end limit mark a e r p q done =
    record {
      long = done.long;
      met = λ t j h g k. (done.all t).met j (from j g) (to j h k);
      done = λ t j h g k. (done.all t).done j (from j g) (to j h k);
      rest = rest;
      bad = λ f. struck (done.bad f);
    }
  where
    from : (j : ℕ) → at ≤ w + j → a ≤ j
    from j g = elim (dec_lt j a) [ no l ↦ omega arith | yes l ↦ absurd (omega (arith, p.below j l)) ]

    to : (j : ℕ) → j < 65536 → suc (w + j) ≤ end → j < e
    to j h k = elim (dec_lt j e) [ yes l ↦ l | no l ↦ absurd (omega (arith, q.above j h (omega arith))) ]

    rest : r ≡ true → (j : ℕ) → j < 65536 → ((at ≤ w + j) × (suc (w + j) ≤ end) → ⊥) → get_or ns j 0 ≡ get_or ms j 0
    rest t j h out =
        elim (dec_lt j a) [
          | yes l ↦ (done.all t).below j l
          | no l ↦ elim (dec_lt j e) [
            | no k ↦ (done.all t).above j (omega arith)
            | yes k ↦ absurd (out (p.above j h (omega arith), omega (arith, q.below j k)))
          ]
        ]

    struck : Struck ms a e limit → StruckIn ms w at end limit
    struck s =
        let h : s.at < 65536 = omega (arith, s.high, q.small) in
        record {
          where_at = s.at;
          small = h;
          low = p.above s.at h s.low;
          high = omega (arith, q.below s.at s.high);
          over = s.over;
        }

-- ---- an item

by_has : {P : Type 0} (k : ℕ) (x : Item) → (Holds (has k x) → P) → ((Holds (has k x) → ⊥) → P) → P
by_has k x f g =
    elim (dec_lt k x.at) [
      | yes l ↦ g (λ h. omega (arith, h.0))
      | no l ↦ elim (dec_lt k (x.at + x.len)) [ yes u ↦ f (omega arith, omega arith) | no u ↦ g (λ h. omega (arith, h.1)) ]
    ]

-- a word marked over whatever was there
pub worded_in : (ms ns : List ℕ) (w limit : ℕ) (x : Item) (l : List Item) → PaintedIn ms ns w x.at (x.at + x.len) limit 2 true
    → kind_number x.kind ≡ word_kind → Marks l w ms → Marks (l ++ (x ∷ [])) w ns
worded_in ms ns w limit x l p word marks =
    record {
      long = p.long ∙ marks.long;
      at = λ j h.
          by_has (w + j) x
          (λ t. rw (p.done refl j h t.0 t.1) (mark_word l x (w + j) (get_or ms j 0) (marks.at j h) word t))
          (λ t. rw (p.rest refl j h t) (mark_same l x (w + j) (get_or ms j 0) (marks.at j h) t));
    }

kept_in : (ms ns : List ℕ) (w : ℕ) (x : Item) (l : List Item) → PaintedIn ms ns w x.at (x.at + x.len) 1 1 true
    → (kind_number x.kind ≡ word_kind → ⊥) → Marks l w ms → Marks (l ++ (x ∷ [])) w ns
kept_in ms ns w x l p other marks =
    record {
      long = p.long ∙ marks.long;
      at = λ j h.
          by_has (w + j) x
          (λ t.
          rw (p.done refl j h t.0 t.1)
          (mark_kept l x (w + j) (get_or ms j 0) (marks.at j h) other (p.met refl j h t.0 t.1) t))
          (λ t. rw (p.rest refl j h t) (mark_same l x (w + j) (get_or ms j 0) (marks.at j h) t));
    }

pub added_word : (ms ns : List ℕ) (w : ℕ) (x : Item) (r : Bool) → kind_number x.kind ≡ word_kind → PaintedIn ms ns w x.at (x.at + x.len) 0 2 r
    → Added ms ns w x r
added_word ms ns w x r word p =
    record {
      long = p.long;
      went = λ l marks t. worded_in ms ns w 0 x l (rw t at p) word marks;
      fits = λ l marks t j h.
          by_has (w + j) x
          (λ k. fits_word l x (w + j) (get_or ms j 0) (marks.at j h) (omega (arith, p.met t j h k.0 k.1)))
          (λ k. fits_off l x (w + j) (get_or ms j 0) (marks.at j h) k);
      clash = λ l marks f all.
          let s = p.bad f in
          clash_word l x (w + s.where_at) (get_or ms s.where_at 0) (marks.at s.where_at s.small) word (s.low, s.high)
          s.over all;
    }

pub added_kept : (ms ns : List ℕ) (w : ℕ) (x : Item) (r : Bool) → (kind_number x.kind ≡ word_kind → ⊥) → PaintedIn ms ns w x.at (x.at + x.len) 1 1 r
    → Added ms ns w x r
added_kept ms ns w x r other p =
    record {
      long = p.long;
      went = λ l marks t. kept_in ms ns w x l (rw t at p) other marks;
      fits = λ l marks t j h.
          by_has (w + j) x
          (λ k. fits_kept l x (w + j) (get_or ms j 0) (marks.at j h) other (p.met t j h k.0 k.1))
          (λ k. fits_off l x (w + j) (get_or ms j 0) (marks.at j h) k);
      clash = λ l marks f all.
          let s = p.bad f in
          clash_kept l x (w + s.where_at) (get_or ms s.where_at 0) (marks.at s.where_at s.small) (s.low, s.high)
          s.over all;
    }

-- no mark is past 2
pub never_struck : (ms ns : List ℕ) (w at end mark : ℕ) (r : Bool) (l : List Item) → Marks l w ms → PaintedIn ms ns w at end 2 mark r
    → PaintedIn ms ns w at end 2 mark true
never_struck ms ns w at end mark true l marks p = p
never_struck ms ns w at end mark false l marks p =
    let s = p.bad refl in
    absurd (omega (arith, s.over, (marks.at s.where_at s.small).small))

-- ---- the patch words

-- one patch word more
pub patch_more : (xs : List ℕ) (t j i : ℕ) → patch_from xs t j (suc i) ≡ patch_from xs t j i ++ (word (place xs t (j + i)).at 4 ∷ [])
unfolding patch_from
patch_more xs t j zero = let e : j + 0 ≡ j = omega arith in rw e
patch_more xs t j (suc i) =
    let e : suc j + i ≡ j + suc i = omega arith in
    ap (λ (l : List Item). word (place xs t j).at 4 ∷ l) (patch_more xs t (suc j) i ∙ rw e)

pub patch_none : (xs : List ℕ) (t w : ℕ) (ms : List ℕ) → Marks [] w ms → Marks (patch_from xs t 0 0) w ms
unfolding patch_from
patch_none xs t w ms marks = marks

pub patch_marked : (xs : List ℕ) (t i p w : ℕ) (ms ns : List ℕ) (r : Bool) → Marks (patch_from xs t 0 i) w ms → p ≡ (place xs t i).at
    → PaintedIn ms ns w p (p + 4) 2 2 r → Marks (patch_from xs t 0 (i + 1)) w ns
patch_marked xs t i p w ms ns r marks is done =
    let e : 0 + i ≡ i = omega arith in
    rw (add-one i, patch_more xs t 0 i, e, ← is)
    (worded_in ms ns w 2 (word p 4) (patch_from xs t 0 i) (never_struck ms ns w p (p + 4) 2 r (patch_from xs t 0 i) marks done) refl marks)

-- ---- a word that lies whole in the window

clipped_in : (k w a : ℕ) → k ≡ w + a → a ≤ 65536 → Clipped k w a
clipped_in k w a e h = record { small = h; below = λ j l. omega arith; above = λ j l g. omega arith }

pub painted_whole : (ms ns : List ℕ) (w at len k : ℕ) (r : Bool) → w ≤ at → at - w + k ≤ 65536 → len ≡ k
    → Painted ms ns (at - w) (at - w + k) 0 2 r → PaintedIn ms ns w at (at + len) 0 2 r
painted_whole ms ns w at len k r low high e p =
    painted_in ms ns w at (at + len) 0 2 (at - w) (at - w + k) r (clipped_in at w (at - w) (omega arith) (omega arith))
    (clipped_in (at + len) w (at - w + k) (omega arith) high) p
