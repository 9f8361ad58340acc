-- Which bytes two images have alike where they agree but for the words and the configuration region.
-- Assumes nothing.
use Prim.{tt}
use Rattle.std.specs.Prelude.{ℕ, ◌+◌, ◌≤◌, ◌<◌, ◌⊎◌, ◌≡◌, length, get_or}
use mathlib.Core.List.{List, [], ◌∷◌, ◌++◌, append_assoc}
use Rattle.std.proofs.Math.Logic.{inl, inr}
use Rattle.std.proofs.Common.{arith}
use Rattle.std.proofs.Math.Decide.{ℕ_discrete}
use Rattle.facts.specs.Fact.{◌≡?◌, ◌or◌, Holds}
use Rattle.words.specs.Le.{Alike}
use Rattle.moves.specs.Moves.{Beside}
use Rattle.items.specs.declared.Item.{Item}
use Rattle.items.specs.Items.{each, apart, apart_from, words_in, nth, listed, word_kind, kind_number}
use Rattle.items.specs.ItemsLaws.{each_so, each_join, each_last, apart_turned, apart_across}
use Rattle.items.specs.Judged.{off, sound}
use Rattle.items.specs.Shapes.{sized, Kept}
use Rattle.items.specs.Listed.{each_nth}

-- ---- two lists after each other

pub kept_left : (a b : List ℕ) (l k : List Item) → Kept a b (l ++ k) → Kept a b l
unfolding Kept
kept_left a b [] k h = tt
kept_left a b (x ∷ l) k (h, t) = (h, kept_left a b l k t)

pub kept_right : (a b : List ℕ) (l k : List Item) → Kept a b (l ++ k) → Kept a b k
unfolding Kept
kept_right a b [] k h = h
kept_right a b (x ∷ l) k (h, t) = kept_right a b l k t

-- ---- apart

-- one more that stands before
pub apart_first : (x : Item) (before l : List Item) → Holds (each (λ y. apart y x) l) → Holds (apart_from before l)
    → Holds (apart_from (x ∷ before) l)
unfolding each apart_from
apart_first x before [] far h = h
apart_first x before (y ∷ l) (now, far) (h, t) = ((now, h), apart_first x (before ++ (y ∷ [])) l far t)

-- what is no word is apart from all, those before it, itself, and those after it
apart_all : (before l : List Item) → Holds (apart_from before l) → Holds (each (λ x. (kind_number x.kind) ≡? word_kind or each (apart x) (before ++ l)) l)
unfolding each apart_from
apart_all before [] h = h
apart_all before (x ∷ l) (h, t) =
    let e : (before ++ (x ∷ [])) ++ l ≡ before ++ (x ∷ l) = append_assoc before (x ∷ []) l in
    (now (ℕ_discrete (kind_number x.kind) word_kind), rw e at (apart_all (before ++ (x ∷ [])) l t))
  where
    after : Holds (each (apart x) l)
    after =
        each_so (λ y. apart y x) (apart x) l (λ y k. apart_turned x y k)
        (each_last (λ x. each (λ y. apart y x) l) before x (apart_across (before ++ (x ∷ [])) l t)).1

    now : Dec (kind_number x.kind ≡ word_kind) → Holds (kind_number x.kind ≡? word_kind or each (apart x) (before ++ (x ∷ l)))
    now (yes e) = inl e
    now (no e) = inr (each_join (apart x) before (x ∷ l) h (inl (e, e), after))

-- ---- images that agree at every byte that lies in no word and not in the z bytes at c

module _ (a b : List ℕ) (all : List Item) (c z : ℕ)
    (but : (k : ℕ) → Beside (listed (words_in all)) (length (words_in all)) k → (k < c) ⊎ (c + z ≤ k) → get_or a k 0 ≡ get_or b k 0)
  where
    -- an item that is no word, is apart from all words and off the region
    alike_off : (x : Item) → (kind_number x.kind ≡ word_kind → ⊥) → Holds (off c z x) → Holds (each (apart x) all) → Alike a b x.at x.len
    alike_off x other out far =
        record { same = λ j h. but (x.at + j) (λ i n. beside j h i (each_nth (apart x) all i far n)) (side j h out) }
      where
        side : (j : ℕ) → j < x.len → Holds (off c z x) → (x.at + j < c) ⊎ (c + z ≤ x.at + j)
        side j h (inl o) = inl (omega arith)
        side j h (inr o) = inr (omega arith)

        beside : (j : ℕ) → j < x.len → (i : ℕ) → Holds (apart x (nth (words_in all) i)) × (kind_number (nth (words_in all) i).kind ≡ word_kind)
            → (x.at + j < (nth (words_in all) i).at) ⊎ ((nth (words_in all) i).at + (nth (words_in all) i).len ≤ x.at + j)
        beside j h i (inl n, two) = absurd (n.1 two)
        beside j h i (inr (inl n), two) = inl (omega arith)
        beside j h i (inr (inr n), two) = inr (omega arith)

    kept_apart : (l : List Item) → Holds (each (sound c z) l) → Holds (each sized l)
        → Holds (each (λ x. (kind_number x.kind) ≡? word_kind or each (apart x) all) l) → Kept a b l
    unfolding each Kept
    kept_apart [] ok size far = tt
    kept_apart (x ∷ l) (ok, oks) (size, sizes) (far, fars) = ((λ other. now other far ok size), kept_apart l oks sizes fars)
      where
        now : (kind_number x.kind ≡ word_kind → ⊥) → Holds (kind_number x.kind ≡? word_kind or each (apart x) all) → Holds (sound c z x) → Holds (sized x)
            → Alike a b x.at x.len
        now other (inl e) ok size = absurd (other e)
        now other (inr e) (there, inl n) (inl s) = absurd (n s)
        now other (inr e) (there, inr out) (inl s) = alike_off x other out e
        now other (inr e) ok (inr (inl s)) = absurd (other s)
        now other (inr e) ok (inr (inr (inl s))) = absurd (ok.0 s)
        now other (inr e) ok (inr (inr (inr s))) = record { same = λ j h. absurd (omega arith) }

pub kept_but : (a b : List ℕ) (before l : List Item) (c z : ℕ) → Holds (each (sound c z) l) → Holds (each sized l)
    → Holds (apart_from before l)
    → ((k : ℕ) → Beside (listed (words_in (before ++ l))) (length (words_in (before ++ l))) k → (k < c) ⊎ (c + z ≤ k)
    → get_or a k 0 ≡ get_or b k 0)
    → Kept a b l
kept_but a b before l c z ok size far but = kept_apart a b (before ++ l) c z but l ok size (apart_all before l far)
