-- The words of a list of items as a list of words of a move: the laws of moving hold of them as they are.
-- Assumes nothing.
use Rattle.std.specs.Prelude.{ℕ, zero, suc, ◌+◌, ◌≤◌, ◌<◌, List, [], ◌∷◌, ◌++◌, ◌⊎◌, ◌≡◌, refl, length}
use Rattle.std.proofs.Common.{inl, inr, arith, eq-eqb, ne_eqb}
use Rattle.std.proofs.Math.Decide.{ℕ_discrete}
use Rattle.facts.specs.Fact.{Fact, Holds}
use Rattle.moves.specs.Moves.{Spread}
use Rattle.items.specs.declared.Item.{Item}
use Rattle.items.specs.Items.{each, apart, apart_from, inside, words_in, nth, listed, word_kind, kind_number}
use Rattle.items.specs.ItemsLaws.{each_last}

pub words_none : length (words_in []) ≡ 0
unfolding words_in
words_none = refl

pub words_more : (x : Item) (l : List Item) → kind_number x.kind ≡ word_kind → words_in (x ∷ l) ≡ x ∷ words_in l
unfolding words_in
words_more x l k = rw (eq-eqb (kind_number x.kind) word_kind k)

pub words_same : (x : Item) (l : List Item) → (kind_number x.kind ≡ word_kind → ⊥) → words_in (x ∷ l) ≡ words_in l
unfolding words_in
words_same x l k = rw (ne_eqb (kind_number x.kind) word_kind k)

pub words_join : (l k : List Item) → words_in (l ++ k) ≡ words_in l ++ words_in k
unfolding words_in
words_join [] k = refl
words_join (x ∷ l) k =
    elim (ℕ_discrete (kind_number x.kind) word_kind) [
      | yes e ↦ rw (eq-eqb (kind_number x.kind) word_kind e, words_join l k)
      | no e ↦ rw (ne_eqb (kind_number x.kind) word_kind e, words_join l k)
    ]

pub each_nth : (p : Item → Fact) (l : List Item) (i : ℕ) → Holds (each p l) → i < length (words_in l)
    → Holds (p (nth (words_in l) i)) × (kind_number (nth (words_in l) i).kind ≡ word_kind)
unfolding each
each_nth p [] i h k = absurd (omega (arith, words_none))
each_nth p (x ∷ l) i (h, t) k = go i k (ℕ_discrete (kind_number x.kind) word_kind) (λ j. each_nth p l j t)
  where
    go : (i : ℕ) → i < length (words_in (x ∷ l)) → Dec (kind_number x.kind ≡ word_kind)
        → ((j : ℕ) → j < length (words_in l) → Holds (p (nth (words_in l) j)) × (kind_number (nth (words_in l) j).kind ≡ word_kind))
        → Holds (p (nth (words_in (x ∷ l)) i)) × (kind_number (nth (words_in (x ∷ l)) i).kind ≡ word_kind)
    go i k (no n) rest = rw (words_same x l n) (rest i (rw (words_same x l n) at k))
    go zero k (yes n) rest = rw (words_more x l n) (h, n)
    go (suc i) k (yes n) rest =
        let less : suc i < suc (length (words_in l)) = rw (words_more x l n) at k in
        rw (words_more x l n) (rest i (omega arith))

-- a word is apart from each earlier word
earlier : (before l : List Item) → Holds (apart_from before l) → (j : ℕ) → j < length (words_in l)
    → Holds (each (apart (nth (words_in l) j)) before) × ((i : ℕ) → i < j → Holds (apart (nth (words_in l) j) (nth (words_in l) i)))
unfolding apart_from
earlier before [] h j k = absurd (omega (arith, words_none))
earlier before (x ∷ l) (h, t) j k = go j k (ℕ_discrete (kind_number x.kind) word_kind) (earlier (before ++ (x ∷ [])) l t)
  where
    go : (j : ℕ) → j < length (words_in (x ∷ l)) → Dec (kind_number x.kind ≡ word_kind)
        → ((j : ℕ) → j < length (words_in l)
        → Holds (each (apart (nth (words_in l) j)) (before ++ (x ∷ [])))
        × ((i : ℕ) → i < j → Holds (apart (nth (words_in l) j) (nth (words_in l) i))))
        → Holds (each (apart (nth (words_in (x ∷ l)) j)) before)
        × ((i : ℕ) → i < j → Holds (apart (nth (words_in (x ∷ l)) j) (nth (words_in (x ∷ l)) i)))
    go j k (no n) rest =
        rw (words_same x l n)
        (let (a, b) = rest j (rw (words_same x l n) at k) in ((each_last (apart (nth (words_in l) j)) before x a).0, b))
    go zero k (yes n) rest = rw (words_more x l n) (h, λ i z. absurd (omega arith))
    go (suc j) k (yes n) rest =
        let less : suc j < suc (length (words_in l)) = rw (words_more x l n) at k in
        let (a, b) = rest j (omega arith) in
        let (c, e) = each_last (apart (nth (words_in l) j)) before x a in
        rw (words_more x l n) (c, pairs e b)
      where
        pairs : Holds (apart (nth (words_in l) j) x) → ((i : ℕ) → i < j → Holds (apart (nth (words_in l) j) (nth (words_in l) i)))
            → (i : ℕ) → i < suc j → Holds (apart (nth (words_in l) j) (nth (x ∷ words_in l) i))
        pairs e b zero z = e
        pairs e b (suc i) z = b i (omega arith)

-- the two checks of the words give what the laws of moving ask
pub spread : (xs : List ℕ) (l : List Item) → Holds (each (inside (length xs)) l) → Holds (apart_from [] l) → Spread xs (listed (words_in l))
spread xs l within separate = record { within = in_xs; apart = sep }
  where
    word : (i : ℕ) → i < length (words_in l) → Holds (inside (length xs) (nth (words_in l) i)) × (kind_number (nth (words_in l) i).kind ≡ word_kind)
    word i h = each_nth (inside (length xs)) l i within h

    in_xs : (i : ℕ) → i < length (words_in l) → (nth (words_in l) i).at + (nth (words_in l) i).len ≤ length xs
    in_xs i h = let (a, b) = word i h in elim a [ inl z ↦ absurd (z b) | inr z ↦ z.0 ]

    sep : (i j : ℕ) → i < j → j < length (words_in l)
        → ((nth (words_in l) i).at + (nth (words_in l) i).len ≤ (nth (words_in l) j).at)
        ⊎ ((nth (words_in l) j).at + (nth (words_in l) j).len ≤ (nth (words_in l) i).at)
    sep i j h k =
        let a = (word j k).1 in
        elim ((earlier [] l separate j k).1 i h) [
          | inl z ↦ absurd (z.0 a)
          | inr (inl z) ↦ inr z
          | inr (inr z) ↦ inl z
        ]
