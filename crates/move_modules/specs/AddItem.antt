-- An item's word is moved, or those of a list: what becomes of the image.
-- Assumes nothing.
use Prim.{tt}
use Rattle.std.specs.Prelude.{◌≡◌, ℕ, ◌+◌, ◌<◌, ◌≤◌, ◌⊎◌, List, [], ◌∷◌, ◌++◌, length, ◌≢◌, slice_index, refl}
use Rattle.std.proofs.Common.{inl, inr, sym, ◌∙◌, arith, eq-eqb, ne_eqb}
use Rattle.std.proofs.Math.Decide.{ℕ_discrete}
use Rattle.facts.specs.Fact.{Holds}
use Rattle.words.specs.Le.{Alike}
use Rattle.words.specs.Put.{add}
use Rattle.words.specs.PutLaws.{length_add, add_below, add_above}
use Rattle.items.specs.declared.Item.{Item}
use Rattle.items.specs.Items.{each, word_kind, kind_number}
use Rattle.items.specs.Shapes.{Kept}
use Rattle.move_modules.specs.Relocate.{shift, add_item, moved_by, clear}

pub length_add_item : (xs : List ℕ) (x : Item) (d : ℕ → ℕ) → length (add_item xs x d) ≡ length xs
unfolding add_item
length_add_item xs x d =
    elim (ℕ_discrete (kind_number x.kind) word_kind) [
      | yes h ↦ rw (eq-eqb (kind_number x.kind) word_kind h) (length_add x.len xs x.at (d x.len))
      | no h ↦ rw (ne_eqb (kind_number x.kind) word_kind h)
    ]

-- a word of 4 bytes, and one of 8
pub add_four : (xs : List ℕ) (x : Item) (four eight : ℕ) → kind_number x.kind ≡ word_kind → x.len ≡ 4
    → add_item xs x (shift four eight) ≡ add 4 xs x.at four
unfolding add_item
add_four xs x four eight k e = rw (eq-eqb (kind_number x.kind) word_kind k, e)

pub add_eight : (xs : List ℕ) (x : Item) (four eight : ℕ) → kind_number x.kind ≡ word_kind → x.len ≡ 8
    → add_item xs x (shift four eight) ≡ add 8 xs x.at eight
unfolding add_item
add_eight xs x four eight k e = rw (eq-eqb (kind_number x.kind) word_kind k, e)

-- bytes that it has none of keep their values
alike_add : (a b : List ℕ) (x y : Item) (d : ℕ → ℕ) → (kind_number y.kind ≢ word_kind) → Holds (clear x y) → Alike a b y.at y.len
    → Alike a (add_item b x d) y.at y.len
unfolding add_item
alike_add a b x y d other (inl e) same = absurd (other e)
alike_add a b x y d other (inr (inl h)) same = rw (ne_eqb (kind_number x.kind) word_kind h) same
alike_add a b x y d other (inr (inr out)) same =
    elim (ℕ_discrete (kind_number x.kind) word_kind) [
      | no h ↦ rw (ne_eqb (kind_number x.kind) word_kind h) same
      | yes h ↦ rw (eq-eqb (kind_number x.kind) word_kind h) (record { same = λ j l. same.same j l ∙ sym (beside j l out) })
    ]
  where
    beside : (j : ℕ) → j < y.len → (x.at + x.len ≤ y.at) ⊎ (y.at + y.len ≤ x.at)
        → slice_index (add x.len b x.at (d x.len)) (y.at + j) ≡ slice_index b (y.at + j)
    beside j l (inl h) = add_above x.len b x.at (d x.len) (y.at + j) (omega arith)
    beside j l (inr h) = add_below x.len b x.at (d x.len) (y.at + j) (omega arith)

pub kept_add : (a b : List ℕ) (x : Item) (d : ℕ → ℕ) (l : List Item) → Holds (each (clear x) l) → Kept a b l → Kept a (add_item b x d) l
unfolding Kept each
kept_add a b x d [] h k = tt
kept_add a b x d (y ∷ l) (h, t) (k, s) = ((λ other. alike_add a b x y d other h (k other)), kept_add a b x d l t s)

-- ---- a list of items

pub length_moved : (xs : List ℕ) (l : List Item) (d : ℕ → ℕ) → length (moved_by xs l d) ≡ length xs
unfolding moved_by
length_moved xs [] d = refl
length_moved xs (x ∷ l) d = length_moved (add_item xs x d) l d ∙ length_add_item xs x d

pub kept_moved : (a b : List ℕ) (all l : List Item) (d : ℕ → ℕ) → Holds (each (λ x. each (clear x) all) l) → Kept a b all
    → Kept a (moved_by b l d) all
unfolding moved_by each
kept_moved a b all [] d h k = k
kept_moved a b all (x ∷ l) d (h, t) k = kept_moved a (add_item b x d) all l d t (kept_add a b x d all h k)

pub moved_join : (xs : List ℕ) (l k : List Item) (d : ℕ → ℕ) → moved_by xs (l ++ k) d ≡ moved_by (moved_by xs l d) k d
unfolding moved_by
moved_join xs [] k d = refl
moved_join xs (x ∷ l) k d = moved_join (add_item xs x d) l k d
