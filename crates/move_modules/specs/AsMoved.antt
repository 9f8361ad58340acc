-- One word after the other, or all words of a list as the words of a move: the same.
-- Assumes nothing.
use Rattle.std.specs.Prelude.{◌≡◌, ℕ, zero, suc, ◌+◌, List, [], ◌∷◌, length, drop, ◌≢◌, refl}
use Rattle.std.proofs.Common.{sym, ap, ◌∙◌, arith, eq-eqb, ne_eqb}
use Rattle.std.proofs.Math.Decide.{ℕ_discrete}
use Rattle.moves.specs.Moves.{Words, moved_to, moved}
use Rattle.items.specs.declared.Item.{Item}
use Rattle.items.specs.Items.{words_in, nth, listed, word_kind, kind_number}
use Rattle.items.specs.Listed.{words_none, words_more, words_same}
use Rattle.move_modules.specs.Relocate.{add_item, moved_by}

drop_nth : (l : List Item) (i : ℕ) (x : Item) (r : List Item) → drop i l ≡ x ∷ r → (nth l i ≡ x) × (drop (suc i) l ≡ r)
drop_nth [] zero x r e = absurd (let z : ◌≡◌ {A = ℕ} 0 1 = cc in omega arith)
drop_nth [] (suc i) x r e = absurd (let z : ◌≡◌ {A = ℕ} 0 1 = cc in omega arith)
drop_nth (y ∷ l) zero x r e = (cc, cc)
drop_nth (y ∷ l) (suc i) x r e = drop_nth l i x r e

-- a word's turn, and that of what is no word
word_turn : (xs : List ℕ) (ws : List Item) (d : ℕ → ℕ) (i : ℕ) (x : Item) → kind_number x.kind ≡ word_kind → nth ws i ≡ x
    → add_item (moved_to xs (listed ws) d i) x d ≡ moved_to xs (listed ws) d (suc i)
unfolding add_item moved_to
word_turn xs ws d i x k e = rw (eq-eqb (kind_number x.kind) word_kind k, e)

plain_turn : (ys : List ℕ) (d : ℕ → ℕ) (x : Item) → (kind_number x.kind ≢ word_kind) → add_item ys x d ≡ ys
unfolding add_item
plain_turn ys d x k = rw (ne_eqb (kind_number x.kind) word_kind k)

moved_first : (xs : List ℕ) (ws : Words) (d : ℕ → ℕ) → moved_to xs ws d 0 ≡ xs
unfolding moved_to
moved_first xs ws d = refl

by_list : (xs : List ℕ) (ws : List Item) (d : ℕ → ℕ) (l : List Item) (i : ℕ) → drop i ws ≡ words_in l
    → i + length (words_in l) ≡ length ws → moved_by (moved_to xs (listed ws) d i) l d ≡ moved xs (listed ws) d
unfolding moved_by
by_list xs ws d [] i e n = let s : i ≡ length ws = omega (arith, words_none) in rw s
by_list xs ws d (x ∷ l) i e n = go (ℕ_discrete (kind_number x.kind) word_kind) (by_list xs ws d l)
  where
    go : Dec (kind_number x.kind ≡ word_kind)
        → ((k : ℕ) → drop k ws ≡ words_in l → k + length (words_in l) ≡ length ws
        → moved_by (moved_to xs (listed ws) d k) l d ≡ moved xs (listed ws) d)
        → moved_by (add_item (moved_to xs (listed ws) d i) x d) l d ≡ moved xs (listed ws) d
    go (yes k) rest =
        let list = words_more x l k in
        let (is, more) = drop_nth ws i x (words_in l) (e ∙ list) in
        let long : i + suc (length (words_in l)) ≡ length ws = rw list at n in
        ap (λ (zs : List ℕ). moved_by zs l d) (word_turn xs ws d i x k is) ∙ rest (suc i) more (omega arith)
    go (no k) rest =
        let list = words_same x l k in
        ap (λ (zs : List ℕ). moved_by zs l d) (plain_turn (moved_to xs (listed ws) d i) d x k) ∙ rest i (e ∙ list) (rw list at n)

-- the law
pub as_moved : (xs : List ℕ) (l : List Item) (d : ℕ → ℕ) → moved_by xs l d ≡ moved xs (listed (words_in l)) d
as_moved xs l d =
    ap (λ (zs : List ℕ). moved_by zs l d) (sym (moved_first xs (listed (words_in l)) d)) ∙ by_list xs (words_in l) d l 0 refl (omega arith)
