-- Two numbers, one for each width, are the difference of two bases.
-- Assumes nothing.
use Rattle.std.specs.Prelude.{◌≡◌, ℕ, ◌<◌, ◌⊎◌, List, length, refl}
use Rattle.std.proofs.Common.{inl, inr}
use Rattle.facts.specs.Fact.{Holds}
use Rattle.moves.specs.Moves.{Words, difference, moved}
use Rattle.moves.specs.MovesLaws.{moved_cong}
use Rattle.items.specs.declared.Item.{Item}
use Rattle.items.specs.Items.{each, inside, words_in, nth, listed}
use Rattle.items.specs.Listed.{each_nth}
use Rattle.move_modules.specs.Relocate.{shift}

-- a width of 4 or 8 takes its own number
shift_is : (d : ℕ → ℕ) (k : ℕ) → (k ≡ 4) ⊎ (k ≡ 8) → shift (d 4) (d 8) k ≡ d k
shift_is d k (inl e) = rw e
shift_is d k (inr e) = rw e

pub moved_by_width : (xs : List ℕ) (ws : Words) (d : ℕ → ℕ) → ((j : ℕ) → j < ws.count → (ws.width j ≡ 4) ⊎ (ws.width j ≡ 8))
    → moved xs ws (shift (d 4) (d 8)) ≡ moved xs ws d
moved_by_width xs ws d widths =
    moved_cong xs ws ws (shift (d 4) (d 8)) d ws.count (λ j h. refl) (λ j h. refl) (λ j h. shift_is d (ws.width j) (widths j h))

-- the words of a list of items that lie in n bytes have 4 or 8
pub widths_listed : (n : ℕ) (l : List Item) → Holds (each (inside n) l) → (j : ℕ) → j < length (words_in l)
    → ((nth (words_in l) j).len ≡ 4) ⊎ ((nth (words_in l) j).len ≡ 8)
widths_listed n l within j h =
    let (a, b) = each_nth (inside n) l j within h in
    elim a [ inl z ↦ absurd (z b) | inr z ↦ z.1 ]

-- so a move by two numbers is one from base to base
pub difference_by_width : (xs : List ℕ) (l : List Item) (n old new : ℕ) → Holds (each (inside n) l)
    → moved xs (listed (words_in l)) (shift (difference old new 4) (difference old new 8))
    ≡ moved xs (listed (words_in l)) (difference old new)
difference_by_width xs l n old new within =
    moved_by_width xs (listed (words_in l)) (difference old new) (widths_listed n l within)
