-- The reference, piece by piece.
-- Assumes nothing.
use Rattle.std.specs.Prelude.{ℕ, ◌+◌, ◌-◌, ◌≤◌, ◌<◌, List, ◌⊎◌, ◌≡◌, length, get_or}
use Rattle.words.specs.Le.{le}
use Rattle.words.specs.Put.{digit}
use Rattle.moves.specs.Moves.{moved}
use Rattle.items.specs.declared.Item.{Item}
use Rattle.inside_walk.specs.Whole.{walked}
use Rattle.inside_walk.specs.WholeWalk.{ahead, Valid}
use Rattle.answers.specs.declared.Reading.{Reading}
use Rattle.reading_rules.specs.Reading.{file_at}
use Rattle.reading_rules.specs.Words.{words_of}
use Rattle.move_modules.specs.Relocate.{shift}
use Rattle.move_image.specs.Fixed.{fixed_at}
use Rattle.audit_lay.specs.Lay.{In}
use Rattle.audit_fill_window.specs.Near.{Has}
use Rattle.audit_pieces.specs.declared.Piece.{Piece}

-- the vendor image with `four` added to each word of 4 bytes and `eight` to each of 8
abbrev pub by : List ℕ → Reading → ℕ → ℕ → List ℕ
by xs r four eight = moved xs (words_of xs r) (shift four eight)

-- all that the walk over the volume meets
abbrev pub walk : List ℕ → Reading → List Item
walk xs r = walked xs (le 8 xs 32) (file_at r)

-- ms is base with the first i of the tables' words laid into it
pub record FixedLaid (xs : List ℕ) (r : Reading) (value : ℕ → ℕ → ℕ) (from n i : ℕ) (base ms : List ℕ) : Type 0 where
  pub same_length : length ms ≡ length base
  pub word : (j k : ℕ) → j < i → k < n → In (fixed_at xs r j) 4 (from + k)
      → get_or ms k 0 ≡ digit (value (fixed_at xs r j) 4) (from + k - fixed_at xs r j)
  pub other : (k : ℕ) → k < n → ((j : ℕ) → j < i → In (fixed_at xs r j) 4 (from + k) → ⊥) → get_or ms k 0 ≡ get_or base k 0

-- where p.low is past p's end, no word that is ahead of its spot starts below it
abbrev pub Past : List ℕ → ℕ → Piece → Type 0
Past xs v p = (k w : ℕ) → Has (ahead xs v p.spot) k w → p.to < p.low → p.low ≤ k

-- each of the modules' words ends by p's end, or is ahead of its spot
pub record Standing (xs : List ℕ) (r : Reading) (p : Piece) : Type 0 where
  pub most : p.to ≤ length xs
  pub valid : Valid xs (le 8 xs 32) p.spot
  pub below : (k w : ℕ) → Has (walk xs r) k w → (k + w ≤ p.to) ⊎ Has (ahead xs (le 8 xs 32) p.spot) k w
  pub back : (k w : ℕ) → Has (ahead xs (le 8 xs 32) p.spot) k w → Has (walk xs r) k w
  pub low_most : p.low ≤ length xs
  pub past : Past xs (le 8 xs 32) p

-- q is the piece after p: the reference is the vendor's up to its start, and stands in the window from there up to its end
pub record Onward (xs : List ℕ) (r : Reading) (four eight : ℕ) (p q : Piece) (ms : List ℕ) : Type 0 where
  pub low : p.to ≤ q.from
  pub high : q.from ≤ q.to
  pub more : p.to < q.to
  pub size : q.to ≤ q.from + length ms
  pub plain : (k : ℕ) → p.to ≤ k → k < q.from → get_or (by xs r four eight) k 0 ≡ get_or xs k 0
  pub held : (k : ℕ) → q.from ≤ k → k < q.to → get_or (by xs r four eight) k 0 ≡ get_or ms (k - q.from) 0
  pub stands : Standing xs r q
