-- What the rules judge is what the mover asks.
-- Assumes nothing.
use Rattle.std.specs.Prelude.{◌≡◌, ℕ, List, [], ◌∷◌, ◌++◌, length}
use Rattle.std.proofs.Common.{append_assoc, append-nil}
use Rattle.facts.specs.Fact.{Holds}
use Rattle.moves.specs.Moves.{difference, moved, Spread}
use Rattle.items.specs.declared.Item.{Item}
use Rattle.items.specs.Items.{each, apart, apart_from, inside, words_in, listed}
use Rattle.items.specs.ItemsLaws.{each_so, each_fork}
use Rattle.items.specs.Judged.{unbroken, sound}
use Rattle.items.specs.Listed.{spread}
use Rattle.inside_walk.specs.Whole.{walked}
use Rattle.inside_walk.specs.Walkable.{Walkable}
use Rattle.inside_walk.specs.WholeAbove.{walked_inside}
use Rattle.move_modules.specs.Relocate.{shift, Movable}
use Rattle.move_modules.specs.Widths.{difference_by_width}

-- fewer stand before
apart_less : (more before l : List Item) → Holds (apart_from (more ++ before) l) → Holds (apart_from before l)
unfolding apart_from
apart_less more before [] h = h
apart_less more before (x ∷ l) (h, t) =
    let e : (more ++ before) ++ (x ∷ []) ≡ more ++ (before ++ (x ∷ [])) = append_assoc more before (x ∷ []) in
    ((each_fork (apart x) more before h).1, apart_less more (before ++ (x ∷ [])) l (rw e at t))

-- rules 25 and 26, whatever words stand before those of the modules
pub movable : (xs : List ℕ) (v f c z : ℕ) (before : List Item) → Walkable xs v f → Holds (each (sound c z) (walked xs v f))
    → Holds (apart_from before (walked xs v f)) → Movable xs v f
movable xs v f c z before w ok separate =
    record {
      walkable = w;
      whole = each_so (sound c z) unbroken (walked xs v f) (λ x h. h.0) ok;
      separate = apart_less before [] (walked xs v f) (rw (append-nil before) separate);
    }

module _ (xs : List ℕ) (v f : ℕ) (ok : Movable xs v f) where
  -- every word ends in the image
  pub words_inside : Holds (each (inside (length xs)) (walked xs v f))
  words_inside = walked_inside xs v f ok.walkable.within ok.walkable.ends

  -- the words are those of a move
  pub words_spread : Spread xs (listed (words_in (walked xs v f)))
  words_spread = spread xs (walked xs v f) words_inside ok.separate

  -- from base to base
  pub words_moved : (old new : ℕ)
      → moved xs (listed (words_in (walked xs v f))) (shift (difference old new 4) (difference old new 8))
      ≡ moved xs (listed (words_in (walked xs v f))) (difference old new)
  words_moved old new = difference_by_width xs (walked xs v f) (length xs) old new words_inside
