-- Request #107: what rules 3 and 4 give of the volume and its header file, so that the walk can start; and where a walk stands.
-- Assumes nothing.
use Rattle.items.specs.Items.{end_kind, kind_number}
use Rattle.std.specs.Prelude.{ℕ, ◌+◌, ◌-◌, ◌≤◌, List, [], ◌∷◌, ◌++◌, ◌≡◌, length}
use Rattle.std.proofs.Common.{append_assoc, append-nil, sym, ◌∙◌, arith}
use Rattle.words.specs.Le.{le, Bytes}
use Rattle.items.specs.declared.Item.{Item}
use Rattle.inside_walk.specs.declared.Spot.{Spot}
use Rattle.inside_walk.specs.declared.Move.{Move}
use Rattle.inside_walk.specs.Whole.{walked}
use Rattle.inside_walk.specs.WholeWalk.{ahead, first_spot, Valid, Stepped}
use Rattle.inside_walk.specs.WholeLaws.{ahead_first, first_spot_valid}

-- the volume's v bytes lie in the image; the header file, at f, lies in the volume, and its first section in the header file
pub record Walkable (xs : List ℕ) (v f : ℕ) : Type 0 where
  pub within : v ≤ length xs
  pub small : length xs ≤ 16777216
  pub head : f + 28 ≤ length xs
  pub ends : f + le 3 xs (f + 20) ≤ v
  pub low : 24 ≤ le 3 xs (f + 20)
  pub section : le 3 xs (f + 24) ≤ le 3 xs (f + 20) - 24

pub walkable_valid : (xs : List ℕ) (v f : ℕ) → Bytes xs → Walkable xs v f → Valid xs v (first_spot xs f)
walkable_valid xs v f bytes w =
    first_spot_valid xs v f bytes w.small (omega (arith, w.within, w.small)) w.ends w.low w.section

-- the items of l are passed, and s comes next
pub record Passing (xs : List ℕ) (v f : ℕ) (l : List Item) (s : Spot) : Type 0 where
  pub valid : Valid xs v s
  pub all : walked xs v f ≡ l ++ ahead xs v s

module _ (xs : List ℕ) (v f : ℕ) where
  pub passing_first : (s : Spot) → Bytes xs → Walkable xs v f → s ≡ first_spot xs f → Passing xs v f [] s
  passing_first s bytes w e =
      rw e (record { valid = walkable_valid xs v f bytes w; all = sym (ahead_first xs v f) })

  module _ (l : List Item) (s : Spot) (t : Move) (p : Passing xs v f l s) (step : Stepped xs v s t) where
    -- at the end all are passed
    pub passing_end : kind_number t.item.kind ≡ end_kind → walked xs v f ≡ l
    passing_end z = p.all ∙ rw (step.ends z) (append-nil l)

    -- else one more is
    pub passing_next : (kind_number t.item.kind ≡ end_kind → ⊥) → Passing xs v f (l ++ (t.item ∷ [])) t.next
    passing_next is =
        record { valid = step.valid; all = p.all ∙ rw (step.goes is) (sym (append_assoc l (t.item ∷ []) (ahead xs v t.next))) }
