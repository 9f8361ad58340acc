-- Request #107: what one walk over all items tells of each.
-- Assumes nothing.
use Rattle.std.specs.Prelude.{ℕ, ◌+◌, ◌≤◌, ◌&&◌, List, [], ◌∷◌, ◌++◌, ◌≡◌}
use Rattle.facts.specs.Fact.{Fact, ◌≤?◌, ◌≡?◌, deny, ◌or◌, Holds, test, Tells}
use Rattle.items.specs.declared.Item.{Item}
use Rattle.items.specs.Items.{each, word_kind, kind_number}
use Rattle.items.specs.Judged.{sound, placed, known}
use Rattle.apart_front.specs.declared.Front.{Front}
use Rattle.apart_front.specs.Fronts.{Fronts}
use Rattle.inside_walk.specs.declared.Spot.{Spot}
use Rattle.inside_walk.specs.Walkable.{Passing}
use Rattle.inside_judge.specs.declared.Judged.{Judged}
use Rattle.inside_judge.specs.declared.limits.Limits.{Limits}

-- a word ends by n
abbrev pub ends_by : ℕ → Item → Fact
ends_by n x = deny (kind_number x.kind ≡? word_kind) or x.at + x.len ≤? n

-- r tells of rules 25, 26 (but for apartness) and 27 for the items of l; no word of l ends past its top; and its frontier is what `start`
-- becomes as l is passed
pub record Judges (start : Front) (l : List Item) (lim : Limits) (r : Judged) : Type 0 where
  pub whole : Tells r.whole (each (sound lim.c lim.z) l)
  pub placed : Tells r.placed (each (placed lim.E lim.c lim.z) l)
  pub known : Tells r.known (each known l)
  pub top : Holds (each (ends_by r.top) l)
  pub front : Fronts start l r.front

-- x is counted: r becomes u
pub record Noted (lim : Limits) (r : Judged) (x : Item) (u : Judged) : Type 0 where
  pub whole : u.whole ≡ (r.whole && test (sound lim.c lim.z x))
  pub placed : u.placed ≡ (r.placed && test (placed lim.E lim.c lim.z x))
  pub known : u.known ≡ (r.known && test (known x))
  pub higher : r.top ≤ u.top
  pub own : Holds (ends_by u.top x)
  pub front : Fronts r.front (x ∷ []) u.front

-- whatever r tells of, u tells of that and of k after it
abbrev pub JudgesOn : List Item → Limits → Judged → Judged → Type 0
JudgesOn k lim r u = (start : Front) (l : List Item) → Judges start l lim r → Judges start (l ++ k) lim u

-- the walk stands at s, and r tells of the items that are passed
pub record Judging (xs : List ℕ) (v f : ℕ) (lim : Limits) (start : Front) (r : Judged) (s : Spot) : Type 0 where
  pub passed : List Item
  pub at : Passing xs v f passed s
  pub judges : Judges start passed lim r
