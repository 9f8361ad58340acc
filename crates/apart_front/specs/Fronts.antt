-- Request #107, rule 26: a frontier of what is passed.
-- Assumes nothing.
use Rattle.std.specs.Prelude.{suc, ◌+◌, ◌≤◌, Bool, List, ◌++◌}
use Rattle.facts.specs.Fact.{Fact, ◌≤?◌, ◌and◌, ◌or◌, Holds, Tells}
use Rattle.items.specs.declared.Item.{Item}
use Rattle.items.specs.Items.{each, apart_from}
use Rattle.apart_front.specs.declared.Front.{Front}

-- p lies below low, or in high..top
abbrev pub aside : Front → Item → Fact
aside f p = p.at + p.len ≤? f.low or (f.high ≤? p.at and p.at + p.len ≤? f.top)

-- each of ps does
pub record Bounds (ps : List Item) (f : Front) : Type 0 where
  pub low : f.low ≤ f.high
  pub high : f.high ≤ f.top
  pub all : Holds (each (aside f) ps)

-- nothing came out of order
abbrev pub ordered : Front → Fact
ordered f = suc f.top ≤? 1099511627776

abbrev pub Ordered : Front → Type 0
Ordered f = Holds (ordered f)

-- the promise of `is_ordered`
abbrev pub SaysOrdered : Front → Bool → Type 0
SaysOrdered f r = Tells r (ordered f)

-- f is what `start` becomes as l is passed: where all came in order, each of l is apart from all before it, whatever `start` bounds standing
-- first
pub record Fronts (start : Front) (l : List Item) (f : Front) : Type 0 where
  pub kept : Ordered f → Ordered start
  pub apart : Ordered f → (before : List Item) → Bounds before start → Holds (apart_from before l) × Bounds (before ++ l) f
