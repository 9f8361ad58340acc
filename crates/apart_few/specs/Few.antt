-- Request #107, rule 26: items beside the patch words.
-- Assumes nothing.
use Rattle.std.specs.Prelude.{List, ◌≡◌}
use Rattle.facts.specs.Fact.{Fact, Holds}
use Rattle.items.specs.declared.Item.{Item}
use Rattle.items.specs.Items.{each, apart}
use Rattle.inside_rows.specs.declared.Module.{Module}
use Rattle.inside_blocks.specs.Blocks.{head_count}
use Rattle.apart_front.specs.declared.Front.{Front}
use Rattle.apart_front.specs.Fronts.{Ordered, Fronts}

-- x is apart from each of ps
abbrev pub besides : List Item → Item → Fact
besides ps x = each (apart x) ps

-- a module without headers and blocks
abbrev pub Bare : Module → Type 0
Bare m = (head_count m ≡ 0) × (m.size ≡ 0)

-- f becomes u as l is passed; where all came in order, each of l is beside ps
pub record Past (ps l : List Item) (f u : Front) : Type 0 where
  pub front : Fronts f l u
  pub beside : Ordered u → Holds (each (besides ps) l)
