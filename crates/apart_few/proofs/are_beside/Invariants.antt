use Rattle.facts.specs.Fact.{Holds}
use Rattle.items.specs.Items.{each}
use Rattle.apart_front.specs.declared.Front.{Front}
use Rattle.apart_front.specs.Fronts.{Ordered, Fronts}
use Rattle.inside_files.specs.Parts as files
use Rattle.inside_files.specs.PartsWalk as filesWalk
use Rattle.inside_walk.specs.Whole.{spread, walked}
use Rattle.inside_judge.specs.Rules.{patch_items}
use Rattle.apart_few.specs.Few.{besides}
use Rattle.apart_few.proofs.are_beside.Given as goal

-- all came in order so far; whatever comes of the frontier with what is ahead comes of it with all; and all items are beside the patch
-- words where those ahead are
abbrev pub invariant-loop-front : goal.invariant-loop-front
invariant-loop-front l = filesWalk.Valid l.v l.s
    × Ordered l.front
    × ((g : Front) → Fronts l.front (spread l.image (files.ahead l.image l.v l.s)) g → Fronts l.initial.front (walked l.image l.v l.f) g)
    × (Holds (each (besides (patch_items l.image l.t l.n)) (spread l.image (files.ahead l.image l.v l.s)))
    → Holds (each (besides (patch_items l.image l.t l.n)) (walked l.image l.v l.f)))

abbrev pub decreases-loop-front : goal.decreases-loop-front
decreases-loop-front l = filesWalk.far l.v l.s
