use Rattle.inside_rules.proofs.are_apart.Goals as goal

pub returns-then-is_ordered : goal.returns-then-is_ordered
returns-then-is_ordered c =
    record { says = c.requires.1 (rw c.if-is_ordered.true at c.is_ordered.ensures.says) }

pub surely_apart-requires : goal.surely_apart-requires
surely_apart-requires c = let pre = c.requires in (pre.0.walkable, pre.0.patch)

pub returns-then-surely_apart : goal.returns-then-surely_apart
returns-then-surely_apart c = record { says = c.surely_apart.ensures c.if-surely_apart.true }
