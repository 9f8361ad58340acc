use Rattle.inside_blocks.proofs.entry.Goals as goal

pub returns : goal.returns
returns c = rw (← c.le16.ensures.is) c.item_of.ensures
