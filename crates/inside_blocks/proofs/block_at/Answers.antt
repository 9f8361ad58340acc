use mathlib.Core.Path.{refl}
use Rattle.inside_blocks.specs.BlocksLaws.{met}
use Rattle.inside_blocks.proofs.block_at.Goals as goal

pub block_step-requires : goal.block_step-requires
block_step-requires c = (c.requires.0, c.requires.1, refl, refl)

pub returns : goal.returns
returns c =
    let a = c.args in
    let step = c.block_step.ensures in
    met a.image.now a.m a.used c.block_step.result c.requires.1 step.0 step.1 step.2
