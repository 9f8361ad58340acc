use mathlib.Core.Path.{sym, ◌∙◌}
use native.Mathlib.Omega.{arith}
use Rattle.facts.specs.FactLaws.{holds, is_test}
use Rattle.inside_blocks.specs.BlocksPaged.{item_on}
use Rattle.inside_blocks.proofs.entry_on.Goals as goal

pub returns-then-is_sure : goal.returns-then-is_sure
returns-then-is_sure c =
    let a = c.args in
    let q = c.requires.1 in
    let w = c.width-w.ensures.0 in
    let g = holds _ (sym (is_test c.is_sure.ensures) ∙ c.if-is_sure.true) in
    let is = item_on a.image.now a.m a.q.page a.q q c.le16-e.result (omega (arith, w, g.0), g.1.0, omega (arith, w, g.1.1)) in (
      rw (← c.le16-e.ensures.is, w) (sym is),
      omega (arith, q.within, c.requires.0.within, c.requires.0.long, g.1.1),
      omega arith,
    )
