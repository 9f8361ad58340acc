use Rattle.std.proofs.Common.{arith}
use Rattle.audit_lay.specs.LayLaws.{laid_off, laid_part}
use Rattle.audit_lay.proofs.lay_part.Goals as goal

pub returns-then-low-high : goal.returns-then-low-high
returns-then-low-high c =
    let a = c.args in
    laid_part a.from a.p a.m a.w c.max-low.result c.min-high.result a.window.now _ c.requires.1 c.max-low.ensures c.min-high.ensures c.if-low-high.true
    (rw c.to_le_bytes-bytes.ensures at c.copy_from_slice.ensures.after)

pub returns-else-low-high : goal.returns-else-low-high
returns-else-low-high c = let a = c.args in laid_off a.from _ a.p a.m a.w a.window.now (λ i h (x, y). omega arith)
