use borrow.Author.Tests.{lt-ltb, le-ltb}
use Rattle.inside_modules.proofs.counted_at.Goals as goal

pub le32-requires : goal.le32-requires
le32-requires c = c.requires c.if-count-gt5.true

pub returns-then-count-gt5 : goal.returns-then-count-gt5
returns-then-count-gt5 c = rw (lt-ltb _ _ c.if-count-gt5.true) c.le32.ensures.is

pub returns : goal.returns
returns c = rw (le-ltb _ _ c.if-count-gt5.false)
