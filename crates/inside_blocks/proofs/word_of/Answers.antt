use Rattle.inside_blocks.specs.Blocks.{word_of}
use native.Mathlib.Omega.{arith}
use borrow.Author.Tests.{lt-ltb, le-ltb}
use Rattle.inside_blocks.proofs.word_of.Goals as goal

pub returns-then-m-s : goal.returns-then-m-s
unfolding word_of
returns-then-m-s c = (rw (lt-ltb _ _ c.if-m-s.true), omega arith, omega arith)

pub returns : goal.returns
unfolding word_of
returns c = (rw (le-ltb _ _ c.if-m-s.false), omega arith, omega arith)
