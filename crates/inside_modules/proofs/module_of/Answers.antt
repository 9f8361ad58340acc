use Rattle.inside_modules.specs.Modules.{module_of}
use borrow.Author.Tests.{eq-eqb, ne_eqb}
use Rattle.inside_modules.proofs.module_of.Goals as goal

pub returns-then-t-eq16 : goal.returns-then-t-eq16
unfolding module_of
returns-then-t-eq16 c = rw (eq-eqb _ 0x10 c.if-t-eq16.true) c.pe_of.ensures

pub returns-then-t-eq18 : goal.returns-then-t-eq18
unfolding module_of
returns-then-t-eq18 c = rw (ne_eqb _ 0x10 c.if-t-eq16.false, eq-eqb _ 0x12 c.if-t-eq18.true) c.te_of.ensures

pub returns : goal.returns
unfolding module_of
returns c = rw (ne_eqb _ 0x10 c.if-t-eq16.false, ne_eqb _ 0x12 c.if-t-eq18.false) c.none.ensures
