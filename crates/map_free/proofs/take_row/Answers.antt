use Rattle.std.proofs.Common.{arith, inl, inr}
use Rattle.map_free.specs.Look.{row_nothing, row_memory, row_reserved}
use Rattle.map_free.proofs.take_row.Goals as goal

pub returns-then-r-eq0 : goal.returns-then-r-eq0
returns-then-r-eq0 c = row_nothing _ _ (λ k t y z. omega (arith, z.1.0, z.1.1))

pub returns-in-0 : goal.returns-in-0
returns-in-0 c = rw c.further.ensures (row_memory _ _ _ (omega arith) c.in-0.is)

pub returns-in-5 : goal.returns-in-5
returns-in-5 c = rw c.further-in-5.ensures (row_reserved _ _ _ (omega arith) c.in-5.is)

pub returns-in_default : goal.returns-in_default
returns-in_default c =
    row_nothing _ _ (λ k t y z. elim t [ inl e ↦ omega (arith, z.0, e) | inr e ↦ omega (arith, z.0, e) ])
