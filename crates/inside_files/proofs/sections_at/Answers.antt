use Rattle.inside_files.specs.Parts.{sections_at, passed_over}
use Rattle.facts.specs.FactLaws.{passes, fails}
use mathlib.Core.Logic.{inl, inr, ⊎_elim}
use Rattle.inside_files.proofs.sections_at.Goals as goal

pub returns-then-t-eq1 : goal.returns-then-t-eq1
unfolding sections_at
returns-then-t-eq1 c =
    rw (← c.byte-t.ensures.is, passes (passed_over c.byte-t.result) (inl c.if-t-eq1.true), ← c.le24.ensures.is)

pub returns-then-t-eq240 : goal.returns-then-t-eq240
unfolding sections_at
returns-then-t-eq240 c =
    rw (← c.byte-t.ensures.is, passes (passed_over c.byte-t.result) (inr c.if-t-eq240.true), ← c.le24-then-t-eq240.ensures.is)

pub returns : goal.returns
unfolding sections_at
returns c =
    rw (← c.byte-t.ensures.is, fails (passed_over c.byte-t.result) (⊎_elim c.if-t-eq1.false c.if-t-eq240.false))
