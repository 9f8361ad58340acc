use Rattle.inside_files.specs.Parts.{first_at, passed_over}
use Rattle.facts.specs.FactLaws.{passes, fails}
use mathlib.Core.Logic.{inl, inr, ⊎_elim}
use Rattle.inside_files.proofs.first_at.Goals as goal

pub returns-then-t-eq1 : goal.returns-then-t-eq1
unfolding first_at
returns-then-t-eq1 c = let t = c.byte-t.ensures.is in rw (← t, passes (passed_over c.byte-t.result) (inl c.if-t-eq1.true))

pub returns-then-t-eq240 : goal.returns-then-t-eq240
unfolding first_at
returns-then-t-eq240 c =
    rw (← c.byte-t.ensures.is, passes (passed_over c.byte-t.result) (inr c.if-t-eq240.true))

pub returns : goal.returns
unfolding first_at
returns c =
    let none = fails (passed_over c.byte-t.result) (⊎_elim c.if-t-eq1.false c.if-t-eq240.false) in
    rw (← c.byte-t.ensures.is, none, ← c.le24.ensures.is) c.round_4.ensures
