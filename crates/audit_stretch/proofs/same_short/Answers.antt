use Rattle.audit_stretch.proofs.same_short.Goals as goal

pub returns : goal.returns
returns c = λ e i h l. cc
