use Rattle.audit_stretch.proofs.is_same.Goals as goal

pub returns-then-to-from-gt32 : goal.returns-then-to-from-gt32
returns-then-to-from-gt32 c = λ e i h l. cc
