use Rattle.std.proofs.Common.{sym, ◌∙◌, eqb-true}
use Rattle.audit_step.proofs.is_word.Goals as goal

pub returns-then-m-eq8 : goal.returns-then-m-eq8
returns-then-m-eq8 c = λ e. rw c.if-m-eq8.true (sym c.le64.ensures.is ∙ eqb-true c.le64.result c.args.w e)

pub returns-then-m-ne4 : goal.returns-then-m-ne4
returns-then-m-ne4 c = λ e. cc

pub returns : goal.returns
returns c = λ e. rw c.if-m-ne4.false (sym c.le32.ensures.is ∙ eqb-true c.le32.result c.args.w e)
