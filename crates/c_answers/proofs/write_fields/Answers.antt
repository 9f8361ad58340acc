use Rattle.std.proofs.Common.{◌*◌, sym, ◌∙◌, arith}
use Rattle.c_answers.specs.AnswerLaws.{field_next, fields_end}
use Rattle.c_answers.proofs.write_fields.Goals as goal

pub loop-i-preserved : goal.loop-i-preserved
loop-i-preserved c =
    let l = c.loop-i in
    rw c.put64.ensures (field_next l.answer c.args.fields.now l.i (omega arith) ∙ l.invariant)

pub returns : goal.returns
returns c =
    let l = c.loop-i in
    sym (fields_end l.answer c.args.fields.now (8 * l.i) l.i (omega arith)) ∙ l.invariant
