use Rattle.std.proofs.Common.{sym, ap, ◌∙◌, arith}
use Rattle.answers.specs.declared.Reading.{Reading}
use Rattle.words.specs.Put.{put_all}
use Rattle.c_answers.specs.Answers.{read_fields}
use Rattle.c_answers.specs.AnswerLaws.{roomy}
use Rattle.pajurenda.proofs.pajurenda_read.Goals as goal

pub returns : goal.returns
returns c =
    let A = c.args.answer.now in
    let e = c.read-r.ensures in (
      ap (λ (q : Reading). q.number) e ∙ sym (roomy 12 A _ _ (omega arith)),
      c.write_fields.ensures ∙ ap (put_all 8 A 0) (c.read_fields.ensures ∙ ap read_fields e) ∙ sym (roomy 12 A _ _ (omega arith)),
    )
