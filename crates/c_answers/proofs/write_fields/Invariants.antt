use Rattle.std.proofs.Common.{◌≡◌, ◌*◌, drop}
use Rattle.words.specs.Put.{put_all}
use Rattle.c_answers.proofs.write_fields.Given as goal

abbrev pub invariant-loop-i : goal.invariant-loop-i
invariant-loop-i l = put_all 8 l.answer (8 * l.i) (drop l.i l.fields) ≡ put_all 8 l.initial.answer 0 l.fields
