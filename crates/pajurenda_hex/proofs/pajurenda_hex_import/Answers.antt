use Rattle.std.proofs.Common.{refl, inl, inr}
use Rattle.pajurenda_hex.proofs.pajurenda_hex_import.Goals as goal

pub returns-then-answer-lt-IMPORT_ANSWER : goal.returns-then-answer-lt-IMPORT_ANSWER
returns-then-answer-lt-IMPORT_ANSWER c = inr (record { short = c.if-answer-lt-IMPORT_ANSWER.true; number = refl; bytes = refl; kept = refl })

pub returns : goal.returns
returns c =
    inl
    (record {
      room = c.if-answer-lt-IMPORT_ANSWER.false;
      given = c.import-r.result;
      imports = c.import-r.ensures;
      number = refl;
      fields = rw c.import_fields.ensures at c.write_fields.ensures;
    })
