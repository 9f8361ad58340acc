use Rattle.std.specs.Prelude.{[]}
use Rattle.std.proofs.Common.{sym, ◌∙◌}
use Rattle.facts.specs.FactLaws.{is_test}
use Rattle.hex_parts.specs.DecodedLaws.{data_stays, data_turns}
use Rattle.hex_bytes.proofs.data_at.Goals as goal

pub returns-then-turns_at : goal.returns-then-turns_at
returns-then-turns_at c = sym (data_turns [] c.args.base c.args.i c.args.at (sym (is_test c.turns_at.ensures) ∙ c.if-turns_at.true))

pub returns-else-turns_at : goal.returns-else-turns_at
returns-else-turns_at c = sym (data_stays [] c.args.base c.args.i c.args.at (sym (is_test c.turns_at.ensures) ∙ c.if-turns_at.false))
