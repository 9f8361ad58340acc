use Rattle.facts.specs.FactLaws.{is_test}
use mathlib.Core.Path.{sym, ◌∙◌}
use Rattle.audit_count.proofs.counted.Goals as goal

pub returns-then-is_setting : goal.returns-then-is_setting
returns-then-is_setting c = rw (
  sym (is_test c.is_setting.ensures) ∙ c.if-is_setting.true,
  c.byte_flips-flips.ensures.value,
)

pub returns : goal.returns
returns c = rw (sym (is_test c.is_setting.ensures) ∙ c.if-is_setting.false)
