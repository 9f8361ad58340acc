use Rattle.audit_count.specs.Differences.{entry}
use Rattle.facts.specs.FactLaws.{is_test}
use mathlib.Core.Path.{sym, ◌∙◌}
use Rattle.audit_count.proofs.entry_of.Goals as goal

pub returns-then-is_setting : goal.returns-then-is_setting
unfolding entry
returns-then-is_setting c = rw (sym (is_test c.is_setting.ensures) ∙ c.if-is_setting.true)

pub returns : goal.returns
unfolding entry
returns c = rw (sym (is_test c.is_setting.ensures) ∙ c.if-is_setting.false)
