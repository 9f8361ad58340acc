use Rattle.std.specs.Prelude.{not}
use Rattle.std.proofs.Common.{ap}
use Rattle.release_judge.specs.Judged.{name_rules}
use Rattle.facts.specs.Rules.{run}
use Rattle.facts.specs.FactLaws.{yes, no, granted}
use native.Mathlib.Omega.{arith}
use Rattle.release_judge.proofs.judge_names.Goals as goal

pub returns-then-not-names : goal.returns-then-not-names
unfolding run name_rules
returns-then-not-names c = rw (no c.names.ensures (ap not c.if-not-names.true)) c.refused.ensures

pub returns-then-not-fields_fit : goal.returns-then-not-fields_fit
unfolding run name_rules
returns-then-not-fields_fit c =
    rw (yes c.names.ensures (ap not c.if-not-names.false), no c.fields_fit.ensures (ap not c.if-not-fields_fit.true)) c.refused-then-not-fields_fit.ensures

pub fields_owned-requires : goal.fields_owned-requires
fields_owned-requires c =
    (c.args.r.z, c.requires.1)

pub returns-then-not-fields_owned : goal.returns-then-not-fields_owned
unfolding run name_rules
returns-then-not-fields_owned c =
    rw (
      yes c.names.ensures (ap not c.if-not-names.false),
      yes c.fields_fit.ensures (ap not c.if-not-fields_fit.false),
      no c.fields_owned.ensures (ap not c.if-not-fields_owned.true),
    ) c.refused-then-not-fields_owned.ensures

pub returns-then-not-legal : goal.returns-then-not-legal
unfolding run name_rules
returns-then-not-legal c =
    rw (
      yes c.names.ensures (ap not c.if-not-names.false),
      yes c.fields_fit.ensures (ap not c.if-not-fields_fit.false),
      yes c.fields_owned.ensures (ap not c.if-not-fields_owned.false),
      no c.legal.ensures (ap not c.if-not-legal.true),
    ) c.refused-then-not-legal.ensures

pub accepted-requires : goal.accepted-requires
accepted-requires c =
    let legal = granted c.legal.ensures (ap not c.if-not-legal.false) in
    omega (arith, c.requires.0, legal)

pub returns : goal.returns
unfolding run name_rules
returns c =
    rw (
      yes c.names.ensures (ap not c.if-not-names.false),
      yes c.fields_fit.ensures (ap not c.if-not-fields_fit.false),
      yes c.fields_owned.ensures (ap not c.if-not-fields_owned.false),
      yes c.legal.ensures (ap not c.if-not-legal.false),
    ) c.accepted.ensures
