use Rattle.std.proofs.Common.{refl}
use Rattle.std.specs.Prelude.{not, ℕ, ◌≡◌}
use Rattle.std.proofs.Common.{ap, sym, subst}
use Rattle.facts.specs.Rules.{run}
use native.Mathlib.Omega.{arith}
use Rattle.facts.specs.Fact.{◌≡?◌}
use Rattle.facts.specs.FactLaws.{passes, fails, yes, no, granted}
use Rattle.handoff_step.specs.Step.{refusal, from_first, from_head}
use Rattle.handoff_step.specs.Passing.{brief}
use Rattle.handoff_step.proofs.pass_head.Goals as goal

pub returns-then-not-head_fits : goal.returns-then-not-head_fits
unfolding run from_head
returns-then-not-head_fits c = rw (no c.head_fits.ensures (ap not c.if-not-head_fits.true)) refl

pub le16-t-requires : goal.le16-t-requires
le16-t-requires c = let fits = granted c.head_fits.ensures (ap not c.if-not-head_fits.false) in omega arith

pub le16-n-requires : goal.le16-n-requires
le16-n-requires c = let fits = granted c.head_fits.ensures (ap not c.if-not-head_fits.false) in omega arith

pub returns-then-at-eq0 : goal.returns-then-at-eq0
unfolding run from_head
returns-then-at-eq0 c =
    rw (yes c.head_fits.ensures (ap not c.if-not-head_fits.false), passes (c.args.at ≡? 0) c.if-at-eq0.true, ← c.le16-t.ensures.is, ← c.le16-n.ensures.is)
    (subst (λ (k : ℕ). c.pass_first.result ≡ brief (run (refusal k) (from_first c.le16-t.result c.le16-n.result))) (sym c.if-at-eq0.true) c.pass_first.ensures)

pub pass_later-requires : goal.pass_later-requires
pass_later-requires c = let fits = granted c.head_fits.ensures (ap not c.if-not-head_fits.false) in omega arith

pub returns : goal.returns
unfolding run from_head
returns c =
    rw (yes c.head_fits.ensures (ap not c.if-not-head_fits.false), fails (c.args.at ≡? 0) c.if-at-eq0.false, ← c.le16-t.ensures.is, ← c.le16-n.ensures.is)
    c.pass_later.ensures
