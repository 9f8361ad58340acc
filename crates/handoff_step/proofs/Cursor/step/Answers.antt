use Rattle.std.specs.Prelude.{ℕ}
use Rattle.std.proofs.Common.{refl, sym, ap, ◌∙◌, arith}
use Rattle.handoff_step.specs.Step.{refusal, stepped}
use Rattle.handoff_step.specs.StepLaws.{shows, refused}
use Rattle.handoff_step.specs.Passing.{stopped, passed}
use Rattle.handoff_step.specs.Types.{all_shown}
use Rattle.handoff_step.proofs.Cursor.step.Goals as goal

pub returns-in-Err : goal.returns-in-Err
returns-in-Err c =
    let xs = c.args.buffer.now in
    let at = c.args.self.at in
    let stop = stopped (stepped xs at) (sym c.in-Err.is ∙ c.pass_one.ensures) in
    c.refused.ensures ∙ sym ((refused xs at (rw stop.0 stop.1)).kept ∙ ap (λ (k : ℕ). refusal at k 0) stop.0)

pub overflow_add-at : goal.overflow_add-at
overflow_add-at c =
    let xs = c.args.buffer.now in
    let at = c.args.self.at in
    let shown = shows xs at (passed (stepped xs at) (sym c.in-Ok.is ∙ c.pass_one.ensures)).0 in
    omega (arith, shown.inside, shown.least)

pub le16-n-requires : goal.le16-n-requires
le16-n-requires c =
    let xs = c.args.buffer.now in
    let at = c.args.self.at in
    let shown = shows xs at (passed (stepped xs at) (sym c.in-Ok.is ∙ c.pass_one.ensures)).0 in
    omega (arith, shown.inside, shown.least)

pub kind_at-requires : goal.kind_at-requires
kind_at-requires c =
    let xs = c.args.buffer.now in
    let at = c.args.self.at in
    let pass = passed (stepped xs at) (sym c.in-Ok.is ∙ c.pass_one.ensures) in
    rw pass.1 (pass.0, refl, c.le16-n.ensures.is ∙ sym (shows xs at pass.0).length_is)

pub returns : goal.returns
returns c =
    let xs = c.args.buffer.now in
    let at = c.args.self.at in
    let pass = passed (stepped xs at) (sym c.in-Ok.is ∙ c.pass_one.ensures) in
    c.show.ensures ∙ rw (pass.1, c.le16-n.ensures.is, c.kind_at.ensures) (all_shown xs at pass.0)
