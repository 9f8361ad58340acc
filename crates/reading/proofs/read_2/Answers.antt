use mathlib.Core.Path.{sym, ◌∙◌}
use Rattle.reading_rules.specs.Edition.{older_28, other_same, refused_same}
use Rattle.reading.proofs.read_2.Goals as goal

pub returns-then-r-ne0 : goal.returns-then-r-ne0
returns-then-r-ne0 c =
    let xs = c.args.image.now in
    let e = c.read-r.ensures in
    e ∙ sym (refused_same xs (rw e at c.if-r-ne0.true))

pub returns-then-r-eq0 : goal.returns-then-r-eq0
returns-then-r-eq0 c =
    let xs = c.args.image.now in
    let e = c.read-r.ensures in
    c.refused.ensures ∙ sym (older_28 xs (rw e at c.if-r-ne0.false, rw e at c.if-r-eq0.true))

pub returns : goal.returns
returns c =
    let xs = c.args.image.now in
    let e = c.read-r.ensures in
    e ∙ sym (other_same xs (λ old. rw e at c.if-r-eq0.false old.1))
