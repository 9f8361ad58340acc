use mathlib.Core.Path.{sym, ap, ◌∙◌}
use Prim.Native.Nat.{ℕ}
use Rattle.audit_count.specs.declared.Counts.{Counts}
use Rattle.audit.specs.AuditLaws.{pair_small, pair_counted, pair_guaranteed, pair_counts}
use Rattle.audit.proofs.measure.Goals as goal

pub returns-then-r-eq0 : goal.returns-then-r-eq0
returns-then-r-eq0 c =
    let a = c.args in
    ap (λ (n : ℕ). (let t : Counts = record { settings = 0; strays = n; bits = 0 } in t)) c.count.ensures
    ∙ sym (pair_counted a.vendor.now a.shipped.now a.r a.base c.requires c.if-r-eq0.true)

pub shift_between-d-requires : goal.shift_between-d-requires
shift_between-d-requires c =
    let a = c.args in
    pair_small a.vendor.now a.shipped.now a.r a.base c.requires

pub count_all-requires : goal.count_all-requires
count_all-requires c =
    let a = c.args in
    (pair_guaranteed a.vendor.now a.shipped.now a.r a.base c.requires c.if-r-eq0.false, c.requires.2)

pub returns : goal.returns
returns c =
    let a = c.args in
    c.count_all.ensures ∙ pair_counts a.vendor.now a.shipped.now a.r a.base c.requires
    c.if-r-eq0.false c.shift_between-d.result.four c.shift_between-d.result.eight
    c.shift_between-d.ensures.0 c.shift_between-d.ensures.1
