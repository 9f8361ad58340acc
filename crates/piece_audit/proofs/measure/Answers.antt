use mathlib.Core.Path.{refl, ◌∙◌}
use native.Mathlib.Omega.{arith}
use Rattle.words.specs.Le.{Bytes}
use Rattle.audit.specs.AuditLaws.{pair_small, pair_long, pair_guaranteed, pair_counts}
use Rattle.piece_audit.specs.AuditLaws.{pair_told, told_small, plain_counted}
use Rattle.piece_audit.proofs.measure.Goals as goal

pub count_part-requires : goal.count_part-requires
count_part-requires c =
    let a = c.args in
    let (old, new) = c.told.ensures in
    let pair = c.requires in record { from_le_to = (omega arith, omega arith, omega (arith, pair.2), omega arith, omega (arith, pair.2, pair_long a.vendor.now a.shipped.now a.r a.base pair)); z_bound = (told_small a.vendor.now a.shipped.now a.r a.base pair c.told.result old new, (omega arith, omega arith)) }

pub returns-then-is_plain : goal.returns-then-is_plain
unfolding Bytes
returns-then-is_plain c =
    let a = c.args in
    let (old, new) = c.told.ensures in
    plain_counted a.vendor.now a.shipped.now a.r a.base c.requires (λ i. omega (arith, c.type_inv.vendor i)) (c.is_plain.ensures.0 c.if-is_plain.true)
    c.told.result (pair_told a.vendor.now a.shipped.now a.r a.base c.requires c.told.result old new) _ _ refl c.count_part.ensures

pub shift_between-d-requires : goal.shift_between-d-requires
shift_between-d-requires c = let a = c.args in pair_small a.vendor.now a.shipped.now a.r a.base c.requires

pub count_moved-requires : goal.count_moved-requires
count_moved-requires c = let a = c.args in (pair_guaranteed a.vendor.now a.shipped.now a.r a.base c.requires (c.is_plain.ensures.1 c.if-is_plain.false), c.requires.2)

pub returns : goal.returns
returns c =
    let a = c.args in
    let d = c.shift_between-d in
    c.count_moved.ensures ∙ pair_counts a.vendor.now a.shipped.now a.r a.base c.requires (c.is_plain.ensures.1 c.if-is_plain.false) d.result.four
    d.result.eight d.ensures.0 d.ensures.1
