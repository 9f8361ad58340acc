use native.Mathlib.Omega.{arith}
use mathlib.Core.Path.{sym, ◌∙◌}
use Rattle.audit.specs.AuditLaws.{all_few, pair_long, how_many_lem, tally_fits, tally_full}
use Rattle.piece_audit.proofs.tell.Goals as goal

pub overflow_add-t : goal.overflow_add-t
overflow_add-t c =
    let a = c.args in
    let many = how_many_lem a.vendor.now a.shipped.now a.room c.measure-t.result c.requires.2 c.measure-t.ensures in
    record { fits = omega (arith, many, all_few a.vendor.now a.shipped.now, pair_long a.vendor.now a.shipped.now a.r a.base c.requires) }

pub returns-then-room-t : goal.returns-then-room-t
returns-then-room-t c =
    let a = c.args in
    c.carry.ensures ∙ rw c.requires.3 (sym (tally_full a.vendor.now a.shipped.now a.room
    c.measure-t.result c.requires.2 c.measure-t.ensures c.if-room-t.true))

pub returns : goal.returns
returns c =
    let a = c.args in
    c.carry-2.ensures ∙ rw c.requires.3 (sym (tally_fits a.vendor.now a.shipped.now a.room
    c.measure-t.result c.requires.2 c.measure-t.ensures
    c.if-room-t.false))
