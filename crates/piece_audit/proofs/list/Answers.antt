use mathlib.Core.Path.{ap, ◌∙◌}
use native.Mathlib.Omega.{arith}
use Rattle.words.specs.Le.{Bytes}
use Prim.Native.Nat.{ℕ}
use mathlib.Core.List.{List}
use Rattle.audit.specs.AuditLaws.{pair_small, pair_long, pair_guaranteed, pair_walked, pair_entries}
use Rattle.piece_audit.specs.AuditLaws.{pair_told, told_small, plain_room, plain_listed}
use Rattle.piece_audit.proofs.list.Goals as goal

pub list_part-requires : goal.list_part-requires
unfolding Bytes
list_part-requires g c =
    let a = c.args in
    let pair = c.requires.paired in
    let room = c.requires.shipped_in_bounds in
    let (old, new) = c.told.ensures in
    record {
      from_le_to = (
        omega arith,
        omega arith,
        omega (arith, pair.2),
        omega arith,
        omega (arith, pair.2, pair_long a.vendor.now a.shipped.now a.r a.base pair),
        told_small a.vendor.now a.shipped.now a.r a.base pair c.told.result old new,
      );
      i_le_from = (
        omega arith,
        plain_room a.vendor.now a.shipped.now a.r a.base pair (λ i. omega (arith, c.type_inv.vendor i)) (c.is_plain.ensures.0 c.if-is_plain.true) _ room,
      );
    }

pub returns-then-is_plain : goal.returns-then-is_plain
unfolding Bytes
returns-then-is_plain g c =
    let a = c.args in
    let (old, new) = c.told.ensures in
    plain_listed a.vendor.now a.shipped.now a.r a.base c.requires.paired (λ i. omega (arith, c.type_inv.vendor i)) (c.is_plain.ensures.0 c.if-is_plain.true)
    c.told.result (pair_told a.vendor.now a.shipped.now a.r a.base c.requires.paired c.told.result old new) g.U.Unit.writing a.places.now _ _
    c.list_part.ensures

pub shift_between-d-requires : goal.shift_between-d-requires
shift_between-d-requires g c = let a = c.args in pair_small a.vendor.now a.shipped.now a.r a.base c.requires.paired

pub list_moved-requires : goal.list_moved-requires
list_moved-requires g c =
    let a = c.args in
    let d = c.shift_between-d in
    let pair = c.requires.paired in
    let room = c.requires.shipped_in_bounds in
    let some = c.is_plain.ensures.1 c.if-is_plain.false in (
      pair_guaranteed a.vendor.now a.shipped.now a.r a.base pair some,
      pair.2,
      rw (pair_walked a.vendor.now a.shipped.now a.r a.base pair some d.result.four d.result.eight d.ensures.0 d.ensures.1) room,
    )

pub returns : goal.returns
returns g c =
    let a = c.args in
    let d = c.shift_between-d in
    c.list_moved.ensures ∙ ap (λ (l : List ℕ). g.U.Unit.writing.all a.places.now 0 l)
    (pair_entries a.vendor.now a.shipped.now a.r a.base c.requires.paired (c.is_plain.ensures.1 c.if-is_plain.false) d.result.four d.result.eight
    d.ensures.0 d.ensures.1)
