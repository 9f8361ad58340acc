use Rattle.std.proofs.Common.{◌≡◌, refl, arith}
use Rattle.sheet.specs.Sheet.{count}
use Rattle.sheet.specs.ByteAt.{byte_by, byte_at}
use Rattle.fold_held.specs.HeldLaws.{by_next}
use Rattle.fold_held.proofs.sheet_held.Goals as goal

pub loop-i-init : goal.loop-i-init
unfolding byte_by
loop-i-init c = (omega arith, c.requires.1, λ k o. refl)

pub seat_of-requires : goal.seat_of-requires
seat_of-requires c =
    (omega (arith, c.requires.0, c.loop-i.invariant.1), c.entry.ensures.offset_bound.0, c.entry.ensures.offset_bound.1)

pub loop-i-preserved : goal.loop-i-preserved
loop-i-preserved c =
    let L = c.loop-i in
    (omega arith, omega arith, λ k o. by_next _ _ k _ c.entry.ensures.value (c.in_ok-from.ensures k o) (L.invariant.2 k o))

pub returns : goal.returns
unfolding byte_at
returns c =
    let L = c.loop-i in
    let e : L.i ≡ count c.args.sheet.now = omega (arith, c.count-m.ensures.value.0) in
    (L.invariant.1, rw e at L.invariant.2)
