use Rattle.fold_cells.specs.CellsLaws.{unset_start, unset_entry}
use Rattle.sheet.specs.Sheet.{entry_at, count}
use Rattle.sheet.specs.ByteAt.{byte_at}
use mathlib.Core.Path.{◌≡◌}
use native.Mathlib.Numerals.{add-one}
use native.Mathlib.Omega.{arith}
use Rattle.fold_cells.proofs.lowest.Goals as goal

pub loop-i-init : goal.loop-i-init
loop-i-init c = (omega arith, omega arith, unset_start _ _ _ c.requires)

pub lower-r-requires : goal.lower-r-requires
lower-r-requires c = (c.entry.ensures.offset_bound.0, c.entry.ensures.offset_bound.1, c.loop-i.invariant.2.up)

pub loop-i-preserved : goal.loop-i-preserved
loop-i-preserved c =
    let L = c.loop-i in
    let e = c.lower-r.ensures in
    (omega arith, omega (arith, L.invariant.1, e.1), rw add-one (unset_entry _ _ L.r _ L.i L.invariant.2 e.0 e.1 (rw c.entry.ensures.value at e.2)))

pub returns : goal.returns
unfolding byte_at
returns c =
    let L = c.loop-i in
    let e : L.i ≡ count c.args.sheet.now = omega (arith, c.count-m.ensures.value.0) in
    (rw e at L.invariant.2, L.invariant.1)
