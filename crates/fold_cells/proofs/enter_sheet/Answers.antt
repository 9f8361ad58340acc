use Rattle.fold_cells.specs.CellsLaws.{over_none, over_entry, body_within}
use Rattle.sheet.specs.Sheet.{entry_at, count, size, position}
use Rattle.sheet.specs.ByteAt.{byte_at}
use Prim.Native.Nat.{◌+◌, ◌≤◌, ◌<◌}
use lib.ListN.{length}
use mathlib.Core.Path.{◌≡◌}
use native.Mathlib.Numerals.{add-one}
use native.Mathlib.Omega.{arith}
use Rattle.fold_cells.proofs.enter_sheet.Goals as goal

pub loop-i-init : goal.loop-i-init
loop-i-init c = (omega arith, over_none _ _ _)

pub enter-requires : goal.enter-requires
enter-requires c =
    let e = c.entry.ensures in
    record {
      offset_bound = (e.offset_bound.0, e.offset_bound.1, rw c.bytes-bytes.ensures e.body, c.requires.0);
      cells_len_bound = omega (arith, c.loop-i.invariant.1.long, c.requires.1);
    }

pub loop-i-preserved : goal.loop-i-preserved
loop-i-preserved c =
    let L = c.loop-i in
    (omega arith, rw add-one (over_entry _ L.cells _ _ _ L.i L.invariant.1 (rw (c.entry.ensures.value, c.bytes-bytes.ensures) at c.enter.ensures)))

pub shape_of-cells : goal.shape_of-cells
shape_of-cells c = c.loop-i.invariant.1.long

pub returns : goal.returns
unfolding byte_at
returns c =
    let L = c.loop-i in
    let e : L.i ≡ count c.args.sheet.now = omega (arith, c.count-m.ensures.value.0) in
    rw e at L.invariant.1
