use Prim.Native.Nat.{◌+◌, ◌≤◌, ◌<◌}
use lib.ListN.{length}
use mathlib.Core.Path.{◌≡◌, ◌∙◌}
use native.Mathlib.Omega.{arith}
use Rattle.fold_bodies.specs.BodiesLaws.{laying_start, laying_next, laying_end, laying_not}
use Rattle.fold_cells.specs.CellsLaws.{body_within}
use Rattle.sheet.specs.Sheet.{entry_at, count}
use Rattle.fold_bodies.proofs.lay_sheet.Goals as goal

pub loop-i-init : goal.loop-i-init
loop-i-init c =
    (omega arith, c.requires.2, laying_start _ _ _ _ _)

pub bounds-seats-at : goal.bounds-seats-at
bounds-seats-at c =
    omega (arith, c.loop-i.invariant.1, c.requires.1)

pub lay-requires : goal.lay-requires
lay-requires c =
    let e = c.entry.ensures in
    record { rooms = (rw c.loop-i.invariant.2.long c.requires.0, e.offset_bound.0, e.offset_bound.1); size_in_bounds = rw c.bytes-bytes.ensures e.body }

pub shape_of-out-in_err-from : goal.shape_of-out-in_err-from
shape_of-out-in_err-from c = c.in_err-from.ensures.long ∙ c.loop-i.invariant.2.long

pub returns-in_err-from : goal.returns-in_err-from
returns-in_err-from c =
    rw c.from_residual.ensures (laying_not _ _ _ _ _ _ _ _ _ _ 0 (omega arith) c.loop-i.invariant.2 (rw c.bytes-bytes.ensures at c.in_err-from.ensures))

pub loop-i-preserved : goal.loop-i-preserved
loop-i-preserved c =
    (omega arith, omega arith, laying_next _ _ _ _ _ _ _ _ _ _ c.entry.ensures.value c.in_ok-from.ensures.0 c.loop-i.invariant.2 (rw c.bytes-bytes.ensures at c.in_ok-from.ensures.1))

pub shape_of-out : goal.shape_of-out
shape_of-out c =
    c.loop-i.invariant.2.long

pub returns : goal.returns
returns c =
    let L = c.loop-i in
    let e : L.i ≡ count c.args.sheet.now = omega (arith, c.count-m.ensures.value.0) in
    laying_end _ _ _ _ _ _ _ L.invariant.1 (rw e at L.invariant.2)
