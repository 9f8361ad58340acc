use Prim.Native.Nat.{◌<◌}
use mathlib.Core.Path.{sym, ◌∙◌}
use native.Mathlib.Omega.{arith}
use Rattle.fold_runs.specs.RunsLaws.{taking_start, taking_next, taking_end}
use Rattle.sheet.specs.Sheet.{entry_at, count}
use Rattle.fold_runs.proofs.take_sheet.Goals as goal

pub loop-i-init : goal.loop-i-init
loop-i-init c =
    (omega arith, taking_start _ _ _ _ c.requires)

pub take-r-requires : goal.take-r-requires
take-r-requires c =
    (c.loop-i.invariant.1.holding, c.entry.ensures.offset_bound.0, c.entry.ensures.offset_bound.1)

pub loop-i-preserved : goal.loop-i-preserved
loop-i-preserved c =
    let L = c.loop-i in
    let h : L.i < count c.args.sheet.now = omega (arith, c.count-m.ensures.value.0) in
    (omega arith, taking_next _ _ _ _ _ _ L.i _ _ _ c.count-m.ensures.fits h c.entry.ensures.value L.invariant.1 c.take-r.ensures)

pub shape_of-words : goal.shape_of-words
shape_of-words c =
    c.loop-i.invariant.1.holding.long ∙ sym c.requires.long

pub shape_of-seats : goal.shape_of-seats
shape_of-seats c =
    c.loop-i.invariant.1.holding.seats ∙ sym c.requires.seats

pub returns : goal.returns
returns c =
    taking_end _ _ _ _ _ c.loop-i.invariant.1
