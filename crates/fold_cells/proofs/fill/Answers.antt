use Rattle.std.proofs.Common.{arith, refl, ◌∙◌}
use Rattle.fold_pile.specs.PileLaws.{piled_of}
use Rattle.fold_cells.specs.CellsLaws.{filling_start, filling_next, filling_end}
use Rattle.fold_cells.proofs.fill.Goals as goal

pub loop-sheet-init : goal.loop-sheet-init
loop-sheet-init c =
    let f = c.fill.ensures in (
      rw (c.into_iter-sheet-iterator.ensures.into_iter_gives, c.sheets-sheet-items.ensures)
          (filling_start _ _ _ (piled_of _ c.args.pile.now.piled) (λ j h. f.clones j 0 (omega (arith, f.len)) refl)),
      f.len,
    )

pub known-requires : goal.known-requires
known-requires c = (rw c.in-Some.ensures.steps at c.loop-sheet.invariant.0).fit.0

pub enter_sheet-requires : goal.enter_sheet-requires
enter_sheet-requires c = (c.requires.0, omega (arith, c.loop-sheet.invariant.1, c.requires.1))

pub loop-sheet-preserved : goal.loop-sheet-preserved
loop-sheet-preserved c =
    let u = rw c.known.ensures at c.enter_sheet.ensures in
    (filling_next _ _ _ _ _ _ (rw c.in-Some.ensures.steps at c.loop-sheet.invariant.0) u, u.long ∙ c.loop-sheet.invariant.1)

pub shape_of-cells : goal.shape_of-cells
shape_of-cells c = c.loop-sheet.invariant.1

pub returns : goal.returns
returns c =
    record { shows = filling_end _ _ _ (rw c.in-None.ensures.steps.0 at c.loop-sheet.invariant.0); cells_len_unchanged = c.loop-sheet.invariant.1 }
