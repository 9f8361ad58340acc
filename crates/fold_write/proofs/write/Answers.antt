use Rattle.fold_write.specs.WriteLaws.{now_start, now_gap, now_cells, now_small, safe_gap, all_safe}
use Rattle.fold_tally.specs.TallyLaws.{tally_none}
use Rattle.fold_sheet.specs.WindowLaws.{out_settled, length_out}
use Rattle.fold_cells.specs.SetAt.{set_at}
use Rattle.fold_cells.specs.Cells.{Bounded}
use Rattle.fold_cells.specs.ReachLaws.{set_bounded}
use Rattle.fold_pile.specs.Pile.{sheets}
use Rattle.fold_pile.specs.PileLaws.{piled_of}
use Rattle.words.specs.Le.{Bytes}
use lib.ListN.{length}
use mathlib.Core.Path.{◌≡◌, refl, ap, ◌∙◌}
use native.Mathlib.Omega.{arith}
use Rattle.fold_write.proofs.write.Goals as goal

pub loop-at-init : goal.loop-at-init
loop-at-init c = (now_start _ _ _ _ (tally_none c.default-t.result c.default-t.ensures), omega arith, refl, refl)

pub next_set-base-requires : goal.next_set-base-requires
next_set-base-requires c = omega arith

pub write_gap-t-requires : goal.write_gap-t-requires
unfolding Bytes
write_gap-t-requires c =
    let p = c.args.pile.now.bytes.now in
    let b : Bounded (set_at (sheets p)) = set_bounded p c.args.pile.now.in_range (piled_of p c.args.pile.now.piled) in
    ((λ h. rw c.loop-at.invariant.3 (safe_gap _ _ _ b _ c.requires.room c.loop-at.at c.next_set-base.result c.loop-at.t c.loop-at.out c.loop-at.invariant.0 c.next_set-base.ensures.0 h)), now_small _ _ _ c.loop-at.at _ c.loop-at.out c.loop-at.invariant.0 c.loop-at.invariant.1)

pub shape_of-out-then-base-eq4295032831 : goal.shape_of-out-then-base-eq4295032831
shape_of-out-then-base-eq4295032831 c =
    let w = now_gap _ _ _ c.loop-at.at c.next_set-base.result _ _ _ _ c.loop-at.invariant.0 c.next_set-base.ensures.0 c.write_gap-t.ensures in
    ap length w.out ∙ length_out _ _ _ _

pub shape_of-cells-then-base-eq4295032831 : goal.shape_of-cells-then-base-eq4295032831
shape_of-cells-then-base-eq4295032831 c = c.loop-at.invariant.2

pub returns-then-base-eq4295032831 : goal.returns-then-base-eq4295032831
returns-then-base-eq4295032831 c =
    let w = now_gap _ _ _ c.loop-at.at c.next_set-base.result _ _ _ _ c.loop-at.invariant.0 c.next_set-base.ensures.0 c.write_gap-t.ensures in
    record { out_after = rw c.if-base-eq4295032831.true at w.out; cells_len_unchanged = c.loop-at.invariant.2 }

pub fill-requires : goal.fill-requires
fill-requires c =
    (c.next_set-base.ensures.1, omega (arith, c.loop-at.invariant.2, c.requires.in_bounds.1))

pub write_cells-t-requires : goal.write_cells-t-requires
unfolding Bytes
write_cells-t-requires c =
    let p = c.args.pile.now.bytes.now in
    let b : Bounded (set_at (sheets p)) = set_bounded p c.args.pile.now.in_range (piled_of p c.args.pile.now.piled) in
    let w = now_gap _ _ _ c.loop-at.at c.next_set-base.result _ _ _ _ c.loop-at.invariant.0 c.next_set-base.ensures.0 c.write_gap-t.ensures in
    let l : length c.write_gap-t.new.out ≡ length c.args.out.now = ap length w.out ∙ length_out _ _ _ _ in
    rw l (all_safe _ _ _ b _ c.requires.room c.next_set-base.result _ _ c.write_gap-t.new.out w c.fill.ensures.shows c.next_set-base.ensures.1 (omega (arith, c.fill.ensures.cells_len_unchanged, c.loop-at.invariant.2, c.requires.in_bounds.1)))

pub overflow_add-at : goal.overflow_add-at
overflow_add-at c =
    omega (arith, c.next_set-base.ensures.1, c.fill.ensures.cells_len_unchanged, c.loop-at.invariant.2, c.requires.in_bounds.1)

pub loop-at-smaller : goal.loop-at-smaller
loop-at-smaller c =
    omega (arith, c.next_set-base.ensures.0.up, c.fill.ensures.cells_len_unchanged, c.loop-at.invariant.2, c.requires.in_bounds.0, c.requires.in_bounds.1, c.next_set-base.ensures.1)

pub loop-at-preserved : goal.loop-at-preserved
loop-at-preserved c =
    let w = now_gap _ _ _ c.loop-at.at c.next_set-base.result _ _ _ _ c.loop-at.invariant.0 c.next_set-base.ensures.0 c.write_gap-t.ensures in
    let v = now_cells _ _ _ c.next_set-base.result _ _ _ _ _ w c.fill.ensures.shows c.write_cells-t.ensures.value c.write_cells-t.ensures.out_after in
    (v, omega (arith, c.next_set-base.ensures.1, c.fill.ensures.cells_len_unchanged, c.loop-at.invariant.2, c.requires.in_bounds.1), c.fill.ensures.cells_len_unchanged ∙ c.loop-at.invariant.2, ap length v.out ∙ length_out _ _ _ _)

pub shape_of-out : goal.shape_of-out
shape_of-out c = c.loop-at.invariant.3

pub shape_of-cells : goal.shape_of-cells
shape_of-cells c = c.loop-at.invariant.2

pub returns : goal.returns
unfolding Bytes
returns c =
    let p = c.args.pile.now.bytes.now in
    let b : Bounded (set_at (sheets p)) = set_bounded p c.args.pile.now.in_range (piled_of p c.args.pile.now.piled) in
    record { out_after = c.loop-at.invariant.0.out ∙ out_settled _ _ _ b c.loop-at.at c.loop-at-test.false; cells_len_unchanged = c.loop-at.invariant.2 }
