use Rattle.fold_tally.specs.declared.Tally.{Tally}
use Rattle.fold_tally.specs.Tally.{tally_to, through}
use Rattle.fold_tally.specs.TallyLaws.{tally_none, tally_small, small_up, gap_tally, through_tally, counted_all, counted_some}
use Rattle.fold_cells.specs.SetAt.{set_at}
use Rattle.fold_cells.specs.Cells.{Bounded, Shows}
use Rattle.fold_cells.specs.ReachLaws.{set_bounded}
use Rattle.fold_pile.specs.Pile.{sheets}
use Rattle.fold_pile.specs.PileLaws.{piled_of}
use Rattle.words.specs.Le.{Bytes}
use Prim.Native.Nat.{ℕ, ◌+◌}
use lib.ListN.{length}
use mathlib.Core.List.{List}
use mathlib.Core.Path.{◌≡◌, refl, ap, ◌∙◌}
use native.Mathlib.Omega.{arith}
use Rattle.fold_tally.proofs.count.Goals as goal
use Rattle.fold_tally.proofs.count.Goals.{then-t-gt256-via-then-t-gt256, then-t-gt256-via-else-t-gt256+then-t-gt65535}

-- the count up to the window's end
counted-on : (f : ℕ → ℕ) (ys : List ℕ) (base : ℕ) (t r : Tally) → Shows ys base f → t ≡ tally_to f base
    → r ≡ through ys (length ys) t → r ≡ tally_to f (base + length ys)
counted-on f ys base t r s e g = g ∙ ap (through ys (length ys)) e ∙ through_tally f ys base (length ys) s (omega arith)

pub loop-at-init : goal.loop-at-init
unfolding tally_to
loop-at-init c = (tally_none c.default-t.result c.default-t.ensures, omega arith, refl)

pub next_set-base-requires : goal.next_set-base-requires
next_set-base-requires c = omega arith

pub pass-t-requires : goal.pass-t-requires
pass-t-requires c =
    rw c.loop-at.invariant.0 (small_up (tally_small (set_at (sheets c.args.pile.now.bytes.now)) c.loop-at.at) 1099511627776 (omega (arith, c.loop-at.invariant.1)))

pub shape_of-cells-then-base-eq4295032831 : goal.shape_of-cells-then-base-eq4295032831
shape_of-cells-then-base-eq4295032831 c = c.loop-at.invariant.2

pub returns-then-base-eq4295032831 : goal.returns-then-base-eq4295032831
unfolding Bytes
returns-then-base-eq4295032831 c =
    let p = c.args.pile.now.bytes.now in
    let f = set_at (sheets p) in
    let b : Bounded f = set_bounded p c.args.pile.now.in_range (piled_of p c.args.pile.now.piled) in
    let e = gap_tally f c.loop-at.at c.next_set-base.result c.loop-at.t c.pass-t.result c.next_set-base.ensures.0 c.loop-at.invariant.0 c.pass-t.ensures in
    record { counted = counted_all f b c.next_set-base.result c.pass-t.result e (omega (arith, c.if-base-eq4295032831.true)); cells_len_unchanged = c.loop-at.invariant.2 }

pub fill-requires : goal.fill-requires
fill-requires c =
    (c.next_set-base.ensures.1, omega (arith, c.loop-at.invariant.2, c.requires.1))

pub count_cells-t-requires : goal.count_cells-t-requires
count_cells-t-requires c =
    let f = set_at (sheets c.args.pile.now.bytes.now) in
    let e = gap_tally f c.loop-at.at c.next_set-base.result c.loop-at.t c.pass-t.result c.next_set-base.ensures.0 c.loop-at.invariant.0 c.pass-t.ensures in
    (rw e (small_up (tally_small f c.next_set-base.result) 1099511627776 (omega (arith, c.next_set-base.ensures.1))), omega (arith, c.fill.ensures.cells_len_unchanged, c.loop-at.invariant.2, c.requires.1))

pub shape_of-cells-then-t-gt256 : goal.shape_of-cells-then-t-gt256
shape_of-cells-then-t-gt256 c =
    c.fill.ensures.cells_len_unchanged ∙ c.loop-at.invariant.2

pub returns-then-t-gt256 : goal.returns-then-t-gt256
unfolding Bytes
returns-then-t-gt256 c =
    let p = c.args.pile.now.bytes.now in
    let f = set_at (sheets p) in
    let b : Bounded f = set_bounded p c.args.pile.now.in_range (piled_of p c.args.pile.now.piled) in
    let e = gap_tally f c.loop-at.at c.next_set-base.result c.loop-at.t c.pass-t.result c.next_set-base.ensures.0 c.loop-at.invariant.0 c.pass-t.ensures in
    let g = counted-on f c.fill.new.cells c.next_set-base.result c.pass-t.result c.count_cells-t.result c.fill.ensures.shows e c.count_cells-t.ensures in
    record {
      counted = counted_some f b _ c.count_cells-t.result g
          (λ h l. elim c.then-t-gt256.branch [
            | then-t-gt256-via-then-t-gt256 w ↦ omega arith
            | then-t-gt256-via-else-t-gt256+then-t-gt65535 w ↦ omega arith
          ]);
      cells_len_unchanged = c.fill.ensures.cells_len_unchanged ∙ c.loop-at.invariant.2;
    }

pub overflow_add-at : goal.overflow_add-at
overflow_add-at c =
    omega (arith, c.next_set-base.ensures.1, c.fill.ensures.cells_len_unchanged, c.loop-at.invariant.2, c.requires.1)

pub loop-at-smaller : goal.loop-at-smaller
loop-at-smaller c =
    omega (arith, c.next_set-base.ensures.0.up, c.fill.ensures.cells_len_unchanged, c.loop-at.invariant.2, c.requires.0)

pub loop-at-preserved : goal.loop-at-preserved
loop-at-preserved c =
    let f = set_at (sheets c.args.pile.now.bytes.now) in
    let e = gap_tally f c.loop-at.at c.next_set-base.result c.loop-at.t c.pass-t.result c.next_set-base.ensures.0 c.loop-at.invariant.0 c.pass-t.ensures in
    let g = counted-on f c.fill.new.cells c.next_set-base.result c.pass-t.result c.count_cells-t.result c.fill.ensures.shows e c.count_cells-t.ensures in
    (g, omega (arith, c.next_set-base.ensures.1, c.fill.ensures.cells_len_unchanged, c.loop-at.invariant.2, c.requires.1), c.fill.ensures.cells_len_unchanged ∙ c.loop-at.invariant.2)

pub shape_of-cells : goal.shape_of-cells
shape_of-cells c = c.loop-at.invariant.2

pub returns : goal.returns
unfolding Bytes
returns c =
    let p = c.args.pile.now.bytes.now in
    let f = set_at (sheets p) in
    let b : Bounded f = set_bounded p c.args.pile.now.in_range (piled_of p c.args.pile.now.piled) in
    record { counted = counted_all f b c.loop-at.at c.loop-at.t c.loop-at.invariant.0 c.loop-at-test.false; cells_len_unchanged = c.loop-at.invariant.2 }
