use Rattle.facts.specs.FactLaws.{holds, is_test}
use Rattle.apart_marks.specs.MarksLaws.{marks_none}
use Rattle.apart_windows.specs.RunsLaws.{at_hand}
use Rattle.apart_windows.specs.WindowsLaws.{going_start, going_next, going_less, scan_past, scan_end, scan_found}
use Prim.Native.Nat.{ℕ}
use lib.ListN.{length-replicate, get_or-replicate}
use mathlib.Core.Path.{sym, ◌∙◌}
use Rattle.apart_windows.proofs.scan_window.Goals as goal
use Rattle.items.specs.Kinds.{same_kind, other_kind}
use Rattle.items.specs.declared.Kind.TheVariants.{End}

pub mark_patch-requires : goal.mark_patch-requires
mark_patch-requires c =
    let p = c.requires in (p.patch, marks_none _ _ (length-replicate {A = ℕ} 65536 0) (λ j h. get_or-replicate {A = ℕ} 65536 j 0 0 h))

pub loop-marks-init : goal.loop-marks-init
loop-marks-init c =
    going_start _ _ _ _ _ _ _ c.requires.behind c.mark_patch.ensures

pub returns-then-is_past : goal.returns-then-is_past
returns-then-is_past c =
    let g = c.loop-marks.invariant in
    let past = holds _ (sym (is_test c.is_past.ensures) ∙ c.if-is_past.true) in
    (scan_past _ _ _ _ _ _ _ g.scan past, g.behind)

pub step-u-requires : goal.step-u-requires
step-u-requires c =
    let w = c.requires.walkable in
    (w.within, w.small, c.loop-marks.invariant.scan.at.valid)

pub returns-then-eq : goal.returns-then-eq
returns-then-eq c =
    let g = c.loop-marks.invariant in
    (scan_end _ _ _ _ _ _ _ _ g.scan c.step-u.ensures (same_kind _ End c.eq.ensures c.if-eq.true), g.behind)

pub mark_run-requires : goal.mark_run-requires
mark_run-requires c =
    let e = c.step-u.ensures in
    (at_hand _ _ _ e.valid, c.loop-marks.invariant.scan.marks.long, e.small)

pub returns-in_err-high : goal.returns-in_err-high
returns-in_err-high c =
    rw c.from_residual.ensures
    (scan_found _ _ _ _ _ _ _ _ c.loop-marks.invariant.scan c.step-u.ensures (other_kind _ End c.eq.ensures c.if-eq.false) c.in_err-high.ensures.came)

pub loop-marks-smaller : goal.loop-marks-smaller
loop-marks-smaller c =
    going_less _ _ _ _ _ c.step-u.ensures (other_kind _ End c.eq.ensures c.if-eq.false) c.pass-s.ensures

pub loop-marks-preserved : goal.loop-marks-preserved
loop-marks-preserved c =
    let g = c.loop-marks.invariant in
    going_next _ _ _ _ _ _ _ _ _ g c.step-u.ensures (other_kind _ End c.eq.ensures c.if-eq.false) _ _ c.in_ok-high.ensures.came _ c.pass-s.ensures _ c.follow-r.ensures
