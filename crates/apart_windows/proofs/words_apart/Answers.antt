use native.Mathlib.Omega.{arith}
use Rattle.words.specs.Le.{Bytes}
use Rattle.inside_walk.specs.Walkable.{passing_first}
use Rattle.apart_windows.specs.WindowsLaws.{windows_start, windows_next, windows_end}
use Rattle.apart_windows.proofs.words_apart.Goals as goal

bytes : (c : goal.After-first-s) → Bytes c.args.image.now
unfolding Bytes
bytes c = λ i. omega (arith, c.type_inv.image i)

pub loop-w-init : goal.loop-w-init
loop-w-init c =
    let a = c.args in
    windows_start _ _ _ _ _ _ (passing_first a.image.now a.v a.f c.first-s.result (bytes c) c.requires.walkable c.first-s.ensures)

pub scan_window-requires : goal.scan_window-requires
scan_window-requires c =
    let r = c.requires in
    record { walkable = r.walkable; patch = r.patch; behind = c.loop-w.invariant.behind; small = omega (arith, r.top_small) }

pub returns-in_default : goal.returns-in_default
returns-in_default c = record { says = c.in_default.ensures }

pub loop-w-preserved : goal.loop-w-preserved
loop-w-preserved c = windows_next _ _ _ _ _ _ _ _ _ c.loop-w.invariant c.in-Some.ensures

pub returns-in-Some : goal.returns-in-Some
returns-in-Some c =
    windows_end _ _ _ _ _ _ _ _ _ c.requires (windows_next _ _ _ _ _ _ _ _ _ c.loop-w.invariant c.in-Some.ensures) (omega arith)

pub returns : goal.returns
returns c =
    windows_end _ _ _ _ _ _ _ _ _ c.requires c.loop-w.invariant (omega arith)
