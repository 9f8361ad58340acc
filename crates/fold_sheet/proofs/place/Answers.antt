use Rattle.fold_sheet.specs.WindowLaws.{placed_some, placed_idle, placed_ends}
use Prim.Native.Nat.{◌-◌}
use mathlib.Core.Path.{◌≡◌}
use native.Mathlib.Omega.{arith}
use Rattle.fold_sheet.proofs.place.Goals as goal

pub overflow_mul-bodies : goal.overflow_mul-bodies
overflow_mul-bodies c = omega (arith, c.requires.size)

pub overflow_add-bodies : goal.overflow_add-bodies
overflow_add-bodies c = omega (arith, c.requires.size)

pub overflow_add-at : goal.overflow_add-at
overflow_add-at c = omega (arith, c.requires.size)

pub overflow_cast-out : goal.overflow_cast-out
overflow_cast-out c = omega (arith, c.requires.cell)

pub bounds-out-at : goal.bounds-out-at
bounds-out-at c = omega (arith, c.requires.some c.if-c-ne0.true)

pub returns-then-c-ne0 : goal.returns-then-c-ne0
returns-then-c-ne0 c =
    placed_some _ _ _ _ _ _ _ c.if-c-ne0.true (λ b e. let z : c.args.c - 1 ≡ b = omega arith in rw z)

pub returns-then-t-eq0 : goal.returns-then-t-eq0
returns-then-t-eq0 c = placed_idle _ _ _ _ _ _ c.if-c-ne0.false c.if-t-eq0.true

pub overflow_mul-t : goal.overflow_mul-t
overflow_mul-t c = omega (arith, c.requires.runs)

pub overflow_add-t : goal.overflow_add-t
overflow_add-t c = omega (arith, c.requires.runs)

pub overflow_sub-k : goal.overflow_sub-k
overflow_sub-k c = omega (arith, c.requires.run_k)

pub overflow_sub-t : goal.overflow_sub-t
overflow_sub-t c = omega (arith, c.requires.run_bytes)

pub overflow_add-bodies-2 : goal.overflow_add-bodies-2
overflow_add-bodies-2 c =
    omega (arith, c.requires.size, c.requires.run_bytes)

pub put_entry-requires : goal.put_entry-requires
put_entry-requires c =
    let e = c.requires.ends c.if-c-ne0.false c.if-t-eq0.false in omega (arith, e)

pub returns : goal.returns
returns c =
    placed_ends _ _ _ _ _ _ _ c.if-c-ne0.false c.if-t-eq0.false (λ n. c.put_entry.ensures)
