use native.Mathlib.Omega.{arith}
use Rattle.words.specs.Le.{Bytes}
use Rattle.inside_modules.specs.ModulesFit.{Fits}
use Rattle.inside_blocks.specs.Blocks.{items}
use Rattle.inside_walk.specs.WholeLaws.{module_in_fits}
use Rattle.inside_judge.specs.PartsLaws.{on_first, on_items}
use Rattle.inside_judge.proofs.judge_part.Goals as goal

bytes : (c : goal.After-note-r) → Bytes c.args.image.now
unfolding Bytes
bytes c = λ i. omega (arith, c.type_inv.image i)

bytes-2 : (c : goal.After-judge_heads-s) → Bytes c.args.image.now
unfolding Bytes
bytes-2 c = λ i. omega (arith, c.type_inv.image i)

-- the module lies within its bounds
fits : (c : goal.After-note-r) → Fits c.args.image.now c.module_in-m.result
fits c =
    let a = c.args in
    rw c.module_in-m.ensures (module_in_fits a.image.now a.p (bytes c) c.requires.image_len_bound.0 (λ k. (c.requires.le_len k).1))

fits-2 : (c : goal.After-judge_heads-s) → Fits c.args.image.now c.module_in-m.result
fits-2 c =
    let a = c.args in
    rw c.module_in-m.ensures (module_in_fits a.image.now a.p (bytes-2 c) c.requires.image_len_bound.0 (λ k. (c.requires.le_len k).1))

pub pass-front-requires : goal.pass-front-requires
pass-front-requires c = c.item_for-x.ensures.2

pub note-r-requires : goal.note-r-requires
note-r-requires c =
    (c.item_for-x.ensures.2, c.pass-front.ensures)

pub judge_heads-s-requires : goal.judge_heads-s-requires
judge_heads-s-requires c =
    (fits c)

pub judge_blocks-requires : goal.judge_blocks-requires
judge_blocks-requires c =
    (fits-2 c)

pub returns : goal.returns
returns c =
    let a = c.args in
    let xs = a.image.now in
    let m = c.module_in-m.result in
    rw (← c.module_in-m.ensures, ← c.item_for-x.ensures.0)
    (on_first c.item_for-x.result (items xs m) a.limits a.judged c.note-r.result c.judge_blocks.result
    c.note-r.ensures
    (on_items xs m a.limits c.note-r.result c.judge_heads-s.result c.judge_blocks.result c.judge_heads-s.ensures
    c.judge_blocks.ensures))
