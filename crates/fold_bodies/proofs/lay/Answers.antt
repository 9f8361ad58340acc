use Rattle.std.proofs.Common.{arith}
use Rattle.fold_bodies.specs.BodiesLaws.{laid_copied, laid_none, place_within}
use Rattle.fold_bodies.proofs.lay.Goals as goal

pub returns-in_err-r : goal.returns-in_err-r
returns-in_err-r c = rw c.from_residual.ensures (laid_none _ _ _ _ _ _)

pub bounds-words-r : goal.bounds-words-r
bounds-words-r c = c.in_ok-r.ensures.there

pub overflow_mul-n : goal.overflow_mul-n
overflow_mul-n c = omega (arith, c.requires.rooms.0.few)

pub overflow_add-n : goal.overflow_add-n
overflow_add-n c = omega (arith, c.requires.rooms.0.few)

pub bounds-ranks-r : goal.bounds-ranks-r
bounds-ranks-r c = omega (arith, c.in_ok-r.ensures.there, c.requires.rooms.0.ranks)

pub overflow_add-n-2 : goal.overflow_add-n-2
overflow_add-n-2 c =
    let m = c.requires.rooms.0 in
    let i = c.in_ok-r.ensures in
    let q = m.each c.in_ok-r.r i.there in
    let v = m.within c.in_ok-r.r i.there in
    let g = place_within _ _ _ _ _ _ _ m i (omega arith) in
    omega (arith, m.total, m.few)

pub overflow_sub-w : goal.overflow_sub-w
overflow_sub-w c = omega (arith, c.in_ok-r.ensures.from, c.start_of-start.ensures.0)

pub overflow_add-n-3 : goal.overflow_add-n-3
overflow_add-n-3 c =
    let m = c.requires.rooms.0 in
    let i = c.in_ok-r.ensures in
    let q = m.each c.in_ok-r.r i.there in
    let v = m.within c.in_ok-r.r i.there in
    let g = place_within _ _ _ _ _ _ _ m i (omega arith) in
    omega (arith, m.total, c.start_of-start.ensures.0)

pub copy-requires : goal.copy-requires
copy-requires c =
    let m = c.requires.rooms.0 in
    let i = c.in_ok-r.ensures in
    let q = m.each c.in_ok-r.r i.there in
    let v = m.within c.in_ok-r.r i.there in
    let g = place_within _ _ _ _ _ _ _ m i (omega arith) in
    (omega (arith, m.total, c.start_of-start.ensures.0), c.requires.size_in_bounds)

pub shape_of-out : goal.shape_of-out
shape_of-out c = c.copy.ensures.long

pub returns : goal.returns
returns c =
    let m = c.requires.rooms.0 in
    let i = c.in_ok-r.ensures in
    let q = m.each c.in_ok-r.r i.there in
    let v = m.within c.in_ok-r.r i.there in
    let g = place_within _ _ _ _ _ _ _ m i (omega arith) in
    (i.there, laid_copied _ _ _ _ _ _ _ _ _ _ m i (omega (arith, c.start_of-start.ensures.0)) c.copy.ensures)
