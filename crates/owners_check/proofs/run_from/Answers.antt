use Rattle.owners.specs.Owners.{range_at, range_end}
use Rattle.owners.specs.OwnersLaws.{has, hasn't}
use Prim.Native.Nat.{◌+◌, ◌<◌}
use mathlib.Core.Path.{◌≡◌}
use native.Mathlib.Omega.{arith}
use Rattle.owners_check.proofs.run_from.Goals as goal

pub range_at-w-requires : goal.range_at-w-requires
range_at-w-requires c = omega (arith, c.requires.0, c.requires.2)

pub returns-then-w-owner : goal.returns-then-w-owner
returns-then-w-owner c =
    let p = c.requires in
    let a = c.args in
    let e = c.range_at-w.ensures.value in
    hasn't a.owners.now p.3.0 p.3.1 a.owner a.k a.i p.1 (λ h is. (rw e at c.if-w-owner.true) is.0)

pub returns-then-k-w : goal.returns-then-k-w
returns-then-k-w c =
    let p = c.requires in
    let a = c.args in
    let e = c.range_at-w.ensures.value in
    hasn't a.owners.now p.3.0 p.3.1 a.owner a.k a.i p.1 (λ h is. let low = rw e at c.if-k-w.true in omega (arith, is.1.0))

pub returns : goal.returns
returns c =
    let p = c.requires in
    let a = c.args in
    let o = a.owners.now in
    let w = c.range_at-w.result in
    let e = c.range_at-w.ensures.value in
    let ahead : a.k < range_end o a.i = p.1.ahead p.2 in
    let end : w.offset + w.size ≡ range_end o a.i = rw e in
    let mine : (range_at o a.i).owner ≡ a.owner = rw e at c.if-w-owner.false in
    let low = rw e at c.if-k-w.false in
    (omega arith, end, λ j from to. has o p.3.0 p.3.1 a.owner j a.i p.2 (mine, (omega arith, omega arith)))
