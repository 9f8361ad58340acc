use mathlib.Core.Path.{◌≡◌, refl}
use mathlib.Core.Logic.{inl, inr}
use native.Mathlib.Omega.{arith}
use Rattle.move_image.specs.FixedLaws.{fixed_spread}
use Rattle.audit_pieces.specs.PiecesLaws.{fixed_start, fixed_next}
use Prim.Native.Nat.{suc}
use lib.ListN.{length}
use Rattle.audit_lay.specs.Lay.{value}
use Rattle.audit_pieces.proofs.lay_fixed.Goals as goal

pub loop-i-init : goal.loop-i-init
loop-i-init c = let a = c.args in fixed_start a.image.now a.r c.requires.0 (value a.image.now a.d.four a.d.eight) a.from (length a.window.now) a.window.now

pub word_place-at-requires : goal.word_place-at-requires
word_place-at-requires c = (omega (arith, c.requires.0), omega (arith, c.requires.0), omega arith)

pub lay_item-requires : goal.lay_item-requires
lay_item-requires c =
    let g = c.requires.0 in
    let within = (fixed_spread c.args.image.now c.args.r g).within c.loop-i.i (omega arith) in
    (inr (omega (arith, within, c.word_place-at.ensures), inl refl), omega (arith, g), omega (arith, c.loop-i.invariant.same_length, c.requires.1))

pub loop-i-preserved : goal.loop-i-preserved
loop-i-preserved c =
    let L = c.loop-i in
    let a = c.args in
    fixed_next a.image.now a.r c.requires.0 (value a.image.now a.d.four a.d.eight) a.from (length a.window.now) L.i a.window.now L.window _ (omega arith) L.invariant
    (rw (L.invariant.same_length, c.word_place-at.ensures) at c.lay_item.ensures)

pub shape_of-window : goal.shape_of-window
shape_of-window c = c.loop-i.invariant.same_length

pub returns : goal.returns
returns c = let e : c.loop-i.i ≡ suc c.args.r.n = omega arith in rw e at c.loop-i.invariant
