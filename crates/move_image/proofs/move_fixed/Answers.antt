use Rattle.move_image.specs.FixedLaws.{fixed_spread, fixed_kept}
use Rattle.move_image.specs.Fixed.{fixed_at, fixed_of}
use Rattle.moves.specs.MovesLaws.{length_moved}
use Rattle.moves.specs.Moves.{moved_to}
use Rattle.std.proofs.Common.{◌≡◌, ℕ, suc, ◌+◌, ◌-◌, List, length, refl, ap, ◌∙◌, add-one, arith}
use Rattle.move_image.proofs.move_fixed.Goals as goal

-- the place that a turn finds is the one that stood there at first
place : (c : goal.After-add32-arg-1) →
    let a = c.args in
    c.word_place-p.result ≡ fixed_at a.image.now a.r c.loop-i.i
place c =
    let a = c.args in
    let i = c.loop-i.i in
    c.word_place-p.ensures ∙ ap (λ (m : List ℕ). fixed_at m a.r i) c.loop-i.invariant.1
    ∙ fixed_kept a.image.now a.r c.requires (λ w. a.d) i i (omega arith) (omega arith)

place-at-2 : (c : goal.After-slice_known-in-loop-i-1) →
    let a = c.args in
    c.word_place-p.result ≡ fixed_at a.image.now a.r c.loop-i.i
place-at-2 c =
    let a = c.args in
    let i = c.loop-i.i in
    c.word_place-p.ensures ∙ ap (λ (m : List ℕ). fixed_at m a.r i) c.loop-i.invariant.1
    ∙ fixed_kept a.image.now a.r c.requires (λ w. a.d) i i (omega arith) (omega arith)

pub loop-i-init : goal.loop-i-init
unfolding moved_to
loop-i-init c = (omega arith, refl, refl)

pub word_place-p-requires : goal.word_place-p-requires
word_place-p-requires c =
    omega (arith, c.requires)

pub add32-requires : goal.add32-requires
add32-requires c =
    omega (arith, place c, (fixed_spread c.args.image.now c.args.r c.requires).within c.loop-i.i (omega arith))

pub loop-i-preserved : goal.loop-i-preserved
unfolding moved_to
loop-i-preserved c =
    let xs = c.args.image.now in
    let e : c.add32.new.s ≡ moved_to xs (fixed_of xs c.args.r) (λ w. c.args.d) (c.loop-i.i + 1) = rw (add-one, ← c.loop-i.invariant.1, ← place-at-2 c) c.add32.ensures in
    (omega arith, e, ap length e ∙ simp length_moved)

pub shape_of-image : goal.shape_of-image
shape_of-image c = c.loop-i.invariant.2

pub returns : goal.returns
returns c =
    let e : c.loop-i.i ≡ suc c.args.r.n = omega arith in
    rw e at c.loop-i.invariant.1
