use Rattle.std.proofs.Common.{◌≡◌, length, sym, ap, ◌∙◌, arith}
use Rattle.fold_bodies.specs.BodiesLaws.{runs_none, runs_one, length_runs}
use Rattle.fold_bodies.proofs.put_runs.Goals as goal

pub loop-i-init : goal.loop-i-init
loop-i-init c = sym (runs_none _ _ _ _)

pub put_entry-requires : goal.put_entry-requires
put_entry-requires c =
    (omega (arith, ap length c.loop-i.invariant ∙ length_runs _ _ _ _ _, c.requires.total), c.start_of.ensures.1)

pub loop-i-preserved : goal.loop-i-preserved
loop-i-preserved c =
    c.put_entry.ensures ∙ rw (c.loop-i.invariant, c.start_of.ensures.0, c.size_of.ensures.0) (sym (runs_one _ _ _ _ _))

pub shape_of-out : goal.shape_of-out
shape_of-out c = ap length c.loop-i.invariant ∙ length_runs _ _ _ _ _

pub returns : goal.returns
returns c =
    let e : c.loop-i.i ≡ length c.args.words.now = omega arith in
    rw e at c.loop-i.invariant
