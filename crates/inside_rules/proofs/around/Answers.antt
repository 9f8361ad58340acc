use mathlib.Core.Path.{◌≡◌}
use native.Mathlib.Omega.{arith}
use borrow.Author.Count.{below_more}
use Rattle.table.specs.PassesLaws.{place_placed}
use Rattle.inside_rules.proofs.around.Goals as goal

pub loop-i-init : goal.loop-i-init
loop-i-init c = record { starts = λ i h. absurd (omega arith); ends = λ i h. absurd (omega arith); most = omega arith }

pub spot_at-p-requires : goal.spot_at-p-requires
spot_at-p-requires c =
    (omega (arith, c.requires.0), c.requires.1 c.loop-i.i c.loop-i-test.true)

pub overflow_add-p : goal.overflow_add-p
overflow_add-p c =
    omega (arith, c.spot_at-p.ensures, (place_placed c.args.image.now c.args.t c.loop-i.i).fits (c.requires.1 c.loop-i.i c.loop-i-test.true), c.requires)

pub loop-i-preserved : goal.loop-i-preserved
loop-i-preserved c =
    let a = c.args in
    let i = c.loop-i.i in
    let w = c.loop-i.invariant in
    record {
      starts = below_more _ _ (λ i h. omega (arith, w.starts i h)) (omega (arith, c.spot_at-p.ensures));
      ends = below_more _ _ (λ i h. omega (arith, w.ends i h)) (omega (arith, c.spot_at-p.ensures));
      most = omega (arith, w.most, c.spot_at-p.ensures, (place_placed a.image.now a.t i).fits (c.requires.1 i c.loop-i-test.true), c.requires);
    }

pub returns : goal.returns
returns c =
    let e : c.loop-i.i ≡ c.args.n = omega arith in
    let w = rw e at c.loop-i.invariant in
    record {
      within = record { starts = λ i h. omega (arith, w.starts i h); ends = w.ends; most = w.most };
      low = omega arith;
      high = omega arith;
    }
