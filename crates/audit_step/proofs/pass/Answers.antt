use Rattle.audit_step.specs.NextLaws.{reach_nearer}
use Rattle.audit_step.proofs.pass.Goals as goal

pub pass_equal-requires : goal.pass_equal-requires
pass_equal-requires c =
    let a = c.args in
    let (g, at, long) = c.requires.guaranteed in
    let (f, near, coming) = c.requires.foremost in (
      g,
      rw (c.min-w.ensures, c.width_of-n.ensures) (reach_nearer a.vendor.now a.r g a.at a.first a.p a.m f near coming),
      at,
      long,
    )

pub returns : goal.returns
returns c = c.pass_equal.ensures
