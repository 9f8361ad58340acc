use Rattle.inside_pages.specs.PagesLaws.{paged_shifted}
use native.Mathlib.Omega.{arith}
use Rattle.inside_pages.proofs.page_shifted.Goals as goal

pub returns : goal.returns
returns c =
    let a = c.args in
    paged_shifted a.image.now a.m a.page _ c.requires.2 c.floor_of.ensures.0 (omega arith) (omega (arith, c.if-m-page.false))
    (omega (arith, c.if-m-at.false))
