use Rattle.facts.specs.Fact.{Holds}
use Rattle.inside_pages.specs.Pages.{reaches}
use Rattle.inside_pages.specs.PagesLaws.{paged_in}
use native.Mathlib.Omega.{arith}
use Rattle.inside_pages.proofs.page_in.Goals as goal

-- the section header that is met reaches the page
met : (c : goal.After-struct_known-11-1) → Holds (reaches c.row_at-w.result c.args.page)
met c =
    rw (← c.row_at-w.ensures.0) at (c.in-Some.ensures.1.here c.in-Some.ensures.0)

pub overflow_add-result-2 : goal.overflow_add-result-2
overflow_add-result-2 c =
    omega (arith, c.requires.1)

pub overflow_sub-result-2 : goal.overflow_sub-result-2
overflow_sub-result-2 c =
    omega (arith, (met c).0)

pub returns : goal.returns
returns c =
    let a = c.args in
    let is = c.row_at-w.ensures.0 in
    paged_in a.image.now a.m a.page c.in-Some.i c.in-Some.ensures.1 c.in-Some.ensures.0 _ c.requires.2
    (rw (← is) c.floor_of.ensures.0) (rw (← is) c.if-m-w-2.false) (omega arith) (rw (← is) (omega (arith, c.if-m-w.false)))
    (rw (← is) (omega (arith, (met c).0)))
