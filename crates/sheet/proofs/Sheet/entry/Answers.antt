use Rattle.std.proofs.Common.{◌≡◌, arith}
use Rattle.sheet.specs.Sheet.{position, body_at, bodies_fit}
use Rattle.facts.specs.Fact.{Holds}
use Rattle.sheet.specs.SheetLaws.{bodies_within}
use Rattle.sheet.proofs.Sheet.entry.Goals as goal

-- the bodies follow one another up to the sheet's end
pub returns-clause-body : goal.returns-clause-body
returns-clause-body c =
    let s = c.args.self.now in
    let bodies : Holds (bodies_fit s) = rw c.self.view_is at c.self.invariant.1 in
    let here : position s c.args.i ≡ body_at s c.args.i = (bodies.0 c.args.i c.requires).1.0 in
    rw (c.entry_at.ensures.value, c.self.view_is) (omega (arith, here, bodies_within s bodies c.args.i c.requires))
