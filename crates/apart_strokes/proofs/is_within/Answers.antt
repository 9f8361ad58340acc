use Rattle.std.specs.Prelude.{refl}
use Rattle.apart_strokes.specs.StrokesLaws.{within}
use Rattle.apart_strokes.proofs.is_within.Goals as goal

pub returns-in-0-eq4 : goal.returns-in-0-eq4
returns-in-0-eq4 c = rw c.in-0-eq4.is-0 (within 4 _ _ c.le32.ensures c.in-0-eq4.is-1 _ refl)

pub returns-in-0-eq8 : goal.returns-in-0-eq8
returns-in-0-eq8 c = rw c.in-0-eq8.is-0 (within 8 _ _ c.le64.ensures c.in-0-eq8.is-1 _ refl)
