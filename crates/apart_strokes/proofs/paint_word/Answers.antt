use native.Mathlib.Omega.{arith}
use Rattle.apart_strokes.specs.StrokesLaws.{painted_part}
use Rattle.apart_strokes.proofs.paint_word.Goals as goal

pub returns : goal.returns
returns g c = painted_part _ _ _ _ _ _ _ (omega arith) c.requires c.stroke.ensures
