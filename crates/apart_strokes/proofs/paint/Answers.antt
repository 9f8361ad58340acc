use Rattle.apart_strokes.specs.StrokesLaws.{painted_part}
use Rattle.apart_strokes.proofs.paint.Goals as goal

pub returns : goal.returns
returns c = painted_part _ _ _ _ _ _ _ c.requires.0 c.requires.1 c.stroke.ensures
