use mathlib.Core.List.{◌++◌}
use native.Mathlib.Omega.{arith}
use Rattle.text_lines.specs.LineLaws.{wrote_then}
use Rattle.text_answer.specs.Told.{heading, place_lines, verdict}
use Rattle.text_answer.proofs.put_told.Goals as goal

pub returns : goal.returns
returns c =
    let x = c.args in
    let lines = place_lines x.places.now in record {
      wrote = wrote_then (heading x.a.base x.a.settings x.a.strays x.a.bits) (lines ++ verdict x.a.explained) c.put_heading-p.ensures.wrote
          (wrote_then lines (verdict x.a.explained) c.put_places-q.ensures.wrote c.put_verdict.ensures.wrote);
      upper_bound = omega (arith, c.put_places-q.ensures.upper_bound, c.put_heading-p.ensures.upper_bound);
    }
