use mathlib.Core.Path.{refl}
use Rattle.hex_line.specs.WriteLaws.{wrote_line}
use Rattle.hex_line.proofs.put_line.Goals as goal

pub returns : goal.returns
returns c =
    let a = c.args in
    wrote_line a.kind a.address _ a.bytes.now refl c.put_front-p.ensures c.put_pairs-sum.ensures.0 c.put_back.ensures
