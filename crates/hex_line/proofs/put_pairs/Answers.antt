use Rattle.std.proofs.Common.{refl, ◌∙◌, arith}
use Rattle.text_lines.specs.LineLaws.{wrote_length}
use Rattle.hex_line.specs.WriteLaws.{pairs_none, pairs_more}
use Rattle.hex_line.proofs.put_pairs.Goals as goal

pub loop-j-init : goal.loop-j-init
loop-j-init c = (pairs_none _ _, refl, omega arith)

pub loop-j-preserved : goal.loop-j-preserved
loop-j-preserved c =
    let l = c.loop-j in
    let wrote = c.put_pair.ensures in
    (pairs_more c.args.bytes.now l.j _ (omega arith) refl l.invariant.0 wrote, wrote_length wrote ∙ l.invariant.1, omega arith)
