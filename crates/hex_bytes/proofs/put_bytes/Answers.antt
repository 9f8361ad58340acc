use native.Mathlib.Omega.{arith}
use Prim.Native.Nat.{◌+◌}
use mathlib.Core.Path.{◌≡◌, refl, ◌∙◌}
use native.Mathlib.Nat.{add-zero}
use lib.ListN.{length-set}
use Rattle.text_lines.specs.LineLaws.{wrote_none}
use Rattle.hex_judge.specs.Stands.{bytes_at}
use Rattle.hex_bytes.specs.BytesLaws.{bytes_more}
use Rattle.hex_bytes.proofs.put_bytes.Goals as goal

pub loop-j-init : goal.loop-j-init
unfolding bytes_at
loop-j-init c = (refl, rw (add-zero c.args.i) (wrote_none _ _))

pub loop-j-preserved : goal.loop-j-preserved
loop-j-preserved c =
    let a = c.args in
    let l = c.loop-j in (
      length-set l.out (a.i + l.j) c.byte_at.result ∙ l.invariant.0,
      bytes_more a.text.now a.at a.i l.j c.byte_at.result c.byte_at.ensures l.invariant.1,
    )

pub returns : goal.returns
returns c =
    let l = c.loop-j in
    let e : l.j ≡ c.args.d = omega arith in
    rw (← e) l.invariant.1
