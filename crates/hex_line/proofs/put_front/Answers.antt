use native.Mathlib.Omega.{arith}
use Prim.Native.Nat.{◌/◌, ◌%◌}
use mathlib.Core.List.{[], ◌∷◌}
use lib.ListN.{length-set}
use Rattle.text_lines.specs.LineLaws.{wrote_then, wrote_byte}
use Rattle.hex_text.specs.Hex.{pairs}
use Rattle.hex_line.proofs.put_front.Goals as goal

pub put_pair-p-requires : goal.put_pair-p-requires
put_pair-p-requires c = simp length-set (omega arith)

pub put_pair-q-requires : goal.put_pair-q-requires
put_pair-q-requires c = let a = c.args in omega
    (arith, length-set a.out.now a.at 58)

pub put_pair-r-requires : goal.put_pair-r-requires
put_pair-r-requires c = let a = c.args in omega
    (arith, length-set a.out.now a.at 58)

pub put_pair-requires : goal.put_pair-requires
put_pair-requires c = let a = c.args in omega (arith, length-set a.out.now a.at 58)

pub shape_of-out : goal.shape_of-out
shape_of-out c = let a = c.args in omega (arith, length-set a.out.now a.at 58)

pub returns : goal.returns
returns c =
    let a = c.args in
    let hi = a.address / 256 in
    let lo = a.address % 256 in
    wrote_then (58 ∷ []) (pairs (a.d ∷ hi ∷ lo ∷ a.kind ∷ [])) (wrote_byte a.out.now a.at 58)
    (wrote_then (pairs (a.d ∷ [])) (pairs (hi ∷ lo ∷ a.kind ∷ []))
    c.put_pair-p.ensures
    (wrote_then (pairs (hi ∷ [])) (pairs (lo ∷ a.kind ∷ []))
    c.put_pair-q.ensures
    (wrote_then (pairs (lo ∷ [])) (pairs (a.kind ∷ [])) c.put_pair-r.ensures
    c.put_pair.ensures)))
