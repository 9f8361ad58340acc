use Rattle.sheet_bodies.specs.Set.{set_by}
use lib.Seq.{length-take-le}
use lib.ListN.{length, take, drop, length-drop}
use Prim.Native.Nat.{◌+◌, ◌-◌}
use mathlib.Core.Path.{◌≡◌}
use native.Mathlib.Omega.{arith}
use Rattle.sheet_bodies.proofs.set_by.Goals as goal

pub write_sheet-requires : goal.write_sheet-requires
write_sheet-requires c =
    let a = c.args in
    let r = a.r in
    let d : r.c + r.z - (r.c + 32) ≡ r.z - 32 = omega (arith, c.requires.0) in
    let long : length (take (r.z - 32) (drop (r.c + 32) a.image.now)) ≡ r.z - 32 = length-take-le (r.z - 32) (drop (r.c + 32) a.image.now) (rw length-drop (omega (arith, c.requires.0))) in
    let e : r.z - 32 + 32 ≡ r.z = omega (arith, c.requires.0) in
    rw (d, long, e) c.requires.1

pub returns : goal.returns
unfolding set_by
returns c =
    let r = c.args.r in
    let d : r.c + r.z - (r.c + 32) ≡ r.z - 32 = omega (arith, c.requires.0) in
    rw (c.write_sheet.ensures, d)
