use Rattle.audit_fill_window.specs.StandingLaws.{standing_open}
use Rattle.words.specs.Le.{Bytes}
use native.Mathlib.Omega.{arith}
use Rattle.audit_windows.proofs.open.Goals as goal

bytes : (c : goal.After-first) → Bytes c.args.image.now
unfolding Bytes
bytes c = λ i. omega (arith, c.type_inv.image i)

pub returns : goal.returns
returns c =
    let a = c.args in
    λ ms. standing_open a.image.now a.v a.f (bytes c) c.requires c.first.result c.first.ensures ms
