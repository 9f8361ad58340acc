use Rattle.audit_fill_window.specs.NearLaws.{low_less}
use mathlib.Core.Logic.{inl, inr}
use native.Mathlib.Decide.{dec_lt}
use native.Mathlib.Omega.{arith}
use Rattle.audit_fill_window.proofs.start_of.Goals as goal

pub returns : goal.returns
returns c =
    let a = c.args in
    let n = c.low_of.result in
    elim (dec_lt a.from n) [
      | yes h ↦ (omega arith, omega arith, inr (low_less a.s n c.clamp.result (omega arith) c.low_of.ensures))
      | no h ↦ (omega arith, omega arith, inl (omega arith))
    ]
