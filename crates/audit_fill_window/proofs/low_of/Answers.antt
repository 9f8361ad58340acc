use mathlib.Core.Logic.{inl, inr}
use native.Mathlib.Omega.{arith}
use Rattle.audit_fill_window.proofs.low_of.Goals as goal

pub returns-then-is_done : goal.returns-then-is_done
returns-then-is_done c =
    let part = c.next_part-n.ensures in
    record { hand = inr (c.is_done.ensures c.if-is_done.true); section = part.0; file = part.1 }

pub returns : goal.returns
returns c =
    let part = c.next_part-n.ensures in
    record { hand = inl (omega arith); section = λ h. omega (arith, part.0 h); file = omega (arith, part.1) }
