use native.Mathlib.Omega.{arith}
use mathlib.Core.Logic.{inl, inr}
use Rattle.volume_file.proofs.has_room.Goals as goal

pub returns-then-le24-ge76 : goal.returns-then-le24-ge76
returns-then-le24-ge76 c = record { says = inl (omega arith) }

pub returns-then-byte-ne1 : goal.returns-then-byte-ne1
returns-then-byte-ne1 c = record { says = λ h. elim h [ inl long ↦ omega arith | inr one ↦ omega arith ] }

pub returns : goal.returns
returns c = record { says = inr (omega arith) }
