use mathlib.Core.Path.{◌≡◌}
use Prim.Native.Nat.{ℕ}
use native.Mathlib.Omega.{arith}
use Rattle.audit_window.proofs.ends_past.Goals as goal

pub returns : goal.returns
returns c = λ e. let z : ◌≡◌ {A = ℕ} 0 1 = cc in absurd (omega arith)
