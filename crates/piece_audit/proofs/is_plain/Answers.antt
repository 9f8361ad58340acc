use Prim.Native.Nat.{ℕ}
use mathlib.Core.Path.{◌≡◌}
use mathlib.Core.Logic.{inl, inr}
use native.Mathlib.Omega.{arith}
use borrow.Author.Tests.{eqb-true}
use Rattle.piece_audit.proofs.is_plain.Goals as goal

pub returns-then-r-eq0 : goal.returns-then-r-eq0
returns-then-r-eq0 c = (λ e. inl c.if-r-eq0.true, λ e. absurd (let z : ◌≡◌ {A = ℕ} 0 1 = cc in omega arith))

pub returns : goal.returns
returns c = (λ e. inr (eqb-true c.args.r.base c.args.base e), λ e h. c.if-r-eq0.false h)
