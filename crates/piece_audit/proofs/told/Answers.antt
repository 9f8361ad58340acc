use mathlib.Core.Path.{refl}
use Rattle.piece_audit.proofs.told.Goals as goal

pub returns-then-r-ne0 : goal.returns-then-r-ne0
returns-then-r-ne0 c = (λ e. absurd (c.if-r-ne0.true e), λ e. refl)

pub returns : goal.returns
returns c = (λ e. refl, λ e. absurd (e c.if-r-ne0.false))
