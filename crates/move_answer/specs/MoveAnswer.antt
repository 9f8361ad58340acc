-- Document 01, "Moving": the answer of a release.
-- Assumes nothing.
use Rattle.std.specs.Prelude.{ℕ, ◌≡◌, ℤ, pos, ◌-ℤ◌, nat_abs}
use Rattle.std.proofs.Common.{sym, ◌∙◌}
use Rattle.answers.specs.declared.Reading.{Reading}
use Rattle.answers.specs.declared.Moved.{Moved}

-- a refusal: its number and index, and no move
abbrev pub refused_move : ℕ → ℕ → Moved
refused_move number index = record { number = number; index = index; distance = pos 0 }

-- what an accepted move answers: how far it went, up or down
abbrev pub accepted_move : Reading → ℕ → Moved
accepted_move r base = record { number = 0; index = 0; distance = pos base -ℤ pos r.base }

-- the promise of `magnitude`: how far a move goes, whichever way
abbrev pub Magnitude : ℤ → ℕ → Type 0
Magnitude z r = r ≡ nat_abs z

-- any two answers that the promise of `magnitude` admits are the same
pub one_magnitude : (z : ℤ) (r s : ℕ) → Magnitude z r → Magnitude z s → r ≡ s
one_magnitude z r s a b = a ∙ sym b
