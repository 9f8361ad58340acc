-- What "as released" means of a shipped file: it is the release, byte for byte. A release is made and the file audited against it: no
-- difference and the release's own base are found exactly where the file is what the release made.
-- Assumes nothing.
use Rattle.std.specs.Prelude.{ℕ, List, ◌≡◌}
use Rattle.words.specs.Le.{Bytes}
use Rattle.answers.specs.declared.Moved.{Moved}
use Rattle.release.specs.Release.{Releases}
use Rattle.answers.specs.declared.Audited.{Audited}
use Rattle.audit.specs.Audit.{Audits}

-- the audit finds nothing, and names this base
abbrev pub Clean : Audited → ℕ → Type 0
Clean a base = (a.settings ≡ 0) × (a.strays ≡ 0) × (a.base ≡ base)

-- of an accepted release and an accepted audit of a file against what it made
abbrev pub AsReleased : Type 0
AsReleased =
    (xs s : List ℕ) (base : ℕ) (o : List ℕ) (owner : ℕ) (r : Moved) (zs ys places : List ℕ) (a : Audited) (l : List ℕ) → Bytes xs → Bytes s
    → Releases xs s base o owner r zs → r.number ≡ 0 → Audits zs ys places a l → a.number ≡ 0
    → (Clean a base → ys ≡ zs) × (ys ≡ zs → Clean a base)
