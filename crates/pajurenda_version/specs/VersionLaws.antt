-- Any two outcomes that the promise admits are the same.
-- Assumes nothing.
use Rattle.std.specs.Prelude.{ℕ, ◌≡◌}
use Rattle.std.proofs.Common.{sym, ◌∙◌}
use Rattle.pajurenda_version.specs.Version.{VersionCall}

pub one_version_call : (r s : ℕ) → VersionCall r → VersionCall s → r ≡ s
one_version_call r s e f = e ∙ sym f
