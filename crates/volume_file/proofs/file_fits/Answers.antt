use Rattle.std.specs.Prelude.{not}
use Rattle.std.proofs.Common.{ap}
use Rattle.facts.specs.FactLaws.{granted, refuted}
use native.Mathlib.Omega.{arith}
use Rattle.volume_file.proofs.file_fits.Goals as goal

pub returns-then-not-file_held : goal.returns-then-not-file_held
returns-then-not-file_held c = record { says = λ h. refuted c.file_held.ensures (ap not c.if-not-file_held.true) h.1 }

pub is_guid-requires : goal.is_guid-requires
is_guid-requires c = let held = granted c.file_held.ensures (ap not c.if-not-file_held.false) in omega (arith, held.0)

pub returns-then-not-is_guid : goal.returns-then-not-is_guid
returns-then-not-is_guid c = record { says = λ h. refuted c.is_guid.ensures (ap not c.if-not-is_guid.true) h.0 }

pub returns : goal.returns
returns c =
    record { says = (granted c.is_guid.ensures (ap not c.if-not-is_guid.false), granted c.file_held.ensures (ap not c.if-not-file_held.false)) }
