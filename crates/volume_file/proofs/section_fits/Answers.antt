use Rattle.std.specs.Prelude.{not}
use Rattle.std.proofs.Common.{ap}
use native.Mathlib.Omega.{arith}
use Rattle.facts.specs.FactLaws.{granted, refuted}
use Rattle.volume_file.proofs.section_fits.Goals as goal

pub returns-then-not-section_held : goal.returns-then-not-section_held
returns-then-not-section_held c = record { says = λ h. refuted c.section_held.ensures (ap not c.if-not-section_held.true) h.1.0 }

pub has_room-requires : goal.has_room-requires
has_room-requires c = let held = granted c.section_held.ensures (ap not c.if-not-section_held.false) in omega (arith, held.1)

pub returns-then-not-has_room : goal.returns-then-not-has_room
returns-then-not-has_room c = record { says = λ h. refuted c.has_room.ensures (ap not c.if-not-has_room.true) h.1.1 }

pub returns : goal.returns
returns c = record { says = (omega arith, (granted c.section_held.ensures (ap not c.if-not-section_held.false), granted c.has_room.ensures (ap not c.if-not-has_room.false))) }
