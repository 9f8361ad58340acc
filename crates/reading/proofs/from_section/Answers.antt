use Rattle.std.specs.Prelude.{not}
use Rattle.std.proofs.Common.{ap}
use Rattle.facts.specs.Rules.{run}
use Rattle.words.specs.Le.{le}
use Rattle.reading_rules.specs.Guarantee.{file_walkable}
use native.Mathlib.Omega.{arith}
use Rattle.facts.specs.FactLaws.{yes, no, granted}
use Rattle.reading_rules.specs.Stages.{from_section}
use Rattle.reading.proofs.from_section.Goals as goal

pub returns-then-not-section_fits : goal.returns-then-not-section_fits
unfolding run from_section
returns-then-not-section_fits c = rw (no c.section_fits.ensures (ap not c.if-not-section_fits.true)) c.refused.ensures

pub from_header-requires : goal.from_header-requires
from_header-requires c =
    let a = c.args in
    let xs = a.image.now in
    let fits = granted c.section_fits.ensures (ap not c.if-not-section_fits.false) in
    let file = c.requires.3 in
    let walk = file_walkable xs (le 8 xs 32) a.f c.requires.2 c.requires.1 file (rw c.requires.0 at fits) in
    (omega arith, omega (arith, file), omega arith, walk)

pub returns : goal.returns
unfolding run from_section
returns c =
    rw (yes c.section_fits.ensures (ap not c.if-not-section_fits.false), ← c.le24.ensures.is) c.from_header.ensures
