use Rattle.std.specs.Prelude.{not}
use Rattle.std.proofs.Common.{ap}
use Rattle.facts.specs.Rules.{run}
use native.Mathlib.Omega.{arith}
use Rattle.facts.specs.FactLaws.{yes, no, granted}
use Rattle.reading_rules.specs.Stages.{from_file}
use Rattle.reading.proofs.from_file.Goals as goal

pub returns-then-not-file_fits : goal.returns-then-not-file_fits
unfolding run from_file
returns-then-not-file_fits c = rw (no c.file_fits.ensures (ap not c.if-not-file_fits.true)) c.refused.ensures

pub le24-requires : goal.le24-requires
le24-requires c = let fits = granted c.file_fits.ensures (ap not c.if-not-file_fits.false) in omega arith

pub from_section-requires : goal.from_section-requires
from_section-requires c =
    let v = c.requires.0 in
    let fits = granted c.file_fits.ensures (ap not c.if-not-file_fits.false) in
    (c.le24.ensures.is, c.requires.3, rw v at c.requires.1, rw v at fits)

pub returns : goal.returns
unfolding run from_file
returns c =
    rw (yes c.file_fits.ensures (ap not c.if-not-file_fits.false), ← c.le24.ensures.is) c.from_section.ensures
