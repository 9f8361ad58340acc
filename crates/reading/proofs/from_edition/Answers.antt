use Prim.Native.Nat.{◌+◌, ◌-◌}
use mathlib.Core.Path.{◌≡◌, sym, ◌∙◌}
use Rattle.facts.specs.Rules.{run}
use Rattle.facts.specs.FactLaws.{holds, fails_not, is_test}
use Rattle.words.specs.Le.{le}
use Rattle.header.specs.Header.{older}
use Rattle.inside_walk.specs.Walkable.{Walkable}
use native.Mathlib.Omega.{arith}
use Rattle.reading_rules.specs.Guarantee.{later_by}
use Rattle.reading_rules.specs.Stages.{from_edition}
use Rattle.reading.proofs.from_edition.Goals as goal

pub from_older-requires : goal.from_older-requires
from_older-requires c =
    let a = c.args in
    (omega arith, holds (older a.image.now (a.f + 28)) (sym (is_test c.is_older.ensures) ∙ c.if-is_older.true))

pub returns-then-is_older : goal.returns-then-is_older
unfolding run from_edition
returns-then-is_older c = rw (sym (is_test c.is_older.ensures) ∙ c.if-is_older.true) c.from_older.ensures

pub from_component-requires : goal.from_component-requires
from_component-requires c =
    let a = c.args in
    let xs = a.image.now in
    let new = fails_not (older xs (a.f + 28)) (sym (is_test c.is_older.ensures) ∙ c.if-is_older.false) in
    let later = later_by xs (a.f + 28) c.requires.1.1.1 new in
    let back : a.f + 28 - 28 ≡ a.f = omega arith in
    let walk : Walkable xs (le 8 xs 32) (a.f + 28 - 28) = rw back c.requires.4 in
    (omega arith, omega arith, omega arith, omega arith, omega arith, omega arith, walk)

pub returns : goal.returns
unfolding run from_edition
returns c =
    rw (sym (is_test c.is_older.ensures) ∙ c.if-is_older.false, ← c.le32-L.ensures.is, ← c.round_4.ensures) c.from_component.ensures
