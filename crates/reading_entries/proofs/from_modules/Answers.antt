use Prim.Native.Nat.{◌-◌}
use mathlib.Core.Path.{◌≡◌}
use borrow.Author.Tests.{eq-eqb, ne_eqb}
use Rattle.inside_rules.specs.Contents.{contents_number}
use Rattle.words.specs.Le.{le}
use Rattle.reading_rules.specs.Stages.{by_number}
use Rattle.reading_entries.proofs.from_modules.Goals as goal

-- the number is that of the rules
number : (c : goal.After-refused)
    → let a = c.args in
    c.contents_number-k.result ≡ contents_number a.image.now (le 8 a.image.now 32) (a.H - 28) a.t a.n a.c a.z
number c = rw c.le64-v.ensures.is at c.contents_number-k.ensures

number-at-2 : (c : goal.After-accept)
    → let a = c.args in
    c.contents_number-k.result ≡ contents_number a.image.now (le 8 a.image.now 32) (a.H - 28) a.t a.n a.c a.z
number-at-2 c = rw c.le64-v.ensures.is at c.contents_number-k.ensures

pub contents_number-k-requires : goal.contents_number-k-requires
contents_number-k-requires c =
    (rw c.le64-v.ensures.is c.requires.3, c.requires.4, c.requires.1)

pub returns-then-k-ne0 : goal.returns-then-k-ne0
returns-then-k-ne0 c =
    let a = c.args in
    rw (by_number a.image.now a.H a.t a.n a.c a.z, ← number c, ne_eqb _ 0 c.if-k-ne0.true) c.refused.ensures

pub accept-requires : goal.accept-requires
accept-requires c =
    (c.requires.0, c.requires.4.within)

pub returns : goal.returns
returns c =
    let a = c.args in
    rw (by_number a.image.now a.H a.t a.n a.c a.z, ← number-at-2 c, eq-eqb _ 0 c.if-k-ne0.false) c.accept.ensures
