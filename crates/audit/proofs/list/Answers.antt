use mathlib.Core.Path.{ap, ◌∙◌}
use mathlib.Core.List.{List}
use Prim.Native.Nat.{ℕ}
use Rattle.audit.specs.AuditLaws.{pair_small, pair_long, pair_differing, pair_strays, pair_guaranteed, pair_walked, pair_entries}
use Rattle.audit.proofs.list.Goals as goal

pub list-requires : goal.list-requires
list-requires g c =
    let a = c.args in
    let pair = c.requires.paired in
    let room = c.requires.shipped_in_bounds in (
      pair.2,
      pair_long a.vendor.now a.shipped.now a.r a.base pair,
      rw (pair_differing a.vendor.now a.shipped.now a.r a.base pair c.if-r-eq0.true) room,
    )

pub returns-then-r-eq0 : goal.returns-then-r-eq0
returns-then-r-eq0 g c =
    let a = c.args in
    c.list.ensures ∙ ap (λ (l : List ℕ). g.U.Unit.writing.all a.places.now 0 l)
    (pair_strays a.vendor.now a.shipped.now a.r a.base c.requires.paired c.if-r-eq0.true)

pub shift_between-d-requires : goal.shift_between-d-requires
shift_between-d-requires g c =
    let a = c.args in
    pair_small a.vendor.now a.shipped.now a.r a.base c.requires.paired

pub fill_all-requires : goal.fill_all-requires
fill_all-requires g c =
    let a = c.args in
    let pair = c.requires.paired in
    let room = c.requires.shipped_in_bounds in
    let some = c.if-r-eq0.false in (
      pair_guaranteed a.vendor.now a.shipped.now a.r a.base pair some,
      pair.2,
      rw (pair_walked a.vendor.now a.shipped.now a.r a.base pair some c.shift_between-d.result.four
          c.shift_between-d.result.eight c.shift_between-d.ensures.0 c.shift_between-d.ensures.1) room,
    )

pub returns : goal.returns
returns g c =
    let a = c.args in
    c.fill_all.ensures ∙ ap (λ (l : List ℕ). g.U.Unit.writing.all a.places.now 0 l)
    (pair_entries a.vendor.now a.shipped.now a.r a.base c.requires.paired c.if-r-eq0.false
    c.shift_between-d.result.four c.shift_between-d.result.eight c.shift_between-d.ensures.0
    c.shift_between-d.ensures.1)
