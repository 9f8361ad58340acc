use Rattle.audit_list.specs.Filling.{place, fill_hit, fill_on}
use Rattle.audit_tables.specs.AheadLaws.{known_first, known_on}
use Rattle.audit_count.specs.DifferenceLaws.{rest}
use Rattle.audit_tables.specs.Ahead.{Foremost}
use Rattle.audit_step.specs.Stride.{Coming, by}
use lib.ListN.{length}
use Prim.Native.Nat.{◌+◌, ◌≤◌, ◌<◌}
use mathlib.Core.Bool.{false}
use mathlib.Core.List.{◌∷◌}
use mathlib.Core.Path.{refl}
use native.Mathlib.Omega.{arith}
use Rattle.audit_list.proofs.fill_step.Given.{Over}
use Rattle.audit_list.proofs.fill_step.Goals.{After-current_words-ahead, In-Differs}
use Rattle.audit_list.proofs.fill_step.Goals as goal

-- the next words of both kinds are at hand
ready : (g : Over) (c : After-current_words-ahead g) →
    let a = c.args in
    let q = c.current_words-ahead.result in
    Foremost a.vendor.now a.r a.f.at q.first
    × (q.first < length a.vendor.now → a.f.at < q.first + 4)
    × Coming a.vendor.now a.r a.f.at a.p a.m
ready g c =
    let a = c.args in
    let q = c.current_words-ahead in
    (known_first a.vendor.now a.r a.f.at q.result q.ensures.known, q.ensures.at_bound, c.requires.4)

pub current_words-ahead-requires : goal.current_words-ahead-requires
current_words-ahead-requires g c = (c.requires.0, c.requires.3)

pub pass-k-requires : goal.pass-k-requires
pass-k-requires g c =
    record { guaranteed = (c.requires.0, c.requires.2, c.requires.1); foremost = ready g c }

pub returns-then-f-k : goal.returns-then-f-k
returns-then-f-k g c =
    let a = c.args in
    let q = c.current_words-ahead in
    let k = c.pass-k.result in
    record {
      filled = rw c.went.ensures (fill_on g.U.Unit.writing (by a.vendor.now a.r a.d.four a.d.eight) a.shipped.now a.r a.places.now a.f
          k c.pass-k.ensures q.result);
      known = rw c.went.ensures (known_on a.vendor.now a.r a.f.at q.result q.ensures.known k c.pass-k.ensures.onward, c.if-f-k.true);
    }

pub advance-requires : goal.advance-requires
advance-requires g c =
    record {
      guaranteed = (c.requires.0, c.requires.2, c.requires.1);
      foremost = ready g (goal.at.advance-requires g c).After-current_words-ahead;
    }

pub entry_of-requires : goal.entry_of-requires
entry_of-requires g c =
    let good = c.requires.0 in
    let (alike, less, differs) = c.in-Differs.ensures in
    omega (arith, good.region_within, good.length_most, less, c.requires.1)

-- a difference has a place in the list
room : (g : Over) (c : In-Differs g) → c.args.f.count + 1 ≤ g.U.Unit.places (length c.args.places.now)
room g c =
    let a = c.args in
    let (alike, less, differs) = c.in-Differs.ensures in
    place g.U.Unit.writing (by a.vendor.now a.r a.d.four a.d.eight) a.shipped.now a.r a.places.now a.f c.in-Differs.k alike
    c.current_words-ahead.result less differs (g.U.Unit.places (length a.places.now)) c.requires.5

pub put-requires : goal.put-requires
put-requires g c = omega (arith, room g (goal.at.put-requires g c).In-Differs)

pub overflow_add-result-in-Differs : goal.overflow_add-result-in-Differs
overflow_add-result-in-Differs g c =
    record {
      fits = omega (
        arith,
        room g (goal.at.overflow_add-result-in-Differs g c).In-Differs,
        g.met.U.Unit.few (length c.args.places.now),
      );
    }

pub returns-in-Differs : goal.returns-in-Differs
returns-in-Differs g c =
    let a = c.args in
    let q = c.current_words-ahead in
    let k = c.in-Differs.k in
    let (alike, less, differs) = c.in-Differs.ensures in
    record {
      filled = rw (c.put.ensures, c.entry_of.ensures)
          (fill_hit g.U.Unit.writing (by a.vendor.now a.r a.d.four a.d.eight) a.shipped.now a.r a.places.now a.f k alike q.result less differs);
      known = (known_on a.vendor.now a.r a.f.at q.result q.ensures.known (k + 1) (omega (arith, alike.onward)), omega (arith, alike.onward));
    }

pub returns-in-Passes : goal.returns-in-Passes
returns-in-Passes g c =
    let a = c.args in
    let q = c.current_words-ahead in
    let k = c.in-Passes.k in
    let (alike, more) = c.in-Passes.ensures in
    record {
      filled = rw c.went-in-Passes.ensures (fill_on g.U.Unit.writing (by a.vendor.now a.r a.d.four a.d.eight) a.shipped.now a.r a.places.now a.f
          k alike q.result);
      known = rw c.went-in-Passes.ensures (known_on a.vendor.now a.r a.f.at q.result q.ensures.known k alike.onward, more);
    }
