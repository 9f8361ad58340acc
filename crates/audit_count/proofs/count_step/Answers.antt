use Rattle.audit_count.specs.CountingLaws.{step_hit, step_on}
use Rattle.audit_tables.specs.AheadLaws.{known_first}
use Prim.Native.Nat.{◌+◌, ◌<◌}
use native.Mathlib.Omega.{arith}
use lib.ListN.{length}
use Rattle.audit_tables.specs.Ahead.{Foremost}
use Rattle.audit_step.specs.Stride.{Coming}
use Rattle.audit_count.proofs.count_step.Goals.{After-current_words-ahead}
use Rattle.audit_count.proofs.count_step.Goals as goal

-- the next words of both kinds are at hand
ready : (c : After-current_words-ahead) →
    let a = c.args in
    let q = c.current_words-ahead.result in
    Foremost a.vendor.now a.r a.t.at q.first
    × (q.first < length a.vendor.now → a.t.at < q.first + 4)
    × Coming a.vendor.now a.r a.t.at a.p a.m
ready c =
    let a = c.args in
    let q = c.current_words-ahead in
    (known_first a.vendor.now a.r a.t.at q.result q.ensures.known, q.ensures.at_bound, c.requires.4)

pub current_words-ahead-requires : goal.current_words-ahead-requires
current_words-ahead-requires c = (c.requires.0, c.requires.3.known)

pub pass-k-requires : goal.pass-k-requires
pass-k-requires c =
    record { guaranteed = (c.requires.0, c.requires.2, c.requires.1); foremost = ready c }

pub returns-then-t-k : goal.returns-then-t-k
returns-then-t-k c =
    let a = c.args in
    let q = c.current_words-ahead in
    let both = step_on a.vendor.now a.shipped.now a.r a.d.four a.d.eight c.requires.0 c.requires.1 a.t
    c.pass-k.result c.pass-k.ensures c.requires.3 q.result q.ensures.known c.if-t-k.true in
    record { counted = rw c.went.ensures both.0; standing = rw c.went.ensures both.1 }

pub advance-requires : goal.advance-requires
advance-requires c =
    record {
      guaranteed = (c.requires.0, c.requires.2, c.requires.1);
      foremost = ready (goal.at.advance-requires c).After-current_words-ahead;
    }

pub counted-requires : goal.counted-requires
counted-requires c =
    let (alike, less, differs) = c.in-Differs.ensures in (
      c.requires.0,
      omega (arith, less, c.requires.1),
      c.requires.1,
      omega (arith, c.requires.3.few, alike.onward),
      omega (arith, c.requires.3.few_bits, alike.onward),
    )

pub returns-in-Differs : goal.returns-in-Differs
returns-in-Differs c =
    let a = c.args in
    let q = c.current_words-ahead in
    let (alike, less, differs) = c.in-Differs.ensures in
    let both = step_hit a.vendor.now a.shipped.now a.r a.d.four a.d.eight c.requires.0 c.requires.1 a.t
    c.in-Differs.k alike c.requires.3 q.result q.ensures.known less differs in
    record { counted = rw c.counted.ensures both.0; standing = rw c.counted.ensures both.1 }

pub returns-in-Passes : goal.returns-in-Passes
returns-in-Passes c =
    let a = c.args in
    let q = c.current_words-ahead in
    let (alike, more) = c.in-Passes.ensures in
    let both = step_on a.vendor.now a.shipped.now a.r a.d.four a.d.eight c.requires.0 c.requires.1 a.t
    c.in-Passes.k alike c.requires.3 q.result q.ensures.known more in
    record { counted = rw c.went-in-Passes.ensures both.0; standing = rw c.went-in-Passes.ensures both.1 }
