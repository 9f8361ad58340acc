use Rattle.std.specs.Prelude.{not}
use Rattle.std.proofs.Common.{ap}
use mathlib.Core.Path.{sym}
use Rattle.facts.specs.FactLaws.{granted, refuted}
use Rattle.inside_judge.specs.Rules.{patch_items}
use Rattle.inside_rules.specs.ContentsLaws.{bounds, ready, number_25, number_26, number_27, number_0}
use Rattle.inside_rules.proofs.contents_number.Goals as goal

pub returns-then-not-j : goal.returns-then-not-j
returns-then-not-j c =
    let a = c.args in
    sym (number_25 a.image.now a.v a.f a.t a.n a.c a.z (refuted c.judge-j.ensures.whole c.if-not-j.true))

pub returns-then-not-j-2 : goal.returns-then-not-j-2
returns-then-not-j-2 c =
    let a = c.args in
    let j = c.judge-j.ensures in
    sym (number_26 a.image.now a.v a.f a.t a.n a.c a.z (granted j.whole c.if-not-j.false)
    (λ h. refuted j.placed c.if-not-j-2.true h.0))

pub are_apart-requires : goal.are_apart-requires
are_apart-requires c =
    let a = c.args in
    let xs = a.image.now in
    let j = c.judge-j.ensures in (
      ready xs a.v a.f a.t a.n a.c a.z c.judge-j.result.top c.min.result c.around-start.result
          c.max-top.result c.requires.0 c.requires.1 c.min.ensures c.around-start.ensures c.max-top.ensures
          (granted j.whole c.if-not-j.false) (granted j.placed c.if-not-j-2.false) j.top,
      λ ok. (j.front.apart ok (patch_items xs a.t a.n) (bounds xs a.t a.n c.around-start.result c.around-start.ensures)).0,
    )

pub returns-then-not-are_apart : goal.returns-then-not-are_apart
returns-then-not-are_apart c =
    let a = c.args in
    let j = c.judge-j.ensures in
    sym (number_26 a.image.now a.v a.f a.t a.n a.c a.z (granted j.whole c.if-not-j.false)
    (λ h. refuted c.are_apart.ensures (ap not c.if-not-are_apart.true) h.1))

pub returns-then-not-j-3 : goal.returns-then-not-j-3
returns-then-not-j-3 c =
    let a = c.args in
    let j = c.judge-j.ensures in
    sym (number_27 a.image.now a.v a.f a.t a.n a.c a.z (granted j.whole c.if-not-j.false)
    (granted j.placed c.if-not-j-2.false, granted c.are_apart.ensures (ap not c.if-not-are_apart.false))
    (refuted j.known c.if-not-j-3.true))

pub returns : goal.returns
returns c =
    let a = c.args in
    let j = c.judge-j.ensures in
    sym (number_0 a.image.now a.v a.f a.t a.n a.c a.z (granted j.whole c.if-not-j.false)
    (granted j.placed c.if-not-j-2.false, granted c.are_apart.ensures (ap not c.if-not-are_apart.false))
    (granted j.known c.if-not-j-3.false))
