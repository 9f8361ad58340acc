use Rattle.std.specs.Prelude.{not}
use Rattle.std.proofs.Common.{ap}
use Rattle.audit.specs.AuditLaws.{audit_unread, audit_unpaired, audit_illegal, audit_told}
use Rattle.audit.specs.Audit.{shipped_base}
use Rattle.reading_rules.specs.Guarantee.{shared}
use Rattle.facts.specs.FactLaws.{granted, refuted}
use lib.ListN.{length}
use Prim.Native.Nat.{◌+◌, ◌≤◌}
use mathlib.Core.Path.{◌≡◌, sym, ◌∙◌}
use native.Mathlib.Omega.{arith}
use Rattle.piece_audit.proofs.survey.Goals as goal

-- the header lies in both files
header-in : (c : goal.After-struct_known-2-1) →
    let a = c.args in
    a.r.H + 60 ≤ length a.shipped.now
header-in c =
    let g = shared c.args.vendor.now (rw c.requires at c.if-r-ne0.false) in
    rw c.requires (omega (arith, g.header_within, c.if-shipped-vendor.false))

-- the base that is judged is the shipped one
base : (c : goal.After-refused-then-not-legal) →
    let a = c.args in
    c.le32-base.result ≡ shipped_base a.vendor.now a.shipped.now
base c = rw c.requires at c.le32-base.ensures.is

base-at-2 : (c : goal.Else-not-legal) →
    let a = c.args in
    c.le32-base.result ≡ shipped_base a.vendor.now a.shipped.now
base-at-2 c = rw c.requires at c.le32-base.ensures.is

base-at-3 : (c : goal.After-tell) →
    let a = c.args in
    c.le32-base.result ≡ shipped_base a.vendor.now a.shipped.now
base-at-3 c = rw c.requires at c.le32-base.ensures.is

pub returns-then-r-ne0 : goal.returns-then-r-ne0
returns-then-r-ne0 c =
    let a = c.args in
    rw (audit_unread a.vendor.now a.shipped.now a.room (rw c.requires at c.if-r-ne0.true), ← c.requires)
    c.refused.ensures

pub returns-then-shipped-vendor : goal.returns-then-shipped-vendor
returns-then-shipped-vendor c =
    let a = c.args in
    c.refused-then-shipped-vendor.ensures ∙ sym (audit_unpaired a.vendor.now a.shipped.now a.room
    (rw c.requires at c.if-r-ne0.false) c.if-shipped-vendor.true)

pub overflow_add-r : goal.overflow_add-r
overflow_add-r c = omega (arith, header-in c)

pub le32-base-requires : goal.le32-base-requires
le32-base-requires c = omega (arith, header-in c)

pub returns-then-not-legal : goal.returns-then-not-legal
returns-then-not-legal c =
    let a = c.args in
    c.refused-then-not-legal.ensures ∙ sym (audit_illegal a.vendor.now a.shipped.now a.room
    (rw c.requires at c.if-r-ne0.false)
    c.if-shipped-vendor.false (rw
    (base c) at (refuted c.legal.ensures (ap not c.if-not-legal.true))))

pub tell-requires : goal.tell-requires
tell-requires c = (
  c.requires,
  rw c.requires at c.if-r-ne0.false,
  c.if-shipped-vendor.false,
  base-at-2 c,
  granted c.legal.ensures (ap not c.if-not-legal.false),
)

pub returns : goal.returns
returns c =
    let a = c.args in
    c.tell.ensures ∙ sym (audit_told a.vendor.now a.shipped.now a.room
    (rw c.requires at c.if-r-ne0.false)
    c.if-shipped-vendor.false (rw
    (base-at-3 c) at (granted c.legal.ensures (ap not c.if-not-legal.false))))
