use Rattle.std.specs.Prelude.{not}
use mathlib.Core.Path.{◌≡◌, refl, sym, ap, ◌∙◌}
use mathlib.Core.List.{List}
use Prim.Native.Nat.{ℕ}
use lib.ListN.{length}
use Rattle.facts.specs.FactLaws.{granted, refuted}
use Rattle.answers.specs.declared.Audited.{Audited}
use Rattle.audit_count.specs.Differences.{entries}
use Rattle.audit.specs.Audit.{told_by, auditing}
use Rattle.audit.specs.AuditLaws.{fits, none, accepted_pair}
use Rattle.piece_audit.proofs.audit_in.Given.{Over}
use Rattle.piece_audit.proofs.audit_in.Goals.{Else-not-lists}
use Rattle.piece_audit.proofs.audit_in.Goals as goal

-- past the test the audit is accepted
told : (g : Over) (c : Else-not-lists g) →
    let a = c.args in
    (auditing a.vendor.now a.shipped.now (g.U.Unit.places (length a.places.now))).number ≡ 0
told g c = rw (c.survey-a.ensures, c.room.ensures) at (granted c.lists.ensures (ap not c.if-not-lists.false)).0

pub returns-then-not-lists : goal.returns-then-not-lists
unfolding entries
returns-then-not-lists g c =
    let a = c.args in
    let w = g.U.Unit.writing in
    record {
      told = rw c.room.ensures at c.survey-a.ensures;
      listed = λ z.
          let e = none a.vendor.now a.shipped.now c.room.result (rw c.survey-a.ensures at z)
          (rw c.survey-a.ensures at (refuted c.lists.ensures (ap not c.if-not-lists.true))) in
          sym (ap (λ (ks : List ℕ). w.all a.places.now 0 (entries (told_by a.vendor.now) ks)) e ∙ w.none a.places.now 0);
      kept = λ h. refl;
    }

pub list-requires : goal.list-requires
list-requires g c =
    let a = c.args in
    let room = g.U.Unit.places (length a.places.now) in
    let ok = told g (goal.at.list-requires g c).Else-not-lists in
    record {
      paired = accepted_pair a.vendor.now a.shipped.now room c.read-r.result c.survey-a.result.base c.read-r.ensures
          (ap (λ (q : Audited). q.base) (rw c.room.ensures at c.survey-a.ensures)) ok;
      shipped_in_bounds = fits a.vendor.now a.shipped.now room ok;
    }

pub returns : goal.returns
returns g c =
    let ok = told g (goal.at.returns g c).Else-not-lists in
    record {
      told = rw c.room.ensures at c.survey-a.ensures;
      listed = λ z. c.list.ensures;
      kept = λ h. absurd (h (rw (c.survey-a.ensures, c.room.ensures) ok));
    }
