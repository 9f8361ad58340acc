use mathlib.Core.Path.{◌≡◌, refl, sym, ap, ◌∙◌}
use lib.ListN.{length}
use Rattle.answers.specs.declared.Reading.{Reading}
use Rattle.reading_rules.specs.Reading.{Read2}
use Rattle.move_image.specs.Moving.{move_to}
use Rattle.mend_file.specs.PutBack.{restored}
use Rattle.mend.specs.Mend.{mending}
use Rattle.mend.specs.MendLaws.{Answered, mend_read, mend_unread, mend_refuses, file_kept, answered_long, answered_small, answered_mends, answered_file}
use Rattle.mend.proofs.mend_in.Goals as goal

pub returns-then-r-ne0 : goal.returns-then-r-ne0
returns-then-r-ne0 g c =
    let a = c.args in
    let room = g.U.Unit.places (length a.places.now) in
    let e = c.read_2-r.ensures in
    let bad = rw e at c.if-r-ne0.true in
    let no = mend_refuses a.vendor.now a.shipped.now room bad in
    let told : c.refused.result ≡ mending a.vendor.now a.shipped.now room =
    rw (mend_unread a.vendor.now a.shipped.now room bad, ← e) c.refused.ensures in
    record { told = told; listed = λ z. absurd (no (rw told at z)); kept = λ h. refl; mended = sym (file_kept a.vendor.now a.shipped.now room no) }

-- where the vendor image reads as edition 2 the audit's answer is the mending's
pub returns-then-a-ne0 : goal.returns-then-a-ne0
returns-then-a-ne0 g c =
    let a = c.args in
    let room = g.U.Unit.places (length a.places.now) in
    let read : Read2 a.vendor.now = rw c.read_2-r.ensures at c.if-r-ne0.false in
    let (answer, listed, kept) = c.audit_in-a.ensures in
    let e = answer ∙ sym (mend_read a.vendor.now a.shipped.now room read) in
    record { told = e; listed = listed; kept = kept; mended = sym (file_kept a.vendor.now a.shipped.now room (rw e at c.if-a-ne0.true)) }

pub put_back-requires : goal.put_back-requires
put_back-requires g c =
    let a = c.args in
    let b = c.audit_in-a.result in
    let room = g.U.Unit.places (length a.places.now) in
    let read : Read2 a.vendor.now = rw c.read_2-r.ensures at c.if-r-ne0.false in
    let h : Answered a.vendor.now a.shipped.now room b = (read, c.audit_in-a.ensures.0, c.if-a-ne0.false) in (
      c.read_2-r.ensures,
      read,
      answered_long a.vendor.now a.shipped.now room b h,
      answered_small a.vendor.now a.shipped.now room b h,
    )

pub returns : goal.returns
returns g c =
    let a = c.args in
    let xs = a.vendor.now in
    let ys = a.shipped.now in
    let b = c.audit_in-a.result in
    let room = g.U.Unit.places (length a.places.now) in
    let read : Read2 xs = rw c.read_2-r.ensures at c.if-r-ne0.false in
    let h : Answered xs ys room b = (read, c.audit_in-a.ensures.0, c.if-a-ne0.false) in
    record {
      told = answered_mends xs ys room b h;
      listed = c.audit_in-a.ensures.1;
      kept = c.audit_in-a.ensures.2;
      mended = c.put_back.ensures
          ∙ ap (λ (q : Reading). restored (move_to xs q b.base) q ys) c.read_2-r.ensures
          ∙ answered_file xs ys room b h;
    }
