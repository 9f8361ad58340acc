-- Request #104: what it says of every call holds.
-- Assumes nothing.
use Rattle.std.specs.Prelude.{ℕ, ◌+◌, ◌*◌, ◌/◌, List, ◌≡◌, length}
use Rattle.std.proofs.Common.{sym, ap, ◌∙◌, arith}
use Rattle.std.proofs.Math.Decide.{ℕ_discrete}
use Rattle.words.specs.Le.{le}
use Rattle.table.specs.EntryLaws.{spot_of}
use Rattle.table.specs.Passes.{place}
use Rattle.answers.specs.declared.Reading.{Reading}
use Rattle.reading_rules.specs.Reading.{refusal, entries_at, reading, Read, reading2, Read2}
use Rattle.reading_rules.specs.Edition.{older_28, refused_same, read2_of, guaranteed}
use Rattle.answers.specs.declared.Moved.{Moved}
use Rattle.move_answer.specs.MoveAnswer.{refused_move}
use Rattle.release.specs.Release.{releasing}
use Rattle.release.specs.ReleaseLaws.{release_kept, release_unread, release_shows}
use Rattle.setting.specs.SettingLaws.{setting_unread, setting_passed}
use Rattle.answers.specs.declared.Audited.{Audited}
use Rattle.audit.specs.Audit.{refused_audit, auditing}
use Rattle.audit.specs.AuditLaws.{audit_unread, audit_accepted, list_kept, bytes_kept}
use Rattle.answers.specs.declared.Listed.{Listed}
use Rattle.contents.specs.Listing.{refused_list, contents}
use Rattle.contents.specs.ListingLaws.{list_unread, list_accepted}
use Rattle.contents.specs.Theorems.{contents_kept}
use Rattle.demands.specs.Reserved.{AcceptsUnreserved, RefusesReserved, Unreserved}

-- ---- they hold

unreserved : (xs : List ℕ) → Read2 xs → Unreserved xs
unfolding place
unreserved xs ok i h =
    let r = reading2 xs in
    (spot_of (length xs) (le 4 xs (entries_at r + 4 * i))).reserved ((guaranteed xs ok).placed i h)

-- of either edition
unreserved_both : (xs : List ℕ) → Read xs → Unreserved xs
unreserved_both xs ok =
    elim (ℕ_discrete (reading xs).component 0) [
      | no some ↦ unreserved xs (read2_of xs (ok, omega (arith, some)))
      | yes none ↦ λ i h. let e = ap (λ (r : Reading). r.n) (older_28 xs (ok, none)) in absurd (omega arith)
    ]

pub accepts_unreserved : AcceptsUnreserved
accepts_unreserved = (
  (λ xs r is ok. unreserved_both xs (sym (ap (λ (q : Reading). q.number) is) ∙ ok)),
  (λ xs s base o owner r ys is ok.
      unreserved xs (release_shows xs s base o owner (sym (ap (λ (q : Moved). q.number) is.0) ∙ ok)).fits.read),
  (λ xs offset size k is ok. unreserved xs (setting_passed xs offset size (sym is ∙ ok)).0),
  (λ xs ys places a l is ok.
      unreserved_both xs (audit_accepted xs ys (length places) (sym (ap (λ (q : Audited). q.number) is.0) ∙ ok)).read),
  (λ xs ys bytes a l is ok.
      unreserved_both xs (audit_accepted xs ys (length bytes / 4) (sym (ap (λ (q : Audited). q.number) is.0) ∙ ok)).read),
  (λ xs bytes a l is ok. unreserved xs (list_accepted xs (length bytes) (sym (ap (λ (q : Listed). q.number) is.0) ∙ ok)).0),
)

pub refuses_reserved : RefusesReserved
refuses_reserved xs i e = (
  (λ s base o owner r ys is.
      let n = released s base o owner in (is.0 ∙ n, is.1 ∙ release_kept xs s base o owner (unaccepted s base o owner))),
  (λ offset size k is. is ∙ (setting_unread xs offset size unread2).0 ∙ ap (λ (r : Reading). r.number) e2),
  (λ ys places a l is. let n = of ys (length places) in (is.0 ∙ n, is.1 ∙ list_kept xs ys places (none ys (length places)))),
  (λ ys bytes a l is. let n = of ys (length bytes / 4) in (is.0 ∙ n, is.1 ∙ bytes_kept xs ys bytes (none ys (length bytes / 4)))),
  (λ bytes a l is. let n = contained (length bytes) in (is.0 ∙ n, is.1 ∙ contents_kept xs bytes (unlisted (length bytes)))),
)
  where
    unread : Read xs → ⊥
    unread z = let k : ◌≡◌ {A = ℕ} 22 0 = sym (ap (λ (r : Reading). r.number) e) ∙ z in omega arith

    e2 : reading2 xs ≡ refusal 22 i
    e2 = refused_same xs unread ∙ e

    unread2 : Read2 xs → ⊥
    unread2 z = let k : ◌≡◌ {A = ℕ} 22 0 = sym (ap (λ (r : Reading). r.number) e2) ∙ z in omega arith

    released : (s : List ℕ) (base : ℕ) (o : List ℕ) (owner : ℕ) → releasing xs s base o owner ≡ refused_move 22 i
    released s base o owner = rw e2 at (release_unread xs s base o owner unread2)

    unaccepted : (s : List ℕ) (base : ℕ) (o : List ℕ) (owner : ℕ) → (releasing xs s base o owner).number ≡ 0 → ⊥
    unaccepted s base o owner z =
        let k : ◌≡◌ {A = ℕ} 22 0 = sym (ap (λ (m : Moved). m.number) (released s base o owner)) ∙ z in omega arith

    of : (ys : List ℕ) (room : ℕ) → auditing xs ys room ≡ refused_audit 22 i
    of ys room = rw e at (audit_unread xs ys room unread)

    none : (ys : List ℕ) (room : ℕ) → (auditing xs ys room).number ≡ 0 → ⊥
    none ys room z = let k : ◌≡◌ {A = ℕ} 22 0 = sym (ap (λ (a : Audited). a.number) (of ys room)) ∙ z in omega arith

    contained : (room : ℕ) → contents xs room ≡ refused_list 22 i
    contained room = rw e2 at (list_unread xs room unread2)

    unlisted : (room : ℕ) → (contents xs room).number ≡ 0 → ⊥
    unlisted room z = let k : ◌≡◌ {A = ℕ} 22 0 = sym (ap (λ (a : Listed). a.number) (contained room)) ∙ z in omega arith
