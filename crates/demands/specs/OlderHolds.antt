-- Request #109: what is said of edition 1 images holds.
-- Assumes nothing.
use Rattle.std.specs.Prelude.{ℕ, ◌+◌, List, ◌≡◌, length}
use Rattle.std.proofs.Common.{sym, ap, ◌∙◌, arith}
use Rattle.facts.specs.Fact.{◌≡?◌}
use Rattle.facts.specs.Rules.{answer, rule}
use Rattle.header.specs.Base.{legal_base}
use Rattle.answers.specs.declared.Reading.{Reading}
use Rattle.answers.specs.AfterLaws.{after_accepted}
use Rattle.reading_rules.specs.Reading.{reading, Older, reading2, Read2}
use Rattle.reading_rules.specs.Edition.{older_28}
use Rattle.reading_rules.specs.FrameBelow.{older_frame}
use Rattle.answers.specs.declared.Moved.{Moved}
use Rattle.move_answer.specs.MoveAnswer.{refused_move}
use Rattle.release.specs.Release.{releasing}
use Rattle.release.specs.ReleaseLaws.{release_kept, release_unread}
use Rattle.setting.specs.SettingLaws.{setting_unread, unread_place}
use Rattle.answers.specs.declared.Listed.{Listed}
use Rattle.contents.specs.Listing.{refused_list, contents}
use Rattle.contents.specs.ListingLaws.{list_unread}
use Rattle.contents.specs.Theorems.{contents_kept}
use Rattle.audit_count.specs.Differences.{differences}
use Rattle.audit.specs.Audit.{shipped_base, refused_audit, tally, auditing, differing}
use Rattle.audit.specs.AuditLaws.{older_reference, older_settings, older_strays, older_bits}
use Rattle.demands.specs.Older.{ReadOnly, Unjudged, Plain, plain_tally, plain_audit}

module _ (xs : List ℕ) (old : Older xs) where
  number : (reading2 xs).number ≡ 28
  number = ap (λ (r : Reading). r.number) (older_28 xs old)

  unread : Read2 xs → ⊥
  unread z = let k : ◌≡◌ {A = ℕ} 28 0 = sym number ∙ z in omega arith

  released : (s : List ℕ) (base : ℕ) (o : List ℕ) (owner : ℕ) → releasing xs s base o owner ≡ refused_move 28 0
  released s base o owner = rw (older_28 xs old) at (release_unread xs s base o owner unread)

  unaccepted : (s : List ℕ) (base : ℕ) (o : List ℕ) (owner : ℕ) → (releasing xs s base o owner).number ≡ 0 → ⊥
  unaccepted s base o owner z =
      let k : ◌≡◌ {A = ℕ} 28 0 = sym (ap (λ (m : Moved). m.number) (released s base o owner)) ∙ z in omega arith

  contained : (room : ℕ) → contents xs room ≡ refused_list 28 0
  contained room = rw (older_28 xs old) at (list_unread xs room unread)

  unlisted : (room : ℕ) → (contents xs room).number ≡ 0 → ⊥
  unlisted room z = let k : ◌≡◌ {A = ℕ} 28 0 = sym (ap (λ (a : Listed). a.number) (contained room)) ∙ z in omega arith

pub read_only : ReadOnly
read_only = (
  (λ xs s base o owner r ys old is.
      (is.0 ∙ released xs old s base o owner, is.1 ∙ release_kept xs s base o owner (unaccepted xs old s base o owner))),
  (λ xs offset size k old is. is ∙ (setting_unread xs offset size (unread xs old)).0 ∙ number xs old),
  (λ image offset size r old is.
      let xs = image.now in (
        is.0 ∙ (setting_unread xs offset size (unread xs old)).1,
        (is.1.0, is.1.1 ∙ rw (unread_place xs offset size (unread xs old))),
      )),
  (λ xs bytes a l old is.
      (is.0 ∙ contained xs old (length bytes), is.1 ∙ contents_kept xs bytes (unlisted xs old (length bytes)))),
)

pub unjudged : Unjudged
unjudged xs ys r s old long below is own =
    rw is (own ∙ older_frame xs ys old.0 old.1 (sym long) (rw is at below))

pub plain : Plain
unfolding auditing plain_audit plain_tally tally differing
plain xs ys room old =
    let n = length (differences xs ys 0 (length xs)) in
    let sum : 0 + n ≡ n = omega arith in
    after_accepted refused_audit (reading xs)
    (rule 19 (length ys ≡? length xs) (rule 18 (legal_base (length xs) (shipped_base xs ys)) (answer (tally xs ys room)))) old.0
    ∙ rw (
      older_reference xs ys old,
      older_settings xs ys old _,
      older_strays xs ys old _,
      older_bits xs ys old _ _ _,
      sum,
    )
