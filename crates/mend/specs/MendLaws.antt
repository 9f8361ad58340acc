-- The answer of a mending, the list and the file, case by case.
-- Assumes nothing.
use Rattle.std.specs.Prelude.{ℕ, ◌/◌, ◌^◌, ◌<◌, ◌≡◌, length}
use mathlib.Core.List.{List}
use Rattle.std.proofs.Math.Path.{sym, ap}
use Rattle.std.proofs.Common.{◌∙◌, arith}
use Rattle.std.proofs.Math.Decide.{ℕ_discrete}
use Rattle.std.proofs.lemmas.List.Edits.{sets}
use Rattle.facts.specs.FactLaws.{passes, fails}
use Rattle.words.specs.Put.{put_all}
use Rattle.answers.specs.declared.Audited.{Audited}
use Rattle.answers.specs.declared.Reading.{Reading}
use Rattle.answers.specs.AfterLaws.{changed_so, kept_so}
use Rattle.reading_rules.specs.Reading.{edition1, reading, reading2, Read2, Older}
use Rattle.reading_rules.specs.Guarantee.{shared}
use Rattle.reading_rules.specs.Edition.{older_28, refused_same, later_of, same_reading, read2_of}
use Rattle.move_image.specs.Moving.{move_to}
use Rattle.audit_count.specs.Differences.{entries}
use Rattle.audit.specs.Audit.{shipped_base, reference, told_by, differing, refused_audit, auditing, listed, listed_bytes}
use Rattle.audit.specs.AuditLaws.{later_told, later_reference, audit_unread, audit_accepted, names, list_kept, bytes_kept, listed_so}
use Rattle.mend_file.specs.PutBack.{restored}
use Rattle.mend.specs.Mend.{mended, mending, mended_file, mended_list, mended_bytes}

module _ (xs ys : List ℕ) (room : ℕ) where
  mend_older : Older xs → mending xs ys room ≡ refused_audit 28 0
  unfolding mending
  mend_older old = rw (passes (edition1 (reading xs)) old)

  mend_other : (Older xs → ⊥) → mending xs ys room ≡ auditing xs ys room
  unfolding mending
  mend_other new = rw (fails (edition1 (reading xs)) new)

  -- a vendor image that reads as edition 2: the audit's answer
  pub mend_read : Read2 xs → mending xs ys room ≡ auditing xs ys room
  mend_read ok = mend_other (λ old. omega (arith, (later_of xs ok).1, old.1))

  -- any other: the refusal of its reading
  pub mend_unread : (Read2 xs → ⊥) → mending xs ys room ≡ refused_audit (reading2 xs).number (reading2 xs).index
  mend_unread bad =
      elim (ℕ_discrete (reading xs).number 0) [
        | no n ↦ mend_other (λ old. n old.0) ∙ audit_unread xs ys room n
            ∙ ap (λ (r : Reading). refused_audit r.number r.index) (sym (refused_same xs n))
        | yes e ↦ elim (ℕ_discrete (reading xs).component 0) [
          | yes none ↦ mend_older (e, none) ∙ ap (λ (r : Reading). refused_audit r.number r.index) (sym (older_28 xs (e, none)))
          | no some ↦ absurd (bad (read2_of xs (e, omega (arith, some))))
        ]
      ]

  pub mend_refuses : (Read2 xs → ⊥) → (mending xs ys room).number ≡ 0 → ⊥
  mend_refuses bad e = bad (sym (ap (λ (a : Audited). a.number) (mend_unread bad)) ∙ e)

  -- an accepted one is of a vendor image that reads as edition 2
  pub accepted_read : (mending xs ys room).number ≡ 0 → Read2 xs
  accepted_read e = elim (ℕ_discrete (reading2 xs).number 0) [ yes ok ↦ ok | no bad ↦ absurd (mend_refuses bad e) ]

  pub accepted_audit : (mending xs ys room).number ≡ 0 → (auditing xs ys room).number ≡ 0
  accepted_audit e = ap (λ (a : Audited). a.number) (sym (mend_read (accepted_read e))) ∙ e

  -- a refused mending changes no byte of the file
  pub file_kept : ((mending xs ys room).number ≡ 0 → ⊥) → mended_file xs ys room ≡ ys
  unfolding mended_file
  file_kept h = kept_so (mending xs ys room).number (mended xs ys) ys h

  pub file_mended : (mending xs ys room).number ≡ 0 → mended_file xs ys room ≡ mended xs ys
  unfolding mended_file
  file_mended e = changed_so (mending xs ys room).number (mended xs ys) ys e

-- nor of the list
pub places_kept : (xs ys places : List ℕ) → ((mending xs ys (length places)).number ≡ 0 → ⊥) → mended_list xs ys places ≡ places
unfolding mended_list
places_kept xs ys places h = kept_so (mending xs ys (length places)).number (listed xs ys places) places h

pub places_bytes_kept : (xs ys bytes : List ℕ) → ((mending xs ys (length bytes / 4)).number ≡ 0 → ⊥) → mended_bytes xs ys bytes ≡ bytes
unfolding mended_bytes
places_bytes_kept xs ys bytes h = kept_so (mending xs ys (length bytes / 4)).number (listed_bytes xs ys bytes) bytes h

-- where the vendor image reads as edition 2 the list is the audit's, refused or not
pub places_listed : (xs ys places : List ℕ) → Read2 xs → mended_list xs ys places ≡ listed xs ys places
unfolding mended_list
places_listed xs ys places ok =
    elim (ℕ_discrete (mending xs ys (length places)).number 0) [
      | yes e ↦ changed_so (mending xs ys (length places)).number (listed xs ys places) places e
      | no n ↦ places_kept xs ys places n
          ∙ sym (list_kept xs ys places (λ e. n (ap (λ (a : Audited). a.number) (mend_read xs ys (length places) ok) ∙ e)))
    ]

pub bytes_listed : (xs ys bytes : List ℕ) → Read2 xs → mended_bytes xs ys bytes ≡ listed_bytes xs ys bytes
unfolding mended_bytes
bytes_listed xs ys bytes ok =
    elim (ℕ_discrete (mending xs ys (length bytes / 4)).number 0) [
      | yes e ↦ changed_so (mending xs ys (length bytes / 4)).number (listed_bytes xs ys bytes) bytes e
      | no n ↦ places_bytes_kept xs ys bytes n
          ∙ sym (bytes_kept xs ys bytes (λ e. n (ap (λ (a : Audited). a.number) (mend_read xs ys (length bytes / 4) ok) ∙ e)))
    ]

-- the list afterwards, by whether the mending is refused
pub words_so : (xs ys places new : List ℕ)
    → ((mending xs ys (length places)).number ≡ 0 → new ≡ sets places 0 (entries (told_by xs) (differing xs ys)))
    → (((mending xs ys (length places)).number ≡ 0 → ⊥) → new ≡ places) → new ≡ mended_list xs ys places
unfolding listed mended_list
words_so xs ys places new f g =
    let room = length places in
    listed_so (mending xs ys room).number (listed xs ys places) places new
    (λ z. f z
    ∙ sym (changed_so (auditing xs ys room).number (sets places 0 (entries (told_by xs) (differing xs ys))) places (accepted_audit xs ys room z))) g

pub bytes_so : (xs ys bytes new : List ℕ)
    → ((mending xs ys (length bytes / 4)).number ≡ 0 → new ≡ put_all 4 bytes 0 (entries (told_by xs) (differing xs ys)))
    → (((mending xs ys (length bytes / 4)).number ≡ 0 → ⊥) → new ≡ bytes) → new ≡ mended_bytes xs ys bytes
unfolding listed_bytes mended_bytes
bytes_so xs ys bytes new f g =
    let room = length bytes / 4 in
    listed_so (mending xs ys room).number (listed_bytes xs ys bytes) bytes new
    (λ z. f z
    ∙ sym (changed_so (auditing xs ys room).number (put_all 4 bytes 0 (entries (told_by xs) (differing xs ys))) bytes (accepted_audit xs ys room z))) g

-- ---- what the audit's answer gives to what puts back

-- a, the audit's answer for a vendor image that reads as edition 2
abbrev pub Answered : List ℕ → List ℕ → ℕ → Audited → Type 0
Answered xs ys room a = Read2 xs × (a ≡ auditing xs ys room) × (a.number ≡ 0)

module _ (xs ys : List ℕ) (room : ℕ) (a : Audited) (h : Answered xs ys room a) where
  passed : (auditing xs ys room).number ≡ 0
  passed = ap (λ (b : Audited). b.number) (sym h.1) ∙ h.2

  base_is : a.base ≡ shipped_base xs ys
  base_is = ap (λ (b : Audited). b.base) h.1 ∙ names xs ys room passed

  pub answered_long : length ys ≡ length xs
  answered_long = (audit_accepted xs ys room passed).paired

  pub answered_small : a.base < 2 ^ 32
  answered_small =
      let ok = audit_accepted xs ys room passed in
      omega (arith, base_is, ok.legal, (shared xs ok.read).length_least)

  -- the answer and the file afterwards
  pub answered_mends : a ≡ mending xs ys room
  answered_mends = h.1 ∙ sym (mend_read xs ys room h.0)

  pub answered_file : restored (move_to xs (reading2 xs) a.base) (reading2 xs) ys ≡ mended_file xs ys room
  unfolding mended
  answered_file =
      let same = same_reading xs h.0 in
      let later = later_of xs h.0 in
      ap (λ (q : Reading). restored (move_to xs q a.base) q ys) same
      ∙ ap (λ (b : ℕ). restored (move_to xs (reading xs) b) (reading xs) ys) base_is
      ∙ ap (λ (l : List ℕ). restored l (reading xs) ys) (sym (later_reference xs ys later))
      ∙ ap (λ (q : Reading). restored (reference xs ys) q ys) (sym (later_told xs ys later))
      ∙ sym (file_mended xs ys room (ap (λ (b : Audited). b.number) (sym answered_mends) ∙ h.2))
