-- The audit of a mended file.
-- Assumes nothing.
use Rattle.std.specs.Prelude.{ℕ, ◌+◌, ◌≤◌, true, cond, ◌≡◌, length, get_or, List, refl}
use Rattle.std.proofs.Common.{inl, ◌∙◌, arith, sym, ap}
use Rattle.std.proofs.Math.Seq.{sets}
use Rattle.facts.specs.Fact.{Fact, Holds, ◌≤?◌, ◌≡?◌, ◌and◌, test}
use Rattle.facts.specs.FactLaws.{passes, holds}
use Rattle.words.specs.Le.{le, Bytes}
use Rattle.words.specs.LeLaws.{le_cong}
use Rattle.header.specs.Base.{legal_base}
use Rattle.answers.specs.declared.Audited.{Audited}
use Rattle.answers.specs.declared.Reading.{Reading}
use Rattle.answers.specs.AfterLaws.{changed_so}
use Rattle.reading_rules.specs.Reading.{reading, reading2, Read2}
use Rattle.reading_rules.specs.Guarantee.{Later}
use Rattle.reading_rules.specs.Edition.{guaranteed, later_of, same_reading}
use Rattle.reading_rules.specs.Settings.{OutsideSettings}
use Rattle.move_image.specs.Moving.{move_to, moved_image}
use Rattle.release_steps.specs.MoveStep.{length_after, moved_reads}
use Rattle.audit_count.specs.Differences.{differences, setting, settings, strays, bits, entries}
use Rattle.audit.specs.Audit.{shipped_base, reference, told_by, differing, tally, auditing, listed}
use Rattle.audit.specs.AuditLaws.{Accepted, later_told, later_reference, audit_accepted, audit_told}
use Rattle.mend_file.specs.PutBack.{put_back, restored}
use Rattle.mend_file.specs.PutBackLaws.{length_restored, restored_setting, restored_other}
use Rattle.mend.specs.Mend.{mended, mending}
use Rattle.mend.specs.MendLaws.{mend_read, accepted_read, accepted_audit}
use Rattle.mend_laws.specs.Cleared.{settings_only, cleared}
use Rattle.mend_laws.specs.Only.{only_settings, only_strays, only_bits, only_entries, left_over, back_none}

module _ (xs ys : List ℕ) (room : ℕ) (bx : Bytes xs) (ok : (mending xs ys room).number ≡ 0) where
  -- the mended file, its positions written out
  in_full : (zs : List ℕ) → mended xs zs ≡ put_back (reference xs zs) (told_by xs) zs (differences (reference xs zs) zs 0 (length zs))
  unfolding mended restored
  in_full zs = refl

  read : Read2 xs
  read = accepted_read xs ys room ok

  pub passed : Accepted xs ys room
  passed = audit_accepted xs ys room (accepted_audit xs ys room ok)

  later : Later xs
  later = later_of xs read

  abbrev base : ℕ
  base = shipped_base xs ys

  abbrev ms : List ℕ
  ms = mended xs ys

  pub told_two : told_by xs ≡ reading2 xs
  told_two = later_told xs ys later ∙ sym (same_reading xs read)

  pub reference_two : reference xs ys ≡ moved_image xs base
  unfolding moved_image
  reference_two = later_reference xs ys later ∙ ap (λ (q : Reading). move_to xs q base) (sym (same_reading xs read))

  reference_long : length (reference xs ys) ≡ length ys
  reference_long = ap length reference_two ∙ length_after xs bx read base passed.legal ∙ sym passed.paired

  pub mended_long : length ms ≡ length xs
  unfolding mended
  mended_long = length_restored (reference xs ys) (told_by xs) ys ∙ passed.paired

  -- its settings part is the shipped file's, and all else the reference's
  pub mended_setting : (k : ℕ) → Holds (setting (told_by xs) k) → get_or ms k 0 ≡ get_or ys k 0
  unfolding mended
  mended_setting k s = restored_setting (reference xs ys) (told_by xs) ys k s

  pub mended_other : (k : ℕ) → OutsideSettings (told_by xs) k → get_or ms k 0 ≡ get_or (reference xs ys) k 0
  unfolding mended
  mended_other k out = restored_other (reference xs ys) (told_by xs) ys reference_long k out

  -- so it has the same base
  new_base : le 4 (moved_image xs base) ((reading2 xs).H + 28) ≡ base
  new_base =
      let reads = moved_reads xs bx read base passed.legal in
      let fine : Read2 (moved_image xs base) = ap (λ (r : Reading). r.number) reads ∙ read in
      sym (rw reads at (guaranteed (moved_image xs base) fine).base_is)

  pub base_same : shipped_base xs ms ≡ shipped_base xs ys
  base_same =
      let at = (reading2 xs).H + 28 in
      ap (λ (q : Reading). le 4 ms (q.H + 28)) (sym (same_reading xs read))
      ∙ le_cong 4 ms (moved_image xs base) at
      (record {
        same = λ j h. mended_other (at + j) (rw told_two (inl (omega (arith, guaranteed xs read))))
            ∙ ap (λ (l : List ℕ). get_or l (at + j) 0) reference_two;
      })
      ∙ new_base

  reference_same : reference xs ms ≡ reference xs ys
  reference_same =
      later_reference xs ms later ∙ ap (λ (b : ℕ). move_to xs (reading xs) b) base_same ∙ sym (later_reference xs ys later)

  -- the settings that differed are what differs
  pub differing_left : differing xs ms ≡ settings_only (told_by xs) (differing xs ys)
  unfolding differing
  differing_left =
      ap (λ (ref : List ℕ). differences ref ms 0 (length xs)) reference_same
      ∙ left_over (reference xs ys) ys ms (told_by xs) mended_setting mended_other 0 (length xs)

  none_left : strays (told_by xs) (differing xs ms) ≡ 0
  none_left = ap (λ (ks : List ℕ). strays (told_by xs) ks) differing_left ∙ only_strays (told_by xs) (differing xs ys)

  all_left : differences (reference xs ms) ms 0 (length ms) ≡ differing xs ms
  unfolding differing
  all_left = ap (λ (n : ℕ). differences (reference xs ms) ms 0 n) mended_long

  -- so nothing is put back a second time
  pub mended_again : mended xs ms ≡ ms
  mended_again =
      in_full ms
      ∙ back_none (told_by xs) (reference xs ms) ms (differences (reference xs ms) ms 0 (length ms))
      (ap (λ (ks : List ℕ). strays (told_by xs) ks) all_left ∙ none_left)

  all_before : differences (reference xs ys) ys 0 (length ys) ≡ differing xs ys
  unfolding differing
  all_before = ap (λ (n : ℕ). differences (reference xs ys) ys 0 n) passed.paired

  -- an explained file has no strays
  abbrev clean : Fact
  clean = settings (told_by xs) (differing xs ys) + strays (told_by xs) (differing xs ys) ≤? room and strays (told_by xs) (differing xs ys) ≡? 0

  says : (mending xs ys room).explained ≡ test clean
  unfolding tally
  says = ap (λ (a : Audited). a.explained) (mend_read xs ys room read ∙ passed.told)

  pub explained_same : (mending xs ys room).explained ≡ true → ms ≡ ys
  explained_same e =
      in_full ys
      ∙ back_none (told_by xs) (reference xs ys) ys (differences (reference xs ys) ys 0 (length ys))
      (ap (λ (ks : List ℕ). strays (told_by xs) ks) all_before ∙ (holds clean (sym says ∙ e)).1)

  -- ---- the answer of the audit afterwards

  told : mending xs ys room ≡ tally xs ys room
  told = mend_read xs ys room read ∙ passed.told

  pub base_told : shipped_base xs ys ≡ (mending xs ys room).base
  unfolding tally
  base_told = sym (ap (λ (a : Audited). a.base) told)

  module _ (n : ℕ) (fits : (mending xs ys room).settings ≤ n) where
    abbrev m : Audited
    m = mending xs ys room

    abbrev r : Reading
    r = told_by xs

    abbrev ks : List ℕ
    ks = settings_only r (differing xs ys)

    -- what an audit with n places tells, of these numbers
    abbrev telling : ℕ → ℕ → ℕ → ℕ → Audited
    telling at s t b =
        record {
          number = cond (test (s + t ≤? n)) 0 20;
          index = 0;
          base = at;
          settings = s;
          strays = t;
          bits = b;
          explained = test (s + t ≤? n and t ≡? 0);
        }

    settings_told : settings r (differing xs ys) ≡ m.settings
    unfolding tally
    settings_told = sym (ap (λ (a : Audited). a.settings) told)

    bits_told : bits (reference xs ys) ys r (differing xs ys) ≡ m.bits
    unfolding tally
    bits_told = sym (ap (λ (a : Audited). a.bits) told)

    legal_left : Holds (legal_base (length xs) (shipped_base xs ms))
    legal_left = rw base_same passed.legal

    telling_left : tally xs ms n
        ≡ telling (shipped_base xs ms) (settings r (differing xs ms)) (strays r (differing xs ms))
        (bits (reference xs ms) ms r (differing xs ms))
    unfolding tally
    telling_left = refl

    telling_cleared : telling m.base m.settings 0 m.bits ≡ cleared m
    telling_cleared =
        let room_left : Holds (m.settings + 0 ≤? n) = omega arith in
        rw (passes (m.settings + 0 ≤? n) room_left, passes (m.settings + 0 ≤? n and 0 ≡? 0) (room_left, refl))

    pub audit_left : auditing xs ms n ≡ cleared (mending xs ys room)
    audit_left =
        audit_told xs ms n passed.read mended_long legal_left ∙ telling_left
        ∙ ap (λ (l : List ℕ). telling (shipped_base xs ms) (settings r l) (strays r l) (bits (reference xs ms) ms r l)) differing_left
        ∙ ap (λ (at : ℕ). telling at (settings r ks) (strays r ks) (bits (reference xs ms) ms r ks)) (base_same ∙ base_told)
        ∙ ap (λ (s : ℕ). telling m.base s (strays r ks) (bits (reference xs ms) ms r ks)) (only_settings r (differing xs ys) ∙ settings_told)
        ∙ ap (λ (t : ℕ). telling m.base m.settings t (bits (reference xs ms) ms r ks)) (only_strays r (differing xs ys))
        ∙ ap (λ (ref : List ℕ). telling m.base m.settings 0 (bits ref ms r ks)) reference_same
        ∙ ap (λ (b : ℕ). telling m.base m.settings 0 b)
        (only_bits (reference xs ys) ys ms r mended_setting mended_other (differing xs ys) ∙ bits_told)
        ∙ telling_cleared

  -- and its list
  pub list_left : (places : List ℕ) → (mending xs ys room).settings ≤ length places
      → listed xs ms places ≡ sets places 0 (settings_only (told_by xs) (differing xs ys))
  unfolding listed
  list_left places fits =
      changed_so (auditing xs ms (length places)).number (sets places 0 (entries (told_by xs) (differing xs ms))) places
      (ap (λ (a : Audited). a.number) (audit_left (length places) fits))
      ∙ ap (λ (l : List ℕ). sets places 0 (entries (told_by xs) l)) differing_left
      ∙ ap (λ (l : List ℕ). sets places 0 l) (only_entries (told_by xs) (differing xs ys))
