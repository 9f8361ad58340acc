-- A file that is as released is so byte for byte; and that speaks of something.
-- Assumes nothing.
use Rattle.std.specs.Prelude.{ℕ, List, ◌≡◌, refl, length}
use Rattle.std.proofs.Common.{sym, ap, ◌∙◌, arith}
use Rattle.words.specs.Le.{Bytes}
use Rattle.answers.specs.declared.Reading.{Reading}
use Rattle.reading_rules.specs.Reading.{reading2, Read2}
use Rattle.reading_rules.specs.Edition.{guaranteed}
use Rattle.reading_rules.specs.Small.{small, setting_bytes}
use Rattle.answers.specs.declared.Moved.{Moved}
use Rattle.move_image.specs.Moving.{moved_image}
use Rattle.sheet_bodies.specs.Small.{sample}
use Rattle.release_steps.specs.MoveStep.{moved_nowhere}
use Rattle.release.specs.Release.{releasing, released_image}
use Rattle.release.specs.ReleaseLaws.{release_shows}
use Rattle.release_laws.specs.Theorems.{released_reads, bytes_released}
use Rattle.release_laws.specs.Small.{two}
use Rattle.audit_count.specs.Differences.{settings, strays}
use Rattle.audit_count.specs.DifferenceLaws.{counts}
use Rattle.answers.specs.declared.Audited.{Audited}
use Rattle.audit.specs.Audit.{shipped_base, reference, told_by, differing, auditing}
use Rattle.audit.specs.AuditLaws.{Accepted, audit_accepted}
use Rattle.demands.specs.Editions.{read_too, shipped_two, reference_two}
use Rattle.demands.specs.Nowhere.{nowhere_same, same_nowhere}
use Rattle.demands.specs.Explained.{told_always, told_number}
use Rattle.demands.specs.Met.{maker_bytes, maker_reads, maker_goes, sample_bytes}
use Rattle.demands.specs.AsReleased.{AsReleased, Clean}

-- ---- it holds

module _ (xs ys : List ℕ) (bytes : Bytes xs) (read : Read2 xs) where
  -- the reference at the file's own base is the image where that is its base
  reference_same : shipped_base xs ys ≡ (reading2 xs).base → reference xs ys ≡ xs
  reference_same e = reference_two xs ys read ∙ ap (λ (b : ℕ). moved_image xs b) e ∙ moved_nowhere xs bytes read

  -- a file that is the image has its base, and differs nowhere
  same_base : ys ≡ xs → shipped_base xs ys ≡ (reading2 xs).base
  same_base same = ap (λ (l : List ℕ). shipped_base xs l) same ∙ shipped_two xs xs read ∙ sym (guaranteed xs read).base_is

  nothing : ys ≡ xs → length (differing xs ys) ≡ 0
  nothing same = same_nowhere xs ys (reference_same (same_base same)) same

module _ (xs ys places : List ℕ) (bytes : Bytes xs) (read : Read2 xs) (ok : (auditing xs ys (length places)).number ≡ 0) where
  passed : Accepted xs ys (length places)
  passed = audit_accepted xs ys (length places) ok

  true_counts : ((auditing xs ys (length places)).base ≡ shipped_base xs ys) ×
      ((auditing xs ys (length places)).settings ≡ settings (told_by xs) (differing xs ys))
      × ((auditing xs ys (length places)).strays ≡ strays (told_by xs) (differing xs ys))
  true_counts = let t = told_always xs ys (length places) passed.read passed.paired passed.legal in (t.0, t.1, t.2)

  clean_same : Clean (auditing xs ys (length places)) (reading2 xs).base → ys ≡ xs
  clean_same (no_settings, no_strays, home) =
      let (base, of-settings, of-strays) = true_counts in
      let none : length (differing xs ys) ≡ 0 = omega (arith, counts (told_by xs) (differing xs ys)) in
      let is : reference xs ys ≡ xs = reference_same xs ys bytes read (sym base ∙ home) in
      nowhere_same xs ys is passed.paired none

  same_clean : ys ≡ xs → Clean (auditing xs ys (length places)) (reading2 xs).base
  same_clean same =
      let (base, of-settings, of-strays) = true_counts in
      let none = nothing xs ys bytes read same in
      let sum = counts (told_by xs) (differing xs ys) in
      (omega arith, omega arith, base ∙ same_base xs ys bytes read same)

pub as_released : AsReleased
as_released xs s base o owner r zs ys places a l bx bs (answer, image) none (told, list) accepted =
    let ok : (releasing xs s base o owner).number ≡ 0 = sym (ap (λ (m : Moved). m.number) answer) ∙ none in
    let reads = ap (λ (q : List ℕ). reading2 q) image ∙ released_reads xs s base o owner ok bx bs in
    let home : (reading2 zs).base ≡ base = ap (λ (q : Reading). q.base) reads in
    let read : Read2 zs = ap (λ (q : Reading). q.number) reads ∙ (release_shows xs s base o owner ok).fits.read in
    let bz : Bytes zs = rw image (bytes_released xs s base o owner ok bx bs) in
    let fine : (auditing zs ys (length places)).number ≡ 0 = sym (ap (λ (q : Audited). q.number) told) ∙ accepted in (
      (λ clean. clean_same zs ys places bz read fine (rw (← told, home) clean)),
      (λ same. rw (told, ← home) (same_clean zs ys places bz read fine same)),
    )

-- ---- and speaks of something: the small image as it was released, and that file itself

abbrev file : List ℕ
file = released_image (small 0xFFF80000 0xFFF80040 (setting_bytes 0 1)) sample 0x00100000 two 1

pub file_audits : (auditing file file 0).number ≡ 0
file_audits =
    let maker = small 0xFFF80000 0xFFF80040 (setting_bytes 0 1) in
    let bytes = bytes_released maker sample 0x00100000 two 1 maker_goes maker_bytes sample_bytes in
    let reads = released_reads maker sample 0x00100000 two 1 maker_goes maker_bytes sample_bytes in
    let read : Read2 file = ap (λ (r : Reading). r.number) reads ∙ maker_reads in
    let home = same_base file file bytes read refl in
    let none = nothing file file bytes read refl in
    told_number file file 0 (read_too file file read) refl (rw home (guaranteed file read).legal) (omega arith)
