-- Document 02, #110: a mended file is one that a release of the vendor image makes.
-- Assumes nothing.
use Rattle.std.specs.Prelude.{ℕ, ◌<◌, List, ◌⊎◌, ◌≡◌, get_or}
use Rattle.std.proofs.Common.{inl, inr, sym, ap, ◌∙◌}
use Rattle.facts.specs.Fact.{Holds}
use Rattle.words.specs.Le.{Bytes}
use Rattle.answers.specs.declared.Audited.{Audited}
use Rattle.reading_rules.specs.Settings.{OutsideSettings}
use Rattle.move_image.specs.Moving.{moved_image}
use Rattle.release_steps.specs.MoveStep.{bytes_after}
use Rattle.audit_count.specs.Differences.{setting}
use Rattle.audit.specs.Audit.{shipped_base, told_by}
use Rattle.mend_file.specs.PutBackLaws.{sided}
use Rattle.mend.specs.Mend.{mended, mending}
use Rattle.mend.specs.MendLaws.{accepted_read, file_mended}
use Rattle.mend_laws.specs.Left.{passed, told_two, reference_two, base_told, mended_long, mended_setting, mended_other}
use Rattle.mend_laws.specs.Theorems.{Leaves}
use Rattle.demands.specs.Explains.{Explains}
use Rattle.demands.specs.Makes.{Makes}
use Rattle.demands.specs.MakesLaws.{explains_made}

module _ (xs ys : List ℕ) (room : ℕ) (bx : Bytes xs) (by : Bytes ys) (ok : (mending xs ys room).number ≡ 0) where
  mended_explains : Explains xs (mended xs ys) (shipped_base xs ys)
  mended_explains =
      record {
        legal = (passed xs ys room bx ok).legal;
        long = mended_long xs ys room bx ok;
        same = λ k out. mended_other xs ys room bx ok k (rw (told_two xs ys room bx ok) out)
            ∙ ap (λ (l : List ℕ). get_or l k 0) (reference_two xs ys room bx ok);
      }

  mended_bytes_lem : Bytes (mended xs ys)
  unfolding Bytes
  mended_bytes_lem k = go (sided (told_by xs) k)
    where
      moved_bytes : Bytes (moved_image xs (shipped_base xs ys))
      moved_bytes = bytes_after xs bx (accepted_read xs ys room ok) (shipped_base xs ys) (passed xs ys room bx ok).legal

      go : Holds (setting (told_by xs) k) ⊎ OutsideSettings (told_by xs) k → get_or (mended xs ys) k 0 < 256
      go (inl s) = rw (mended_setting xs ys room bx ok k s) (by k)
      go (inr o) = rw (mended_other xs ys room bx ok k o, reference_two xs ys room bx ok) (moved_bytes k)

-- one sheet and one owner's list, released to the base that the audit names, make the mended file
pub mended_released : (xs ys : List ℕ) (room : ℕ) (a : Audited) (zs : List ℕ) → Leaves xs ys room a zs → Bytes xs → Bytes ys
    → a.number ≡ 0 → (s : List ℕ) × (o : List ℕ) × Makes xs zs a.base s o 1
mended_released xs ys room a zs (told, left) bx by ok =
    let fine : (mending xs ys room).number ≡ 0 = ap (λ (b : Audited). b.number) (sym told) ∙ ok in
    let file : mended xs ys ≡ zs = sym (left ∙ file_mended xs ys room fine) in
    let base : shipped_base xs ys ≡ a.base = base_told xs ys room bx fine ∙ sym (ap (λ (b : Audited). b.base) told) in
    rw (file, base) at
    (explains_made xs (mended xs ys) bx (mended_bytes_lem xs ys room bx by fine) (accepted_read xs ys room fine) (shipped_base xs ys)
    (mended_explains xs ys room bx by fine))
