-- A file of a year, mended.
-- Assumes nothing.
use Rattle.std.specs.Prelude.{ℕ, ◌+◌, ◌/◌, ◌≤◌, List, ◌⊎◌, ◌≡◌, length, get_or}
use Rattle.std.proofs.Common.{inl, inr, sym, ap, ◌∙◌, ext_get_or}
use Rattle.std.proofs.Math.Decide.{ℕ_discrete}
use Rattle.facts.specs.Fact.{Holds}
use Rattle.words.specs.Le.{le, Bytes}
use Rattle.answers.specs.declared.Audited.{Audited}
use Rattle.reading_rules.specs.Reading.{reading2, Read2}
use Rattle.reading_rules.specs.Settings.{OutsideSettings}
use Rattle.move_image.specs.Moving.{moved_image}
use Rattle.audit_count.specs.Differences.{setting}
use Rattle.audit.specs.Audit.{shipped_base, told_by, differing}
use Rattle.mend_file.specs.PutBackLaws.{sided}
use Rattle.mend.specs.Mend.{mended, mending}
use Rattle.mend.specs.MendLaws.{mend_read, file_mended}
use Rattle.mend_laws.specs.Left.{told_two, reference_two, mended_long, mended_setting, mended_other, base_same}
use Rattle.mend_laws.specs.Theorems.{Leaves, refused_kept, settings_kept}
use Rattle.demands.specs.Calls.{Call, after_all}
use Rattle.demands.specs.Editions.{read_too, shipped_two}
use Rattle.demands.specs.Explains.{Explains}
use Rattle.demands.specs.Explained.{explains_base, told_number}
use Rattle.demands.specs.MadeLaws.{made_explains}
use Rattle.year.specs.Year.{accepted}
use Rattle.year.specs.YearLaws.{year_stands}
use Rattle.year.specs.YearHolds.{year_alone}
use Rattle.year_after.specs.AfterYear.{Keeps, Righted, MendedYear}

module _ (xs : List ℕ) (bx : Bytes xs) (ok : Read2 xs) (ys : List ℕ) (base : ℕ) (ex : Explains xs ys base) (zs : List ℕ) (room : ℕ)
    (a : Audited) (ws : List ℕ) (leaves : Leaves xs zs room a ws) where
  -- the base that the file names is the year's
  named : Keeps (reading2 xs) zs ys → shipped_base xs zs ≡ base
  named keeps = shipped_two xs zs ok ∙ keeps.base ∙ sym (shipped_two xs ys ok) ∙ sym (explains_base xs ys bx ok base ex)

  module _ (taken : a.number ≡ 0) where
    goes : (mending xs zs room).number ≡ 0
    goes = ap (λ (b : Audited). b.number) (sym leaves.0) ∙ taken

    left : ws ≡ mended xs zs
    left = leaves.1 ∙ file_mended xs zs room goes

    -- in the settings part the file's own byte, elsewhere the first image's moved to that base
    byte : Keeps (reading2 xs) zs ys → (k : ℕ) → Holds (setting (told_by xs) k) ⊎ OutsideSettings (told_by xs) k
        → get_or (mended xs zs) k 0 ≡ get_or ys k 0
    byte keeps k (inl s) =
        mended_setting xs zs room bx goes k s ∙ keeps.settings k (rw (told_two xs zs room bx goes) at s)
    byte keeps k (inr out) =
        mended_other xs zs room bx goes k out ∙ ap (λ (l : List ℕ). get_or l k 0) (reference_two xs zs room bx goes)
        ∙ ap (λ (b : ℕ). get_or (moved_image xs b) k 0) (named keeps)
        ∙ sym (ex.same k (rw (told_two xs zs room bx goes) at out))

    back : Keeps (reading2 xs) zs ys → ws ≡ ys
    back keeps =
        left ∙ ext_get_or 0 (mended xs zs) ys (mended_long xs zs room bx goes ∙ sym ex.long) (λ k h. byte keeps k (sided (told_by xs) k))

    only : ws ≡ ys → Keeps (reading2 xs) zs ys
    only same =
        record {
          base = sym (shipped_two xs zs ok) ∙ sym (base_same xs zs room bx goes) ∙ shipped_two xs (mended xs zs) ok
              ∙ ap (λ (l : List ℕ). le 4 l ((reading2 xs).H + 28)) (sym left ∙ same);
          settings = λ k s. sym (settings_kept xs zs room a ws leaves bx k s) ∙ ap (λ (l : List ℕ). get_or l k 0) same;
        }

  takes : length zs ≡ length xs → Keeps (reading2 xs) zs ys → length (differing xs zs) ≤ room → a.number ≡ 0
  takes long keeps fits =
      ap (λ (b : Audited). b.number) (leaves.0 ∙ mend_read xs zs room ok)
      ∙ told_number xs zs room (read_too xs zs ok) long (rw (named keeps) ex.legal) fits

  itself : zs ≡ ys → ws ≡ ys
  itself same =
      elim (ℕ_discrete a.number 0) [
        | yes taken ↦ back taken
            (record {
              base = ap (λ (l : List ℕ). le 4 l ((reading2 xs).H + 28)) same;
              settings = λ k s. ap (λ (l : List ℕ). get_or l k 0) same;
            })
        | no refused ↦ refused_kept xs zs room a ws leaves refused ∙ same
      ]

  righted : (cs : List Call) → ys ≡ after_all xs cs → Righted xs cs ys zs room a ws
  righted cs is = record { back = back; only = only; goes = takes; itself = itself; alone = is }

pub mended_year : MendedYear
mended_year = (
  (λ xs cs ms ys zs before a l ws bx ok bs plays is.
      let st = year_stands xs bx ok cs ms ys bs plays in
      righted xs bx ok ys _ (made_explains xs ok bx st.made).1 zs (length before) a ws (is.0, is.2) (accepted cs ms)
      (year_alone xs cs ms ys plays).2),
  (λ xs cs ms ys zs before a l ws bx ok bs plays is.
      let st = year_stands xs bx ok cs ms ys bs plays in
      righted xs bx ok ys _ (made_explains xs ok bx st.made).1 zs (length before / 4) a ws (is.0, is.2) (accepted cs ms)
      (year_alone xs cs ms ys plays).2),
)
