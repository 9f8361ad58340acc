-- Document 02, #110: what a mending leaves, for whatever outcomes the promises of `mend`, `mend_bytes` and `audit` admit.
-- Assumes nothing.
use Rattle.std.specs.Prelude.{ℕ, ◌/◌, ◌≤◌, true, List, ◌≡◌, length, get_or}
use Rattle.std.proofs.Common.{sym, ap, ◌∙◌}
use Rattle.std.proofs.Math.Decide.{ℕ_discrete}
use Rattle.std.proofs.lemmas.List.Edits.{sets}
use Rattle.facts.specs.Fact.{Holds}
use Rattle.words.specs.Le.{Bytes}
use Rattle.answers.specs.declared.Audited.{Audited}
use Rattle.reading_rules.specs.Reading.{reading2}
use Rattle.audit_count.specs.Differences.{setting}
use Rattle.audit.specs.Audit.{told_by, differing, auditing, listed, Audits}
use Rattle.mend.specs.Mend.{mended, mending, mended_file, Mends, MendsBytes}
use Rattle.mend.specs.MendLaws.{file_kept, file_mended}
use Rattle.mend_laws.specs.Cleared.{settings_only, cleared}
use Rattle.mend_laws.specs.Left.{told_two, mended_setting, mended_again, explained_same, audit_left, list_left}

-- the file that a mending with so much room leaves: what both promises say of it
abbrev pub Leaves : List ℕ → List ℕ → ℕ → Audited → List ℕ → Type 0
Leaves xs ys room a zs = (a ≡ mending xs ys room) × (zs ≡ mended_file xs ys room)

pub mends_leaves : (xs ys places : List ℕ) (a : Audited) (l zs : List ℕ) → Mends xs ys places a l zs → Leaves xs ys (length places) a zs
mends_leaves xs ys places a l zs m = (m.0, m.2)

pub mends_bytes_leaves : (xs ys bytes : List ℕ) (a : Audited) (l zs : List ℕ) → MendsBytes xs ys bytes a l zs
    → Leaves xs ys (length bytes / 4) a zs
mends_bytes_leaves xs ys bytes a l zs m = (m.0, m.2)

module _ (xs ys : List ℕ) (room : ℕ) (a : Audited) (zs : List ℕ) (leaves : Leaves xs ys room a zs) where
  -- a refused one leaves every byte
  pub refused_kept : (a.number ≡ 0 → ⊥) → zs ≡ ys
  refused_kept bad = leaves.1 ∙ file_kept xs ys room (λ e. bad (ap (λ (b : Audited). b.number) leaves.0 ∙ e))

  module _ (bx : Bytes xs) where
    accepts : a.number ≡ 0 → (mending xs ys room).number ≡ 0
    accepts ok = ap (λ (b : Audited). b.number) (sym leaves.0) ∙ ok

    file : a.number ≡ 0 → zs ≡ mended xs ys
    file ok = leaves.1 ∙ file_mended xs ys room (accepts ok)

    -- afterwards any audit with room for the settings says "explained", with the same base, settings and bits, and lists exactly the
    -- settings that were listed before
    pub mended_explained : a.number ≡ 0 → (places : List ℕ) (b : Audited) (l : List ℕ) → a.settings ≤ length places → Audits xs zs places b l
        → (b ≡ cleared a) × (l ≡ sets places 0 (settings_only (told_by xs) (differing xs ys)))
    mended_explained ok places b l fits (told, list) =
        let room_left : (mending xs ys room).settings ≤ length places = rw leaves.0 at fits in (
          told ∙ ap (λ (ws : List ℕ). auditing xs ws (length places)) (file ok) ∙ audit_left xs ys room bx (accepts ok) (length places) room_left
              ∙ ap (λ (q : Audited). cleared q) (sym leaves.0),
          list ∙ ap (λ (ws : List ℕ). listed xs ws places) (file ok) ∙ list_left xs ys room bx (accepts ok) places room_left,
        )

    -- on an explained file no byte changes
    pub explained_kept : a.explained ≡ true → zs ≡ ys
    explained_kept e =
        elim (ℕ_discrete a.number 0) [
          | no bad ↦ refused_kept bad
          | yes ok ↦ file ok ∙ explained_same xs ys room bx (accepts ok) (ap (λ (b : Audited). b.explained) (sym leaves.0) ∙ e)
        ]

    -- mending twice is mending once, whatever room the second has
    pub mended_twice : a.number ≡ 0 → (next : ℕ) (b : Audited) (ws : List ℕ) → Leaves xs zs next b ws → ws ≡ zs
    mended_twice ok next b ws (told, left) =
        elim (ℕ_discrete (mending xs zs next).number 0) [
          | no bad ↦ left ∙ file_kept xs zs next bad
          | yes fine ↦ left ∙ file_mended xs zs next fine ∙ ap (λ (l : List ℕ). mended xs l) (file ok)
              ∙ mended_again xs ys room bx (accepts ok) ∙ sym (file ok)
        ]

    -- every byte of the settings part is kept, and the length
    pub settings_kept : (k : ℕ) → Holds (setting (reading2 xs) k) → get_or zs k 0 ≡ get_or ys k 0
    settings_kept k s =
        elim (ℕ_discrete a.number 0) [
          | no bad ↦ ap (λ (l : List ℕ). get_or l k 0) (refused_kept bad)
          | yes ok ↦ ap (λ (l : List ℕ). get_or l k 0) (file ok)
              ∙ mended_setting xs ys room bx (accepts ok) k (rw (told_two xs ys room bx (accepts ok)) s)
        ]
