-- The answer of a release and the image afterwards, case by case.
-- Assumes nothing.
use Rattle.std.specs.Prelude.{ℕ, List, ◌≡◌, refl, length}
use Rattle.std.proofs.Common.{sym, ap, ◌∙◌}
use Rattle.std.proofs.Math.Decide.{ℕ_discrete}
use Rattle.facts.specs.Fact.{Holds}
use Rattle.facts.specs.Rules.{run}
use Rattle.facts.specs.RulesLaws.{passed, run_passed}
use Rattle.header.specs.Base.{legal_base}
use Rattle.answers.specs.declared.Reading.{Reading}
use Rattle.reading_rules.specs.Reading.{reading2, Read2}
use Rattle.reading_rules.specs.Guarantee.{Guaranteed}
use Rattle.reading_rules.specs.Edition.{guaranteed}
use Rattle.answers.specs.AfterLaws.{after_accepted, after_refused, changed_so, kept_so}
use Rattle.answers.specs.declared.Moved.{Moved}
use Rattle.move_answer.specs.MoveAnswer.{refused_move, accepted_move}
use Rattle.sheet.specs.Sheet.{Sound, sheet_identity, same_identity}
use Rattle.sheet_bodies.specs.Set.{set_by, set_image, Fits}
use Rattle.owners.specs.Owners.{owners_fit, fields_owned}
use Rattle.release_steps.specs.SetStep.{set_reads, read_after}
use Rattle.release.specs.Release.{releasing, two_steps, released_image, Releases}
use Rattle.release_judge.specs.Judged.{name_rules, release_rules}
use Rattle.release.specs.Releasable.{Releasable}

-- any two outcomes that the promise of a release admits are the same
pub one_release : (xs s : List ℕ) (base : ℕ) (o : List ℕ) (owner : ℕ) (m n : Moved) (ys zs : List ℕ) → Releases xs s base o owner m ys
    → Releases xs s base o owner n zs → (m ≡ n) × (ys ≡ zs)
one_release xs s base o owner m n ys zs (a, b) (c, d) = (a ∙ sym c, b ∙ sym d)

-- what an answer with number 0 has passed
judged_shows : (r : Reading) (size : ℕ) (s : List ℕ) (base : ℕ) (o : List ℕ) (owner : ℕ)
    → (run refused_move (release_rules r size s base o owner)).number ≡ 0
    → Sound s r.z × Holds (same_identity (sheet_identity s) r.identity) × Holds (owners_fit o owner r.z)
    × Holds (fields_owned s o owner) × Holds (legal_base size base)
unfolding release_rules name_rules
judged_shows r size s base o owner e =
    let (fits, (good, (names, (fields, (own, (legal, is)))))) =
    passed refused_move (λ (m : Moved). m.number) (λ k i. refl) (release_rules r size s base o owner) refl e in
    (record { contents = fits.0; bodies = fits.1; fields = fields }, names, good, own, legal)

-- once the sheet's bytes are set, the image is still what the move asks for
pub set_guaranteed : (xs s : List ℕ) → Fits xs s → Guaranteed (set_by xs (reading2 xs) s) (reading2 xs)
unfolding set_image
set_guaranteed xs s fits = rw (set_reads xs s fits) at (guaranteed (set_image xs s) (read_after xs s fits))

module _ (xs s : List ℕ) (base : ℕ) (o : List ℕ) (owner : ℕ) where
  abbrev judged : Moved
  judged = run refused_move (release_rules (reading2 xs) (length xs) s base o owner)

  -- a refused release changes nothing
  pub release_kept : ((releasing xs s base o owner).number ≡ 0 → ⊥) → released_image xs s base o owner ≡ xs
  unfolding released_image
  release_kept h = kept_so (releasing xs s base o owner).number (two_steps xs s base) xs h

  pub release_unread : (Read2 xs → ⊥) → releasing xs s base o owner ≡ refused_move (reading2 xs).number (reading2 xs).index
  unfolding releasing
  release_unread h = after_refused refused_move (reading2 xs) (release_rules (reading2 xs) (length xs) s base o owner) h

  pub release_judged : Read2 xs → releasing xs s base o owner ≡ judged
  unfolding releasing
  release_judged ok = after_accepted refused_move (reading2 xs) (release_rules (reading2 xs) (length xs) s base o owner) ok

  -- an accepted release sets and moves
  pub release_changed : (releasing xs s base o owner).number ≡ 0 → released_image xs s base o owner ≡ two_steps xs s base
  unfolding released_image
  release_changed e = changed_so (releasing xs s base o owner).number (two_steps xs s base) xs e

  -- it is one of a sheet that fits, to a legal base
  pub release_shows : (releasing xs s base o owner).number ≡ 0 → Releasable xs s base o owner
  release_shows e =
      elim (ℕ_discrete (reading2 xs).number 0) [
        | no h ↦ absurd (h (sym (ap (λ (m : Moved). m.number) (release_unread h)) ∙ e))
        | yes ok ↦
            let v : judged.number ≡ 0 = sym (ap (λ (m : Moved). m.number) (release_judged ok)) ∙ e in
            let (sound, names, good, own, legal) = judged_shows (reading2 xs) (length xs) s base o owner v in
            record { fits = record { read = ok; sound = sound; names = names }; good = good; own = own; legal = legal }
      ]

  -- and each of these is accepted
  pub release_accepted : Releasable xs s base o owner → releasing xs s base o owner ≡ accepted_move (reading2 xs) base
  unfolding release_rules name_rules
  release_accepted h =
      let fits = h.fits in
      release_judged fits.read
      ∙ run_passed refused_move (release_rules (reading2 xs) (length xs) s base o owner) (accepted_move (reading2 xs) base)
      ((fits.sound.contents, fits.sound.bodies), (h.good, (fits.names, (fits.sound.fields, (h.own, (h.legal, refl))))))

  pub release_goes : Releasable xs s base o owner → (releasing xs s base o owner).number ≡ 0
  release_goes h = ap (λ (m : Moved). m.number) (release_accepted h)
