use Rattle.release.specs.Release.{releasing, two_steps}
use Rattle.release_judge.specs.Judged.{release_rules}
use Rattle.release.specs.ReleaseLaws.{set_guaranteed, release_kept, release_unread, release_judged, release_changed, release_shows}
use Rattle.sheet_bodies.specs.Set.{set_by}
use Rattle.move_image.specs.Moving.{move_to}
use Rattle.move_answer.specs.MoveAnswer.{refused_move}
use Rattle.answers.specs.declared.Moved.{Moved}
use Rattle.reading_rules.specs.Edition.{guaranteed}
use Rattle.reading_rules.specs.Reading.{reading2}
use Rattle.answers.specs.declared.Reading.{Reading}
use Rattle.facts.specs.Rules.{run}
use lib.ListN.{length}
use Prim.Native.Nat.{ℕ}
use mathlib.Core.List.{List}
use mathlib.Core.Path.{◌≡◌, sym, ap, ◌∙◌}
use native.Mathlib.Omega.{arith}
use Rattle.release.proofs.release.Goals as goal

-- past the first check the image reads, and sheet and base are judged for it: so that is the answer
module _ (xs s : List ℕ) (base : ℕ) (os : List ℕ) (owner : ℕ) (r : Reading) (v : Moved) (read : r ≡ reading2 xs) (reads : r.number ≡ 0)
    (judged : v ≡ run refused_move (release_rules r (length xs) s base os owner)) where
  answer : v ≡ releasing xs s base os owner
  answer = (rw read at judged) ∙ sym (release_judged xs s base os owner (rw read at reads))

  accepted : v.number ≡ 0 → (releasing xs s base os owner).number ≡ 0
  accepted e = sym (ap (λ (m : Moved). m.number) answer) ∙ e

pub returns-then-r-ne0 : goal.returns-then-r-ne0
returns-then-r-ne0 c =
    let a = c.args in
    let e = c.read_2-r.ensures in
    let unread = rw e at c.if-r-ne0.true in
    let is = release_unread a.image.now a.sheet.now a.base a.owners.now a.owner unread in (
      rw (is, ← e) c.refused.ensures,
      sym (release_kept a.image.now a.sheet.now a.base a.owners.now a.owner (λ z. unread (sym (ap (λ (m : Moved). m.number) is) ∙ z))),
    )

pub judge-v-requires : goal.judge-v-requires
judge-v-requires c =
    rw c.read_2-r.ensures (omega (arith, guaranteed c.args.image.now (rw c.read_2-r.ensures at c.if-r-ne0.false)))

pub returns-then-v-ne0 : goal.returns-then-v-ne0
returns-then-v-ne0 c =
    let a = c.args in
    let e = answer a.image.now a.sheet.now a.base a.owners.now a.owner c.read_2-r.result c.judge-v.result c.read_2-r.ensures c.if-r-ne0.false c.judge-v.ensures in
    (e, sym (release_kept a.image.now a.sheet.now a.base a.owners.now a.owner (rw e at c.if-v-ne0.true)))

pub known-requires : goal.known-requires
known-requires c =
    let a = c.args in
    let fits = (release_shows a.image.now a.sheet.now a.base a.owners.now a.owner (accepted a.image.now a.sheet.now a.base a.owners.now a.owner c.read_2-r.result c.judge-v.result c.read_2-r.ensures c.if-r-ne0.false c.judge-v.ensures c.if-v-ne0.false)).fits in
    (fits.sound.contents, fits.sound.bodies)

pub set_by-requires : goal.set_by-requires
set_by-requires c =
    let a = c.args in
    let fits = (release_shows a.image.now a.sheet.now a.base a.owners.now a.owner (accepted a.image.now a.sheet.now a.base a.owners.now a.owner c.read_2-r.result c.judge-v.result c.read_2-r.ensures c.if-r-ne0.false c.judge-v.ensures c.if-v-ne0.false)).fits in
    rw (c.read_2-r.ensures, c.known.ensures) (guaranteed a.image.now fits.read, fits.sound)

pub move_to-requires : goal.move_to-requires
move_to-requires c =
    let a = c.args in
    let shown = release_shows a.image.now a.sheet.now a.base a.owners.now a.owner (accepted a.image.now a.sheet.now a.base a.owners.now a.owner c.read_2-r.result c.judge-v.result c.read_2-r.ensures c.if-r-ne0.false c.judge-v.ensures c.if-v-ne0.false) in
    rw (c.set_by.ensures, c.read_2-r.ensures, c.known.ensures) (set_guaranteed a.image.now a.sheet.now shown.fits, omega (arith, guaranteed a.image.now shown.fits.read, shown.legal))

pub returns : goal.returns
unfolding two_steps
returns c =
    let a = c.args in
    let xs = a.image.now in
    let s = a.sheet.now in (
      answer xs s a.base a.owners.now a.owner c.read_2-r.result c.judge-v.result c.read_2-r.ensures c.if-r-ne0.false c.judge-v.ensures,
      c.move_to.ensures
          ∙ ap (λ (l : List ℕ). move_to l c.read_2-r.result a.base) c.set_by.ensures
          ∙ ap (λ (t : List ℕ). move_to (set_by xs c.read_2-r.result t) c.read_2-r.result a.base) c.known.ensures
          ∙ ap (λ (q : Reading). move_to (set_by xs q s) q a.base) c.read_2-r.ensures
          ∙ sym (release_changed xs s a.base a.owners.now a.owner (accepted a.image.now a.sheet.now a.base a.owners.now a.owner c.read_2-r.result c.judge-v.result c.read_2-r.ensures c.if-r-ne0.false c.judge-v.ensures c.if-v-ne0.false)),
    )
