use Rattle.contents.specs.Listing.{entries_for, listing, contents, contents_in}
use Rattle.contents.specs.ListingLaws.{list_accepted}
use Rattle.contents.specs.Theorems.{contents_kept}
use Rattle.answers.specs.AfterLaws.{changed_so}
use Rattle.reading_rules.specs.Edition.{guaranteed}
use Rattle.reading_rules.specs.Reading.{reading2}
use Rattle.answers.specs.declared.Reading.{Reading}
use Rattle.words.specs.Put.{put_all}
use lib.ListN.{length}
use Prim.Native.Nat.{◌*◌, ◌≤◌}
use mathlib.Core.Path.{◌≡◌, sym, ap, ◌∙◌}
use Rattle.contents.proofs.list_contents.Goals as goal

-- past the test the call is accepted
told : (c : goal.After-fill_all-arg-1) →
    let a = c.args in
    (contents a.image.now (length a.places.now)).number ≡ 0
told c = rw c.survey-a.ensures at c.if-a-ne0.false

told-at-2 : (c : goal.After-slice_known-2-1) →
    let a = c.args in
    (contents a.image.now (length a.places.now)).number ≡ 0
told-at-2 c = rw c.survey-a.ensures at c.if-a-ne0.false

-- so the image reads, and the list has room
fits : (c : goal.After-fill_all-arg-1) →
    let a = c.args in
    ((reading2 a.image.now).number ≡ 0) × (4 * length (listing a.image.now) ≤ length a.places.now)
fits c =
    let a = c.args in
    list_accepted a.image.now (length a.places.now) (told c)

pub returns-then-a-ne0 : goal.returns-then-a-ne0
returns-then-a-ne0 c =
    let a = c.args in
    let answer = c.survey-a.ensures in
    (answer, sym (contents_kept a.image.now a.places.now (rw answer at c.if-a-ne0.true)))

pub fill_all-requires : goal.fill_all-requires
unfolding listing
fill_all-requires c =
    rw c.read_2-r.ensures (guaranteed c.args.image.now (fits c).0, (fits c).1)

pub returns : goal.returns
unfolding listing contents_in
returns c =
    let a = c.args in (
      c.survey-a.ensures,
      c.fill_all.ensures
          ∙ ap (λ (r : Reading). put_all 4 a.places.now 0 (entries_for a.image.now r)) c.read_2-r.ensures
          ∙ sym (changed_so (contents a.image.now (length a.places.now)).number
          (put_all 4 a.places.now 0 (listing a.image.now)) a.places.now (told-at-2 c)),
    )
