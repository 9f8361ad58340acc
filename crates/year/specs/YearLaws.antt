-- What a sequence of releases leaves, call by call, and where two pairs of images differ alike.
-- Assumes nothing.
use Rattle.std.specs.Prelude.{ℕ, zero, suc, ◌+◌, Bool, true, false, ◌≡◌, eqb, length, get_or, cond, List, [], ◌∷◌, refl}
use Rattle.std.proofs.Common.{sym, ◌∙◌, eqb-true, ap}
use Rattle.std.proofs.lemmas.Bool.{eqb-false}
use Rattle.facts.specs.Fact.{Holds, test}
use Rattle.facts.specs.FactLaws.{passes, fails, same_test}
use Rattle.facts.specs.RulesLaws.{by_test}
use Rattle.words.specs.Le.{Bytes}
use Rattle.header.specs.Base.{legal_base}
use Rattle.answers.specs.declared.Reading.{Reading}
use Rattle.answers.specs.declared.Moved.{Moved}
use Rattle.reading_rules.specs.Reading.{rebased, reading2, Read2}
use Rattle.reading_rules.specs.Edition.{guaranteed}
use Rattle.reading_rules.specs.Settings.{OutsideSettings}
use Rattle.move_image.specs.Moving.{moved_image}
use Rattle.sheet_bodies.specs.Set.{set_image, Fits}
use Rattle.release_steps.specs.MoveStep.{length_after, moved_reads, moved_on, moved_nowhere}
use Rattle.release_steps.specs.SetStep.{kept_outside, length_after_set, bytes_after_set, set_reads, read_after, fits_alike}
use Rattle.release_steps.specs.TwoSteps.{commute}
use Rattle.release.specs.Release.{releasing, released_image}
use Rattle.release.specs.ReleaseLaws.{release_kept}
use Rattle.release_laws.specs.Theorems.{released_fits, released_legal, set_then_moved}
use Rattle.audit_count.specs.Differences.{agrees, differences, setting, flips, bits}
use Rattle.demands.specs.Calls.{Call, answer_to, after, after_all, answers, accepted_of, SheetBytes}
use Rattle.demands.specs.Made.{Made, start, then}
use Rattle.year.specs.Year.{Plays, accepted, last_base, set_all}

-- ---- the image after some calls: ws is the first image with the accepted sheets applied, and ys is ws moved to the last base

pub record Stands (xs ws : List ℕ) (base : ℕ) (ys : List ℕ) : Type 0 where
  pub reads : reading2 ws ≡ reading2 xs
  pub bytes : Bytes ws
  pub long : length ws ≡ length xs
  pub legal : Holds (legal_base (length xs) base)
  pub outside : (k : ℕ) → OutsideSettings (reading2 xs) k → get_or ws k 0 ≡ get_or xs k 0
  pub is : ys ≡ moved_image ws base
  pub made : Made xs ys base

module _ (xs : List ℕ) (bx : Bytes xs) (ok : Read2 xs) where
  -- before the first call
  at_first : Stands xs xs (reading2 xs).base xs
  at_first =
      record {
        reads = refl;
        bytes = bx;
        long = refl;
        legal = (guaranteed xs ok).legal;
        outside = λ k out. refl;
        is = sym (moved_nowhere xs bx ok);
        made = start;
      }

  -- after one more that is accepted
  module _ (ws : List ℕ) (base : ℕ) (ys : List ℕ) (st : Stands xs ws base ys) (s : List ℕ) (next : ℕ) (o : List ℕ) (owner : ℕ)
      (bs : Bytes s) (goes : (releasing ys s next o owner).number ≡ 0) where
    fine : Read2 ws
    fine = ap (λ (r : Reading). r.number) st.reads ∙ ok

    lawful : Holds (legal_base (length ws) base)
    lawful = rw st.long st.legal

    moved : reading2 ys ≡ rebased (reading2 ws) base
    moved = ap (λ (l : List ℕ). reading2 l) st.is ∙ moved_reads ws st.bytes fine base lawful

    as_long : length ys ≡ length xs
    as_long = ap (λ (l : List ℕ). length l) st.is ∙ length_after ws st.bytes fine base lawful ∙ st.long

    -- the sheet fits before the move too
    fit : Fits ws s
    fit =
        fits_alike ys s (released_fits ys s next o owner goes) ws fine (sym (ap (λ (r : Reading). r.identity) moved))
        (sym (ap (λ (r : Reading). r.z) moved))

    legal_next : Holds (legal_base (length xs) next)
    legal_next = rw as_long at (released_legal ys s next o owner goes)

    set_long : length (set_image ws s) ≡ length xs
    set_long = length_after_set ws s fit ∙ st.long

    once : released_image ys s next o owner ≡ moved_image (set_image ws s) next
    once =
        set_then_moved ys s next o owner goes
        ∙ ap (λ (l : List ℕ). moved_image (set_image l s) next) st.is
        ∙ ap (λ (l : List ℕ). moved_image l next) (commute ws s base st.bytes bs fit lawful)
        ∙ moved_on (set_image ws s) (bytes_after_set ws s fit st.bytes bs) (read_after ws s fit) base (rw set_long st.legal) next
        (rw set_long legal_next)

    one_more : Stands xs (set_image ws s) next (released_image ys s next o owner)
    one_more =
        record {
          reads = set_reads ws s fit ∙ st.reads;
          bytes = bytes_after_set ws s fit st.bytes bs;
          long = set_long;
          legal = legal_next;
          outside = λ k out. kept_outside ws s fit k (rw st.reads out) ∙ st.outside k out;
          is = once;
          made = then st.made s next o owner bs goes;
        }

  -- after all of them
  from_here : (cs : List Call) (ms : List Moved) (ws : List ℕ) (base : ℕ) (ys zs : List ℕ) → Stands xs ws base ys → SheetBytes cs
      → Plays ys cs ms zs → Stands xs (set_all ws (accepted cs ms)) (last_base base (accepted cs ms)) zs
  unfolding Plays accepted last_base set_all SheetBytes
  from_here [] [] ws base ys zs st bs e = rw e st
  from_here [] (m ∷ ms) ws base ys zs st bs e = absurd e
  from_here (c ∷ cs) [] ws base ys zs st bs e = absurd e
  from_here (c ∷ cs) (m ∷ ms) ws base ys zs st (b, bs) (us, (answer, image), more) =
      go (eqb m.number 0) refl (λ now. from_here cs ms (set_image ws c.sheet) c.base us zs now bs more)
      (λ now. from_here cs ms ws base us zs now bs more)
    where
      rest : List Call
      rest = accepted cs ms

      number : m.number ≡ (releasing ys c.sheet c.base c.list c.owner).number
      number = ap (λ (r : Moved). r.number) answer

      go : (t : Bool) → eqb m.number 0 ≡ t
          → (Stands xs (set_image ws c.sheet) c.base us → Stands xs (set_all (set_image ws c.sheet) rest) (last_base c.base rest) zs)
          → (Stands xs ws base us → Stands xs (set_all ws rest) (last_base base rest) zs)
          → Stands xs (set_all ws (cond t (c ∷ rest) rest)) (last_base base (cond t (c ∷ rest) rest)) zs
      go true e took kept =
          took
          (rw image (one_more ws base ys st c.sheet c.base c.list c.owner b (sym number ∙ eqb-true m.number 0 e)))
      go false e took kept =
          let same : us ≡ ys =
          image ∙ release_kept ys c.sheet c.base c.list c.owner (λ z. eqb-false m.number 0 e (number ∙ z)) in
          kept (rw same st)

  pub year_stands : (cs : List Call) (ms : List Moved) (zs : List ℕ) → SheetBytes cs → Plays xs cs ms zs
      → Stands xs (set_all xs (accepted cs ms)) (last_base (reading2 xs).base (accepted cs ms)) zs
  year_stands cs ms zs bs e = from_here cs ms xs (reading2 xs).base xs zs at_first bs e

-- ---- the fold over calls

pub by_fold : (xs : List ℕ) (cs : List Call) (ms : List Moved) (zs : List ℕ) → Plays xs cs ms zs
    → (ms ≡ answers xs cs) × (zs ≡ after_all xs cs) × (accepted cs ms ≡ accepted_of xs cs)
unfolding Plays accepted answers after_all accepted_of
by_fold xs [] [] zs e = (refl, e, refl)
by_fold xs [] (m ∷ ms) zs e = absurd e
by_fold xs (c ∷ cs) [] zs e = absurd e
by_fold xs (c ∷ cs) (m ∷ ms) zs (ys, (answer, image), more) =
    let (same, left, picked) = by_fold ys cs ms zs more in
    let same' : ms ≡ answers (after xs c) cs = same ∙ ap (λ (l : List ℕ). answers l cs) image in
    let picked' : accepted cs ms ≡ accepted_of (after xs c) cs = picked ∙ ap (λ (l : List ℕ). accepted_of l cs) image in (
      ap (λ (q : Moved). q ∷ ms) answer ∙ ap (λ (l : List Moved). answer_to xs c ∷ l) same',
      left ∙ ap (λ (l : List ℕ). after_all l cs) image,
      ap (λ (q : Moved). cond (eqb q.number 0) (c ∷ accepted cs ms) (accepted cs ms)) answer
          ∙ ap (λ (l : List Call). cond (eqb (answer_to xs c).number 0) (c ∷ l) l) picked',
    )

-- ---- differences go position by position

module _ (ref ys ref' ys' : List ℕ) where
  pub same_differences : (k n : ℕ)
      → ((i : ℕ) → (Holds (agrees ref ys i) → Holds (agrees ref' ys' i)) × (Holds (agrees ref' ys' i) → Holds (agrees ref ys i)))
      → differences ref ys k n ≡ differences ref' ys' k n
  unfolding differences
  same_differences k zero same = refl
  same_differences k (suc n) same =
      rw (same_test (agrees ref ys k) (agrees ref' ys' k) (same k).0 (same k).1, same_differences (suc k) n same)

  pub same_bits : (r : Reading) → ((k : ℕ) → Holds (setting r k) → (get_or ys k 0 ≡ get_or ys' k 0) × (get_or ref k 0 ≡ get_or ref' k 0))
      → (ks : List ℕ) → bits ref ys r ks ≡ bits ref' ys' r ks
  unfolding bits
  same_bits r same [] = refl
  same_bits r same (k ∷ ks) = ap (λ (n : ℕ). n + bits ref ys r ks) one ∙ rw (same_bits r same ks)
    where
      one : cond (test (setting r k)) (flips 8 (get_or ys k 0) (get_or ref k 0)) 0
          ≡ cond (test (setting r k)) (flips 8 (get_or ys' k 0) (get_or ref' k 0)) 0
      one =
          by_test
          (λ (n : ℕ). n ≡ cond (test (setting r k)) (flips 8 (get_or ys' k 0) (get_or ref' k 0)) 0) (setting r k)
          (flips 8 (get_or ys k 0) (get_or ref k 0)) 0
          (λ h. let (a, b) = same k h in rw (passes (setting r k) h, a, b)) (λ h. rw (fails (setting r k) h))
