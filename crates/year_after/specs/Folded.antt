-- The accepted sheets of a year, folded into one and released once.
-- Assumes nothing.
use Prim.{tt}
use Rattle.std.specs.Prelude.{ℕ, zero, suc, ◌+◌, ◌-◌, ◌≤◌, ◌<◌, Bool, cond, ◌≡◌, take}
use Rattle.std.proofs.Math.Bool.{true, false}
use mathlib.Core.List.{List, [], ◌∷◌}
use Rattle.std.proofs.Common.{inl, ◌∙◌}
use Rattle.std.proofs.Math.Path.{refl, sym, ap}
use native.Mathlib.Omega.{arith}
use Rattle.std.proofs.Math.Decide.{dec_lt, ℕ_discrete}
use borrow.Author.Tests.{eqb-true, eqb-false}
use Rattle.std.proofs.Math.Dec.{eqb}
use Rattle.std.proofs.Math.ListN.{get_or}
use Rattle.std.proofs.Math.Seq.{ext_get_or}
use Rattle.facts.specs.Fact.{Holds}
use Rattle.words.specs.Le.{Bytes}
use Rattle.answers.specs.declared.Identity.{Identity}
use Rattle.answers.specs.declared.Reading.{Reading}
use Rattle.answers.specs.declared.Moved.{Moved}
use Rattle.reading_rules.specs.Reading.{reading2, Read2}
use Rattle.reading_rules.specs.Edition.{guaranteed}
use Rattle.sheet.specs.Sheet.{sheet_identity, count, offset, size, sheet_fits, same_identity, field_fits}
use Rattle.sheet.specs.ByteAt.{covers, byte_at, laid}
use Rattle.sheet.specs.ByteAtLaws.{byte_some, byte_one}
use Rattle.sheet_bodies.specs.Set.{set_image, Fits}
use Rattle.sheet_bodies.specs.SetLaws.{set_laid}
use Rattle.owners.specs.Owners.{owners_fit, owned, fields_owned}
use Rattle.move_image.specs.Moving.{moved_image}
use Rattle.release_steps.specs.SetStep.{kept_outside, length_after_set, set_reads, fits_alike}
use Rattle.release.specs.Release.{releasing, released_image}
use Rattle.release.specs.ReleaseLaws.{release_kept, release_shows, release_goes}
use Rattle.release_laws.specs.Theorems.{released_fits, released_reads, bytes_released, set_then_moved}
use Rattle.fold_pile.specs.Pile.{sheets, Piled}
use Rattle.fold_pile.specs.PileLaws.{is_piled, first_there}
use Rattle.fold_cells.specs.SetAt.{over, set_from, set_at}
use Rattle.fold.specs.declared.Folded.{Folded}
use Rattle.fold.specs.Fold.{Folds}
use Rattle.fold_laws.specs.Theorems.{folded_passed, folded_fits, folded_sets, folded_names}
use Rattle.fold_release.specs.EachLaws.{laid_over}
use Rattle.demands.specs.Calls.{Call, SheetBytes}
use Rattle.year.specs.Year.{Plays, accepted, last_base, set_all}
use Rattle.year.specs.YearLaws.{Stands, year_stands}
use Rattle.year_after.specs.AfterYear.{sheets_of, AllOwn, FoldedYear}

-- ---- each accepted sheet fits the first image

-- each of these sheets does
unfoldable AllFit : List ℕ → List Call → Type 0
AllFit xs [] = 1 ≤ 1
AllFit xs (c ∷ cs) = Fits xs c.sheet × AllFit xs cs

module _ (xs : List ℕ) (ok : Read2 xs) where
  -- an image on the way: the first one's identity and region
  record Kin (ys : List ℕ) : Type 0 where
    bytes : Bytes ys
    who : (reading2 xs).identity ≡ (reading2 ys).identity
    long : (reading2 xs).z ≡ (reading2 ys).z

  all_fit : (cs : List Call) (ms : List Moved) (ys zs : List ℕ) → Kin ys → SheetBytes cs → Plays ys cs ms zs → AllFit xs (accepted cs ms)
  unfolding Plays accepted AllFit SheetBytes
  all_fit [] ms ys zs kin bs plays = omega arith
  all_fit (c ∷ cs) [] ys zs kin bs plays = absurd plays
  all_fit (c ∷ cs) (m ∷ ms) ys zs kin (b, bs) (us, (answer, image), more) =
      go (eqb m.number 0) refl (λ next. all_fit cs ms us zs next bs more)
    where
      go : (t : Bool) → eqb m.number 0 ≡ t → (Kin us → AllFit xs (accepted cs ms))
          → AllFit xs (cond t (c ∷ accepted cs ms) (accepted cs ms))
      go true e rest =
          let goes : (releasing ys c.sheet c.base c.list c.owner).number ≡ 0 =
          ap (λ (q : Moved). q.number) (sym answer) ∙ eqb-true m.number 0 e in
          let reads = released_reads ys c.sheet c.base c.list c.owner goes kin.bytes b in
          let next : Kin (released_image ys c.sheet c.base c.list c.owner) =
          record {
            bytes = bytes_released ys c.sheet c.base c.list c.owner goes kin.bytes b;
            who = kin.who ∙ sym (ap (λ (r : Reading). r.identity) reads);
            long = kin.long ∙ sym (ap (λ (r : Reading). r.z) reads);
          } in
          let fits = released_fits ys c.sheet c.base c.list c.owner goes in
          (fits_alike ys c.sheet fits xs ok kin.who kin.long, rest (rw image next))
      go false e rest =
          let same : us ≡ ys =
          image ∙ release_kept ys c.sheet c.base c.list c.owner
          (λ z. eqb-false m.number 0 e (ap (λ (q : Moved). q.number) answer ∙ z)) in
          rest (rw same kin)

-- ---- what they set

-- a byte that is set stays set
set_stays : (ss : List (List ℕ)) (old k : ℕ) → set_from old ss k ≡ 0 → old ≡ 0
unfolding set_from
set_stays [] old k e = e
set_stays (s ∷ ss) old k e = go (byte_at s k) (set_stays ss (over (byte_at s k) old) k e)
  where
    go : (b : ℕ) → over b old ≡ 0 → old ≡ 0
    go zero none = none
    go (suc b) none = absurd (omega arith)

-- each position that one of the sheets sets has a property
unfoldable AllSet : (ℕ → Type 0) → List Call → Type 0
AllSet P [] = 1 ≤ 1
AllSet P (c ∷ cs) = ((k : ℕ) → (byte_at c.sheet k ≡ 0 → ⊥) → P k) × AllSet P cs

-- so it has where all of them together set one
from_set : (P : ℕ → Type 0) (cs : List Call) → AllSet P cs → (k old : ℕ) → ((old ≡ 0 → ⊥) → P k)
    → (set_from old (sheets_of cs) k ≡ 0 → ⊥) → P k
unfolding set_from sheets_of AllSet
from_set P [] all k old mine some = mine some
from_set P (c ∷ cs) (one, all) k old mine some =
    from_set P cs all k (over (byte_at c.sheet k) old)
    (λ n. elim (ℕ_discrete (byte_at c.sheet k) 0) [ yes e ↦ mine (rw e at n) | no e ↦ one k e ]) some

module _ (o : List ℕ) (owner : ℕ) where
  -- a position that a sheet sets is the owner's where the sheet's bytes are
  own_at : (s : List ℕ) → Holds (fields_owned s o owner) → (k : ℕ) → (byte_at s k ≡ 0 → ⊥) → Holds (owned o owner k)
  own_at s own k some =
      let (i, h, reach) = byte_some s k some in
      let e : offset s i + (k - offset s i) ≡ k = omega (arith, reach.0) in
      rw e at (own i h (k - offset s i) (omega (arith, reach.0, reach.1)))

  own_all : (cs : List Call) → AllOwn o owner cs → AllSet (λ k. Holds (owned o owner k)) cs
  unfolding AllOwn AllSet
  own_all [] all = omega arith
  own_all (c ∷ cs) (own, all) = (own_at c.sheet own, own_all cs all)

  -- and the other way round
  set_own : (xs : List ℕ) (cs : List Call) → AllFit xs cs → (old : ℕ → ℕ)
      → ((k : ℕ) → (set_from (old k) (sheets_of cs) k ≡ 0 → ⊥) → Holds (owned o owner k)) → AllOwn o owner cs
  unfolding set_from sheets_of AllOwn AllFit
  set_own xs [] fit old all = tt
  set_own xs (c ∷ cs) (f, fit) old all = (
    (λ i h j l.
        let k = offset c.sheet i + j in
        let reach : Holds (covers c.sheet i k) = (omega arith, omega arith) in
        let is = byte_one c.sheet f.sound.bodies i k reach h in
        all k
        (λ e.
        let z = set_stays (sheets_of cs) (over (byte_at c.sheet k) (old k)) k e in
        let q = sym (ap (λ (b : ℕ). over b (old k)) is) ∙ z in
        absurd (omega arith))),
    set_own xs cs fit (λ k. over (byte_at c.sheet k) (old k)) all,
  )

-- it lies in the settings part
field_all : (xs : List ℕ) (cs : List Call) → AllFit xs cs → AllSet (λ k. (32 ≤ k) × (k < (reading2 xs).z)) cs
unfolding AllFit AllSet
field_all xs [] fit = omega arith
field_all xs (c ∷ cs) (f, fit) = (
  (λ k some.
      let (i, h, reach) = byte_some c.sheet k some in
      let w = f.sound.fields i h in
      (omega (arith, reach.0, w.0), omega (arith, reach.1, w.1))),
  field_all xs cs fit,
)

module _ (xs : List ℕ) where
  abbrev c : ℕ
  c = (reading2 xs).c

  -- one sheet, of an image that reads as the first
  one_laid : (ws s : List ℕ) → Fits ws s → reading2 ws ≡ reading2 xs → (k : ℕ)
      → get_or (set_image ws s) (c + k) 0 ≡ laid (byte_at s k) (get_or ws (c + k) 0)
  unfolding set_image
  one_laid ws s fits reads k =
      rw (sym (ap (λ (r : Reading). r.c) reads)) (set_laid ws (reading2 ws) s (guaranteed ws fits.read) fits.sound k)

  -- all of them, one after the other
  all_laid : Read2 xs → (cs : List Call) (ws : List ℕ) → reading2 ws ≡ reading2 xs → AllFit xs cs → (k old v : ℕ)
      → get_or ws (c + k) 0 ≡ laid old v → get_or (set_all ws cs) (c + k) 0 ≡ laid (set_from old (sheets_of cs) k) v
  unfolding set_all set_from sheets_of AllFit
  all_laid ok [] ws reads fit k old v e = e
  all_laid ok (d ∷ cs) ws reads (f, fit) k old v e =
      let s = d.sheet in
      let fits : Fits ws s =
      fits_alike xs s f ws (ap (λ (r : Reading). r.number) reads ∙ ok) (ap (λ (r : Reading). r.identity) reads)
      (ap (λ (r : Reading). r.z) reads) in
      all_laid ok cs (set_image ws s) (set_reads ws s fits ∙ reads) fit k (over (byte_at s k) old) v
      (one_laid ws s fits reads k ∙ ap (laid (byte_at s k)) e ∙ laid_over (byte_at s k) old v)

-- ---- a sheet t that fits and sets what the calls' sheets set

module _ (xs : List ℕ) (ok : Read2 xs) (cs : List Call) (base : ℕ) (ys : List ℕ) (st : Stands xs (set_all xs cs) base ys)
    (fit : AllFit xs cs) (t : List ℕ) (sets : (k : ℕ) → byte_at t k ≡ set_at (sheets_of cs) k) where
  same_set : Fits xs t → set_image xs t ≡ set_all xs cs
  unfolding set_at
  same_set fits =
      ext_get_or 0 (set_image xs t) (set_all xs cs) (length_after_set xs t fits ∙ sym st.long)
      (λ k h.
      elim (dec_lt k (c xs)) [
        | yes low ↦ kept_outside xs t fits k (inl (omega arith)) ∙ sym (st.outside k (inl (omega arith)))
        | no low ↦
            let j = k - c xs in
            let e : c xs + j ≡ k = omega arith in
            let v = get_or xs (c xs + j) 0 in
            rw e at
            (one_laid xs xs t fits refl j ∙ ap (λ (b : ℕ). laid b v) (sets j) ∙ sym (all_laid xs ok cs xs refl fit j 0 v refl))
      ])

  module _ (o : List ℕ) (owner : ℕ) where
    makes : (releasing xs t base o owner).number ≡ 0 → released_image xs t base o owner ≡ ys
    makes goes =
        set_then_moved xs t base o owner goes
        ∙ ap (λ (l : List ℕ). moved_image l base) (same_set (released_fits xs t base o owner goes)) ∙ sym st.is

    shows : (releasing xs t base o owner).number ≡ 0 → Holds (owners_fit o owner (reading2 xs).z) × AllOwn o owner cs
    unfolding set_at
    shows goes =
        let takes = release_shows xs t base o owner goes in
        (takes.good, set_own o owner xs cs fit (λ k. 0) (λ k some. own_at o owner t takes.own k (λ e. some (sym (sets k) ∙ e))))

    module _ (form : Holds (sheet_fits t)) (named : Holds (same_identity (sheet_identity t) (reading2 xs).identity))
        (good : Holds (owners_fit o owner (reading2 xs).z)) (own : AllOwn o owner cs) where
      -- byte j of entry i
      abbrev Has : (ℕ → Type 0) → Type 0
      Has P = (i j : ℕ) → i < count t → j < size t i → P (offset t i + j)

      has : (P : ℕ → Type 0) → AllSet P cs → Has P
      unfolding set_at
      has P all i j h l =
          let k = offset t i + j in
          let reach : Holds (covers t i k) = (omega arith, omega arith) in
          from_set P cs all k 0 (λ n. absurd (n refl))
          (λ e. let q = sym (byte_one t form.1 i k reach h) ∙ sets k ∙ e in absurd (omega arith))

      field : (i : ℕ) → i < count t → Holds (field_fits t (reading2 xs).z i)
      field i h =
          let some : 1 ≤ size t i = (form.1.0 i h).0 in
          let inside = has (λ k. (32 ≤ k) × (k < (reading2 xs).z)) (field_all xs cs fit) in
          let low = inside i 0 h some in
          let high = inside i (size t i - 1) h (omega arith) in
          (omega (arith, low.0), omega (arith, high.1))

      goes : (releasing xs t base o owner).number ≡ 0
      goes =
          release_goes xs t base o owner
          (record {
            fits = record { read = ok; sound = record { contents = form.0; bodies = form.1; fields = field }; names = named };
            good = good;
            own = λ i h j l. has (λ k. Holds (owned o owner k)) (own_all o owner cs own) i j h l;
            legal = st.legal;
          })

-- ---- the folded sheet is one

module _ (xs : List ℕ) (p q : List ℕ) (bytes : Bytes p) (r : Folded) (x : List ℕ) (made : Folds p q r x) (taken : r.number ≡ 0) where
  names_it : (cs : List Call) → AllFit xs cs → sheets p ≡ sheets_of cs
      → Holds (same_identity (sheet_identity (take r.size x)) (reading2 xs).identity)
  unfolding sheets_of AllFit
  names_it [] fit e =
      let passed = folded_passed p q bytes r x made taken in
      let d : Piled p 0 [] = rw e at (is_piled p passed) in
      absurd (omega (arith, (first_there p passed).0))
  names_it (c ∷ cs) (f, fit) e =
      let d : Piled p 0 (c.sheet ∷ sheets_of cs) = rw e at (is_piled p (folded_passed p q bytes r x made taken)) in
      let who : sheet_identity (take r.size x) ≡ sheet_identity c.sheet =
      folded_names p q bytes r x made taken ∙ ap sheet_identity (sym d.0) in
      let n = f.names in (
        ap (λ (i : Identity). i.image) who ∙ n.0,
        (ap (λ (i : Identity). i.revision) who ∙ n.1.0, ap (λ (i : Identity). i.extended) who ∙ n.1.1),
      )

pub folded_year : FoldedYear
folded_year xs cs ms ys bx ok bs plays p q r x bytes piled made taken o owner m ws (answer, image) =
    let st = year_stands xs bx ok cs ms ys bs plays in
    let fit = all_fit xs ok cs ms xs ys (record { bytes = bx; who = refl; long = refl }) bs plays in
    let base = last_base (reading2 xs).base (accepted cs ms) in
    let t = take r.size x in
    let sets : (k : ℕ) → byte_at t k ≡ set_at (sheets_of (accepted cs ms)) k = λ k. rw piled at (folded_sets p q bytes r x made taken k) in
    let number = ap (λ (n : Moved). n.number) answer in (
      (λ e. image ∙ makes xs ok (accepted cs ms) base ys st fit t sets o owner (sym number ∙ e)),
      (λ e. shows xs ok (accepted cs ms) base ys st fit t sets o owner (sym number ∙ e)),
      λ good own. number ∙ goes xs ok (accepted cs ms) base ys st fit t sets o owner (folded_fits p q bytes r x made taken)
          (names_it xs p q bytes r x made taken (accepted cs ms) fit piled) good own,
    )
