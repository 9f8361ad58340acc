-- A file that is as released is so byte for byte; and that speaks of something.
-- Assumes nothing.
use Rattle.std.specs.Prelude.{ℕ, ◌+◌, ◌≤◌, ◌<◌, ◌⊎◌, ◌≡◌, refl, length, get_or, List, [], ◌∷◌}
use Rattle.std.proofs.Common.{inl, inr, sym, ◌∙◌, arith, ext_get_or, ap}
use Rattle.std.proofs.Math.Decide.{dec_lt, ℕ_discrete}
use Rattle.facts.specs.Fact.{Holds}
use Rattle.words.specs.Le.{le, Bytes}
use Rattle.header.specs.Base.{legal_base}
use Rattle.answers.specs.declared.Reading.{Reading}
use Rattle.answers.specs.declared.Moved.{Moved}
use Rattle.answers.specs.declared.Audited.{Audited}
use Rattle.reading_rules.specs.Reading.{rebased, reading2, Read2}
use Rattle.reading_rules.specs.Edition.{guaranteed}
use Rattle.move_image.specs.Moving.{moved_image}
use Rattle.release_steps.specs.MoveStep.{length_after, moved_reads, moved_on, moved_nowhere}
use Rattle.release.specs.Release.{releasing}
use Rattle.release_laws.specs.Theorems.{released_legal, empty_moves}
use Rattle.audit_count.specs.Differences.{differences, entry}
use Rattle.audit_count.specs.DifferenceLaws.{counts}
use Rattle.audit.specs.Audit.{shipped_base, reference, told_by, differing, auditing, listed}
use Rattle.audit.specs.AuditLaws.{Accepted, audit_accepted}
use Rattle.demands.specs.Calls.{Call, SheetBytes}
use Rattle.demands.specs.Stored.{Store, in_places, in_bytes}
use Rattle.demands.specs.StoredLaws.{place_is, bytes_are}
use Rattle.demands.specs.Editions.{read_too, told_two, shipped_two, reference_two}
use Rattle.demands.specs.Explained.{differs_at, all_listed, told_always, told_number}
use Rattle.demands.specs.MadeLaws.{made_explains}
use Rattle.demands.specs.Met.{maker_bytes, maker_reads}
use Rattle.year.specs.Year.{Plays, accepted, last_base, set_all}
use Rattle.year.specs.YearLaws.{Stands, year_stands}
use Rattle.year.specs.YearHolds.{year}
use Rattle.year.specs.YearMet.{maker, calls, answered, x₅, plays}
use Rattle.year.specs.YearMet as played
use Rattle.year.specs.AsReleased.{Clean, MovedAlone, apart, Told, AsReleased, AllTaken, EachTaken}

-- ---- ws is the image zs, moved to a legal base

record Beside (zs ws : List ℕ) : Type 0 where
  base : ℕ
  legal : Holds (legal_base (length zs) base)
  is : ws ≡ moved_image zs base

module _ (zs : List ℕ) (bytes : Bytes zs) (read : Read2 zs) where
  beside_of : (ws : List ℕ) → (ws ≡ zs) ⊎ MovedAlone zs ws → Beside zs ws
  beside_of ws (inl e) =
      record { base = (reading2 zs).base; legal = (guaranteed zs read).legal; is = e ∙ sym (moved_nowhere zs bytes read) }
  beside_of ws (inr m) =
      let ok : (releasing zs m.sheet m.base m.list m.owner).number ≡ 0 =
      ap (λ (q : Moved). q.number) (sym m.released.0) ∙ m.taken in
      record {
        base = m.base;
        legal = released_legal zs m.sheet m.base m.list m.owner ok;
        is = m.released.1 ∙ empty_moves zs m.sheet m.base m.list m.owner ok bytes m.bytes m.empty;
      }

  -- ---- an accepted audit of ys against it

  module _ (ws ys : List ℕ) (w : Beside zs ws) (n : ℕ) (ok : (auditing ws ys n).number ≡ 0) where
    abbrev a : Audited
    a = auditing ws ys n

    reads : reading2 ws ≡ rebased (reading2 zs) w.base
    reads = ap (λ (l : List ℕ). reading2 l) w.is ∙ moved_reads zs bytes read w.base w.legal

    fine : Read2 ws
    fine = ap (λ (r : Reading). r.number) reads ∙ read

    as_long : length ws ≡ length zs
    as_long = ap (λ (l : List ℕ). length l) w.is ∙ length_after zs bytes read w.base w.legal

    passed : Accepted ws ys n
    passed = audit_accepted ws ys n ok

    counted : (a.base ≡ shipped_base ws ys) × (a.settings + a.strays ≡ length (differing ws ys))
    counted =
        let t = told_always ws ys n passed.read passed.paired passed.legal in
        let sum = counts (told_by ws) (differing ws ys) in
        (t.0, omega (arith, t.1, t.2, sum))

    -- it is compared with zs at the file's own base
    against : reference ws ys ≡ moved_image zs a.base
    against =
        reference_two ws ys fine ∙ ap (λ (l : List ℕ). moved_image l (shipped_base ws ys)) w.is
        ∙ moved_on zs bytes read w.base w.legal (shipped_base ws ys) (rw as_long at passed.legal)
        ∙ ap (λ (b : ℕ). moved_image zs b) (sym counted.0)

    found : differing ws ys ≡ apart zs ys a
    unfolding differing
    found =
        ap (λ (ref : List ℕ). differences ref ys 0 (length ws)) against
        ∙ ap (λ (k : ℕ). differences (moved_image zs a.base) ys 0 k) as_long

    many : a.settings + a.strays ≡ length (apart zs ys a)
    many = counted.1 ∙ ap (λ (ks : List ℕ). length ks) found

    plain : (k : ℕ) → entry (told_by ws) k ≡ entry (reading2 zs) k
    unfolding entry
    plain k = ap (λ (r : Reading). entry r k) (told_two ws ys fine ∙ reads)

    -- at the base of zs that is zs itself
    home : reference ws ys ≡ moved_image zs (reading2 zs).base → reference ws ys ≡ zs
    home e = e ∙ moved_nowhere zs bytes read

    same : Clean a (reading2 zs).base → ys ≡ zs
    same (no_settings, no_strays, at_home) =
        let is : reference ws ys ≡ zs = home (against ∙ ap (λ (b : ℕ). moved_image zs b) at_home) in
        ext_get_or 0 ys zs (passed.paired ∙ as_long)
        (λ k h.
        elim (ℕ_discrete (get_or ys k 0) (get_or (reference ws ys) k 0)) [
          | yes e ↦ e ∙ ap (λ (l : List ℕ). get_or l k 0) is
          | no differs ↦
              let (i, inside, at) = all_listed ws ys k (omega (arith, passed.paired)) differs in
              absurd (omega (arith, counted.1))
        ])

    clean : ys ≡ zs → Clean a (reading2 zs).base
    clean e =
        let H = ap (λ (r : Reading). r.H) reads in
        let base : shipped_base ws ys ≡ (reading2 zs).base =
        shipped_two ws ys fine ∙ ap (λ (j : ℕ). le 4 ys (j + 28)) H ∙ ap (λ (l : List ℕ). le 4 l ((reading2 zs).H + 28)) e
        ∙ sym (guaranteed zs read).base_is in
        let at_home = counted.0 ∙ base in
        let is : reference ws ys ≡ zs = home (against ∙ ap (λ (b : ℕ). moved_image zs b) at_home) in
        let none : length (differing ws ys) ≡ 0 =
        elim (dec_lt 0 (length (differing ws ys))) [
          | no h ↦ omega arith
          | yes h ↦
              let k = get_or (differing ws ys) 0 0 in
              absurd ((differs_at ws ys 0 h).1 (ap (λ (l : List ℕ). get_or l k 0) (e ∙ sym is)))
        ] in
        (omega (arith, counted.1), omega (arith, counted.1), at_home)

    told : (st : Store) (l : List ℕ)
        → ((i : ℕ) → i < length (differing ws ys) → st.entry l i ≡ entry (told_by ws) (get_or (differing ws ys) i 0))
        → Told st zs (reading2 zs).base ys a l
    told st l marked =
        record {
          same = same;
          clean = clean;
          many = many;
          listed = λ i h. marked i (rw counted.1 at h) ∙ plain (get_or (differing ws ys) i 0)
              ∙ ap (λ (ks : List ℕ). entry (reading2 zs) (get_or ks i 0)) found;
          home = moved_nowhere zs bytes read;
        }

-- ---- what the steps left reads at the last base

module _ (xs : List ℕ) (cs : List Call) (base : ℕ) (zs : List ℕ) (ok : Read2 xs) (st : Stands xs (set_all xs cs) base zs) where
  left_reads : reading2 zs ≡ rebased (reading2 xs) base
  left_reads =
      ap (λ (l : List ℕ). reading2 l) st.is
      ∙ moved_reads (set_all xs cs) st.bytes (ap (λ (r : Reading). r.number) st.reads ∙ ok) base (rw st.long st.legal)
      ∙ ap (λ (r : Reading). rebased r base) st.reads

module _ (xs : List ℕ) (cs : List Call) (ms : List Moved) (zs : List ℕ) (bx : Bytes xs) (ok : Read2 xs) (bs : SheetBytes cs)
    (made : Plays xs cs ms zs) where
  abbrev last : ℕ
  last = last_base (reading2 xs).base (accepted cs ms)

  st : Stands xs (set_all xs (accepted cs ms)) last zs
  st = year_stands xs bx ok cs ms zs bs made

  home_is : (reading2 zs).base ≡ last
  home_is = ap (λ (r : Reading). r.base) (left_reads xs (accepted cs ms) last zs ok st)

  read : Read2 zs
  read = ap (λ (r : Reading). r.number) (left_reads xs (accepted cs ms) last zs ok st) ∙ ok

  bytes : Bytes zs
  bytes = (made_explains xs ok bx st.made).0

  told_so : (ws ys : List ℕ) → (ws ≡ zs) ⊎ MovedAlone zs ws → (store : Store) (before l : List ℕ) (a : Audited)
      → a ≡ auditing ws ys (store.room before) → a.number ≡ 0
      → ((auditing ws ys (store.room before)).number ≡ 0 → (i : ℕ) → i < length (differing ws ys)
      → store.entry l i ≡ entry (told_by ws) (get_or (differing ws ys) i 0))
      → Told store zs last ys a l
  told_so ws ys beside store before l a is none marked =
      let fine : (auditing ws ys (store.room before)).number ≡ 0 = sym (ap (λ (q : Audited). q.number) is) ∙ none in
      rw (is, ← home_is) (told zs bytes read ws ys (beside_of zs bytes read ws beside) (store.room before) fine store l (marked fine))

pub as_released : AsReleased
as_released = (
  (λ xs cs ms zs bx ok bs made ws ys before a l beside is none.
      let t = told_so xs cs ms zs bx ok bs made ws ys beside in_places before l a is.0 none (λ z. rw is.1 (place_is ws ys before z)) in
      (t, λ c first b k against room. year.0 xs cs ms zs first b k bx ok bs made (rw (t.same c) at against) room)),
  (λ xs cs ms zs bx ok bs made ws ys before a l beside is none.
      let t = told_so xs cs ms zs bx ok bs made ws ys beside in_bytes before l a is.0 none (λ z. rw is.1 (bytes_are ws ys before z)) in
      (t, λ c first b k against room. year.1 xs cs ms zs first b k bx ok bs made (rw (t.same c) at against) room)),
)

pub each_taken : EachTaken
unfolding Plays accepted AllTaken
each_taken xs [] ms zs made all = refl
each_taken xs (c ∷ cs) [] zs made all = absurd made
each_taken xs (c ∷ cs) (m ∷ ms) zs (ys, one, more) (zero, all) =
    rw zero (ap (λ (l : List Call). c ∷ l) (each_taken ys cs ms zs more all))

-- ---- and speaks of something: what the five calls left, held against itself

pub file_audits : (auditing x₅ x₅ 0).number ≡ 0
file_audits =
    let fine = read maker calls answered x₅ maker_bytes maker_reads played.sheets plays in
    let own = bytes maker calls answered x₅ maker_bytes maker_reads played.sheets plays in
    let base : shipped_base x₅ x₅ ≡ (reading2 x₅).base = shipped_two x₅ x₅ fine ∙ sym (guaranteed x₅ fine).base_is in
    let is : reference x₅ x₅ ≡ x₅ =
    reference_two x₅ x₅ fine ∙ ap (λ (b : ℕ). moved_image x₅ b) base ∙ moved_nowhere x₅ own fine in
    let none : length (differing x₅ x₅) ≤ 0 =
    elim (dec_lt 0 (length (differing x₅ x₅))) [
      | no h ↦ omega arith
      | yes h ↦
          let k = get_or (differing x₅ x₅) 0 0 in
          absurd ((differs_at x₅ x₅ 0 h).1 (ap (λ (l : List ℕ). get_or l k 0) (sym is)))
    ] in
    told_number x₅ x₅ 0 (read_too x₅ x₅ fine) refl (rw base (guaranteed x₅ fine).legal) none

pub file_clean : Clean (auditing x₅ x₅ 0) 0x00200000
file_clean =
    rw played.last at
    ((as_released.0 maker calls answered x₅ maker_bytes maker_reads played.sheets plays x₅ x₅ [] (auditing x₅ x₅ 0) (listed x₅ x₅ [])
    (inl refl) (refl, refl) file_audits).0.clean refl)
