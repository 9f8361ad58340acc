-- The three demands, "explained means released" and "a chain is one release" hold.
-- Assumes nothing.
use Rattle.std.specs.Prelude.{ℕ, ◌*◌, ◌/◌, ◌≤◌, ◌<◌, true, List, ◌⊎◌, ◌≡◌, refl, length, get_or}
use Rattle.std.proofs.Common.{inl, inr, sym, ap, ◌∙◌, arith}
use Rattle.facts.specs.Fact.{Holds}
use Rattle.facts.specs.Rules.{run}
use Rattle.facts.specs.RulesLaws.{by_test}
use Rattle.words.specs.Le.{Bytes}
use Rattle.header.specs.Base.{legal_base}
use Rattle.reading_rules.specs.Reading.{Read, Older, Read2}
use Rattle.reading_rules.specs.NumbersLaws.{numbered}
use Rattle.answers.specs.declared.Moved.{Moved}
use Rattle.sheet.specs.declared.SheetReading.{SheetReading}
use Rattle.sheet.specs.Sheet.{sheet_fits}
use Rattle.sheet.specs.ReadSheet.{sheet_reading}
use Rattle.setting.specs.Theorems.{lookup_numbered}
use Rattle.release.specs.Release.{releasing}
use Rattle.release.specs.ReleaseLaws.{release_kept, release_shows, release_accepted}
use Rattle.release_laws.specs.Theorems.{release_numbered, released_fits, set_then_moved, moved_then_set, released_reads, released_entry, released_word, released_other, entry_beside, empty_moves, present_sets, there_and_back}
use Rattle.contents.specs.Theorems.{listing_numbered, contents_kept}
use Rattle.answers.specs.declared.Audited.{Audited}
use Rattle.audit_count.specs.Differences.{entry}
use Rattle.audit.specs.Audit.{shipped_base, reference, told_by, differing, auditing}
use Rattle.audit.specs.AuditLaws.{older_reference, older_settings, older_strays, older_bits, older_entry, audit_numbered, list_kept, bytes_kept, Accepted, audit_accepted, names, fits}
use Rattle.demands.specs.Made.{Made, start, then}
use Rattle.demands.specs.MadeLaws.{made_explains}
use Rattle.demands.specs.Always.{made_explained}
use Rattle.demands.specs.Makes.{Makes}
use Rattle.demands.specs.MakesLaws.{explains_made}
use Rattle.demands.specs.Editions.{read_too, told_two, reference_two}
use Rattle.demands.specs.Nowhere.{plain_equal}
use Rattle.demands.specs.Explained.{explained_shows, ascending, differs_at, all_listed, told_always, told_number, told_short, turned}
use Rattle.demands.specs.Stored.{Store, in_places, in_bytes}
use Rattle.demands.specs.StoredLaws.{length_listed, place_is, place_kept, length_listed_bytes, bytes_are, byte_kept}
use Rattle.demands.specs.Demands.{AuditedRight, ExplainedRight, PlainRight, ChainOne, Demand1, Demand2, Demand2Accepted, Demand3, Demand3Older, ExplainedReleased}

-- ---- they hold

sheet_numbered : (s : List ℕ) → ((sheet_reading s).number ≡ 0) ⊎ ((sheet_reading s).number ≡ 15)
unfolding sheet_reading run
sheet_numbered s =
    by_test (λ (r : SheetReading). (r.number ≡ 0) ⊎ (r.number ≡ 15)) (sheet_fits s) _ _ (λ h. inl refl) (λ h. inr refl)

pub demand_1 : Demand1
demand_1 = (
  (λ xs r is. rw is (numbered xs)),
  (λ s r is. rw is (sheet_numbered s)),
  (λ xs s base o owner r ys is. rw (is.0, is.1) (release_numbered xs s base o owner, release_kept xs s base o owner)),
  (λ xs offset size k is. rw is (lookup_numbered xs offset size)),
  (λ xs ys places a l is. rw (is.0, is.1) (audit_numbered xs ys (length places), list_kept xs ys places)),
  (λ xs ys bytes a l is. rw (is.0, is.1) (audit_numbered xs ys (length bytes / 4), bytes_kept xs ys bytes)),
  (λ xs bytes a l is. rw (is.0, is.1) (listing_numbered xs (length bytes), contents_kept xs bytes)),
)

pub demand_2 : Demand2
demand_2 xs s base o owner r ys bx bs (answer, image) zero =
    let ok : (releasing xs s base o owner).number ≡ 0 = sym (ap (λ (m : Moved). m.number) answer) ∙ zero in
    record {
      answer = answer ∙ release_accepted xs s base o owner (release_shows xs s base o owner ok);
      entries = rw image (released_entry xs s base o owner ok bx bs);
      words = rw image (released_word xs s base o owner ok bx bs);
      apart = entry_beside xs s (released_fits xs s base o owner ok);
      others = rw image (released_other xs s base o owner ok bx bs);
      reads = rw image (released_reads xs s base o owner ok bx bs);
      set_first = image ∙ set_then_moved xs s base o owner ok;
      move_first = image ∙ moved_then_set xs s base o owner ok bx bs;
      empty = λ none. image ∙ empty_moves xs s base o owner ok bx bs none;
      present = λ same. image ∙ present_sets xs s base o owner ok bx bs same;
      back = λ none m zs is.
          let (goes, home) = there_and_back xs s base o owner bx bs none ok in
          (ap (λ (q : Moved). q.number) is.0 ∙ rw image goes, is.1 ∙ rw image home);
    }

pub demand_2_accepted : Demand2Accepted
demand_2_accepted xs s base o owner r ys (answer, image) = (
  (λ zero. release_shows xs s base o owner (sym (ap (λ (m : Moved). m.number) answer) ∙ zero)),
  λ h. ap (λ (m : Moved). m.number) (answer ∙ release_accepted xs s base o owner h),
)

-- demand 3 of any way to store entries, by what a call leaves in its list
module _ (st : Store) (xs ys before : List ℕ) (a : Audited) (l : List ℕ) (b : Bytes xs) (long : length ys ≡ length xs)
    (legal : Holds (legal_base (length xs) (shipped_base xs ys))) (answer : a ≡ auditing xs ys (st.room before))
    (marked : (auditing xs ys (st.room before)).number ≡ 0 → (i : ℕ) → i < length (differing xs ys)
    → st.entry l i ≡ entry (told_by xs) (get_or (differing xs ys) i 0))
    (kept : (auditing xs ys (st.room before)).number ≡ 0 → (i : ℕ) → st.size * length (differing xs ys) ≤ i
    → get_or l i 0 ≡ get_or before i 0)
    (as_long : length l ≡ length before) (unchanged : ((auditing xs ys (st.room before)).number ≡ 0 → ⊥) → l ≡ before) where
  audited_right : Read xs → AuditedRight st xs ys before a l (differing xs ys)
  audited_right ok =
      let n = st.room before in
      let true_counts = told_always xs ys n ok long legal in
      record {
        ascends = ascending xs ys;
        differs = differs_at xs ys;
        all = all_listed xs ys;
        base = rw answer true_counts.0;
        settings_true = rw answer true_counts.1;
        strays_true = rw answer true_counts.2;
        bits_true = rw answer true_counts.3;
        number = λ room. rw answer (told_number xs ys n ok long legal room);
        marked = λ room. marked (told_number xs ys n ok long legal room);
        kept = λ room. kept (told_number xs ys n ok long legal room);
        long = as_long;
        short = λ room.
            let (number, explained) = told_short xs ys n ok long legal room in
            (rw answer number, rw answer explained, unchanged (λ z. omega arith));
      }

  explained_right : Read2 xs → ExplainedRight st xs ys before a (differing xs ys)
  explained_right ok =
      let n = st.room before in
      record {
        by_reading = told_two xs ys ok;
        against = reference_two xs ys ok;
        shown = λ room e. (turned xs ys b ok n long legal room).0 (rw answer at e);
        said = λ room base part t. rw answer ((turned xs ys b ok n long legal room).1 base part t);
      }

  plain_right : Older xs → PlainRight st xs ys before a l (differing xs ys)
  plain_right old =
      let n = st.room before in
      let true_counts = told_always xs ys n old.0 long legal in
      record {
        against = older_reference xs ys old;
        strays_all =
            rw answer (
              true_counts.1 ∙ older_settings xs ys old (differing xs ys),
              true_counts.2 ∙ older_strays xs ys old (differing xs ys),
              true_counts.3 ∙ older_bits xs ys old (reference xs ys) ys (differing xs ys),
            );
        as_strays = λ room i h.
            marked (told_number xs ys n old.0 long legal room) i h ∙ older_entry xs ys old (get_or (differing xs ys) i 0);
        shown = λ room e. (plain_equal xs ys n old long legal room).0 (rw answer at e);
        said = λ room e. rw answer ((plain_equal xs ys n old long legal room).1 e);
      }

pub demand_3 : Demand3
demand_3 = (
  (λ xs ys places a l b ok long legal is. (
    differing xs ys,
    audited_right in_places xs ys places a l b long legal is.0 (λ z. rw is.1 (place_is xs ys places z))
        (λ z i h. rw is.1 (place_kept xs ys places z i (omega arith))) (ap length is.1 ∙ length_listed xs ys places)
        (λ h. is.1 ∙ list_kept xs ys places h) (read_too xs ys ok),
    explained_right in_places xs ys places a l b long legal is.0 (λ z. rw is.1 (place_is xs ys places z))
        (λ z i h. rw is.1 (place_kept xs ys places z i (omega arith))) (ap length is.1 ∙ length_listed xs ys places)
        (λ h. is.1 ∙ list_kept xs ys places h) ok,
  )),
  (λ xs ys bytes a l b ok long legal is. (
    differing xs ys,
    audited_right in_bytes xs ys bytes a l b long legal is.0 (λ z. rw is.1 (bytes_are xs ys bytes z))
        (λ z. rw is.1 (byte_kept xs ys bytes z)) (ap length is.1 ∙ length_listed_bytes xs ys bytes)
        (λ h. is.1 ∙ bytes_kept xs ys bytes h) (read_too xs ys ok),
    explained_right in_bytes xs ys bytes a l b long legal is.0 (λ z. rw is.1 (bytes_are xs ys bytes z))
        (λ z. rw is.1 (byte_kept xs ys bytes z)) (ap length is.1 ∙ length_listed_bytes xs ys bytes)
        (λ h. is.1 ∙ bytes_kept xs ys bytes h) ok,
  )),
)

pub demand_3_older : Demand3Older
demand_3_older = (
  (λ xs ys places a l b old long legal is. (
    differing xs ys,
    audited_right in_places xs ys places a l b long legal is.0 (λ z. rw is.1 (place_is xs ys places z))
        (λ z i h. rw is.1 (place_kept xs ys places z i (omega arith))) (ap length is.1 ∙ length_listed xs ys places)
        (λ h. is.1 ∙ list_kept xs ys places h) old.0,
    plain_right in_places xs ys places a l b long legal is.0 (λ z. rw is.1 (place_is xs ys places z))
        (λ z i h. rw is.1 (place_kept xs ys places z i (omega arith))) (ap length is.1 ∙ length_listed xs ys places)
        (λ h. is.1 ∙ list_kept xs ys places h) old,
  )),
  (λ xs ys bytes a l b old long legal is. (
    differing xs ys,
    audited_right in_bytes xs ys bytes a l b long legal is.0 (λ z. rw is.1 (bytes_are xs ys bytes z))
        (λ z. rw is.1 (byte_kept xs ys bytes z)) (ap length is.1 ∙ length_listed_bytes xs ys bytes)
        (λ h. is.1 ∙ bytes_kept xs ys bytes h) old.0,
    plain_right in_bytes xs ys bytes a l b long legal is.0 (λ z. rw is.1 (bytes_are xs ys bytes z))
        (λ z. rw is.1 (byte_kept xs ys bytes z)) (ap length is.1 ∙ length_listed_bytes xs ys bytes)
        (λ h. is.1 ∙ bytes_kept xs ys bytes h) old,
  )),
)

pub explained_released : ExplainedReleased
explained_released xs ys places a l bx by read zero (answer, list) = (shown, said)
  where
    ok : (auditing xs ys (length places)).number ≡ 0
    ok = sym (ap (λ (q : Audited). q.number) answer) ∙ zero

    passed : Accepted xs ys (length places)
    passed = audit_accepted xs ys (length places) ok

    shown : a.explained ≡ true → (s : List ℕ) × (o : List ℕ) × Makes xs ys a.base s o 1
    shown e =
        rw (answer, names xs ys (length places) ok)
        (explains_made xs ys bx by read (shipped_base xs ys)
        (explained_shows xs ys bx read (length places) passed.paired passed.legal (fits xs ys (length places) ok)
        (rw answer at e)))

    said : (base : ℕ) (s o : List ℕ) (owner : ℕ) → Makes xs ys base s o owner → (a.explained ≡ true) × (a.base ≡ base)
    said base s o owner m =
        let made : Made xs ys base = rw m.is at (then start s base o owner m.bytes m.goes) in
        rw answer (made_explained xs ys (length places) base read bx made (fits xs ys (length places) ok))

pub chain_one : ChainOne
chain_one xs zs base bx ok made =
    let (bz, e) = made_explains xs ok bx made in
    explains_made xs zs bx bz ok base e
