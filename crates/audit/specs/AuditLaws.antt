-- The answer of an audit and its list, case by case.
-- Assumes nothing.
use Rattle.std.specs.Prelude.{◌≡◌, refl, List, [], ◌∷◌, false, ℕ, ◌+◌, ◌/◌, ◌^◌, ◌≤◌, ◌<◌, eqb}
use Rattle.std.proofs.Math.Path.{sym, ap}
use Rattle.std.proofs.Common.{◌∙◌}
use native.Mathlib.Omega.{arith}
use Rattle.std.proofs.Math.Decide.{ℕ_discrete}
use Rattle.std.proofs.Math.ListN.{length}
use Rattle.std.proofs.lemmas.List.Edits.{sets}
use borrow.Author.Tests.{le-leb, lt-leb}
use Rattle.facts.specs.Fact.{Holds, ◌≤?◌, ◌≡?◌, test}
use Rattle.facts.specs.FactLaws.{passes, fails}
use Rattle.facts.specs.Rules.{Rules, rule, answer, run}
use Rattle.facts.specs.RulesLaws.{passed, by_test}
use Rattle.words.specs.Put.{put_all}
use Rattle.header.specs.Base.{legal_base}
use Rattle.answers.specs.declared.Reading.{Reading}
use Rattle.reading_rules.specs.Reading.{parted, edition1, reading, Older}
use Rattle.answers.specs.After.{unless_refused}
use Rattle.answers.specs.AfterLaws.{after_accepted, after_refused, changed_so, kept_so}
use Rattle.reading_rules.specs.Guarantee.{Later, Guaranteed, guaranteed, shared}
use Rattle.reading_rules.specs.Numbers.{Numbered, OwnAudit}
use Rattle.reading_rules.specs.NumbersLaws.{after_every, numbered_own, own_number, own_zero}
use Rattle.moves.specs.Moves.{difference}
use Rattle.move_modules.specs.Widths.{moved_by_width}
use Rattle.reading_rules.specs.Words.{words_of}
use Rattle.reading_rules.specs.WordsLaws.{widths}
use Rattle.move_image.specs.Moving.{move_to}
use Rattle.answers.specs.declared.Audited.{Audited}
use Rattle.audit_count.specs.declared.Counts.{Counts}
use Rattle.audit_count.specs.Differences.{differences, setting, entry, settings, strays, bits, entries, counts_of}
use Rattle.audit_plain.specs.Plain.{strayed}
use Rattle.audit_plain.specs.PlainLaws.{no_settings, only_strays, no_bits, stray_entries, stray_counts}
use Rattle.audit.specs.Audit.{shipped_base, reference, told_by, differing, refused_audit, carried, tally, auditing, listed, listed_bytes, listing}
use Rattle.audit_step.specs.Stride.{by}
use Rattle.audit_count.specs.DifferenceLaws.{counts, few}

-- ---- by the edition

-- the two files are a pair: the vendor's reading is r and accepted, they are of one length, and the shipped base is legal
abbrev pub Paired : List ℕ → List ℕ → Reading → ℕ → Type 0
Paired xs ys r base =
    (r ≡ reading xs) × ((reading xs).number ≡ 0) × (length ys ≡ length xs) × (base ≡ shipped_base xs ys)
    × Holds (legal_base (length xs) base)

module _ (xs ys : List ℕ) where
  not_older : Later xs → Older xs → ⊥
  not_older later old = omega (arith, later.1, old.1)

  pub later_told : Later xs → told_by xs ≡ reading xs
  unfolding told_by
  later_told later = rw (fails (edition1 (reading xs)) (not_older later))

  pub later_reference : Later xs → reference xs ys ≡ move_to xs (reading xs) (shipped_base xs ys)
  unfolding reference
  later_reference later = rw (fails (edition1 (reading xs)) (not_older later))

  pub older_told : Older xs → told_by xs ≡ parted (reading xs) 0 0
  unfolding told_by
  older_told old = rw (passes (edition1 (reading xs)) old)

  pub older_reference : Older xs → reference xs ys ≡ xs
  unfolding reference
  older_reference old = rw (passes (edition1 (reading xs)) old)

  pub older_settings : Older xs → (ks : List ℕ) → settings (told_by xs) ks ≡ 0
  older_settings old ks = rw (older_told old) (no_settings (parted (reading xs) 0 0) refl refl ks)

  pub older_strays : Older xs → (ks : List ℕ) → strays (told_by xs) ks ≡ length ks
  older_strays old ks = rw (older_told old) (only_strays (parted (reading xs) 0 0) refl refl ks)

  pub older_bits : Older xs → (a b ks : List ℕ) → bits a b (told_by xs) ks ≡ 0
  older_bits old a b ks = rw (older_told old) (no_bits (parted (reading xs) 0 0) refl refl a b ks)

  pub older_entry : Older xs → (k : ℕ) → entry (told_by xs) k ≡ k + 16777216
  unfolding entry
  older_entry old k =
      rw (older_told old, fails (setting (parted (reading xs) 0 0) k) (λ h. omega (arith, h.0, h.1)))

  -- what of an edition 1 image is counted and listed: every difference, as a stray
  pub older_counts : Older xs
      → counts_of (reference xs ys) ys (told_by xs) ≡ record { settings = 0; strays = length (differences xs ys 0 (length ys)); bits = 0 }
  older_counts old =
      ap (λ (l : List ℕ). counts_of l ys (told_by xs)) (older_reference old) ∙ ap (λ (r : Reading). counts_of xs ys r) (older_told old)
      ∙ stray_counts (parted (reading xs) 0 0) refl refl xs ys

  pub older_entries : Older xs → (ks : List ℕ) → entries (told_by xs) ks ≡ strayed ks
  older_entries old ks =
      ap (λ (r : Reading). entries r ks) (older_told old) ∙ stray_entries (parted (reading xs) 0 0) refl refl ks

  -- of one of edition 2: the reference, as the walk moves each word
  pub by_reference : (four eight : ℕ) → Later xs → four ≡ difference (reading xs).base (shipped_base xs ys) 4
      → eight ≡ difference (reading xs).base (shipped_base xs ys) 8 → by xs (reading xs) four eight ≡ reference xs ys
  unfolding move_to
  by_reference four eight later e f =
      rw (e, f)
      (moved_by_width xs (words_of xs (reading xs)) (difference (reading xs).base (shipped_base xs ys))
      (widths xs (reading xs) (guaranteed xs later)))
      ∙ sym (later_reference later)

module _ (xs ys : List ℕ) (room : ℕ) (t : Counts) (long : length ys ≡ length xs)
    (totals : t ≡ counts_of (reference xs ys) ys (told_by xs)) where
  pub all_settings : settings (told_by xs) (differing xs ys) ≡ t.settings
  unfolding differing counts_of
  all_settings = rw (← long) (sym (ap (λ (q : Counts). q.settings) totals))

  pub all_strays : strays (told_by xs) (differing xs ys) ≡ t.strays
  unfolding differing counts_of
  all_strays = rw (← long) (sym (ap (λ (q : Counts). q.strays) totals))

  all_bits : bits (reference xs ys) ys (told_by xs) (differing xs ys) ≡ t.bits
  unfolding differing counts_of
  all_bits = rw (← long) (sym (ap (λ (q : Counts). q.bits) totals))

  -- as many as there are differences
  pub how_many_lem : t.settings + t.strays ≡ length (differing xs ys)
  how_many_lem = rw (← all_settings, ← all_strays) (counts (told_by xs) (differing xs ys))

  pub tally_fits : t.settings + t.strays ≤ room → tally xs ys room ≡ carried 0 (shipped_base xs ys) t (eqb t.strays 0)
  unfolding tally test
  tally_fits h = rw (all_settings, all_strays, all_bits, le-leb (t.settings + t.strays) room h)

  pub tally_full : room < t.settings + t.strays → tally xs ys room ≡ carried 20 (shipped_base xs ys) t false
  unfolding tally test
  tally_full h = rw (all_settings, all_strays, all_bits, lt-leb (t.settings + t.strays) room h)

-- there are no more than positions
pub all_few : (xs ys : List ℕ) → length (differing xs ys) ≤ length xs
unfolding differing
all_few xs ys = few (reference xs ys) ys 0 (length xs)

-- ---- what a pair gives to what counts and lists, by the component of its reading

module _ (xs ys : List ℕ) (r : Reading) (base : ℕ) (pair : Paired xs ys r base) where
  -- both bases are words
  pub pair_small : (r.base < 2 ^ 32) × (base < 2 ^ 32)
  pair_small =
      let g = shared xs pair.1 in
      let legal : Holds (legal_base (length xs) r.base) = rw pair.0 g.legal in
      (omega (arith, legal, g.length_least), omega (arith, pair.4, g.length_least))

  pub pair_long : length xs ≤ 16777216
  pair_long = (shared xs pair.1).length_most

  module _ (none : r.component ≡ 0) where
    older : Older xs
    older = (pair.1, rw pair.0 at none)

    pub pair_counted : counts_of (reference xs ys) ys (told_by xs)
        ≡ record { settings = 0; strays = length (differences xs ys 0 (length ys)); bits = 0 }
    pair_counted = older_counts xs ys older

    pub pair_differing : differences xs ys 0 (length ys) ≡ differing xs ys
    unfolding differing
    pair_differing = rw (older_reference xs ys older, pair.2)

    pub pair_strays : strayed (differences xs ys 0 (length ys)) ≡ entries (told_by xs) (differing xs ys)
    pair_strays = ap (λ (ks : List ℕ). strayed ks) pair_differing ∙ sym (older_entries xs ys older (differing xs ys))

  module _ (some : r.component ≡ 0 → ⊥) where
    later : Later xs
    later = let one : 1 ≤ r.component = omega (arith, some) in (pair.1, rw pair.0 at one)

    pub pair_guaranteed : Guaranteed xs r
    pair_guaranteed = rw pair.0 (guaranteed xs later)

    module _ (four eight : ℕ) (four_is : four ≡ difference r.base base 4) (eight_is : eight ≡ difference r.base base 8) where
      moved_so : by xs r four eight ≡ reference xs ys
      moved_so =
          ap (λ (q : Reading). by xs q four eight) pair.0
          ∙ by_reference xs ys four eight later (rw (pair.0, pair.3) at four_is) (rw (pair.0, pair.3) at eight_is)

      told_so : told_by xs ≡ r
      told_so = later_told xs ys later ∙ sym pair.0

      pub pair_walked : differences (by xs r four eight) ys 0 (length ys) ≡ differing xs ys
      unfolding differing
      pair_walked = rw (moved_so, pair.2)

      pub pair_counts : counts_of (by xs r four eight) ys r ≡ counts_of (reference xs ys) ys (told_by xs)
      pair_counts = rw (moved_so, told_so)

      pub pair_entries : entries r (differences (by xs r four eight) ys 0 (length ys)) ≡ entries (told_by xs) (differing xs ys)
      pair_entries = rw (pair_walked, told_so)

empty : (l : List ℕ) → length l ≡ 0 → l ≡ []
empty [] e = refl
empty (x ∷ l) e = absurd (omega arith)

module _ (xs ys : List ℕ) (room : ℕ) where
  -- the audit's own rules
  abbrev own : Rules Audited
  own = rule 19 (length ys ≡? length xs) (rule 18 (legal_base (length xs) (shipped_base xs ys)) (answer (tally xs ys room)))

  pub audit_unread : ((reading xs).number ≡ 0 → ⊥) → auditing xs ys room ≡ refused_audit (reading xs).number (reading xs).index
  unfolding auditing
  audit_unread h = after_refused refused_audit (reading xs) own h

  module _ (ok : (reading xs).number ≡ 0) where
    judged : auditing xs ys room ≡ run refused_audit own
    unfolding auditing
    judged = after_accepted refused_audit (reading xs) own ok

    pub audit_unpaired : (length ys ≡ length xs → ⊥) → auditing xs ys room ≡ refused_audit 19 0
    unfolding run
    audit_unpaired h = judged ∙ rw (fails (length ys ≡? length xs) h)

    pub audit_illegal : length ys ≡ length xs → (Holds (legal_base (length xs) (shipped_base xs ys)) → ⊥)
        → auditing xs ys room ≡ refused_audit 18 0
    unfolding run
    audit_illegal long h = judged ∙ rw (passes (length ys ≡? length xs) long, fails (legal_base (length xs) (shipped_base xs ys)) h)

    pub audit_told : length ys ≡ length xs → Holds (legal_base (length xs) (shipped_base xs ys)) → auditing xs ys room ≡ tally xs ys room
    unfolding run
    audit_told long legal = judged ∙ rw (passes (length ys ≡? length xs) long, passes (legal_base (length xs) (shipped_base xs ys)) legal)

  -- what an accepted audit has passed
  pub record Accepted : Type 0 where
    pub read : (reading xs).number ≡ 0
    pub paired : length ys ≡ length xs
    pub legal : Holds (legal_base (length xs) (shipped_base xs ys))
    pub told : auditing xs ys room ≡ tally xs ys room

  pub audit_accepted : (auditing xs ys room).number ≡ 0 → Accepted
  audit_accepted e =
      elim (ℕ_discrete (reading xs).number 0) [
        | no h ↦ absurd (h (ap (λ (a : Audited). a.number) (sym (audit_unread h)) ∙ e))
        | yes ok ↦
            let p =
            passed refused_audit (λ (a : Audited). a.number) (λ k i. refl) own refl
            (ap (λ (a : Audited). a.number) (sym (judged ok)) ∙ e) in
            record { read = ok; paired = p.0; legal = p.1.0; told = judged ok ∙ p.1.1 }
      ]

  module _ (ok : (auditing xs ys room).number ≡ 0) where
    -- it names the shipped base
    pub names : (auditing xs ys room).base ≡ shipped_base xs ys
    unfolding tally
    names = ap (λ (a : Audited). a.base) (audit_accepted ok).told

    -- the list has room
    pub fits : length (differing xs ys) ≤ room
    unfolding tally
    fits =
        let ks = differing xs ys in
        let e : (tally xs ys room).number ≡ 0 = ap (λ (a : Audited). a.number) (sym (audit_accepted ok).told) ∙ ok in
        by_test (λ (k : ℕ). k ≡ 0 → length ks ≤ room) (settings (told_by xs) ks + strays (told_by xs) ks ≤? room) 0 20
        (λ h z. omega (arith, h, counts (told_by xs) ks)) (λ h z. absurd (omega arith)) e

  -- an accepted audit is of such a pair
  pub accepted_pair : (r : Reading) (base : ℕ) → r ≡ reading xs → base ≡ (auditing xs ys room).base → (auditing xs ys room).number ≡ 0
      → Paired xs ys r base
  accepted_pair r base e f ok =
      let h = audit_accepted ok in
      let is : base ≡ shipped_base xs ys = f ∙ names ok in
      (e, h.read, h.paired, is, rw is h.legal)

  -- an accepted audit that has nothing to list has found no difference
  pub none : (auditing xs ys room).number ≡ 0 → (Holds (listing (auditing xs ys room)) → ⊥) → differing xs ys ≡ []
  unfolding tally
  none z h =
      let told = (audit_accepted z).told in
      elim (ℕ_discrete (auditing xs ys room).settings 0) [
        | no n ↦ absurd (h (z, λ q. n q.0))
        | yes s ↦
            elim (ℕ_discrete (auditing xs ys room).strays 0) [
              | no n ↦ absurd (h (z, λ q. n q.1))
              | yes t ↦
                  empty (differing xs ys)
                  (omega (
                    arith,
                    counts (told_by xs) (differing xs ys),
                    ap (λ (a : Audited). a.settings) told,
                    ap
                        (λ (a : Audited). a.strays) told,
                  ))
            ]
      ]

-- the list afterwards, by whether the audit is refused
pub listed_so : (number : ℕ) (changed old new : List ℕ) → (number ≡ 0 → new ≡ changed) → ((number ≡ 0 → ⊥) → new ≡ old)
    → new ≡ unless_refused number changed old
listed_so number changed old new f g =
    elim (ℕ_discrete number 0) [
      | yes z ↦ f z ∙ sym (changed_so number changed old z)
      | no n ↦ g n ∙ sym (kept_so number changed old n)
    ]

-- ---- which numbers and indices an audit answers

pub audit_numbered : (xs ys : List ℕ) (room : ℕ) → Numbered xs OwnAudit (auditing xs ys room).number (auditing xs ys room).index
unfolding auditing tally
audit_numbered xs ys room =
    let own-one = own_number xs OwnAudit in
    after_every refused_audit (λ (a : Audited). Numbered xs OwnAudit a.number a.index) (reading xs) _ (λ h. numbered_own xs OwnAudit)
    (λ ok. (
      (λ h. own-one 19 (omega arith, omega arith)),
      λ h. (
        (λ h. own-one 18 (omega arith, omega arith)),
        λ h.
            by_test (λ (k : ℕ). Numbered xs OwnAudit k 0)
            (settings (told_by xs) (differing xs ys) + strays (told_by xs) (differing xs ys) ≤? room) 0 20
            (λ e. own_zero xs OwnAudit) (λ e. own-one 20 (omega arith, omega arith)),
      ),
    ))

-- a refused audit changes no place of the list
pub list_kept : (xs ys places : List ℕ) → ((auditing xs ys (length places)).number ≡ 0 → ⊥) → listed xs ys places ≡ places
unfolding listed
list_kept xs ys places h =
    kept_so (auditing xs ys (length places)).number (sets places 0 (entries (told_by xs) (differing xs ys))) places h

pub bytes_kept : (xs ys bytes : List ℕ) → ((auditing xs ys (length bytes / 4)).number ≡ 0 → ⊥) → listed_bytes xs ys bytes ≡ bytes
unfolding listed_bytes
bytes_kept xs ys bytes h =
    kept_so (auditing xs ys (length bytes / 4)).number (put_all 4 bytes 0 (entries (told_by xs) (differing xs ys))) bytes h
