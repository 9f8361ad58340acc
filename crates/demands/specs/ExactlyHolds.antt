-- Demand 1, "exactly then", holds of every call, by one law over rules and one for a call that reads first.
-- Assumes nothing.
use Rattle.std.specs.Prelude.{ℕ, ◌+◌, ◌*◌, ◌/◌, Bool, true, false, cond, List, ◌≡◌, eqb, refl, length}
use Rattle.std.proofs.Common.{sym, ap, ◌∙◌, arith}
use Rattle.std.proofs.Math.Decide.{ℕ_discrete}
use Rattle.facts.specs.Fact.{◌≤?◌, ◌≡?◌, deny, Holds, test}
use Rattle.facts.specs.FactLaws.{passes, fails}
use Rattle.facts.specs.Rules.{Rules, run}
use Rattle.facts.specs.Exactly.{Fails, Exact}
use Rattle.facts.specs.RulesLaws.{no_zero}
use Rattle.facts.specs.ExactlyLaws.{Accepts, exact, fails_first, somewhere}
use Rattle.header.specs.Base.{legal_base}
use Rattle.answers.specs.declared.Reading.{Reading}
use Rattle.answers.specs.After.{after_reading}
use Rattle.answers.specs.AfterLaws.{after_accepted, after_refused}
use Rattle.answers.specs.ExactlyAfter.{FailsAfter}
use Rattle.answers.specs.ExactlyAfterLaws.{after_exact}
use Rattle.reading_rules.specs.Reading.{refusal, accepted, older_accepted, rules, reading, edition1, reading2}
use Rattle.reading_rules.specs.Edition.{older_28, other_same, refused_same}
use Rattle.sheet.specs.declared.SheetReading.{SheetReading}
use Rattle.sheet.specs.Sheet.{sheet_fits}
use Rattle.sheet.specs.ReadSheet.{sheet_reading}
use Rattle.setting.specs.Setting.{setting_fits, setting_number}
use Rattle.answers.specs.declared.Moved.{Moved}
use Rattle.move_answer.specs.MoveAnswer.{refused_move}
use Rattle.release_judge.specs.Judged.{name_rules, release_rules}
use Rattle.release.specs.Release.{releasing}
use Rattle.audit_count.specs.Differences.{settings, strays}
use Rattle.audit_count.specs.DifferenceLaws.{counts}
use Rattle.answers.specs.declared.Audited.{Audited}
use Rattle.audit.specs.Audit.{shipped_base, told_by, differing, refused_audit, tally, auditing}
use Rattle.answers.specs.declared.Listed.{Listed}
use Rattle.contents.specs.Listing.{listing, refused_list, contents}
use Rattle.handoff_step.specs.declared.Stepped.{Stepped}
use Rattle.handoff_step.specs.Step.{from_resource, from_guid, from_end, from_later, from_first, from_head, step_rules, stepped}
use Rattle.handoff_step.specs.Step as step
use Rattle.demands.specs.Exactly.{Exactly, edition_rule, ReadFails, ReleaseFails, LookupFails, AuditFails, ListFails, lookup_rules, audit_rules, list_rules, sheet_rules}

-- a number and an index
abbrev both : ℕ → ℕ → ℕ × ℕ
both k i = (k, i)

-- what is taken of one of two is one of what is taken of each
taken : {A B : Type 0} (f : A → B) (b : Bool) (x y : A) → f (cond b x y) ≡ cond b (f x) (f y)
taken f true x y = refl
taken f false x y = refl

-- ---- of a reading

pub read_exactly : (xs : List ℕ) → Exact (ReadFails xs) (reading xs).number (reading xs).index
unfolding reading rules accepted older_accepted
read_exactly xs =
    exact refusal (λ (r : Reading). r.number) (λ (r : Reading). r.index) (λ k i. refl) (rules xs) (λ k i h. refl) (refl, refl) refl

-- ---- of what follows it

-- 28 after the reading is the reading for edition 2
after_2 : {A : Type 0} (refuse : ℕ → ℕ → A) (xs : List ℕ) (t : Rules A)
    → after_reading refuse (reading2 xs) t ≡ after_reading refuse (reading xs) (edition_rule xs t)
unfolding run
after_2 refuse xs t =
    elim (ℕ_discrete (reading xs).number 0) [
      | no bad ↦
          ap (λ (r : Reading). after_reading refuse r t) (refused_same xs bad) ∙ after_refused refuse (reading xs) t bad
          ∙ sym (after_refused refuse (reading xs) (edition_rule xs t) bad)
      | yes ok ↦
          elim (ℕ_discrete (reading xs).component 0) [
            | yes none ↦
                ap (λ (r : Reading). after_reading refuse r t) (older_28 xs (ok, none))
                ∙ after_refused refuse (refusal 28 0) t (λ z. omega arith)
                ∙ sym (after_accepted refuse (reading xs) (edition_rule xs t) ok
                ∙ rw (fails (deny (edition1 (reading xs))) (λ new. new (ok, none))))
            | no some ↦
                let new : Holds (deny (edition1 (reading xs))) = λ old. some old.1 in
                ap (λ (r : Reading). after_reading refuse r t) (other_same xs new) ∙ after_accepted refuse (reading xs) t ok
                ∙ sym (after_accepted refuse (reading xs) (edition_rule xs t) ok ∙ rw (passes (deny (edition1 (reading xs))) new))
          ]
    ]

pub release_exactly : (xs s : List ℕ) (base : ℕ) (o : List ℕ) (owner : ℕ)
    → Exact (ReleaseFails xs s base o owner) (releasing xs s base o owner).number (releasing xs s base o owner).index
unfolding releasing release_rules name_rules
release_exactly xs s base o owner =
    rw (after_2 refused_move xs (release_rules (reading2 xs) (length xs) s base o owner))
    (after_exact refused_move (λ (m : Moved). m.number) (λ (m : Moved). m.index) (λ k i. refl) (λ k i. refl) (rules xs) (reading xs)
    (read_exactly xs) (edition_rule xs (release_rules (reading2 xs) (length xs) s base o owner)) refl refl)

-- a call whose rules are given as numbers and indices
module _ (xs : List ℕ) (t : Rules (ℕ × ℕ)) where
  abbrev outcome : ℕ × ℕ
  outcome = after_reading both (reading xs) t

  outcome_exactly : Accepts (λ (p : ℕ × ℕ). p.0) t → no_zero t ≡ true
      → Exact (FailsAfter (rules xs) (reading xs) t) outcome.0 outcome.1
  outcome_exactly accepts ok =
      after_exact both (λ (p : ℕ × ℕ). p.0) (λ (p : ℕ × ℕ). p.1) (λ k i. refl) (λ k i. refl) (rules xs) (reading xs) (read_exactly xs) t
      accepts ok

-- one that needs an edition 2 image
module _ (xs : List ℕ) (t : Rules (ℕ × ℕ)) where
  abbrev outcome2 : ℕ × ℕ
  outcome2 = after_reading both (reading2 xs) t

  outcome2_exactly : Accepts (λ (p : ℕ × ℕ). p.0) t → no_zero t ≡ true
      → Exact (FailsAfter (rules xs) (reading xs) (edition_rule xs t)) outcome2.0 outcome2.1
  outcome2_exactly accepts ok = rw (after_2 both xs t) (outcome_exactly xs (edition_rule xs t) accepts ok)

lookup_is : (xs : List ℕ) (offset size : ℕ) → (outcome2 xs (lookup_rules xs offset size)).0 ≡ setting_number xs offset size
unfolding setting_number after_reading run
lookup_is xs offset size =
    taken (λ (p : ℕ × ℕ). p.0) (eqb (reading2 xs).number 0) _ _
    ∙ rw (taken (λ (p : ℕ × ℕ). p.0) (test (setting_fits offset size (reading2 xs).z)) (0, 0) (17, 0))

pub lookup_exactly : (xs : List ℕ) (offset size : ℕ) → Exact (LookupFails xs offset size) (setting_number xs offset size) 0
lookup_exactly xs offset size = rw (← lookup_is xs offset size) (somewhere (outcome2_exactly xs (lookup_rules xs offset size) refl refl))

-- an audit's number and index, by which way its four checks go
number_in : (pair legal : Bool) {a b : Bool} → a ≡ b → (n i : ℕ) (t : Audited) → t.number ≡ cond b 0 20 → (read : Bool)
    → (cond {A = ℕ × ℕ} read (cond pair (cond legal (cond a (0, 0) (20, 0)) (18, 0)) (19, 0)) (n, i)).0
    ≡ (cond {A = Audited} read (cond pair (cond legal t (refused_audit 18 0)) (refused_audit 19 0)) (refused_audit n i)).number
number_in pair legal same n i t is false = refl
number_in false legal same n i t is true = refl
number_in true false same n i t is true = refl
number_in true true {a} {b} same n i t is true = taken (λ (p : ℕ × ℕ). p.0) a (0, 0) (20, 0) ∙ rw same (sym is)

index_in : (pair legal a : Bool) (n i : ℕ) (t : Audited) → t.index ≡ 0 → (read : Bool)
    → (cond {A = ℕ × ℕ} read (cond pair (cond legal (cond a (0, 0) (20, 0)) (18, 0)) (19, 0)) (n, i)).1
    ≡ (cond {A = Audited} read (cond pair (cond legal t (refused_audit 18 0)) (refused_audit 19 0)) (refused_audit n i)).index
index_in pair legal a n i t is false = refl
index_in false legal a n i t is true = refl
index_in true false a n i t is true = refl
index_in true true true n i t is true = sym is
index_in true true false n i t is true = sym is

module _ (xs ys : List ℕ) (room : ℕ) where
  -- as many as there are differences
  counted : test (length (differing xs ys) ≤? room)
      ≡ test (settings (told_by xs) (differing xs ys) + strays (told_by xs) (differing xs ys) ≤? room)
  counted = ap (λ (n : ℕ). test (n ≤? room)) (sym (counts (told_by xs) (differing xs ys)))

  audit_number : (outcome xs (audit_rules xs ys room)).0 ≡ (auditing xs ys room).number
  unfolding auditing after_reading run tally
  audit_number =
      number_in (test (length ys ≡? length xs)) (test (legal_base (length xs) (shipped_base xs ys))) counted (reading xs).number
      (reading xs).index (tally xs ys room) refl (eqb (reading xs).number 0)

  audit_index : (outcome xs (audit_rules xs ys room)).1 ≡ (auditing xs ys room).index
  unfolding auditing after_reading run tally
  audit_index =
      index_in (test (length ys ≡? length xs)) (test (legal_base (length xs) (shipped_base xs ys))) (test (length (differing xs ys) ≤? room))
      (reading xs).number (reading xs).index (tally xs ys room) refl (eqb (reading xs).number 0)

  pub audit_exactly : Exact (AuditFails xs ys room) (auditing xs ys room).number (auditing xs ys room).index
  audit_exactly = rw (← audit_number, ← audit_index) (outcome_exactly xs (audit_rules xs ys room) refl refl)

list_number_in : (a : Bool) (n i : ℕ) (t : Listed) → t.number ≡ cond a 0 20 → (read : Bool)
    → (cond {A = ℕ × ℕ} read (cond a (0, 0) (20, 0)) (n, i)).0 ≡ (cond {A = Listed} read t (refused_list n i)).number
list_number_in a n i t is false = refl
list_number_in a n i t is true = taken (λ (p : ℕ × ℕ). p.0) a (0, 0) (20, 0) ∙ sym is

list_index_in : (a : Bool) (n i : ℕ) (t : Listed) → t.index ≡ 0 → (read : Bool)
    → (cond {A = ℕ × ℕ} read (cond a (0, 0) (20, 0)) (n, i)).1 ≡ (cond {A = Listed} read t (refused_list n i)).index
list_index_in a n i t is false = refl
list_index_in true n i t is true = sym is
list_index_in false n i t is true = sym is

module _ (xs : List ℕ) (room : ℕ) where
  list_number : (outcome2 xs (list_rules xs room)).0 ≡ (contents xs room).number
  unfolding contents after_reading run
  list_number =
      list_number_in (test (4 * length (listing xs) ≤? room)) (reading2 xs).number (reading2 xs).index _ refl (eqb (reading2 xs).number 0)

  list_index : (outcome2 xs (list_rules xs room)).1 ≡ (contents xs room).index
  unfolding contents after_reading run
  list_index =
      list_index_in (test (4 * length (listing xs) ≤? room)) (reading2 xs).number (reading2 xs).index _ refl (eqb (reading2 xs).number 0)

  pub list_exactly : Exact (ListFails xs room) (contents xs room).number (contents xs room).index
  list_exactly = rw (← list_number, ← list_index) (outcome2_exactly xs (list_rules xs room) refl refl)

-- ---- of calls that read no image

sheet_is : (s : List ℕ) → (run both (sheet_rules s)).0 ≡ (sheet_reading s).number
unfolding sheet_reading run
sheet_is s =
    taken (λ (p : ℕ × ℕ). p.0) (test (sheet_fits s)) (0, 0) (15, 0) ∙ sym (taken (λ (r : SheetReading). r.number) (test (sheet_fits s)) _ _)

pub sheet_exactly : (s : List ℕ) → Exact (Fails (sheet_rules s)) (sheet_reading s).number 0
sheet_exactly s =
    rw (← sheet_is s)
    (exact both (λ (p : ℕ × ℕ). p.0) (λ (p : ℕ × ℕ). 0) (λ k i. refl) (sheet_rules s) (λ k i h. sym (fails_first (sheet_rules s) refl k i h))
    refl refl)

pub step_exactly : (xs : List ℕ) (at : ℕ) → Exact (Fails (step_rules xs at)) (stepped xs at).number 0
unfolding stepped step_rules from_head from_first from_later from_resource from_guid from_end
step_exactly xs at =
    exact (step.refusal at) (λ (s : Stepped). s.number) (λ (s : Stepped). 0) (λ k i. refl) (step_rules xs at)
    (λ k i h. sym (fails_first (step_rules xs at) refl k i h)) (refl, (refl, (refl, (refl, refl)))) refl

pub exactly : Exactly
exactly = (
  (λ xs r is. rw is (read_exactly xs)),
  (λ s r is. rw is (sheet_exactly s)),
  (λ xs s base o owner r ys is. rw is.0 (release_exactly xs s base o owner)),
  (λ xs offset size k is. rw is (lookup_exactly xs offset size)),
  (λ xs ys places a l is. rw is.0 (audit_exactly xs ys (length places))),
  (λ xs ys bytes a l is. rw is.0 (audit_exactly xs ys (length bytes / 4))),
  (λ xs bytes a l is. rw is.0 (list_exactly xs (length bytes))),
  (λ xs at r is. rw is (step_exactly xs at)),
)
