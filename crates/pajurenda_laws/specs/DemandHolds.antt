-- The demands hold of the C calls.
-- Assumes nothing.
use Rattle.std.specs.Prelude.{ℕ, ◌*◌, ◌/◌, ◌≤◌, List, ◌⊎◌, ◌≡◌, refl, length}
use Rattle.std.proofs.Common.{inl, inr, sym, ◌∙◌, arith}
use Rattle.std.proofs.Math.Decide.{dec_lt}
use Rattle.facts.specs.Rules.{run}
use Rattle.facts.specs.RulesLaws.{by_test}
use Rattle.facts.specs.Exactly.{Fails, Exact}
use Rattle.reading_rules.specs.Reading.{reading}
use Rattle.reading_rules.specs.Numbers.{Numbered, None}
use Rattle.reading_rules.specs.NumbersLaws.{numbered}
use Rattle.sheet.specs.declared.SheetReading.{SheetReading}
use Rattle.sheet.specs.Sheet.{sheet_fits}
use Rattle.sheet.specs.ReadSheet.{sheet_reading}
use Rattle.setting.specs.Theorems.{lookup_numbered}
use Rattle.reading_rules.specs.Numbers.{OwnLookup}
use Rattle.setting.specs.Setting.{setting_number}
use Rattle.release.specs.Release.{releasing, released_image}
use Rattle.release.specs.ReleaseLaws.{release_kept}
use Rattle.release_laws.specs.Theorems.{release_numbered}
use Rattle.reading_rules.specs.Numbers.{OwnRelease}
use Rattle.audit.specs.Audit.{auditing, listed_bytes}
use Rattle.audit.specs.AuditLaws.{audit_numbered, bytes_kept}
use Rattle.reading_rules.specs.Numbers.{OwnAudit}
use Rattle.contents.specs.Listing.{contents, contents_in}
use Rattle.contents.specs.Theorems.{listing_numbered, contents_kept}
use Rattle.reading_rules.specs.Numbers.{OwnList}
use Rattle.handoff_step.specs.Step.{step_rules, stepped}
use Rattle.answers.specs.declared.Audited.{Audited}
use Rattle.demands.specs.Demands.{AuditedRight, ExplainedRight, PlainRight}
use Rattle.demands.specs.Stored.{in_bytes}
use Rattle.demands.specs.DemandsHold.{demand_2, demand_3, demand_3_older}
use Rattle.demands.specs.Exactly.{ReadFails, ReleaseFails, LookupFails, AuditFails, ListFails, sheet_rules}
use Rattle.demands.specs.ExactlyHolds.{read_exactly, release_exactly, lookup_exactly, audit_exactly, list_exactly, sheet_exactly, step_exactly}
use Rattle.c_answers.specs.Steps.{step_fields}
use Rattle.c_answers.specs.Answers.{if_room, result, answered, read_fields, move_fields, sheet_fields, setting_fields, audit_fields, list_fields}
use Rattle.setting.specs.Finding.{finding}
use Rattle.pajurenda.specs.Promises.{AuditCall}
use Rattle.c_answers.specs.AnswerLaws.{roomy, short}
use Rattle.pajurenda_laws.specs.Demand.{Demand1C, Demand2C, Demand3C, Demand3COlder, ExactlyC, NoRoom}

-- ---- it holds

-- with room the result is the answer's number; without it nothing is written
module _ (A fields : List ℕ) (k number r : ℕ) (a : List ℕ) (many : length fields ≡ k) (r-is : r ≡ result k A number)
    (a-is : a ≡ answered A fields) where
  by_room : (P : ℕ → Type 0) → P number → NoRoom r A a ⊎ P r
  by_room P p =
      elim (dec_lt (length A) (8 * k)) [
        | yes none ↦ inl (
          r-is ∙ short k A number 100 none,
          a-is ∙ short (length fields) A _ A (rw many none),
        )
        | no room ↦
            let e : r ≡ number = r-is ∙ roomy k A number 100 (omega arith) in
            inr (rw e p)
      ]

-- a buffer that only an accepted call with room changes
kept : (A : List ℕ) (k number r : ℕ) (after before now : List ℕ) → r ≡ result k A number → now ≡ if_room k A after before
    → ((number ≡ 0 → ⊥) → after ≡ before) → (r ≡ 0 → ⊥) → now ≡ before
kept A k number r after before now r-is is same refused =
    elim (dec_lt (length A) (8 * k)) [
      | yes none ↦ is ∙ short k A after before none
      | no room ↦
          let e : r ≡ number = r-is ∙ roomy k A number 100 (omega arith) in
          is ∙ roomy k A after before (omega arith) ∙ same (λ z. refused (e ∙ z))
    ]

sheet_number_lem : (s : List ℕ) → ((sheet_reading s).number ≡ 0) ⊎ ((sheet_reading s).number ≡ 15)
unfolding sheet_reading run
sheet_number_lem s = by_test (λ (r : SheetReading). (r.number ≡ 0) ⊎ (r.number ≡ 15)) (sheet_fits s) _ _ (λ h. inl refl) (λ h. inr refl)

finding_number : (xs : List ℕ) (offset size : ℕ) → (finding xs offset size).number ≡ setting_number xs offset size
unfolding finding
finding_number xs offset size = refl

pub demand_1_C : Demand1C
demand_1_C = (
  (λ xs A r a is.
      by_room A (read_fields (reading xs)) 12 (reading xs).number r a refl is.0 is.1
      (λ k. Numbered xs None k (reading xs).index) (numbered xs)),
  (λ xs s base o owner A r ys a is. (
    by_room A (move_fields (releasing xs s base o owner)) 3 (releasing xs s base o owner).number r a refl is.0 is.1.1
        (λ k. Numbered xs OwnRelease k (releasing xs s base o owner).index) (release_numbered xs s base o owner),
    kept A 3 (releasing xs s base o owner).number r (released_image xs s base o owner) xs ys is.0 is.1.0
        (release_kept xs s base o owner),
  )),
  (λ s A r a is.
      by_room A (sheet_fields (sheet_reading s)) 5 (sheet_reading s).number r a refl is.0 is.1
      (λ k. (k ≡ 0) ⊎ (k ≡ 15)) (sheet_number_lem s)),
  (λ xs offset size A r a is.
      by_room A (setting_fields (finding xs offset size)) 3 (finding xs offset size).number r a refl is.0 is.1
      (λ k. Numbered xs OwnLookup k 0) (rw (finding_number xs offset size) (lookup_numbered xs offset size))),
  (λ xs ys bytes A r l a is. (
    by_room A (audit_fields (auditing xs ys (length bytes / 4))) 7 (auditing xs ys (length bytes / 4)).number r a refl is.0 is.1.1
        (λ k. Numbered xs OwnAudit k (auditing xs ys (length bytes / 4)).index) (audit_numbered xs ys (length bytes / 4)),
    kept A 7 (auditing xs ys (length bytes / 4)).number r (listed_bytes xs ys bytes) bytes l is.0 is.1.0 (bytes_kept xs ys bytes),
  )),
  (λ xs bytes A r l a is. (
    by_room A (list_fields (contents xs (length bytes))) 5 (contents xs (length bytes)).number r a refl is.0 is.1.1
        (λ k. Numbered xs OwnList k (contents xs (length bytes)).index) (listing_numbered xs (length bytes)),
    kept A 5 (contents xs (length bytes)).number r (contents_in xs bytes) bytes l is.0 is.1.0 (contents_kept xs bytes),
  )),
)

pub exactly_C : ExactlyC
exactly_C = (
  (λ xs A r a is.
      by_room A (read_fields (reading xs)) 12 (reading xs).number r a refl is.0 is.1
      (λ k. Exact (ReadFails xs) k (reading xs).index) (read_exactly xs)),
  (λ xs s base o owner A r ys a is.
      by_room A (move_fields (releasing xs s base o owner)) 3 (releasing xs s base o owner).number r a refl is.0 is.1.1
      (λ k. Exact (ReleaseFails xs s base o owner) k (releasing xs s base o owner).index) (release_exactly xs s base o owner)),
  (λ s A r a is.
      by_room A (sheet_fields (sheet_reading s)) 5 (sheet_reading s).number r a refl is.0 is.1
      (λ k. Exact (Fails (sheet_rules s)) k 0) (sheet_exactly s)),
  (λ xs offset size A r a is.
      by_room A (setting_fields (finding xs offset size)) 3 (finding xs offset size).number r a refl is.0 is.1
      (λ k. Exact (LookupFails xs offset size) k 0) (rw (finding_number xs offset size) (lookup_exactly xs offset size))),
  (λ xs ys bytes A r l a is.
      by_room A (audit_fields (auditing xs ys (length bytes / 4))) 7 (auditing xs ys (length bytes / 4)).number r a refl is.0 is.1.1
      (λ k. Exact (AuditFails xs ys (length bytes / 4)) k (auditing xs ys (length bytes / 4)).index)
      (audit_exactly xs ys (length bytes / 4))),
  (λ xs bytes A r l a is.
      by_room A (list_fields (contents xs (length bytes))) 5 (contents xs (length bytes)).number r a refl is.0 is.1.1
      (λ k. Exact (ListFails xs (length bytes)) k (contents xs (length bytes)).index) (list_exactly xs (length bytes))),
  (λ xs at A r a is.
      by_room A (step_fields (stepped xs at)) 10 (stepped xs at).number r a refl is.0 is.1
      (λ k. Exact (Fails (step_rules xs at)) k 0) (step_exactly xs at)),
)

-- a result of 0 comes with room
room_so : (k : ℕ) (A : List ℕ) (number : ℕ) → result k A number ≡ 0 → 8 * k ≤ length A
room_so k A number e =
    elim (dec_lt (length A) (8 * k)) [ yes none ↦ absurd (omega (arith, short k A number 100 none)) | no room ↦ omega arith ]

pub demand_2_C : Demand2C
demand_2_C xs s base o owner A r ys a bx bs is zero =
    let m = releasing xs s base o owner in
    let room = room_so 3 A m.number (sym is.0 ∙ zero) in
    let ok : m.number ≡ 0 = sym (is.0 ∙ roomy 3 A m.number 100 room) ∙ zero in
    let image : ys ≡ released_image xs s base o owner = is.1.0 ∙ roomy 3 A (released_image xs s base o owner) xs room in
    (m, is.1.1, demand_2 xs s base o owner m ys bx bs (refl, image) ok)

-- by what is shown of the list
module _ (Right : List ℕ → List ℕ → List ℕ → Audited → List ℕ → List ℕ → Type 0) (xs ys bytes A : List ℕ) (r : ℕ) (l a : List ℕ)
    (shown : l ≡ listed_bytes xs ys bytes
    → (ks : List ℕ) × AuditedRight in_bytes xs ys bytes (auditing xs ys (length bytes / 4)) l ks
    × Right xs ys bytes (auditing xs ys (length bytes / 4)) l ks) where
  call_3 : AuditCall xs ys bytes A r l a
      → (NoRoom r A a × (l ≡ bytes))
      ⊎ ((q : Audited) × (r ≡ q.number) × (a ≡ answered A (audit_fields q))
      × ((ks : List ℕ) × AuditedRight in_bytes xs ys bytes q l ks × Right xs ys bytes q l ks))
  call_3 is =
      let q = auditing xs ys (length bytes / 4) in
      elim (dec_lt (length A) (8 * 7)) [
        | yes none ↦ inl (
          (is.0 ∙ short 7 A q.number 100 none, is.1.1 ∙ short 7 A _ A none),
          is.1.0 ∙ short 7 A (listed_bytes xs ys bytes) bytes none,
        )
        | no room ↦
            let list : l ≡ listed_bytes xs ys bytes = is.1.0 ∙ roomy 7 A (listed_bytes xs ys bytes) bytes (omega arith) in
            inr (q, is.0 ∙ roomy 7 A q.number 100 (omega arith), is.1.1, shown list)
      ]

pub demand_3_C : Demand3C
demand_3_C xs ys bytes A r l a bx ok long legal =
    call_3 (λ xs ys bytes q l ks. ExplainedRight in_bytes xs ys bytes q ks) xs ys bytes A r l a
    (λ list. demand_3.1 xs ys bytes (auditing xs ys (length bytes / 4)) l bx ok long legal (refl, list))

pub demand_3_C_older : Demand3COlder
demand_3_C_older xs ys bytes A r l a bx old long legal =
    call_3 (PlainRight in_bytes) xs ys bytes A r l a
    (λ list. demand_3_older.1 xs ys bytes (auditing xs ys (length bytes / 4)) l bx old long legal (refl, list))
