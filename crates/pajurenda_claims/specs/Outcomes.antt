-- What a C call gives: 100 and every lent byte as it was, where its answer has no room; else the answer that the buffer then holds and the
-- other buffers are an outcome that the promise of the library's own call admits, and the result is the answer's number. `OutcomesHold`
-- proves it of a release, an audit, a mending, a fold, a map and a place.
-- Assumes nothing.
use Rattle.std.specs.Prelude.{ℕ, List, ◌⊎◌, ◌≡◌}
use Rattle.answers.specs.declared.Moved.{Moved}
use Rattle.answers.specs.declared.Audited.{Audited}
use Rattle.release.specs.Release.{Releases}
use Rattle.audit.specs.Audit.{AuditsBytes}
use Rattle.mend.specs.Mend.{MendsBytes}
use Rattle.fold.specs.declared.Folded.{Folded}
use Rattle.fold.specs.Fold.{Folds}
use Rattle.map_list.specs.declared.Mapped.{Mapped}
use Rattle.map_list.specs.Map.{Maps}
use Rattle.map_place.specs.declared.Placed.{Placed}
use Rattle.map_place.specs.Place.{Places}
use Rattle.c_answers.specs.Answers.{answered, move_fields, audit_fields}
use Rattle.pajurenda.specs.Promises.{ReleaseCall, AuditCall}
use Rattle.pajurenda_laws.specs.Demand.{NoRoom}
use Rattle.pajurenda_mend.specs.Promises.{MendCall}
use Rattle.pajurenda_fold.specs.Promises.{fold_fields, FoldCall}
use Rattle.pajurenda_map.specs.Promises.{map_fields, place_fields, MapCall, PlaceCall}

-- the result r is the number of an answer q, whose fields the buffer a holds, A being what it held
abbrev pub Answers : {Q : Type 0} → (Q → ℕ) → (Q → List ℕ) → Q → ℕ → List ℕ → List ℕ → Type 0
Answers number fields q r A a = (r ≡ number q) × (a ≡ answered A (fields q))

abbrev pub MoveAnswer : Moved → ℕ → List ℕ → List ℕ → Type 0
MoveAnswer = Answers (λ (q : Moved). q.number) move_fields

abbrev pub AuditAnswer : Audited → ℕ → List ℕ → List ℕ → Type 0
AuditAnswer = Answers (λ (q : Audited). q.number) audit_fields

abbrev pub FoldAnswer : Folded → ℕ → List ℕ → List ℕ → Type 0
FoldAnswer = Answers (λ (q : Folded). q.number) fold_fields

abbrev pub MapAnswer : Mapped → ℕ → List ℕ → List ℕ → Type 0
MapAnswer = Answers (λ (q : Mapped). q.number) map_fields

abbrev pub PlaceAnswer : Placed → ℕ → List ℕ → List ℕ → Type 0
PlaceAnswer = Answers (λ (q : Placed). q.number) place_fields

abbrev pub ReleaseOutcome : Type 0
ReleaseOutcome =
    (xs s : List ℕ) (base : ℕ) (o : List ℕ) (owner : ℕ) (A : List ℕ) (r : ℕ) (ys a : List ℕ) → ReleaseCall xs s base o owner A r ys a
    → (NoRoom r A a × (ys ≡ xs)) ⊎ ((q : Moved) × MoveAnswer q r A a × Releases xs s base o owner q ys)

abbrev pub AuditOutcome : Type 0
AuditOutcome =
    (xs ys bytes A : List ℕ) (r : ℕ) (l a : List ℕ) → AuditCall xs ys bytes A r l a
    → (NoRoom r A a × (l ≡ bytes)) ⊎ ((q : Audited) × AuditAnswer q r A a × AuditsBytes xs ys bytes q l)

abbrev pub MendOutcome : Type 0
MendOutcome =
    (xs ys bytes A : List ℕ) (r : ℕ) (zs l a : List ℕ) → MendCall xs ys bytes A r zs l a
    → (NoRoom r A a × (zs ≡ ys) × (l ≡ bytes)) ⊎ ((q : Audited) × AuditAnswer q r A a × MendsBytes xs ys bytes q l zs)

abbrev pub FoldOutcome : Type 0
FoldOutcome =
    (p l A : List ℕ) (r : ℕ) (m a : List ℕ) → FoldCall p l A r m a
    → (NoRoom r A a × (m ≡ l)) ⊎ ((q : Folded) × FoldAnswer q r A a × Folds p l q m)

abbrev pub MapOutcome : Type 0
MapOutcome =
    (xs out A : List ℕ) (r : ℕ) (m a : List ℕ) → MapCall xs out A r m a
    → (NoRoom r A a × (m ≡ out)) ⊎ ((q : Mapped) × MapAnswer q r A a × Maps xs out q m)

abbrev pub PlaceOutcome : Type 0
PlaceOutcome =
    (xs : List ℕ) (size : ℕ) (A : List ℕ) (r : ℕ) (a : List ℕ) → PlaceCall xs size A r a
    → NoRoom r A a ⊎ ((q : Placed) × PlaceAnswer q r A a × Places xs size q)
