-- An outcome of a C call is one of the library's own.
-- Assumes nothing.
use Rattle.std.specs.Prelude.{◌*◌, ◌/◌, refl, length}
use Rattle.std.proofs.Common.{inl, inr, ◌∙◌, arith}
use Rattle.std.proofs.Math.Decide.{dec_lt}
use Rattle.release.specs.Release.{releasing, released_image}
use Rattle.audit.specs.Audit.{auditing, listed_bytes}
use Rattle.mend.specs.Mend.{mending, mended_file, mended_bytes}
use Rattle.fold.specs.Fold.{folding, folded_into}
use Rattle.map_list.specs.Map.{mapping, map_in}
use Rattle.map_place.specs.Place.{placing}
use Rattle.c_answers.specs.AnswerLaws.{roomy, short}
use Rattle.pajurenda_claims.specs.Outcomes.{ReleaseOutcome, AuditOutcome, MendOutcome, FoldOutcome, MapOutcome, PlaceOutcome}

pub release_outcome : ReleaseOutcome
release_outcome xs s base o owner A r ys a is =
    let q = releasing xs s base o owner in
    elim (dec_lt (length A) (8 * 3)) [
      | yes none ↦ inl (
        (is.0 ∙ short 3 A q.number 100 none, is.1.1 ∙ short 3 A _ A none),
        is.1.0 ∙ short 3 A (released_image xs s base o owner) xs none,
      )
      | no room ↦ inr (
        q,
        (is.0 ∙ roomy 3 A q.number 100 (omega arith), is.1.1),
        (refl, is.1.0 ∙ roomy 3 A (released_image xs s base o owner) xs (omega arith)),
      )
    ]

pub audit_outcome : AuditOutcome
audit_outcome xs ys bytes A r l a is =
    let q = auditing xs ys (length bytes / 4) in
    elim (dec_lt (length A) (8 * 7)) [
      | yes none ↦ inl (
        (is.0 ∙ short 7 A q.number 100 none, is.1.1 ∙ short 7 A _ A none),
        is.1.0 ∙ short 7 A (listed_bytes xs ys bytes) bytes none,
      )
      | no room ↦ inr (
        q,
        (is.0 ∙ roomy 7 A q.number 100 (omega arith), is.1.1),
        (refl, is.1.0 ∙ roomy 7 A (listed_bytes xs ys bytes) bytes (omega arith)),
      )
    ]

pub mend_outcome : MendOutcome
mend_outcome xs ys bytes A r zs l a is =
    let n = length bytes / 4 in
    let q = mending xs ys n in
    elim (dec_lt (length A) (8 * 7)) [
      | yes none ↦ inl (
        (is.0 ∙ short 7 A q.number 100 none, is.1.1.1 ∙ short 7 A _ A none),
        is.1.0 ∙ short 7 A (mended_file xs ys n) ys none,
        is.1.1.0 ∙ short 7 A (mended_bytes xs ys bytes) bytes none,
      )
      | no room ↦ inr (
        q,
        (is.0 ∙ roomy 7 A q.number 100 (omega arith), is.1.1.1),
        (
          refl,
          is.1.1.0 ∙ roomy 7 A (mended_bytes xs ys bytes) bytes (omega arith),
          is.1.0 ∙ roomy 7 A (mended_file xs ys n) ys (omega arith),
        ),
      )
    ]

pub fold_outcome : FoldOutcome
fold_outcome p l A r m a is =
    let q = folding p (length l) in
    elim (dec_lt (length A) (8 * 3)) [
      | yes none ↦ inl (
        (is.0 ∙ short 3 A q.number 100 none, is.1.1 ∙ short 3 A _ A none),
        is.1.0 ∙ short 3 A (folded_into p l) l none,
      )
      | no room ↦ inr (
        q,
        (is.0 ∙ roomy 3 A q.number 100 (omega arith), is.1.1),
        (refl, is.1.0 ∙ roomy 3 A (folded_into p l) l (omega arith)),
      )
    ]

pub map_outcome : MapOutcome
map_outcome xs out A r m a is =
    let q = mapping xs (length out) in
    elim (dec_lt (length A) (8 * 2)) [
      | yes none ↦ inl (
        (is.0 ∙ short 2 A q.number 100 none, is.1.1 ∙ short 2 A _ A none),
        is.1.0 ∙ short 2 A (map_in xs out) out none,
      )
      | no room ↦ inr (
        q,
        (is.0 ∙ roomy 2 A q.number 100 (omega arith), is.1.1),
        (refl, is.1.0 ∙ roomy 2 A (map_in xs out) out (omega arith)),
      )
    ]

pub place_outcome : PlaceOutcome
place_outcome xs size A r a is =
    let q = placing xs size in
    elim (dec_lt (length A) (8 * 2)) [
      | yes none ↦ inl (is.0 ∙ short 2 A q.number 100 none, is.1 ∙ short 2 A _ A none)
      | no room ↦ inr (q, (is.0 ∙ roomy 2 A q.number 100 (omega arith), is.1), refl)
    ]
