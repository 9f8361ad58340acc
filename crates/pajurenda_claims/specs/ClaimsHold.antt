-- The claims of #110, #111 and #114 hold of what C calls.
-- Assumes nothing.
use Rattle.std.specs.Prelude.{ℕ, ◌*◌, ◌/◌, ◌≤◌, ◌≡◌, refl, length, take, List}
use Rattle.std.proofs.Common.{inl, inr, sym, ◌∙◌, arith, ne_eqb, ap}
use Rattle.std.proofs.Math.Decide.{dec_lt}
use Rattle.words.specs.Le.{Bytes}
use Rattle.words.specs.Put.{put_all}
use Rattle.answers.specs.declared.Audited.{Audited}
use Rattle.answers.specs.AfterLaws.{changed_so}
use Rattle.release.specs.Release.{releasing, released_image}
use Rattle.audit_count.specs.Differences.{entries}
use Rattle.audit.specs.Audit.{told_by, differing, auditing, listed_bytes}
use Rattle.mend.specs.Mend.{mended, mending, mended_file, MendsBytes}
use Rattle.mend.specs.MendLaws.{mend_read, accepted_read, file_mended, places_bytes_kept, bytes_listed}
use Rattle.mend_laws.specs.Cleared.{settings_only, cleared}
use Rattle.mend_laws.specs.Only.{only_entries}
use Rattle.mend_laws.specs.Left.{differing_left, audit_left}
use Rattle.mend_laws.specs.Theorems.{Leaves, refused_kept, explained_kept, mended_twice, settings_kept}
use Rattle.mend_released.specs.Released.{mended_released}
use Rattle.fold.specs.declared.Folded.{Folded}
use Rattle.fold.specs.Fold.{folding, folded_into, Folds}
use Rattle.fold_laws.specs.Alone.{alone}
use Rattle.fold_laws.specs.Theorems.{same_fold, folded_fits, folded_sets, folded_names, fold_again}
use Rattle.fold_release.specs.Theorems.{fold_accepted, fold_release}
use Rattle.map_list.specs.declared.Mapped.{Mapped}
use Rattle.map_list.specs.Map.{Maps}
use Rattle.map_laws.specs.Maps.{mapped, count_is, never_more, stands_first, stands_last, kept_after, refused_keeps}
use Rattle.map_laws.specs.Places.{placed, no_place, refused_only}
use Rattle.c_answers.specs.Answers.{if_room, result, answered, audit_fields}
use Rattle.c_answers.specs.AnswerLaws.{roomy, short}
use Rattle.pajurenda_mend.specs.Promises.{MendCall}
use Rattle.pajurenda_fold.specs.Promises.{fold_fields}
use Rattle.pajurenda_claims.specs.OutcomesHold.{mend_outcome, fold_outcome, map_outcome, place_outcome}
use Rattle.pajurenda_claims.specs.Claims.{MendedRight, MendC, FoldedRight, FoldC, FoldSameC, MappedRight, MapC, PlaceC}

-- ---- #110

module _ (xs ys bytes : List ℕ) (q : Audited) (zs l : List ℕ) (bx : Bytes xs) (by : Bytes ys) (is : MendsBytes xs ys bytes q l zs) where
  abbrev n : ℕ
  n = length bytes / 4

  leaves : Leaves xs ys n q zs
  leaves = (is.0, is.2)

  module _ (ok : q.number ≡ 0) where
    fine : (mending xs ys n).number ≡ 0
    fine = ap (λ (b : Audited). b.number) (sym is.0) ∙ ok

    file : zs ≡ mended xs ys
    file = is.2 ∙ file_mended xs ys n fine

    module _ (more : List ℕ) (fits : q.settings ≤ length more / 4) where
      told : auditing xs zs (length more / 4) ≡ cleared q
      told =
          ap (λ (l : List ℕ). auditing xs l (length more / 4)) file ∙ audit_left xs ys n bx fine (length more / 4) (rw is.0 at fits)
          ∙ ap (λ (b : Audited). cleared b) (sym is.0)

      left : listed_bytes xs zs more ≡ put_all 4 more 0 (settings_only (told_by xs) (differing xs ys))
      unfolding listed_bytes
      left =
          changed_so (auditing xs zs (length more / 4)).number (put_all 4 more 0 (entries (told_by xs) (differing xs zs))) more
          (ap (λ (a : Audited). a.number) told)
          ∙ ap (λ (l : List ℕ). put_all 4 more 0 (entries (told_by xs) (differing xs l))) file
          ∙ ap (λ (ks : List ℕ). put_all 4 more 0 (entries (told_by xs) ks)) (differing_left xs ys n bx fine)
          ∙ ap (λ (ks : List ℕ). put_all 4 more 0 ks) (only_entries (told_by xs) (differing xs ys))

    again : (more B : List ℕ) (s : ℕ) (ws k b : List ℕ) → MendCall xs zs more B s ws k b → ws ≡ zs
    again more B s ws k b call =
        let file-twice = mended_file xs zs (length more / 4) in
        elim (dec_lt (length B) (8 * 7)) [
          | yes none ↦ call.1.0 ∙ short 7 B file-twice zs none
          | no room ↦ call.1.0 ∙ roomy 7 B file-twice zs (omega arith)
              ∙ mended_twice xs ys n q zs leaves bx ok (length more / 4) (mending xs zs (length more / 4)) file-twice (refl, refl)
        ]

  mended_right : MendedRight xs ys bytes q zs l
  mended_right =
      record {
        refused = λ bad. (
          refused_kept xs ys n q zs leaves bad,
          is.1 ∙ places_bytes_kept xs ys bytes (λ e. bad (ap (λ (b : Audited). b.number) is.0 ∙ e)),
        );
        audited = λ ok. let read = accepted_read xs ys n (fine ok) in
            (is.0 ∙ mend_read xs ys n read, is.1 ∙ bytes_listed xs ys bytes read);
        explained = λ ok more B s k b call room fits. (
          call.0 ∙ roomy 7 B (auditing xs zs (length more / 4)).number 100 room ∙ ap (λ (a : Audited). a.number) (told ok more fits),
          call.1.1 ∙ ap (λ (a : Audited). answered B (audit_fields a)) (told ok more fits),
          call.1.0 ∙ roomy 7 B (listed_bytes xs zs more) more room ∙ left ok more fits,
        );
        kept = explained_kept xs ys n q zs leaves bx;
        twice = again;
        settings = settings_kept xs ys n q zs leaves bx;
        released = mended_released xs ys n q zs leaves bx by;
      }

pub mend_C : MendC
mend_C xs ys bytes A r zs l a bx by call =
    elim (mend_outcome xs ys bytes A r zs l a call) [
      | inl none ↦ inl none
      | inr (q, told, is) ↦ inr (q, told, mended_right xs ys bytes q zs l bx by is)
    ]

-- ---- #114

fold_kept : (p l : List ℕ) → ((folding p (length l)).number ≡ 0 → ⊥) → folded_into p l ≡ l
unfolding folded_into
fold_kept p l bad = rw (ne_eqb (folding p (length l)).number 0 bad)

module _ (p l : List ℕ) (q : Folded) (m : List ℕ) (bytes : Bytes p) (is : Folds p l q m) where
  abbrev sheet : List ℕ
  sheet = take q.size m

  folded_right : FoldedRight p l q m
  folded_right =
      record {
        refused = λ bad. is.1 ∙ fold_kept p l (λ e. bad (ap (λ (f : Folded). f.number) is.0 ∙ e));
        form = λ ok. folded_fits p l bytes q m is ok;
        sets = λ ok. folded_sets p l bytes q m is ok;
        names = λ ok. folded_names p l bytes q m is ok;
        again = λ ok o B s n b call room fits.
            let f = folding (alone sheet) (length o) in
            let same = fold_again p l bytes q m is ok o fits f (folded_into (alone sheet) o) (refl, refl) in (
              call.0 ∙ roomy 3 B f.number 100 room ∙ ap (λ (g : Folded). g.number) same.0 ∙ ok,
              call.1.0 ∙ roomy 3 B (folded_into (alone sheet) o) o room ∙ same.1,
              call.1.1 ∙ ap (λ (g : Folded). answered B (fold_fields g)) same.0,
            );
        once = λ ok xs base o owner bx each B s ys b call room. (
          call.0 ∙ roomy 3 B (releasing xs sheet base o owner).number 100 room
              ∙ fold_accepted p l bytes q m is ok xs bx base o owner each,
          call.1.0 ∙ roomy 3 B (released_image xs sheet base o owner) xs room
              ∙ fold_release p l bytes q m is ok xs bx base o owner each,
        );
      }

pub fold_C : FoldC
fold_C p l A r m a bytes call =
    elim (fold_outcome p l A r m a call) [
      | inl none ↦ inl none
      | inr (q, told, is) ↦ inr (q, told, folded_right p l q m bytes is)
    ]

pub fold_same_C : FoldSameC
fold_same_C p q l A r s m n a b pass pass' names same call call' =
    let (e, f) = same_fold p q l pass pass' names same (folding p (length l)) (folding q (length l)) (folded_into p l) (folded_into q l)
    (refl, refl) (refl, refl) in (
      call.0 ∙ ap (λ (g : Folded). result 3 A g.number) e ∙ sym call'.0,
      call.1.0 ∙ ap (λ (o : List ℕ). if_room 3 A o l) f ∙ sym call'.1.0,
      call.1.1 ∙ ap (λ (g : Folded). answered A (fold_fields g)) e ∙ sym call'.1.1,
    )

-- ---- #111

mapped_right : (xs out : List ℕ) (q : Mapped) (m : List ℕ) → Maps xs out q m → MappedRight xs out q m
mapped_right xs out q m is =
    record {
      refused = refused_keeps xs out q m is;
      is_map = mapped xs out q m is;
      counted = λ ok. (count_is xs out q m is ok, never_more xs out q m is ok);
      stands = λ ok i h. (stands_first xs out q m is ok i h, stands_last xs out q m is ok i h);
      kept = kept_after xs out q m is;
    }

pub map_C : MapC
map_C xs out A r m a call =
    elim (map_outcome xs out A r m a call) [
      | inl none ↦ inl none
      | inr (q, told, is) ↦ inr (q, told, mapped_right xs out q m is)
    ]

pub place_C : PlaceC
place_C xs size A r a call =
    elim (place_outcome xs size A r a call) [
      | inl none ↦ inl none
      | inr (q, told, is) ↦ inr (
        q,
        told,
        record { best = placed xs size q is; nowhere = no_place xs size q is; only = refused_only xs size q is },
      )
    ]
