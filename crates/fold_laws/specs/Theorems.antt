-- Document 02, #114: what a fold gives.
-- Assumes nothing.
use Rattle.std.specs.Prelude.{ℕ, zero, suc, ◌+◌, ◌*◌, ◌^◌, ◌≤◌, ◌<◌, cond, ◌⊎◌, ◌≡◌, refl, eqb, length}
use mathlib.Core.List.{List, [], ◌∷◌, ◌++◌}
use Rattle.std.proofs.Common.{inl, inr, ◌∙◌, arith, take_at}
use Rattle.std.proofs.Math.Path.{sym, ap}
use Rattle.std.proofs.Math.ListN.{take}
use Rattle.facts.specs.Fact.{Holds}
use Rattle.words.specs.Le.{le, Bytes}
use Rattle.words.specs.LeLaws.{le_lt}
use Rattle.answers.specs.declared.Identity.{Identity}
use Rattle.sheet.specs.Sheet.{sheet_identity, sheet_fits}
use Rattle.sheet.specs.ByteAt.{byte_at}
use Rattle.fold_pile.specs.Pile.{sheet_at, sheets, pile_identity, pile_number}
use Rattle.fold_pile.specs.PileLaws.{is_piled}
use Rattle.fold_cells.specs.SetAt.{over, set_from, set_at}
use Rattle.fold_cells.specs.Cells.{Bounded}
use Rattle.fold_cells.specs.ReachLaws.{set_bounded, bytes_part}
use Rattle.fold_tally.specs.Tally.{tally_of}
use Rattle.fold_sheet.specs.Folded.{sheet_of, size_of, onto}
use Rattle.fold_sheet.specs.PlacingLaws.{length_sheet}
use Rattle.fold.specs.declared.Folded.{Folded}
use Rattle.fold.specs.Fold.{pile_sets, has_room, folding, folded_sheet, folded_into, Folds}
use Rattle.fold.specs.FoldLaws.{folds_done}
use Rattle.fold_laws.specs.SheetLaws.{sheet_fits_lem, sheet_sets, sheet_names}
use Rattle.fold_laws.specs.BytesLaws.{sheet_bytes}
use Rattle.fold_laws.specs.SameLaws.{sheet_same, all_same, size_same, answer_then, answer_same, passed_pile, passed_room}
use Rattle.fold_laws.specs.Alone.{alone, set_one, alone_passes, alone_sheets, alone_names}

-- What two piles of one identity set decides their folds: where it is the same at each position, so are the answers, and the buffers if they were.
pub same_fold : (p q o : List ℕ) → pile_number p ≡ 0 → pile_number q ≡ 0 → pile_identity p ≡ pile_identity q
    → ((k : ℕ) → pile_sets p k ≡ pile_sets q k) → (r r' : Folded) (x x' : List ℕ) → Folds p o r x → Folds q o r' x' → (r ≡ r') × (x ≡ x')
unfolding folded_into folded_sheet
same_fold p q o a b names same r r' x x' c d =
    let e : folding p (length o) ≡ folding q (length o) =
    answer_then p (length o) a ∙ answer_same (pile_sets p) (pile_sets q) same (length o) ∙ sym (answer_then q (length o) b) in
    (c.0 ∙ e ∙ sym d.0, c.1 ∙ rw (e, names, sheet_same (pile_sets p) (pile_sets q) same (pile_identity q)) (sym d.1))

-- Where two sheets set no byte in common at a position, their order doesn't matter there.
pub swapped : (old : ℕ) (s t : List ℕ) (ss : List (List ℕ)) (k : ℕ) → (byte_at s k ≡ 0) ⊎ (byte_at t k ≡ 0)
    → set_from old (s ∷ t ∷ ss) k ≡ set_from old (t ∷ s ∷ ss) k
unfolding set_from
swapped old s t ss k (inl e) = rw e
swapped old s t ss k (inr e) = rw e

set_append : (old : ℕ) (us vs : List (List ℕ)) (k : ℕ) → set_from old (us ++ vs) k ≡ set_from (set_from old us k) vs k
unfolding set_from
set_append old [] vs k = refl
set_append old (u ∷ us) vs k = set_append (over (byte_at u k) old) us vs k

-- So two piles that differ in the order of two neighbours alone fold to the same buffer, where no position is set by both.
pub order_free : (p q o : List ℕ) (us vs : List (List ℕ)) (s t : List ℕ) → sheets p ≡ us ++ (s ∷ t ∷ vs) → sheets q ≡ us ++ (t ∷ s ∷ vs)
    → ((k : ℕ) → (byte_at s k ≡ 0) ⊎ (byte_at t k ≡ 0)) → pile_number p ≡ 0 → pile_number q ≡ 0 → pile_identity p ≡ pile_identity q
    → (r r' : Folded) (x x' : List ℕ) → Folds p o r x → Folds q o r' x' → (r ≡ r') × (x ≡ x')
unfolding set_at
order_free p q o us vs s t e d apart a b names =
    same_fold p q o a b names
    (λ k.
    rw (e, d) (set_append 0 us (s ∷ t ∷ vs) k ∙ swapped (set_from 0 us k) s t vs k (apart k) ∙ sym (set_append 0 us (t ∷ s ∷ vs) k)))

-- what an accepted fold leaves at the buffer's start is the folded sheet
module _ (p o : List ℕ) (bytes : Bytes p) (r : Folded) (x : List ℕ) (made : Folds p o r x) (ok : r.number ≡ 0) where
  fine : (folding p (length o)).number ≡ 0
  fine = ap (λ (y : Folded). y.number) (sym made.0) ∙ ok

  room : Holds (has_room (pile_sets p) (length o))
  room = passed_room p (length o) fine

  bounded : Bounded (pile_sets p)
  bounded = set_bounded p bytes (is_piled p (passed_pile p (length o) fine))

  done : Folds p o (record { number = 0; size = size_of (pile_sets p); entries = (tally_of (pile_sets p)).runs }) (onto (folded_sheet p) o)
  done = folds_done p o (passed_pile p (length o) fine) room

  pub folded_passed : pile_number p ≡ 0
  folded_passed = passed_pile p (length o) fine

  pub size_is : r.size ≡ size_of (pile_sets p)
  size_is = ap (λ (y : Folded). y.size) (made.0 ∙ sym done.0)

  pub left_is : take r.size x ≡ folded_sheet p
  unfolding folded_sheet
  left_is =
      rw (made.1 ∙ sym done.1, size_is)
      (take_at (sheet_of (pile_identity p) (pile_sets p)) _ (size_of (pile_sets p)) (length_sheet (pile_identity p) (pile_sets p)))

  -- It passes 15.
  pub folded_fits : Holds (sheet_fits (take r.size x))
  unfolding folded_sheet
  folded_fits = rw left_is (sheet_fits_lem (pile_identity p) (pile_sets p) bounded room.0 room.1.0)

  -- It sets at each position what the pile sets there, and nothing else.
  pub folded_sets : (k : ℕ) → byte_at (take r.size x) k ≡ pile_sets p k
  unfolding folded_sheet
  folded_sets k = rw left_is (sheet_sets (pile_identity p) (pile_sets p) bounded room.0 room.1.0 k)

  -- It is bytes.
  pub folded_bytes : Bytes (take r.size x)
  unfolding folded_sheet
  folded_bytes = rw left_is (sheet_bytes (pile_identity p) (pile_sets p) bounded)

  -- It has the identity of the pile.
  pub folded_names : sheet_identity (take r.size x) ≡ pile_identity p
  unfolding folded_sheet
  folded_names =
      let b : Bytes (sheet_at p 0) = bytes_part p bytes 4 (le 4 p 0) in
      rw left_is (sheet_names (pile_identity p) (pile_sets p) bounded room.0 room.1.0 (le_lt 8 (sheet_at p 0) 0 b)
      (le_lt 4 (sheet_at p 0) 8 b) (le_lt 2 (sheet_at p 0) 14 b))

  -- Folded alone, it gives itself again.
  pub fold_again : (o' : List ℕ) → r.size ≤ length o' → (r' : Folded) (x' : List ℕ) → Folds (alone (take r.size x)) o' r' x'
      → (r' ≡ r) × (x' ≡ onto (take r.size x) o')
  unfolding folded_sheet
  fold_again o' fits r' x' again =
      let s = take r.size x in
      let q = alone s in
      let passes : pile_number q ≡ 0 = alone_passes s folded_fits in
      let same : (k : ℕ) → pile_sets q k ≡ pile_sets p k =
      λ k. rw (alone_sheets s folded_fits) (set_one s k) ∙ folded_sets k in
      let names : pile_identity q ≡ pile_identity p = alone_names s folded_fits ∙ folded_names in
      let sheet : folded_sheet q ≡ s = rw names (sheet_same (pile_sets q) (pile_sets p) same (pile_identity p)) ∙ sym left_is in
      let t = all_same (pile_sets q) (pile_sets p) same in
      let z = size_same (pile_sets q) (pile_sets p) same in
      let has : Holds (has_room (pile_sets q) (length o')) =
      rw (t, z) (room.0, (room.1.0, omega (arith, size_is))) in
      let got = folds_done q o' passes has in (
        again.0 ∙ sym got.0 ∙ rw (t, z) (done.0 ∙ sym made.0),
        again.1 ∙ sym got.1 ∙ ap (λ (y : List ℕ). onto y o') sheet,
      )
