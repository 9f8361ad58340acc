-- What is set decides the folded sheet: two functions with the same values have the same sheet.
-- Assumes nothing.
use Prim.Native.Nat.{ℕ, zero, suc, ◌+◌, ◌-◌, ◌*◌, ◌≤◌, ◌<◌}
use Rattle.std.specs.Prelude.{Bool, true, false, cond, List, [], ◌∷◌, ◌++◌, ◌≡◌, eqb, length}
use Rattle.std.proofs.Math.Path.{refl, sym}
use Rattle.std.proofs.Common.{ap, ◌∙◌, arith}
use Rattle.std.proofs.Math.Decide.{ℕ_discrete}
use Rattle.facts.specs.Fact.{test, Holds}
use Rattle.facts.specs.FactLaws.{holds, passes, fails}
use Rattle.facts.specs.Rules.{rule, answer, run}
use Rattle.facts.specs.RulesLaws.{by_test}
use Rattle.answers.specs.declared.Identity.{Identity}
use Rattle.fold_pile.specs.Pile.{pile_number, pile_identity}
use Rattle.fold_pile.specs.PileLaws.{pile_then, pile_refused}
use Rattle.fold_cells.specs.Cells.{last}
use Rattle.fold_tally.specs.declared.Tally.{Tally}
use Rattle.fold_tally.specs.Tally.{stepped, tally_to, tally_of}
use Rattle.fold_sheet.specs.Folded.{header, ending, entries_to, body, bodies_to, sheet_of, size_of, onto}
use Rattle.fold.specs.declared.Folded.{Folded}
use Rattle.fold.specs.Fold.{pile_sets, has_room, refused_fold, fold_rules, folding, folded_sheet, folded_into}

module _ (f g : ℕ → ℕ) (same : (k : ℕ) → f k ≡ g k) where
  tally_same : (k : ℕ) → tally_to f k ≡ tally_to g k
  unfolding tally_to
  tally_same zero = refl
  tally_same (suc k) = rw (same k, tally_same k)

  entries_same : (m k : ℕ) → entries_to m f k ≡ entries_to m g k
  unfolding entries_to
  entries_same m zero = refl
  entries_same m (suc k) = rw (same k, tally_same k, entries_same m k)

  bodies_same : (k : ℕ) → bodies_to f k ≡ bodies_to g k
  unfolding bodies_to
  bodies_same zero = refl
  bodies_same (suc k) = rw (same k, bodies_same k)

  pub all_same : tally_of f ≡ tally_of g
  unfolding tally_of
  all_same = tally_same last

  pub size_same : size_of f ≡ size_of g
  unfolding size_of
  size_same = rw all_same

  pub sheet_same : (i : Identity) → sheet_of i f ≡ sheet_of i g
  unfolding sheet_of
  sheet_same i = rw (all_same, entries_same (tally_of g).runs last, bodies_same last)

-- the answer where 15 and 16 are passed
unfoldable pub room_answer : (ℕ → ℕ) → ℕ → Folded
room_answer f room = run refused_fold (rule 29 (has_room f room) (answer (record { number = 0; size = size_of f; entries = (tally_of f).runs })))

pub answer_then : (p : List ℕ) (room : ℕ) → pile_number p ≡ 0 → folding p room ≡ room_answer (pile_sets p) room
unfolding folding fold_rules room_answer
answer_then p room ok = pile_then refused_fold p _ ok

pub answer_same : (f g : ℕ → ℕ) → ((k : ℕ) → f k ≡ g k) → (room : ℕ) → room_answer f room ≡ room_answer g room
unfolding room_answer run
answer_same f g same room = rw (all_same f g same, size_same f g same)

-- ---- what was accepted

module _ (p : List ℕ) (room : ℕ) (ok : (folding p room).number ≡ 0) where
  pub passed_pile : pile_number p ≡ 0
  unfolding folding fold_rules
  passed_pile =
      elim (ℕ_discrete (pile_number p) 0) [
        | yes e ↦ e
        | no e ↦ sym (ap (λ (r : Folded). r.number) (pile_refused refused_fold p _ e)) ∙ ok
      ]

  passed_29 : ((room_answer (pile_sets p) room).number ≡ 0) → Holds (has_room (pile_sets p) room)
  unfolding room_answer run
  passed_29 e =
      by_test (λ (r : Folded). r.number ≡ 0 → Holds (has_room (pile_sets p) room)) (has_room (pile_sets p) room) _ _
      (λ h z. h) (λ h z. absurd (omega arith)) e

  pub passed_room : Holds (has_room (pile_sets p) room)
  passed_room = passed_29 (sym (ap (λ (r : Folded). r.number) (answer_then p room passed_pile)) ∙ ok)
