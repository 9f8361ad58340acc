-- What the step says, by the table.
-- Assumes nothing.
use Rattle.std.specs.Prelude.{ℕ, ◌+◌, ◌≤◌, Bool, ◌&&◌, ◌≡◌}
use Rattle.std.proofs.Math.Bool.{true, false, cond}
use mathlib.Core.List.{List, [], ◌∷◌}
use Rattle.std.proofs.Math.Path.{refl}
use Rattle.std.proofs.Common.{sym, ◌∙◌, arith}
use Rattle.facts.specs.Fact.{Fact, ◌≤?◌, ◌≡?◌, Holds, test}
use Rattle.facts.specs.FactLaws.{holds, fails, fails_not}
use Rattle.facts.specs.RulesLaws.{and_left, and_right, by_cond, by_test}
use Rattle.station_order.specs.declared.Answer.{Answer}
use Rattle.station_order.specs.Order.{Row, table, noted, of_call, in_state, some, refusal, accepted, by_rows, ordered}

pub no_row : (state call m : ℕ) → by_rows state call m [] ≡ refusal state 40
unfolding by_rows
no_row state call m = refl

-- ---- a property of the step, by the rows

-- P holds of each row
abbrev pub Each : (Row → Type 0) → List Row → Type 0
Each P [] = Unit {0}
Each P (r ∷ rows) = P r × Each P rows

-- the rows of a state
abbrev pub rows_at : ℕ → List Row → List Row
rows_at state [] = []
rows_at state (r ∷ rows) = cond (test (state ≡? r.state)) (r ∷ rows_at state rows) (rows_at state rows)

module _ (P : Answer → Type 0) (state call m : ℕ) where
  abbrev Fine : Row → Type 0
  Fine r = Holds (of_call call m r) → P (accepted r.next)

  by_row : (r : Row) (rows rest : List Row) (b : Bool) → test (state ≡? r.state) ≡ b → Each Fine (cond b (r ∷ rows) rows)
      → (Each Fine rows → P (by_rows state call m rest)) → P (by_rows state call m (r ∷ rest))
  unfolding by_rows
  by_row r rows rest true e fine more = by_test P (in_state state call m r) _ _ (λ h. fine.0 h.1) (λ _. more fine.1)
  by_row r rows rest false e fine more =
      by_test P (in_state state call m r) _ _ (λ h. absurd (fails_not (state ≡? r.state) e h.0)) (λ _. more fine)

  by_rows_lem : (rows : List Row) → Each Fine (rows_at state rows) → P (refusal state 40) → P (by_rows state call m rows)
  by_rows_lem [] fine late = rw (no_row state call m) late
  by_rows_lem (r ∷ rows) fine late =
      by_row r (rows_at state rows) rows (test (state ≡? r.state)) refl fine (λ fine. by_rows_lem rows fine late)

-- what holds of a refusal and of each row of the state holds of the step
pub by_order : (P : Answer → Type 0) (state call n : ℕ)
    → Each (λ r. Holds (of_call call (noted call n) r) → P (accepted r.next)) (rows_at state table) → P (refusal state 40)
    → P (refusal state 41) → P (ordered state call n)
unfolding ordered
by_order P state call n each late unknown =
    by_test P (some (of_call call (noted call n)) table) _ _ (λ _. by_rows_lem P state call (noted call n) table each late) (λ _. unknown)

-- whether a check passes for each row
abbrev pub every_row : (Row → Fact) → List Row → Bool
every_row p [] = true
every_row p (r ∷ rows) = test (p r) && every_row p rows

-- what holds of a refusal, and of each row by a check that every row of the table passes, holds of the step
module _ (p : Row → Fact) (P : Answer → Type 0) (state call n : ℕ)
    (fine : (r : Row) → Holds (p r) → Holds (in_state state call (noted call n) r) → P (accepted r.next)) (late : P (refusal state 40))
    (never : P (refusal state 41)) where
  by_all : (rows : List Row) → every_row p rows ≡ true → P (by_rows state call (noted call n) rows)
  unfolding by_rows
  by_all [] e = late
  by_all (r ∷ rows) e =
      by_test P (in_state state call (noted call n) r) _ _ (fine r (holds (p r) (and_left (test (p r)) (every_row p rows) e)))
      (λ _. by_all rows (and_right (test (p r)) (every_row p rows) e))

  pub by_table : every_row p table ≡ true → P (ordered state call n)
  unfolding ordered
  by_table e = by_test P (some (of_call call (noted call n)) table) _ _ (λ _. by_all table e) (λ _. never)

-- ---- the laws

-- a refused call leaves the state as it was
pub refused_stays : (state call n : ℕ) → ((ordered state call n).number ≡ 0 → ⊥) → (ordered state call n).state ≡ state
unfolding test
refused_stays state call n =
    by_table (λ r. 0 ≤? r.state) (λ (a : Answer). (a.number ≡ 0 → ⊥) → a.state ≡ state) state call n (λ r _ _ isnt. absurd (isnt refl))
    (λ _. refl) (λ _. refl) refl

-- 41 comes before 40, in every state
pub unknown : (state call n : ℕ) → (Holds (some (of_call call (noted call n)) table) → ⊥) → ordered state call n ≡ refusal state 41
unfolding ordered
unknown state call n isnt = rw (fails (some (of_call call (noted call n)) table) isnt)

-- a number that is no state of ours: nothing is in order there
module _ (state : ℕ) (other : 8 ≤ state) (call n : ℕ) where
  -- no row is of it
  past_rows : (m : ℕ) (rows : List Row) → every_row (λ r. r.state + 1 ≤? 8) rows ≡ true → by_rows state call m rows ≡ refusal state 40
  unfolding by_rows
  past_rows m [] e = refl
  past_rows m (r ∷ rows) e =
      let low = holds (r.state + 1 ≤? 8) (and_left (test (r.state + 1 ≤? 8)) _ e) in
      rw (fails (in_state state call m r) (λ h. omega arith)) (past_rows m rows (and_right (test (r.state + 1 ≤? 8)) _ e))

  pub none_here : (m : ℕ) → by_rows state call m table ≡ refusal state 40
  unfolding test
  none_here m = past_rows m table refl

  -- its answer doesn't depend on which number it is
  pub other_number : (ordered state call n).number ≡ cond (test (some (of_call call (noted call n)) table)) 40 41
  unfolding ordered
  other_number = rw (none_here (noted call n)) (go (test (some (of_call call (noted call n)) table)))
    where
      go : (b : Bool) → (cond b (refusal state 40) (refusal state 41)).number ≡ cond b 40 41
      go true = refl
      go false = refl

  -- and is a refusal
  pub other_refused : (ordered state call n).number ≡ 0 → ⊥
  other_refused e =
      by_cond (λ (k : ℕ). k ≡ 0 → ⊥) (test (some (of_call call (noted call n)) table)) 40 41 (λ _ z. omega arith) (λ _ z. omega arith)
      (sym other_number ∙ e)
