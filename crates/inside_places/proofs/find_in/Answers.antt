use Rattle.std.specs.Prelude.{◌≡◌, ℕ, List, ◌<◌}
use Rattle.facts.specs.Fact.{Holds}
use Rattle.facts.specs.FactLaws.{holds, fails_not, is_test}
use Rattle.facts.specs.FirstLaws.{is_first}
use Rattle.inside_rows.specs.declared.Module.{Module}
use Rattle.inside_rows.specs.Rows.{row_at}
use Rattle.inside_places.specs.Places.{covers, nowhere, in_row, row_of, found_in}
use borrow.Author.Count.{below_more}
use borrow.Author.Tests.{lt-ltb, le-ltb}
use mathlib.Core.Path.{sym, ◌∙◌}
use native.Mathlib.Omega.{arith}
use Rattle.inside_places.proofs.find_in.Goals as goal

module _ (xs : List ℕ) (m : Module) (rva k i : ℕ)
    (clear : (j : ℕ) → j < i → Holds (covers (row_at xs m.table j) rva k) → ⊥)
  where
    -- the first section header that holds them is the one that is found
    found_here : i < m.rows → Holds (covers (row_at xs m.table i) rva k) → found_in xs m rva k ≡ in_row m (row_at xs m.table i) rva
    unfolding row_of found_in
    found_here h here =
        let is : i ≡ row_of xs m rva k = is_first (record { within = omega arith; clear = clear; fault = λ l d. d here }) in
        rw (← is, lt-ltb i m.rows h)

    found_none : i ≡ m.rows → found_in xs m rva k ≡ nowhere m
    unfolding row_of found_in
    found_none e =
        let is : i ≡ row_of xs m rva k = is_first (record { within = omega arith; clear = clear; fault = λ h. absurd (omega arith) }) in
        rw (← is, le-ltb i m.rows (omega arith))

pub loop-i-init : goal.loop-i-init
loop-i-init c = (omega arith, λ j h. absurd (omega arith))

pub returns-then-row_holds : goal.returns-then-row_holds
returns-then-row_holds c =
    let a = c.args in
    let s = c.row_at-w.ensures.0 in
    let here = holds _ (sym (is_test c.row_holds.ensures) ∙ c.if-row_holds.true) in
    (rw s (sym (found_here a.image.now a.m a.rva a.k c.loop-i.i c.loop-i.invariant.1 c.loop-i-test.true (rw s at here))), omega arith, omega (arith, here.0))

pub loop-i-preserved : goal.loop-i-preserved
loop-i-preserved c = (
  omega arith,
  below_more _ _ c.loop-i.invariant.1
      (λ d. fails_not _ (sym (is_test c.row_holds.ensures) ∙ c.if-row_holds.false) (rw c.row_at-w.ensures.0 d)),
)

pub returns : goal.returns
returns c =
    let a = c.args in
    (sym (found_none a.image.now a.m a.rva a.k c.loop-i.i c.loop-i.invariant.1 (omega arith)), omega arith, omega arith)
