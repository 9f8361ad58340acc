-- What a search for a relative address looks at, and what it shows.
-- Assumes nothing.
use Rattle.std.specs.Prelude.{ℕ, ◌*◌, ◌≤◌, ◌<◌, Bool, true, false, List, ◌≡◌, ltb, eqb}
use Rattle.std.proofs.Common.{arith}
use Rattle.std.proofs.Math.Decide.{dec_lt}
use borrow.Author.Tests.{le-ltb}
use Rattle.facts.specs.Fact.{Fact, Holds, Says, test}
use Rattle.facts.specs.FactLaws.{says}
use Rattle.facts.specs.FirstLaws.{first, first_cong}
use Rattle.facts.specs.RulesLaws.{by_cond, by_test}
use Rattle.words.specs.Le.{Alike}
use Rattle.inside_rows.specs.declared.Module.{Module}
use Rattle.inside_rows.specs.Rows.{row_at, te_kind, module_number}
use Rattle.inside_rows.specs.RowsLaws.{row_cong}
use Rattle.inside_places.specs.declared.Span.{Span}
use Rattle.inside_places.specs.Places.{covers, row_of, found_in, te_holds, shifted, found}

-- what isn't denied holds
undeny : (p : Fact) → ((Holds p → ⊥) → ⊥) → Holds p
undeny p h = go (test p) (says p)
  where
    go : (b : Bool) → Says b (Holds p) → Holds p
    go true k = k
    go false k = absurd (h k)

-- the section header that is found holds what is looked for
pub row_covers : (xs : List ℕ) (m : Module) (rva k : ℕ) → row_of xs m rva k < m.rows
    → Holds (covers (row_at xs m.table (row_of xs m rva k)) rva k)
unfolding row_of
row_covers xs m rva k h =
    undeny (covers (row_at xs m.table (row_of xs m rva k)) rva k) ((first _ m.rows).fault h)

-- images that agree on the section headers have each address at the same place
module _ (a b : List ℕ) (m : Module) (rows : Alike a b m.table (40 * m.rows)) where
  row_of_cong : (rva k : ℕ) → row_of a m rva k ≡ row_of b m rva k
  unfolding row_of
  row_of_cong rva k = first_cong _ _ m.rows (λ i h. rw (row_cong a b m rows i h))

  in_cong : (rva k : ℕ) → found_in a m rva k ≡ found_in b m rva k
  unfolding found_in
  in_cong rva k =
      rw (← row_of_cong rva k)
      (elim (dec_lt (row_of a m rva k) m.rows) [
        | yes h ↦ rw (row_cong a b m rows (row_of a m rva k) h)
        | no h ↦ let e = le-ltb (row_of a m rva k) m.rows (omega arith) in rw e
      ])

  pub found_cong : (rva k : ℕ) → found a m rva k ≡ found b m rva k
  unfolding found
  found_cong rva k = rw (in_cong rva k)

-- no address lies below its module
pub found_up : (xs : List ℕ) (m : Module) (rva k : ℕ) → m.lo ≤ m.hi → m.lo ≤ (found xs m rva k).at
unfolding found shifted found_in
found_up xs m rva k h =
    by_cond (λ (s : Span). m.lo ≤ s.at) (eqb (module_number m.kind) te_kind) _ _
    (λ e. by_test (λ (s : Span). m.lo ≤ s.at) (te_holds m rva k) _ _ (λ f. omega arith) (λ f. h))
    (λ e. by_cond (λ (s : Span). m.lo ≤ s.at) (ltb (row_of xs m rva k) m.rows) _ _ (λ f. omega arith) (λ f. h))
