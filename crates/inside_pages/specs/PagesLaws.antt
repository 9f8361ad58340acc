-- Why the sum gives what the search for each address would give.
-- Assumes nothing.
use Rattle.std.specs.Prelude.{ℕ, ◌+◌, ◌*◌, ◌≤◌, ◌<◌, List, ◌≡◌, refl}
use native.Mathlib.Omega.{arith}
use borrow.Author.Tests.{lt-ltb, eq-eqb, ne_eqb}
use Rattle.facts.specs.Fact.{Holds}
use Rattle.facts.specs.FactLaws.{passes}
use Rattle.facts.specs.FirstLaws.{is_first}
use Rattle.words.specs.Le.{Alike}
use Rattle.inside_rows.specs.declared.Module.{Module}
use Rattle.inside_rows.specs.declared.Row.{Row}
use Rattle.inside_rows.specs.Rows.{row_at, te_kind, module_number}
use Rattle.inside_places.specs.Places.{covers, row_of, found_in, te_holds, shifted, found}
use Rattle.inside_places.specs.PlacesLaws.{found_cong}
use Rattle.inside_pages.specs.declared.Page.{Page}
use Rattle.inside_pages.specs.Pages.{FirstRow, Paged}

-- the first section header that reaches the page is the one that a search finds, since none before it does
module _ (xs : List ℕ) (m : Module) (page i : ℕ) (first : FirstRow xs m page i) (some : i < m.rows) where
  abbrev row : Row
  row = row_at xs m.table i

  row_is : (o k : ℕ) → o < 4096 → 0 < k → Holds (covers row (page + o) k) → i ≡ row_of xs m (page + o) k
  unfolding row_of
  row_is o k h long here =
      is_first (record {
        within = omega arith;
        clear = λ j l d. first.clear j l (omega (arith, d.0, d.1), omega (arith, d.0, d.1));
        fault = λ l d. d here;
      })

  pub paged_in : (q : Page) → (module_number m.kind ≡ te_kind → ⊥) → row.va ≤ page + q.floor → m.lo + row.ptr + row.raw ≤ m.hi → q.page ≡ page
      → q.at + row.va ≡ m.lo + row.ptr + page → page + q.room ≡ row.va + row.raw → Paged xs m page q
  unfolding found found_in
  paged_in q kind low high is at room =
      record {
        is = is;
        within = omega arith;
        finds = λ o k h up long fit.
            rw (ne_eqb (module_number m.kind) te_kind kind, ← row_is o k h long (omega arith, omega arith), lt-ltb i m.rows some) (omega arith);
      }

-- a TE module has all bytes at one shift
pub paged_shifted : (xs : List ℕ) (m : Module) (page : ℕ) (q : Page) → module_number m.kind ≡ te_kind → m.stripped ≤ page + 40 + q.floor → q.page ≡ page
    → q.at + m.stripped ≡ m.lo + page + 40 → q.at + q.room ≡ m.hi → Paged xs m page q
unfolding found shifted
paged_shifted xs m page q kind low is at room =
    record {
      is = is;
      within = omega arith;
      finds = λ o k h up long fit.
          rw (eq-eqb (module_number m.kind) te_kind kind, passes (te_holds m (page + o) k) (omega arith, omega arith)) (omega arith);
    }

-- images that agree on the section headers have the page at the same place
pub paged_cong : (a b : List ℕ) (m : Module) (page : ℕ) (q : Page) → Alike a b m.table (40 * m.rows) → Paged a m page q
    → Paged b m page q
paged_cong a b m page q rows paged =
    record {
      is = paged.is;
      within = paged.within;
      finds = λ o k h up long fit. rw (found_cong a b m rows (page + o) k) at (paged.finds o k h up long fit);
    }

-- the page of q is the one that it was made for
pub paged_own : (xs : List ℕ) (m : Module) (page : ℕ) (q : Page) → Paged xs m page q → Paged xs m q.page q
paged_own xs m page q paged =
    record { is = refl; within = paged.within; finds = λ o k h up long fit. rw paged.is (paged.finds o k h up long fit) }
