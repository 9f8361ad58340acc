-- Which bytes the rules 10 and 11 look at.
-- Assumes nothing.
use Rattle.std.specs.Prelude.{ℕ, ◌+◌, List, ◌≡◌, refl, length, get_or}
use Rattle.std.proofs.Common.{arith, add-zero}
use Rattle.facts.specs.Fact.{test}
use Rattle.words.specs.Le.{Alike}
use Rattle.region.specs.Region.{region_fits, marks_fit}

module _ (a b : List ℕ) where
  -- none
  pub region_looks : (E c z : ℕ) → length a ≡ length b → test (region_fits a E c z) ≡ test (region_fits b E c z)
  region_looks E c z long = rw long

  -- bytes c+6 and c+7
  pub marks_looks : (c k : ℕ) → Alike a b (c + 6) 2 → test (marks_fit a c k) ≡ test (marks_fit b c k)
  marks_looks c k same =
      let under : get_or a (c + 6) 0 ≡ get_or b (c + 6) 0 = rw add-zero at (same.same 0 (omega arith)) in
      let letter : get_or a (c + 7) 0 ≡ get_or b (c + 7) 0 = let e : c + 6 + 1 ≡ c + 7 = omega arith in rw e at (same.same 1 (omega arith)) in
      rw (under, letter)
