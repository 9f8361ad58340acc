-- Which bytes rule 9 looks at.
-- Assumes nothing.
use Rattle.std.specs.Prelude.{ℕ, ◌+◌, ◌≤◌, List, ◌≡◌}
use Rattle.std.proofs.Common.{arith}
use Rattle.facts.specs.Fact.{test}
use Rattle.facts.specs.FactLaws.{same_test}
use Rattle.words.specs.Le.{le, Alike}
use Rattle.words.specs.LeLaws.{le_in}
use Rattle.table.specs.Table.{extended, extended_fits, patch_fits}

module _ (a b : List ℕ) (p end : ℕ) where
  -- bytes p..p+3
  pub extended_looks : (p + 4 ≤ end → Alike a b p 4) → test (extended a p end) ≡ test (extended b p end)
  extended_looks same =
      let mark : p + 4 ≤ end → le 4 a p ≡ le 4 b p = λ h. le_in (same h) 4 p (omega arith) (omega arith) in
      same_test (extended a p end) (extended b p end) (λ h. (h.0, rw (mark h.0) at h.1)) (λ h. (h.0, rw (mark h.0) h.1))

  -- bytes p+4..p+7
  pub extended_fits_looks : (p + 8 ≤ end → Alike a b (p + 4) 4) → test (extended_fits a p end) ≡ test (extended_fits b p end)
  extended_fits_looks same =
      let size : p + 8 ≤ end → le 4 a (p + 4) ≡ le 4 b (p + 4) = λ h. le_in (same h) 4 (p + 4) (omega arith) (omega arith) in
      same_test (extended_fits a p end) (extended_fits b p end) (λ h. (h.0, rw (size h.0) at h.1))
      (λ h. (h.0, rw (size h.0) h.1))

  -- bytes p..p+3, p+6 and p+8..p+11
  pub patch_looks : (p + 12 ≤ end → Alike a b p 4 × Alike a b (p + 6) 1 × Alike a b (p + 8) 4)
      → test (patch_fits a p end) ≡ test (patch_fits b p end)
  patch_looks same =
      let mark : p + 12 ≤ end → le 4 a p ≡ le 4 b p = λ h. le_in (same h).0 4 p (omega arith) (omega arith) in
      let revision : p + 12 ≤ end → le 1 a (p + 6) ≡ le 1 b (p + 6) = λ h. le_in (same h).1 1 (p + 6) (omega arith) (omega arith) in
      let count : p + 12 ≤ end → le 4 a (p + 8) ≡ le 4 b (p + 8) = λ h. le_in (same h).2 4 (p + 8) (omega arith) (omega arith) in
      same_test (patch_fits a p end) (patch_fits b p end)
      (λ h. (h.0, rw (mark h.0, revision h.0, count h.0) at h.1))
      (λ h. (h.0, rw (mark h.0, revision h.0, count h.0) h.1))
