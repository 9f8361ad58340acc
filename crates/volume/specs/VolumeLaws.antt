-- Which bytes the rules 1 to 4 look at.
-- Assumes nothing.
use Prim.Native.Nat.{ℕ, zero, suc, ◌+◌, ◌*◌, ◌/◌, ◌≤◌}
use Rattle.std.specs.Prelude.{List, ◌≡◌, length}
use Rattle.std.proofs.Math.Path.{refl, sym}
use Rattle.std.proofs.Common.{◌∙◌, arith}
use Rattle.facts.specs.Fact.{test}
use Rattle.facts.specs.FactLaws.{same_test}
use Rattle.words.specs.Le.{le, Alike}
use Rattle.words.specs.LeLaws.{le_in}
use Rattle.volume.specs.Volume.{sum_words, volume_fits, extension_fits, sum_bytes, file_sum, file_fits, section_fits}

module _ (a b : List ℕ) where
  sum_words_lem : (n k : ℕ) → 2 * n ≤ k → Alike a b 0 k → sum_words a n ≡ sum_words b n
  unfolding sum_words
  sum_words_lem zero k h same = refl
  sum_words_lem (suc n) k h same = rw (sum_words_lem n k (omega arith) same, le_in same 2 (2 * n) (omega arith) (omega arith))

  pub sum_bytes_lem : (at n k : ℕ) → n ≤ k → Alike a b at k → sum_bytes a at n ≡ sum_bytes b at n
  unfolding sum_bytes
  sum_bytes_lem at zero k h same = refl
  sum_bytes_lem at (suc n) k h same = rw (sum_bytes_lem at n k (omega arith) same, le_in same 1 (at + n) (omega arith) (omega arith))

  -- bytes 40..43 and 0..h-1
  pub volume_looks : (h v : ℕ) → length a ≡ length b → Alike a b 40 4 → Alike a b 0 h → test (volume_fits a h v) ≡ test (volume_fits b h v)
  volume_looks h v long mark head =
      rw (long, le_in mark 4 40 (omega arith) (omega arith), sum_words_lem (h / 2) h (omega arith) head)

  -- bytes x+16..x+19
  pub extension_looks : (h v x : ℕ) → Alike a b (x + 16) 4 → test (extension_fits a h v x) ≡ test (extension_fits b h v x)
  extension_looks h v x same = rw (le_in same 4 (x + 16) (omega arith) (omega arith))

  -- bytes f..f+22 but for f+17
  pub file_looks : (v f : ℕ) → Alike a b f 17 → Alike a b (f + 18) 5 → test (file_fits a v f) ≡ test (file_fits b v f)
  unfolding file_sum
  file_looks v f low high =
      let attribute : le 1 a (f + 19) ≡ le 1 b (f + 19) = le_in high 1 (f + 19) (omega arith) (omega arith) in
      let size : le 3 a (f + 20) ≡ le 3 b (f + 20) = le_in high 3 (f + 20) (omega arith) (omega arith) in
      let sum : sum_bytes a f 17 + sum_bytes a (f + 18) 5 ≡ sum_bytes b f 17 + sum_bytes b (f + 18) 5 =
      rw (sum_bytes_lem f 17 17 (omega arith) low, sum_bytes_lem (f + 18) 5 5 (omega arith) high) in
      same_test (file_fits a v f) (file_fits b v f)
      (λ h. (
        (λ i l. sym (low.same i (omega arith)) ∙ h.0 i l),
        (h.1.0, (rw attribute at h.1.1.0, (rw sum at h.1.1.1.0, rw size at h.1.1.1.1))),
      ))
      (λ h. (
        (λ i l. low.same i (omega arith) ∙ h.0 i l),
        (h.1.0, (rw attribute h.1.1.0, (rw sum h.1.1.1.0, rw size h.1.1.1.1))),
      ))

  -- bytes f+24..f+27 and f+39
  pub section_looks : (f s : ℕ) → Alike a b (f + 24) 4 → Alike a b (f + 39) 1 → test (section_fits a f s) ≡ test (section_fits b f s)
  section_looks f s same revision =
      rw (
        le_in same 3 (f + 24) (omega arith) (omega arith),
        le_in same 1 (f + 27) (omega arith) (omega arith),
        le_in revision 1 (f + 39) (omega arith) (omega arith),
      )
