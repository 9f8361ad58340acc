-- How far what a pile sets can reach.
-- Assumes nothing.
use Rattle.std.specs.Prelude.{ℕ, zero, suc, ◌+◌, ◌≤◌, ◌≡◌, take, drop}
use mathlib.Core.List.{List, [], ◌∷◌}
use Rattle.std.proofs.Math.Path.{refl}
use Rattle.std.proofs.Common.{arith, length-take, get_or-take, get_or-drop}
use Rattle.std.proofs.Math.Decide.{dec_lt}
use Rattle.std.proofs.Math.ListN.{get_or-eq_default}
use Rattle.words.specs.Le.{le, Bytes}
use Rattle.sheet.specs.ByteAt.{byte_at}
use Rattle.sheet.specs.ByteAtLaws.{byte_high, byte_back, byte_small}
use Rattle.fold_pile.specs.Pile.{sheet_at, after, sheets, Piled}
use Rattle.fold_cells.specs.SetAt.{over, set_from, set_at}
use Rattle.fold_cells.specs.Cells.{Good, Bounded}

-- a part of a list of bytes has bytes only
pub bytes_part : (p : List ℕ) → Bytes p → (a n : ℕ) → Bytes (take n (drop a p))
unfolding Bytes
bytes_part p b a n k =
    elim (dec_lt k n) [
      | yes h ↦ rw (get_or-take n (drop a p) k 0 h, get_or-drop a p k 0) (b (a + k))
      | no h ↦ rw (get_or-eq_default (take n (drop a p)) 0 {n = k} (rw length-take (omega arith))) (omega arith)
    ]

over_zero : (new old : ℕ) → over new old ≡ 0 → (new ≡ 0) × (old ≡ 0)
over_zero zero old e = (refl, e)
over_zero (suc b) old e = absurd (omega arith)

over_small : (new old : ℕ) → new ≤ 256 → old ≤ 256 → over new old ≤ 256
over_small zero old a b = b
over_small (suc n) old a b = a

-- what is not set stayed so
pub from_zero : (ss : List (List ℕ)) (old k : ℕ) → set_from old ss k ≡ 0 → old ≡ 0
unfolding set_from
from_zero [] old k e = e
from_zero (s ∷ ss) old k e = (over_zero (byte_at s k) old (from_zero ss (over (byte_at s k) old) k e)).1

module _ (p : List ℕ) (b : Bytes p) where
  small_from : (ss : List (List ℕ)) (at old k : ℕ) → Piled p at ss → old ≤ 256 → set_from old ss k ≤ 256
  unfolding set_from
  small_from [] at old k d h = h
  small_from (s ∷ ss) at old k d h =
      let e : byte_at s k ≤ 256 = rw d.0 (byte_small (sheet_at p at) (bytes_part p b (at + 4) (le 4 p at)) k) in
      small_from ss (after p at) (over (byte_at s k) old) k d.3 (over_small (byte_at s k) old e h)

  high_from : (ss : List (List ℕ)) (at k : ℕ) → Piled p at ss → 4295032830 ≤ k → set_from 0 ss k ≡ 0
  unfolding set_from
  high_from [] at k d h = refl
  high_from (s ∷ ss) at k d h =
      let e : byte_at s k ≡ 0 = rw d.0 (byte_high (sheet_at p at) (bytes_part p b (at + 4) (le 4 p at)) k h) in
      rw e (high_from ss (after p at) k d.3 h)

  back_from : (ss : List (List ℕ)) (at k : ℕ) → Piled p at ss → 4294967295 ≤ k → set_from 0 ss k ≡ 0 → set_from 0 ss (suc k) ≡ 0
  unfolding set_from
  back_from [] at k d h e = refl
  back_from (s ∷ ss) at k d h e =
      let z : byte_at s k ≡ 0 = (over_zero (byte_at s k) 0 (from_zero ss (over (byte_at s k) 0) k e)).0 in
      let n : byte_at s (suc k) ≡ 0 =
      rw d.0 (byte_back (sheet_at p at) (bytes_part p b (at + 4) (le 4 p at)) k h (rw d.0 at z)) in
      rw n (back_from ss (after p at) k d.3 h (rw z at e))

  pub set_bounded : Good p → Bounded (set_at (sheets p))
  unfolding set_at
  set_bounded good =
      record {
        small = λ k. small_from (sheets p) 0 0 k good (omega arith);
        high = λ k h. high_from (sheets p) 0 k good h;
        back = λ k h e. back_from (sheets p) 0 k good h e;
      }
