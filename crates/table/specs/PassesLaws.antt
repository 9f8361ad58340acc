-- What the passes over the entries show, and what they look at.
-- Assumes nothing.
use Rattle.std.specs.Prelude.{ℕ, ◌+◌, ◌*◌, ◌<◌, List, ◌≡◌, length}
use Rattle.std.proofs.Common.{arith}
use Rattle.std.proofs.Math.Nat.{add_assoc}
use Rattle.facts.specs.FactLaws.{same_test}
use Rattle.facts.specs.First.{first_fault}
use Rattle.facts.specs.FirstLaws.{first_cong}
use Rattle.words.specs.Le.{le, Alike}
use Rattle.words.specs.LeLaws.{le_cong}
use Rattle.table.specs.EntryLaws.{Placed, placed}
use Rattle.table.specs.Passes.{place, unrefused, clear}

pub place_placed : (xs : List ℕ) (t i : ℕ) → Placed (length xs) (place xs t i)
unfolding place
place_placed xs t i = placed (length xs) (le 4 xs (t + 4 * i))

-- the passes look at the length and the table alone
module _ (a b : List ℕ) (t n : ℕ) (long : length a ≡ length b) (same : Alike a b t (4 * n)) where
  pub place_cong : (i : ℕ) → i < n → place a t i ≡ place b t i
  unfolding place
  place_cong i h =
      let e : le 4 a (t + 4 * i) ≡ le 4 b (t + 4 * i) =
      le_cong 4 a b (t + 4 * i) (record { same = λ j k. rw add_assoc (same.same (4 * i + j) (omega arith)) }) in
      cc

  pub unrefused_cong : (number : ℕ) → first_fault (unrefused number a t) n ≡ first_fault (unrefused number b t) n
  unrefused_cong number = first_cong (unrefused number a t) (unrefused number b t) n (λ i h. rw (place_cong i h))

  pub clear_cong : (E c z : ℕ) → first_fault (clear a t E c z) n ≡ first_fault (clear b t E c z) n
  clear_cong E c z =
      first_cong (clear a t E c z) (clear b t E c z) n (λ i h.
      let e = place_cong i h in
      same_test (clear a t E c z i) (clear b t E c z i)
      (λ p. (rw e at p.0, λ j k. let d = place_cong j (omega arith) in rw (e, d) at (p.1 j k)))
      (λ p. (rw e p.0, λ j k. let d = place_cong j (omega arith) in rw (e, d) (p.1 j k))))
