-- Laws of stretches that agree.
-- Assumes nothing.
use Rattle.std.specs.Prelude.{◌≡◌, refl, List, ℕ, zero, suc, ◌+◌, ◌-◌, ◌≤◌, ◌<◌, get_or, slice_range}
use Rattle.std.proofs.Common.{sym, ◌∙◌, arith, get_or-take, get_or-drop}
use Rattle.audit_stretch.specs.Stretch.{SameBytes, Until}
use Rattle.piece_stretch.specs.Stretch.{after}

-- ---- a list whose first element stands at position o

pub after_none : (a : List ℕ) → after 0 a ≡ a
unfolding after
after_none a = refl

pub get_d_after : (o : ℕ) (a : List ℕ) (k : ℕ) → o ≤ k → get_or (after o a) k 0 ≡ get_or a (k - o) 0
unfolding after
get_d_after zero a k h = let e : k - 0 ≡ k = omega arith in rw e
get_d_after (suc o) a zero h = absurd (omega arith)
get_d_after (suc o) a (suc k) h = let e : suc k - suc o ≡ k - o = omega arith in rw e (get_d_after o a k (omega arith))

-- ---- where the two first differ

get_in : (l : List ℕ) (from to i : ℕ) → i < to - from → get_or (slice_range l from to) i 0 ≡ get_or l (from + i) 0
get_in l from to i h = get_or-take (to - from) _ i 0 h ∙ get_or-drop from l i 0

-- the stretch looked at by itself
pub until_part : (a b : List ℕ) (o from to k : ℕ) → o ≤ from → from ≤ to
    → Until (slice_range a (from - o) (to - o)) (slice_range b from to) 0 (to - from) k → Until (after o a) b from to (from + k)
until_part a b o from to k h l u =
    record {
      onward = omega arith;
      most = omega (arith, u.most);
      clear = λ i g m.
          let s : from + (i - from) ≡ i = omega arith in
          rw s at (sym (second (i - from) (omega (arith, u.most))) ∙ u.clear (i - from) (omega arith) (omega arith) ∙ first (i - from) (omega (arith, u.most)));
      found = λ g e. u.found (omega arith) (second k (omega arith) ∙ e ∙ sym (first k (omega arith)));
    }
  where
    first : (i : ℕ) → i < to - from → get_or (slice_range a (from - o) (to - o)) i 0 ≡ get_or (after o a) (from + i) 0
    first i g =
        let s : from - o + i ≡ from + i - o = omega arith in
        get_in a (from - o) (to - o) i (omega arith) ∙ rw s (sym (get_d_after o a (from + i) (omega arith)))

    second : (i : ℕ) → i < to - from → get_or (slice_range b from to) i 0 ≡ get_or b (from + i) 0
    second i g = get_in b from to i g

pub same_part : (a b : List ℕ) (o from to : ℕ) → o ≤ from → from ≤ to
    → SameBytes (slice_range a (from - o) (to - o)) (slice_range b from to) 0 (to - from) → SameBytes (after o a) b from to
same_part a b o from to h l same =
    let n = to - from in
    let u : Until (slice_range a (from - o) (to - o)) (slice_range b from to) 0 n n =
    record { onward = omega arith; most = omega arith; clear = same; found = λ g. absurd (omega arith) } in
    let e : from + n ≡ to = omega arith in
    rw e at (until_part a b o from to n h l u).clear
