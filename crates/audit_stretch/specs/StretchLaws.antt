-- Laws of stretches that agree.
-- Assumes nothing.
use Rattle.std.specs.Prelude.{◌≡◌, List, ℕ, ◌+◌, ◌-◌, ◌≤◌, get_or}
use Rattle.std.proofs.Common.{sym, arith}
use Rattle.std.proofs.Math.Decide.{dec_lt}
use Rattle.words.specs.Le.{le, Bytes}
use Rattle.words.specs.PutLaws.{le_one}
use Rattle.audit_stretch.specs.Stretch.{SameBytes, Until}

-- two stretches of agreement are one
pub same_join : (a b : List ℕ) (from k to : ℕ) → SameBytes a b from k → SameBytes a b k to → SameBytes a b from to
same_join a b from k to s t i h l = elim (dec_lt i k) [ yes g ↦ s i h g | no g ↦ t i (omega arith) l ]

-- and so where the second starts inside the first
pub same_over : (a b : List ℕ) (from at k to : ℕ) → at ≤ k → SameBytes a b from k → SameBytes a b at to → SameBytes a b from to
same_over a b from at k to m s t = same_join a b from k to s (λ i h l. t i (omega arith) l)

-- equal words are equal bytes
pub same_le : (m : ℕ) (a b : List ℕ) (at : ℕ) → Bytes a → Bytes b → le m a at ≡ le m b at → SameBytes a b at (at + m)
same_le m a b at ba bb e i h l =
    let same = le_one m a b at ba bb e in
    let s : at + (i - at) ≡ i = omega arith in
    sym (rw s at (same.same (i - at) (omega arith)))

-- a difference at the first position
pub until_at : (a b : List ℕ) (from to : ℕ) → from ≤ to → (get_or b from 0 ≡ get_or a from 0 → ⊥) → Until a b from to from
until_at a b from to h differs =
    record { onward = omega arith; most = h; clear = λ i g l. absurd (omega arith); found = λ l. differs }
