-- Marks, one place at a time.
-- Assumes nothing.
use Rattle.std.specs.Prelude.{ℕ, zero, suc, ◌+◌, ◌-◌, ◌^◌, ◌≤◌, ◌<◌, List, ◌≡◌, refl, length, get_or, set}
use Rattle.std.proofs.Common.{arith, pow-suc, mul-pos, mul-zero, length-set, get_or-set_same, get_or-set_other}
use Rattle.std.proofs.Math.Decide.{ℕ_discrete, dec_lt}
use Rattle.words.specs.Le.{le}
use Rattle.items.specs.declared.Item.{Item}
use Rattle.audit_marks.specs.Marks.{Marked, Clear, First}
use Rattle.items.specs.Items.{kind_number, word_kind}

-- one place more has no mark
pub clear_more : (ms : List ℕ) (i j : ℕ) → Clear ms i j → get_or ms j 0 ≡ 0 → Clear ms i (j + 1)
clear_more ms i j clear here k h l = elim (ℕ_discrete k j) [ yes e ↦ rw e here | no e ↦ clear k h (omega arith) ]

power : (k : ℕ) → 0 < 256 ^ k
power zero = omega arith
power (suc k) = rw (pow-suc 256 k) (mul-pos (power k) (omega arith))

-- a number that is 0 has no byte that isn't
le_none : (k : ℕ) (xs : List ℕ) (at : ℕ) → le k xs at ≡ 0 → (j : ℕ) → j < k → get_or xs (at + j) 0 ≡ 0
unfolding le
le_none zero xs at e j h = absurd (omega arith)
le_none (suc k) xs at e j h = elim (ℕ_discrete j k) [ yes s ↦ rw s top | no s ↦ le_none k xs at (omega arith) j (omega arith) ]
  where
    top : get_or xs (at + k) 0 ≡ 0
    top = elim (dec_lt 0 (get_or xs (at + k) 0)) [ yes p ↦ absurd (omega (arith, mul-pos (power k) p)) | no p ↦ omega arith ]

-- eight places more have none
pub clear_eight : (ms : List ℕ) (i j : ℕ) → Clear ms i j → le 8 ms j ≡ 0 → Clear ms i (j + 8)
clear_eight ms i j clear none k h l =
    elim (dec_lt k j) [
      | yes b ↦ clear k h b
      | no b ↦ let e : j + (k - j) ≡ k = omega arith in rw e at (le_none 8 ms j none (k - j) (omega arith))
    ]

-- a number none of whose bytes isn't 0
le_zero : (k : ℕ) (xs : List ℕ) (at : ℕ) → ((j : ℕ) → j < k → get_or xs (at + j) 0 ≡ 0) → le k xs at ≡ 0
unfolding le
le_zero zero xs at z = refl
le_zero (suc k) xs at z = rw (z k (omega arith), le_zero k xs at (λ j h. z j (omega arith)), mul-zero)

-- past places without a mark, eight of which one has
pub first_on : (ms : List ℕ) (i n k j : ℕ) → i ≤ k → k + 8 ≤ n → Clear ms i k → (le 8 ms k ≡ 0 → ⊥) → First ms k (k + 8) j
    → First ms i n j × (j < n)
first_on ms i n k j h l clear some f =
    elim (dec_lt j (k + 8)) [
      | yes b ↦ (
        record {
          onward = omega (arith, f.onward);
          most = omega (arith, f.most);
          clear = λ p a c. elim (dec_lt p k) [ yes g ↦ clear p a g | no g ↦ f.clear p (omega arith) c ];
          here = λ g. f.here b;
        },
        omega arith,
      )
      | no b ↦ absurd (some (le_zero 8 ms k (λ p a. f.clear (k + p) (omega arith) (omega arith))))
    ]

-- the mark of a word that starts i places after `from`
pub marked_set : (ms : List ℕ) (from n : ℕ) (x : Item) (i : ℕ) → i < length ms → kind_number x.kind ≡ word_kind → x.at ≡ from + i
    → Marked ms from n x (set ms i x.len)
marked_set ms from n x i h two e =
    record {
      same_length = length-set ms i x.len;
      here = λ j l k g. let s : j ≡ i = omega arith in rw s (get_or-set_same ms i x.len 0 h);
      other = λ j o. get_or-set_other ms i j x.len 0 (λ s. o (two, omega arith));
    }
