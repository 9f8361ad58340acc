-- The next of the words that the tables name, as the walk keeps it: the base word, then the patch words in order, whose places ms has.
-- Assumes nothing.
use Rattle.std.specs.Prelude.{ℕ, suc, ◌+◌, ◌≤◌, ◌<◌, List, ◌⊎◌, ◌≡◌, length, get_or}
use Rattle.table_order.specs.Ranks.{Ranked}
use Rattle.answers.specs.declared.Reading.{Reading}
use Rattle.reading_rules.specs.Reading.{entries_at}
use Rattle.move_image.specs.Fixed.{fixed_at}
use Rattle.audit_tables.specs.declared.Ahead.{Ahead}

-- the base word, and after it the whole list
abbrev pub started : Reading → Ahead
started r = record { first = r.H + 28; next = 0 }

-- p stands in the list from k on
abbrev pub Listed : Reading → List ℕ → ℕ → ℕ → Type 0
Listed r ms k p = (i : ℕ) × (k ≤ i) × (i < r.n) × (get_or ms i 0 ≡ p)

-- each word that ends past `at` stands in the list from k on
abbrev pub Rest : List ℕ → Reading → List ℕ → ℕ → ℕ → Type 0
Rest xs r ms at k = (j : ℕ) → j < suc r.n → at < fixed_at xs r j + 4 → Listed r ms k (fixed_at xs r j)

-- q's first is the place of a word or the length; each word that ends past `at` stands there or in the list from q's next on, and nothing
-- in the list from there on stands before it
pub record Known (xs : List ℕ) (r : Reading) (ms : List ℕ) (at : ℕ) (q : Ahead) : Type 0 where
  pub ranked : Ranked xs (entries_at r) r.n ms
  pub most : q.first ≤ length xs
  pub word : q.first < length xs → (j : ℕ) × (j < suc r.n) × (fixed_at xs r j ≡ q.first)
  pub past : (j : ℕ) → j < suc r.n → at < fixed_at xs r j + 4 → (fixed_at xs r j ≡ q.first) ⊎ Listed r ms q.next (fixed_at xs r j)
  pub after : (k : ℕ) → q.next ≤ k → k < r.n → q.first ≤ get_or ms k 0

-- w is the place of such a word or the length, and none that ends past `at` starts before it
pub record Foremost (xs : List ℕ) (r : Reading) (at w : ℕ) : Type 0 where
  pub most : w ≤ length xs
  pub word : w < length xs → (j : ℕ) × (j < suc r.n) × (fixed_at xs r j ≡ w)
  pub least : (j : ℕ) → j < suc r.n → at < fixed_at xs r j + 4 → w ≤ fixed_at xs r j
