-- Request #107: entries of one block that are words of its page.
-- Assumes nothing.
use Rattle.std.specs.Prelude.{ℕ, ◌+◌, ◌*◌, ◌/◌, ◌%◌, ◌≤◌, ◌<◌, cond, List, ◌⊎◌, ◌≡◌, eqb, length, get_or}
use Rattle.words.specs.Le.{le}
use Rattle.inside_pages.specs.declared.Page.{Page}

-- how many bytes the word of an entry has, 0 where it names none
unfoldable pub width_of : ℕ → ℕ
width_of e = cond (eqb (e / 4096) 3) 4 (cond (eqb (e / 4096) 10) 8 0)

-- where it ends
abbrev pub end_of : Page → ℕ → ℕ
end_of q e = q.at + e % 4096 + width_of e

-- entry i of those from `at` on
abbrev pub entry : List ℕ → ℕ → ℕ → ℕ
entry xs at i = le 2 xs (at + 2 * i)

-- the entry e of the page q is a word from its floor on and in its room
abbrev pub InRoom : Page → ℕ → Type 0
InRoom q e = (1 ≤ width_of e) × (q.floor ≤ e % 4096) × (e % 4096 + width_of e ≤ q.room)

-- the k entries from `at` on are such words, wherever they lie
abbrev pub AnyIn : List ℕ → Page → ℕ → ℕ → Type 0
AnyIn xs q at k = (i : ℕ) → i < k → InRoom q (entry xs at i)

-- the same, and it lies in low..high
abbrev pub InGap : Page → ℕ → ℕ → ℕ → Type 0
InGap q low high e = InRoom q e × (low ≤ q.at + e % 4096) × (end_of q e ≤ high)

-- the words of two entries of a page share no byte
abbrev pub Beside : ℕ → ℕ → Type 0
Beside d e = (d % 4096 + width_of d ≤ e % 4096) ⊎ (e % 4096 + width_of e ≤ d % 4096)

-- the k entries from `at` on are words in low..high, each beside all before it, and end by `end`
pub record Lain (xs : List ℕ) (q : Page) (low high at k end : ℕ) : Type 0 where
  pub up : low ≤ end
  pub most : low ≤ high → end ≤ high
  pub each : (i : ℕ) → i < k → InGap q low high (entry xs at i) × (end_of q (entry xs at i) ≤ end)
  pub beside : (i : ℕ) → i < k → (j : ℕ) → j < i → Beside (entry xs at i) (entry xs at j)

-- and each byte of these words is marked
pub record Strewing (xs : List ℕ) (q : Page) (low high at k end : ℕ) (ms : List ℕ) : Type 0 where
  pub lain : Lain xs q low high at k end
  pub long : length ms ≡ 4104
  pub marked : (i : ℕ) → i < k → (b : ℕ) → entry xs at i % 4096 ≤ b → b < entry xs at i % 4096 + width_of (entry xs at i)
      → get_or ms b 0 ≡ 0 → ⊥
