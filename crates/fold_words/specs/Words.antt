-- Runs of positions as words. f is what is set at each position, 0 where nothing is.
-- Assumes nothing.
use Rattle.std.specs.Prelude.{ℕ, ◌+◌, ◌/◌, ◌%◌, ◌≤◌, ◌<◌, List, ◌≡◌, length, get_or}
use Rattle.fold_words.specs.declared.Open.{Open}

-- where a word's run starts, and how long it is
unfoldable pub start : ℕ → ℕ
start w = w / 4294967296

unfoldable pub size : ℕ → ℕ
size w = w / 65536 % 65536

-- w is the word of this run
pub record Word (w a n : ℕ) : Type 0 where
  pub starts : start w ≡ a
  pub long : size w ≡ n

-- all positions from a up to e are set
pub record Filled (f : ℕ → ℕ) (a e : ℕ) : Type 0 where
  pub some : (k : ℕ) → a ≤ k → k < e → f k ≡ 0 → ⊥

-- all positions of a word's run
abbrev pub Named : (ℕ → ℕ) → ℕ → Type 0
Named f w = Filled f (start w) (start w + size w)

-- of each word's
pub record Sound (f : ℕ → ℕ) (xs : List ℕ) : Type 0 where
  pub word : (i : ℕ) → Named f (get_or xs i 0)

-- ys is as long as xs, and sound where xs is
pub record Keeps (xs ys : List ℕ) : Type 0 where
  pub long : length ys ≡ length xs
  pub sound : (f : ℕ → ℕ) → Sound f xs → Sound f ys

-- zs is as long as ys, and sound where xs and ys are
pub record KeepsBoth (xs ys zs : List ℕ) : Type 0 where
  pub long : length zs ≡ length ys
  pub sound : (f : ℕ → ℕ) → Sound f xs → Sound f ys → Sound f zs

-- a run that a word can have
pub record Fine (o : Open) : Type 0 where
  pub up : o.start ≤ o.end
  pub short : o.end < o.start + 65536
  pub low : o.start < 4294967296

-- r is the run of the word w
pub record Opened (w place : ℕ) (r : Open) : Type 0 where
  pub fine : Fine r
  pub from : r.start ≡ start w
  pub to : r.end ≡ start w + size w
  pub at : r.at ≡ place

-- xs with the run put down
pub record PutDown (xs : List ℕ) (o : Open) (ys : List ℕ) : Type 0 where
  pub long : length ys ≡ length xs
  pub sound : (f : ℕ → ℕ) → Sound f xs → Filled f o.start o.end → Sound f ys

-- xs with the word w joined to the run o, or with o put down
pub record Joins (xs : List ℕ) (o : Open) (w : ℕ) (r : Open) (ys : List ℕ) : Type 0 where
  pub fine : Fine r
  pub next : r.at ≤ o.at + 1
  pub long : length ys ≡ length xs
  pub sound : (f : ℕ → ℕ) → Sound f xs → Filled f o.start o.end → Named f w → Sound f ys × Filled f r.start r.end
