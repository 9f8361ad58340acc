-- Request #107, rule 26: the walk over all items in one window, and all windows from E up to top.
-- Assumes nothing.
use Rattle.std.specs.Prelude.{ℕ, ◌+◌, ◌≤◌, ◌<◌, List, ◌++◌, ◌≡◌, Option, MatchOption}
use Rattle.facts.specs.Fact.{Fact, ◌≤?◌, ◌≡?◌, ◌and◌, ◌or◌, Holds}
use Rattle.table.specs.Passes.{place}
use Rattle.items.specs.declared.Item.{Item}
use Rattle.items.specs.Items.{each, apart_from}
use Rattle.items.specs.Shapes.{solid}
use Rattle.inside_rows.specs.declared.Module.{Module}
use Rattle.inside_blocks.specs.declared.Cursor.{Cursor}
use Rattle.inside_walk.specs.declared.Spot.{Spot}
use Rattle.inside_walk.specs.Whole.{walked}
use Rattle.inside_walk.specs.Walkable.{Walkable, Passing}
use Rattle.inside_judge.specs.Rules.{patch_items}
use Rattle.apart_marks.specs.Marks.{Marks, Patch}
use Rattle.apart_windows.specs.declared.Trail.{Trail}
use Rattle.apart_windows.specs.Clear.{apart_from_at, between}
use Rattle.apart_windows.specs.Runs.{end_by}

-- what the rules before give: words lie from E up to top, and items without bytes stand at 0
pub record Ready (xs : List ℕ) (v f t n E top : ℕ) : Type 0 where
  pub walkable : Walkable xs v f
  pub patch : Patch xs t n
  pub patch_high : (i : ℕ) → i < n → E ≤ (place xs t i).at
  pub patch_ends : (i : ℕ) → i < n → (place xs t i).at + 4 ≤ top
  pub words : Holds (each (between E top) (walked xs v f))
  pub solid : Holds (each solid (walked xs v f))
  pub top_small : top ≤ 16777216

-- ---- one window

-- some items are passed, with their marks in ms, and are apart at the window's bytes
pub record Scanning (xs : List ℕ) (v f : ℕ) (before : List Item) (w : ℕ) (ms : List ℕ) (s : Spot) : Type 0 where
  pub passed : List Item
  pub at : Passing xs v f passed s
  pub marks : Marks (before ++ passed) w ms
  pub apart : (j : ℕ) → j < 65536 → Holds (apart_from_at (w + j) before passed)

-- all are apart at the window's bytes
pub record Scanned (xs : List ℕ) (v f : ℕ) (before : List Item) (w : ℕ) : Type 0 where
  pub clear : (j : ℕ) → j < 65536 → Holds (apart_from_at (w + j) before (walked xs v f))

-- ---- what a window needn't look at

-- the items before s end by k
pub record Behind (xs : List ℕ) (v f k : ℕ) (s : Spot) : Type 0 where
  pub passed : List Item
  pub at : Passing xs v f passed s
  pub low : Holds (each (end_by k) passed)

-- no header, entry or block of the module is left
abbrev pub done : Module → Cursor → Fact
done m c = c.heads ≡? 0 and c.left ≡? 0 and m.size ≤? c.used

-- nothing from s on starts below k: the files and sections to come don't, nor does the module at hand, unless it is done
abbrev pub past : ℕ → Spot → Fact
past k s =
    k ≤? s.place.file
    and (s.place.end ≤? s.place.at or k ≤? s.place.at)
    and (k ≤? s.m.lo or done s.m s.c)

-- s with all before it passed, whose highest end is `high`: the spot is kept as long as that is k or less
pub record Followed (k : ℕ) (r : Trail) (high : ℕ) (s : Spot) (u : Trail) : Type 0 where
  pub is : u.high ≡ high
  pub goes : high ≤ k → u.spot ≡ s
  pub stays : k < high → u.spot ≡ r.spot

-- where the scan stands, and where the next one can start
pub record Going (xs : List ℕ) (v f : ℕ) (before : List Item) (w : ℕ) (ms : List ℕ) (s : Spot) (r : Trail) : Type 0 where
  pub scan : Scanning xs v f before w ms s
  pub ends : Holds (each (end_by r.high) scan.passed)
  pub behind : Behind xs v f (w + 65536) r.spot

-- what the scan of a window starts from
pub record Open (xs : List ℕ) (v f t n w : ℕ) (s : Spot) : Type 0 where
  pub walkable : Walkable xs v f
  pub patch : Patch xs t n
  pub behind : Behind xs v f w s
  pub small : w ≤ 16777216

-- what it gives: where the next scan can start, or none where some aren't apart
abbrev pub Shut : List ℕ → ℕ → ℕ → ℕ → ℕ → ℕ → Option Spot → Type 0
Shut xs v f t n w r =
    MatchOption r (Holds (apart_from (patch_items xs t n) (walked xs v f)) → ⊥)
    (λ s. Scanned xs v f (patch_items xs t n) w × Behind xs v f (w + 65536) s)

-- ---- all windows

-- those below w are done, and the next scan starts at s
pub record Windows (xs : List ℕ) (v f : ℕ) (before : List Item) (E w : ℕ) (s : Spot) : Type 0 where
  pub up : E ≤ w
  pub done : (k : ℕ) → E ≤ k → k < w → Holds (apart_from_at k before (walked xs v f))
  pub behind : Behind xs v f w s
