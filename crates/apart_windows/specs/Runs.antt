-- Request #107, rule 26: a run of items marked in a window, one after the other.
-- Assumes nothing.
use Rattle.std.specs.Prelude.{ℕ, ◌+◌, ◌*◌, ◌≤◌, ◌<◌, List, ◌++◌, ◌≡◌, length, Option, MatchOption}
use Rattle.facts.specs.Fact.{Fact, ◌≤?◌, Holds}
use Rattle.items.specs.declared.Item.{Item}
use Rattle.items.specs.Items.{each, apart_from}
use Rattle.inside_modules.specs.ModulesFit.{Fits}
use Rattle.inside_walk.specs.declared.Spot.{Spot}
use Rattle.inside_walk.specs.Entries.{count_of}
use Rattle.apart_marks.specs.Marks.{Marks}
use Rattle.apart_windows.specs.Clear.{apart_from_at}

-- it ends by k
abbrev pub end_by : ℕ → Item → Fact
end_by k x = x.at + x.len ≤? k

-- those of n are apart, at the window's bytes, from each other and from those that left the marks ms; ns has their marks too
pub record Joined (ms ns : List ℕ) (w : ℕ) (n : List Item) : Type 0 where
  pub long : length ns ≡ length ms
  pub went : (l : List Item) → Marks l w ms → Marks (l ++ n) w ns
  pub fits : (before l : List Item) → Marks (before ++ l) w ms → (j : ℕ) → j < 65536 → Holds (apart_from_at (w + j) before l)
      → Holds (apart_from_at (w + j) before (l ++ n))

-- they aren't apart, whatever comes after them
pub record Clashed (ms : List ℕ) (w : ℕ) (n : List Item) : Type 0 where
  pub never : (before l rest : List Item) → Marks (before ++ l) w ms → Holds (apart_from before (l ++ (n ++ rest))) → ⊥

-- they are apart; and they end by top, as what comes before them does by `high`
pub record Along (ms ns : List ℕ) (w high : ℕ) (n : List Item) (top : ℕ) : Type 0 where
  pub up : high ≤ top
  pub joined : Joined ms ns w n
  pub ends : Holds (each (end_by top) n)

-- r is the highest end of what is passed with them, or none where they aren't apart
pub record Reached (ms ns : List ℕ) (w high : ℕ) (n : List Item) (r : Option ℕ) : Type 0 where
  pub long : length ns ≡ length ms
  pub came : MatchOption r (Clashed ms w n) (λ top. Along ms ns w high n top)

-- the entries at hand of s can be read
pub record AtHand (xs : List ℕ) (s : Spot) : Type 0 where
  pub fits : Fits xs s.m
  pub page : s.c.page < 4294967296
  pub within : s.c.at + 2 * count_of s ≤ length xs
