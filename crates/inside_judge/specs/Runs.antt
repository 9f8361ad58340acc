-- Request #107: words of one page are passed. Where they lie apart in the frontier's gap only its low end moves.
-- Assumes nothing.
use Rattle.std.specs.Prelude.{ℕ, ◌+◌, ◌≤◌, ◌≡◌}
use Rattle.facts.specs.Fact.{Fact, ◌≤?◌, ◌and◌, ◌or◌}
use Rattle.inside_pages.specs.declared.Page.{Page}
use Rattle.inside_judge.specs.declared.Judged.{Judged}
use Rattle.inside_judge.specs.declared.limits.Limits.{Limits}

-- whatever starts in the page, from its floor on, may be a word: it lies at or above E, and no byte up to the last that it can have is in the
-- region
abbrev pub clear_page : Page → Limits → Fact
clear_page q lim = q.floor ≤? 4096 and lim.E ≤? q.at + q.floor and (q.at + 4104 ≤? lim.c or lim.c + lim.z ≤? q.at + q.floor)

-- r becomes u as words in the gap are passed that end by `end`
pub record Later (r : Judged) (end : ℕ) (u : Judged) : Type 0 where
  pub whole : u.whole ≡ r.whole
  pub placed : u.placed ≡ r.placed
  pub known : u.known ≡ r.known
  pub higher : r.top ≤ u.top
  pub own : end ≤ u.top
  pub front : u.front ≡ record { low = end; high = r.front.high; top = r.front.top }

-- r becomes u as words of the page q are passed that may lie anywhere: of apartness nothing is known
pub record Astray (q : Page) (r u : Judged) : Type 0 where
  pub whole : u.whole ≡ r.whole
  pub placed : u.placed ≡ r.placed
  pub known : u.known ≡ r.known
  pub higher : r.top ≤ u.top
  pub own : q.at + 4104 ≤ u.top
  pub front : 1099511627776 ≤ u.front.top

-- the same where there are n of them; none leaves r as it is
pub record AstrayBy (q : Page) (n : ℕ) (r u : Judged) : Type 0 where
  pub none : n ≡ 0 → u ≡ r
  pub some : (n ≡ 0 → ⊥) → Astray q r u
