-- An entry of a page whose place is known.
-- Assumes nothing.
use Rattle.std.specs.Prelude.{ℕ, ◌+◌, ◌/◌, ◌%◌, ◌≤◌, ◌<◌, List, ◌≡◌, eqb}
use Rattle.std.proofs.Common.{arith}
use Rattle.std.proofs.Math.Decide.{ℕ_discrete}
use borrow.Author.Tests.{le-ltb, eq-eqb, ne_eqb, eqb-true}
use Rattle.facts.specs.RulesLaws.{by_cond}
use Rattle.items.specs.declared.Item.{Item}
use Rattle.items.specs.Items.{word, word_kind, kind_number}
use Rattle.inside_rows.specs.declared.Module.{Module}
use Rattle.inside_rows.specs.declared.ModuleKind.{ModuleKind}
use Rattle.inside_places.specs.Places.{found}
use Rattle.inside_pages.specs.declared.Page.{Page}
use Rattle.inside_pages.specs.Pages.{Paged}
use Rattle.inside_runs.specs.Runs.{width_of, InRoom}
use Rattle.inside_runs.specs.RunsLaws.{width_four, width_eight, width_none}
use Rattle.inside_blocks.specs.Blocks.{word_of, item_of}

-- a module by its fields
abbrev pub module_from : ModuleKind → ℕ → ℕ → ℕ → ℕ → ℕ → ℕ → ℕ → ℕ → ℕ → ℕ → Module
module_from kind lo hi pe base width table rows stripped dir size =
    record {
      kind = kind;
      lo = lo;
      hi = hi;
      pe = pe;
      base = base;
      width = width;
      table = table;
      rows = rows;
      stripped = stripped;
      dir = dir;
      size = size;
    }

-- an item that is no word
abbrev Other : Item → Type 0
Other x = kind_number x.kind ≡ word_kind → ⊥

-- an entry that names no word is none
pub item_none : (xs : List ℕ) (m : Module) (page e : ℕ) → width_of e ≡ 0 → kind_number (item_of xs m page e).kind ≡ word_kind → ⊥
unfolding item_of
item_none xs m page e z =
    by_cond Other (eqb (e / 4096) 0) _ _ (λ a k. omega arith)
    (λ a. by_cond Other (eqb (e / 4096) 3) _ _ (λ b. absurd (omega (arith, width_four e (eqb-true (e / 4096) 3 b))))
    (λ b. by_cond Other (eqb (e / 4096) 10) _ _ (λ d. absurd (omega (arith, width_eight e (eqb-true (e / 4096) 10 d)))) (λ d k. omega arith)))

module _ (xs : List ℕ) (m : Module) (page : ℕ) (q : Page) (paged : Paged xs m page q) where
  word_on : (o w : ℕ) → o < 4096 → q.floor ≤ o → 0 < w → o + w ≤ q.room → word_of m (found xs m (page + o) w) w ≡ word (q.at + o) w
  unfolding word_of
  word_on o w h up some fit =
      rw (paged.finds o w h up some fit, le-ltb m.hi (q.at + o + w) (omega (arith, paged.within)))

  -- an entry that is a word from its floor on, in its room
  pub item_on : (e : ℕ) → InRoom q e → item_of xs m page e ≡ word (q.at + e % 4096) (width_of e)
  unfolding item_of
  item_on e n =
      elim (ℕ_discrete (e / 4096) 3) [
        | yes t ↦
            let w = width_four e t in
            rw (w, ne_eqb (e / 4096) 0 (λ z. omega arith), eq-eqb (e / 4096) 3 t)
            (word_on (e % 4096) 4 (omega arith) n.1 (omega arith) (omega (arith, n.2)))
        | no t ↦ elim (ℕ_discrete (e / 4096) 10) [
          | yes s ↦
              let w = width_eight e s in
              rw (w, ne_eqb (e / 4096) 0 (λ z. omega arith), ne_eqb (e / 4096) 3 t, eq-eqb (e / 4096) 10 s)
              (word_on (e % 4096) 8 (omega arith) n.1 (omega arith) (omega (arith, n.2)))
          | no s ↦ absurd (omega (arith, n.0, width_none e t s))
        ]
      ]
