-- Request #101: the whole list of blocks, from cursor 0 up to the end block or to the first block at fault.
-- Assumes nothing.
use Rattle.std.specs.Prelude.{ℕ, zero, suc, Bool, true, false, cond, List, [], ◌∷◌, ◌≡◌, length}
use Rattle.facts.specs.Fact.{Fact, ◌≡?◌, test}
use Rattle.handoff_step.specs.declared.Block.{Block}
use Rattle.handoff_step.specs.declared.Kind.{Kind}
use Rattle.handoff_step.specs.declared.Kind.TheVariants.{Nothing, Unknown, Handoff, Resource, Guid, End}
use Rattle.handoff_list.specs.declared.Counted.{Counted}
use Rattle.handoff_step.specs.declared.Stepped.{Stepped}
use Rattle.handoff_step.specs.Step.{stepped}

-- number 0, where the end block stands, and every block, the end block the last; or the refusal of the first block at fault, where that
-- block should stand, and the blocks before it
pub record Listing : Type 0 where
  pub number : ℕ
  pub at : ℕ
  pub blocks : List Block

abbrev pub listing : ℕ → ℕ → List Block → Listing
listing number at blocks = record { number = number; at = at; blocks = blocks }

-- b, and then what l lists
abbrev pub before : Block → Listing → Listing
before b l = listing l.number l.at (b ∷ l.blocks)

-- a step that isn't refused
abbrev pub accepts : Stepped → Fact
accepts s = s.number ≡? 0

-- a block that ends the list
abbrev pub ends : Block → Fact
ends b = b.code ≡? 0xFFFF

-- the list from `at` on, by the step s made there, where `rest` is the list from the next cursor on
unfoldable pub turn : ℕ → Stepped → Listing → Listing
turn at s rest =
    cond (test (accepts s)) (cond (test (ends s.block)) (listing 0 at (s.block ∷ [])) (before s.block rest))
    (listing s.number at [])

-- the same with at most so many steps; where none is left the cursor has left the buffer, so nothing is left there
unfoldable pub within : List ℕ → ℕ → ℕ → Listing
within xs zero at = listing 32 at []
within xs (suc fuel) at = let s = stepped xs at in let rest = within xs fuel s.next.at in turn at s rest

-- the list from `at` on: each step passes 8 bytes or more, so the buffer's length is more steps than there can be
unfoldable pub blocks_from : List ℕ → ℕ → Listing
blocks_from xs at = within xs (length xs) at

-- the whole list
unfoldable pub blocks : List ℕ → Listing
blocks xs = blocks_from xs 0

-- what a count promises: the length of that list, with its number and place
abbrev pub counted : Listing → Counted
counted l = record { number = l.number; at = l.at; count = length l.blocks }

abbrev pub Counts : List ℕ → Counted → Type 0
Counts xs r = r ≡ counted (blocks xs)

-- the resources among them, in their order
abbrev pub is_resource : Kind → Bool
is_resource Nothing = false
is_resource Unknown = false
is_resource Handoff = false
is_resource (Resource code attributes start size) = true
is_resource (Guid place size) = false
is_resource End = false

unfoldable pub resources : List Block → List Block
resources [] = []
resources (b ∷ l) = cond (is_resource b.kind) (b ∷ resources l) (resources l)
