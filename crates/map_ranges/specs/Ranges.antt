-- Request #111: the ranges of memory that a hand-off list names, and the refusals that come before any map is made.
-- Assumes nothing.
use Rattle.std.specs.Prelude.{ℕ, ◌+◌, ◌^◌, cond, List, [], ◌∷◌, ◌++◌, length}
use Rattle.facts.specs.Fact.{Fact, ◌≤?◌, ◌≡?◌, ◌and◌, ◌or◌, test}
use Rattle.facts.specs.Rules.{Rules, answer, rule, run}
use Rattle.handoff_step.specs.declared.Block.{Block}
use Rattle.handoff_step.specs.declared.Kind.{Kind}
use Rattle.handoff_step.specs.declared.Kind.TheVariants.{Nothing, Unknown, Handoff, Resource, Guid, End}
use Rattle.handoff_list.specs.Blocks.{blocks}
use Rattle.map_ranges.specs.declared.Range.{Range}

abbrev pub range : ℕ → ℕ → ℕ → Range
range code start size = record { code = code; start = start; size = size }

-- the resource types that count: 0 is system memory, 5 is reserved
abbrev pub matters : ℕ → Fact
matters code = code ≡? 0 or code ≡? 5

-- the range of a block, if it is a resource of one of them
abbrev pub range_of : Kind → List Range
range_of Nothing = []
range_of Unknown = []
range_of Handoff = []
range_of (Resource code attributes start size) = cond (test (matters code)) (range code start size ∷ []) []
range_of (Guid place size) = []
range_of End = []

unfoldable pub ranges_of : List Block → List Range
ranges_of [] = []
ranges_of (b ∷ bs) = range_of b.kind ++ ranges_of bs

-- the ranges of a hand-off list, in its order
unfoldable pub ranges : List ℕ → List Range
ranges xs = ranges_of (blocks xs).blocks

-- 34: a range may end at 2^64 and not above
abbrev pub ends : Range → Fact
ends r = r.start + r.size ≤? 2 ^ 64

abbrev pub all_end : List Range → Fact
all_end [] = 0 ≤? 0
all_end (r ∷ rs) = ends r and all_end rs

-- 30 to 33 as the list of blocks has them, then 34 of every range, then 35: more than 128 ranges, empty ones counted; then what follows
unfoldable pub after_ranges : {A : Type 0} → List ℕ → (List Range → Rules A) → Rules A
after_ranges xs next =
    rule (blocks xs).number ((blocks xs).number ≡? 0) (rule 34 (all_end (ranges xs)) (rule 35 (length (ranges xs) ≤? 128) (next (ranges xs))))

-- the number that these refusals come to, 0 where there is none
unfoldable pub ranges_number : List ℕ → ℕ
ranges_number xs = run (λ k i. k) (after_ranges xs (λ rs. answer 0))
