-- Request #101: the block at a cursor. The rules of one block in their order; each definition names the one that follows it, so the file
-- goes from the last to the first. Places and lengths of fields are the PI specification's.
-- Assumes nothing.
use Rattle.std.specs.Prelude.{ℕ, ◌+◌, ◌-◌, ◌%◌, List, ◌≡◌, length}
use Rattle.facts.specs.Fact.{Fact, ◌≤?◌, ◌≡?◌, ◌and◌}
use Rattle.facts.specs.Rules.{Rules, answer, rule, choose, run}
use Rattle.words.specs.Le.{le}
use Rattle.handoff_step.specs.declared.Block.{Block}
use Rattle.handoff_step.specs.declared.Kind.{Kind}
use Rattle.handoff_step.specs.declared.Kind.TheVariants.{Nothing, Unknown, Handoff, Resource, Guid, End}
use Rattle.handoff_step.specs.declared.Stepped.{Stepped}

-- the header of a block: its 16-bit type, and after it its 16-bit length, which counts the header
abbrev pub type_at : List ℕ → ℕ → ℕ
type_at xs at = le 2 xs at

abbrev pub length_at : List ℕ → ℕ → ℕ
length_at xs at = le 2 xs (at + 2)

-- no block
abbrev pub nothing : Block
nothing = record { place = 0; code = 0; length = 0; kind = Nothing }

-- a refused step: the cursor as it was, and zero in every other field
abbrev pub refusal : ℕ → ℕ → ℕ → Stepped
refusal at number index = record { number = number; next = record { at = at }; block = nothing }

-- a step that shows the block of type t and length n at `at`, and goes on at `next`
abbrev pub shown : ℕ → ℕ → ℕ → ℕ → Kind → Stepped
shown at t n next kind =
    record { number = 0; next = record { at = next }; block = record { place = at; code = t; length = n; kind = kind } }

-- a resource brings type, attributes, start and length, which stand after the header and the owner's 16 bytes
abbrev pub resource_at : List ℕ → ℕ → Kind
resource_at xs at = Resource (le 4 xs (at + 24)) (le 4 xs (at + 28)) (le 8 xs (at + 32)) (le 8 xs (at + 40))

-- 33: a resource below 48 bytes
unfoldable pub from_resource : List ℕ → ℕ → ℕ → Rules Stepped
from_resource xs at n = rule 33 (48 ≤? n) (answer (shown at 3 n (at + n) (resource_at xs at)))

-- 33: a GUID block below 24; its data stands after the header and the name's 16 bytes
unfoldable pub from_guid : ℕ → ℕ → Rules Stepped
from_guid at n = rule 33 (24 ≤? n) (answer (shown at 4 n (at + n) (Guid (at + 24) (n - 24))))

-- 33: an end block not of 8; the cursor stays on it
unfoldable pub from_end : ℕ → ℕ → Rules Stepped
from_end at n = rule 33 (n ≡? 8) (answer (shown at 0xFFFF n at End))

-- a later block: a resource, a GUID block, the end block, or unknown, a later type 1 among these
unfoldable pub from_later : List ℕ → ℕ → ℕ → ℕ → Rules Stepped
from_later xs at t n =
    choose (t ≡? 3) (from_resource xs at n)
    (choose (t ≡? 4) (from_guid at n) (choose (t ≡? 0xFFFF) (from_end at n) (answer (shown at t n (at + n) Unknown))))

-- 31: the first block isn't type 1 of 56 bytes
unfoldable pub from_first : ℕ → ℕ → Rules Stepped
from_first t n = rule 31 (t ≡? 1 and n ≡? 56) (answer (shown 0 t n n Handoff))

-- 30: the buffer cuts the header short, or the length in it is under 8, no multiple of 8, or more than the buffer has
abbrev pub head_fits : List ℕ → ℕ → Fact
head_fits xs at =
    let n = length_at xs at in at + 8 ≤? length xs and 8 ≤? n and n % 8 ≡? 0 and at + n ≤? length xs

-- the first block stands at cursor 0
unfoldable pub from_head : List ℕ → ℕ → Rules Stepped
from_head xs at =
    let t = type_at xs at in
    let n = length_at xs at in
    rule 30 (head_fits xs at) (choose (at ≡? 0) (from_first t n) (from_later xs at t n))

-- 32: nothing is left at the cursor
unfoldable pub step_rules : List ℕ → ℕ → Rules Stepped
step_rules xs at = rule 32 (at + 1 ≤? length xs) (from_head xs at)

-- the whole step
unfoldable pub stepped : List ℕ → ℕ → Stepped
stepped xs at = run (refusal at) (step_rules xs at)

-- what a step promises
abbrev pub Steps : List ℕ → ℕ → Stepped → Type 0
Steps xs at r = r ≡ stepped xs at
