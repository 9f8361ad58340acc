-- A list that the checker computes, and a refusal of each kind beside what is just taken.
-- Assumes nothing.
use Rattle.std.specs.Prelude.{ℕ, ◌/◌, ◌%◌, List, [], ◌∷◌, ◌++◌, ◌≡◌, refl, replicate, take}
use Rattle.facts.specs.Fact.{test}
use Rattle.facts.specs.Rules.{run}
use Rattle.words.specs.Le.{le}
use Rattle.handoff_step.specs.declared.Block.{Block}
use Rattle.handoff_step.specs.declared.Kind.{Kind}
use Rattle.handoff_step.specs.declared.Kind.TheVariants.{Unknown, Handoff, Resource, Guid, End}
use Rattle.handoff_step.specs.Step.{refusal, from_resource, from_guid, from_end, from_later, from_first, from_head, step_rules, stepped}
use Rattle.handoff_list.specs.Blocks.{listing, turn, within, blocks_from, blocks, resources}

-- a block's header: type t, length n
abbrev head : ℕ → ℕ → List ℕ
head t n = t % 256 ∷ t / 256 ∷ n % 256 ∷ n / 256 ∷ 0 ∷ 0 ∷ 0 ∷ 0 ∷ []

abbrev zeros : ℕ → List ℕ
zeros n = replicate n 0

abbrev block : ℕ → ℕ → ℕ → Kind → Block
block place code n kind = record { place = place; code = code; length = n; kind = kind }

-- system memory of 0x80000000 bytes from 0x100000 on, with attributes 7
abbrev resource : List ℕ
resource =
    head 3 48 ++ (zeros 16 ++ (0 ∷ 0 ∷ 0 ∷ 0 ∷ 7 ∷ 0 ∷ 0 ∷ 0 ∷ 0 ∷ 0 ∷ 0x10 ∷ 0 ∷ 0 ∷ 0 ∷ 0 ∷ 0 ∷ 0 ∷ 0 ∷ 0 ∷ 0x80 ∷ 0 ∷ 0 ∷ 0 ∷ 0 ∷ []))

-- the handoff block, a resource, a GUID block with 8 bytes of data, an unknown block, a later block of type 1, the end block
abbrev pub bytes : List ℕ
bytes =
    head 1 56
    ++ (zeros 48
    ++ (resource ++ (head 4 32 ++ (zeros 24 ++ (head 0x1234 16 ++ (zeros 8 ++ (head 1 56 ++ (zeros 48 ++ head 0xFFFF 8))))))))

pub example : blocks bytes
    ≡ listing 0 208
    (block 0 1 56 Handoff
    ∷ block 56 3 48 (Resource 0 7 0x100000 0x80000000)
    ∷ block 104 4 32 (Guid 128 8)
    ∷ block 136 0x1234 16 Unknown
    ∷ block 152 1 56 Unknown
    ∷ block 208 0xFFFF 8 End
    ∷ [])
unfolding blocks blocks_from within turn stepped step_rules from_head from_first from_later from_resource from_guid from_end run test le
example = refl

-- the resources among them
pub example_resources : resources (blocks bytes).blocks ≡ block 56 3 48 (Resource 0 7 0x100000 0x80000000) ∷ []
unfolding blocks blocks_from within turn stepped step_rules from_head from_first from_later from_resource from_guid from_end run test le resources
example_resources = refl

-- the smallest list: 64 bytes
pub smallest : blocks (head 1 56 ++ (zeros 48 ++ head 0xFFFF 8)) ≡ listing 0 56 (block 0 1 56 Handoff ∷ block 56 0xFFFF 8 End ∷ [])
unfolding blocks blocks_from within turn stepped step_rules from_head from_first from_later from_resource from_guid from_end run test le
smallest = refl

-- a GUID block of 24 bytes: its data is empty
pub no_data : (stepped (head 1 56 ++ (zeros 48 ++ (head 4 24 ++ zeros 16))) 56).block ≡ block 56 4 24 (Guid 80 0)
unfolding stepped step_rules from_head from_first from_later from_resource from_guid from_end run test le
no_data = refl

-- a buffer that ends where a block should stand: the block before it is listed
pub example_cut : blocks (take 56 bytes) ≡ listing 32 56 (block 0 1 56 Handoff ∷ [])
unfolding blocks blocks_from within turn stepped step_rules from_head from_first from_later from_resource from_guid from_end run test le
example_cut = refl

abbrev first : List ℕ
first = head 1 56 ++ zeros 48

-- the step at `at` is refused with k
abbrev Refuses : List ℕ → ℕ → ℕ → Type 0
Refuses xs at k = stepped xs at ≡ refusal at k 0

-- it shows a block
abbrev Takes : List ℕ → ℕ → Type 0
Takes xs at = (stepped xs at).number ≡ 0

-- 32 at the end and past it, whatever the cursor; one byte is left there, and it is 30
pub nothing_left : Refuses [] 0 32 × Refuses first 56 32 × Refuses first 57 32 × Refuses first 0xFFFFFFFFFFFFFFFF 32 × Refuses
    (first ++ zeros 1) 56 30
unfolding stepped step_rules from_head from_first from_later from_resource from_guid from_end run test le
nothing_left = (refl, refl, refl, refl, refl)

-- 30: 7 bytes and 8; length 0 and 8; length 12 and 16; one byte past the buffer and none
pub head_damaged : Refuses (first ++ take 7 (head 9 8)) 56 30
    × Takes (first ++ head 9 8) 56
    × Refuses (first ++ head 9 0) 56 30
    × Refuses (first ++ (head 9 12 ++ zeros 8)) 56 30
    × Takes (first ++ (head 9 16 ++ zeros 8)) 56
    × Refuses (first ++ (head 9 16 ++ zeros 7)) 56 30
unfolding stepped step_rules from_head from_first from_later from_resource from_guid from_end run test le
head_damaged = (refl, refl, refl, refl, refl, refl)

-- 31: another type, 48 bytes, 64 bytes, and the handoff block; a short resource there is 31 and not 33, a damaged length 30
pub first_damaged : Refuses (head 2 56 ++ zeros 48) 0 31
    × Refuses (head 1 48 ++ zeros 40) 0 31
    × Refuses (head 1 64 ++ zeros 56) 0 31
    × Takes first 0
    × Refuses (head 3 8) 0 31
    × Refuses (head 2 57 ++ zeros 56) 0 30
unfolding stepped step_rules from_head from_first from_later from_resource from_guid from_end run test le
first_damaged = (refl, refl, refl, refl, refl, refl)

-- 33: a resource of 40 bytes and of 48, a GUID block of 16 and of 24, an end block of 16 and of 8
pub shape_damaged : Refuses (first ++ (head 3 40 ++ zeros 32)) 56 33
    × Takes (first ++ (head 3 48 ++ zeros 40)) 56
    × Refuses (first ++ (head 4 16 ++ zeros 8)) 56 33
    × Takes (first ++ (head 4 24 ++ zeros 16)) 56
    × Refuses (first ++ (head 0xFFFF 16 ++ zeros 8)) 56 33
    × Takes (first ++ head 0xFFFF 8) 56
unfolding stepped step_rules from_head from_first from_later from_resource from_guid from_end run test le
shape_damaged = (refl, refl, refl, refl, refl, refl)
