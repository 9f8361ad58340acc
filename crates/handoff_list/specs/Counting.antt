-- What the counting walk keeps.
-- Assumes nothing.
use Rattle.std.specs.Prelude.{ℕ, suc, ◌+◌, ◌*◌, ◌≤◌, List, [], ◌≡◌, length}
use Rattle.std.proofs.Common.{Ok, Err, arith}
use Rattle.handoff_list.specs.declared.Counted.{Counted}
use Rattle.handoff_step.specs.declared.Pass.{Pass}
use Rattle.handoff_step.specs.Passing.{brief, stopped, passed}
use Rattle.handoff_step.specs.Step.{stepped}
use Rattle.handoff_step.specs.StepLaws.{shows}
use Rattle.handoff_list.specs.Blocks.{Listing, listing, before, blocks_from, blocks, counted, Counts}
use Rattle.handoff_list.specs.BlocksLaws.{blocks_refused, blocks_end, blocks_next}

abbrev pub answered : ℕ → ℕ → ℕ → Counted
answered number at count = record { number = number; at = at; count = count }

-- count blocks are passed, and l lists the others
abbrev pub after : ℕ → Listing → Counted
after count l = answered l.number l.at (count + length l.blocks)

-- the walk stands at `at` with so many blocks counted: passed and left together are the whole list
pub record Counting (xs : List ℕ) (at count : ℕ) : Type 0 where
  pub most : at ≤ length xs
  pub few : 8 * count ≤ at
  pub kept : after count (blocks_from xs at) ≡ counted (blocks xs)

pub counting_start : (xs : List ℕ) → Counting xs 0 0
unfolding blocks
counting_start xs =
    let e : 0 + length (blocks_from xs 0).blocks ≡ length (blocks_from xs 0).blocks = omega arith in
    record { most = omega arith; few = omega arith; kept = rw e }

module _ (xs : List ℕ) (at count : ℕ) (walk : Counting xs at count) where
  pub counting_refused : {k : ℕ} → Err k ≡ brief (stepped xs at) → Counts xs (answered k at count)
  counting_refused {k} step =
      let stop = stopped (stepped xs at) step in
      let e : count + 0 ≡ count = omega arith in
      let l : blocks_from xs at ≡ listing k at [] = rw stop.0 at (blocks_refused xs at (rw stop.0 stop.1)) in
      rw (l, e) at walk.kept

  module _ {s : Pass} (step : Ok s ≡ brief (stepped xs at)) where
    ok : (stepped xs at).number ≡ 0
    ok = (passed (stepped xs at) step).0

    pub counting_end : s.code ≡ 0xFFFF → Counts xs (answered 0 at (count + 1))
    counting_end is = rw (blocks_end xs at ok (rw (passed (stepped xs at) step).1 at is)) at walk.kept

    pub counting_moves : (s.code ≡ 0xFFFF → ⊥) → at + 8 ≤ s.next
    counting_moves isnt =
        let h = shows xs at ok in
        rw (passed (stepped xs at) step).1 (omega (arith, h.least, (h.onward (rw (passed (stepped xs at) step).1 at isnt)).1))

    pub counting_next : (s.code ≡ 0xFFFF → ⊥) → Counting xs s.next (count + 1)
    counting_next isnt =
        let e = (passed (stepped xs at) step).1 in
        let isnt' = rw e at isnt in
        let h = shows xs at ok in
        let on = (h.onward isnt').1 in
        let next = (stepped xs at).next.at in
        let l : blocks_from xs at ≡ before (stepped xs at).block (blocks_from xs next) = blocks_next xs at ok isnt' in
        let more : count + 1 + length (blocks_from xs next).blocks ≡ count + suc (length (blocks_from xs next).blocks) = omega arith in
        rw e
        (record { most = omega (arith, h.inside); few = omega (arith, h.least, walk.few); kept = rw more (rw l at walk.kept) })
