use Rattle.words.specs.Le.{le}
use Rattle.inside_rows.specs.declared.Module.{Module}
use Rattle.inside_pages.specs.PagesLaws.{paged_own}
use Rattle.inside_blocks.specs.Blocks.{item_of}
use Rattle.move_modules.specs.Relocate.{shift, Passed}
use Rattle.move_modules.specs.HandLaws.{passed_start, passed_end, passed_inside, passed_next, passed_paged}
use Rattle.std.proofs.Common.{◌≡◌, ℕ, ◌+◌, ◌-◌, ◌*◌, ◌≤◌, List, arith}
use Rattle.move_modules.proofs.add_entries.Goals as goal

-- the same place and count, written otherwise
same : (xs : List ℕ) (m : Module) (page at n : ℕ) (d : ℕ → ℕ) (ys : List ℕ) (p k q j : ℕ) → p ≡ q → k ≡ j → Passed xs m page at n d ys p k
    → Passed xs m page at n d ys q j
same xs m page at n d ys p k q j e f h = rw (← e, ← f) h

-- the item of the next entry
is : (c : goal.After-add_item-arg-1) →
    let a = c.args in
    c.entry_on-x.result ≡ item_of c.loop-i.image a.m a.page (le 2 c.loop-i.image (a.at + 2 * c.loop-i.i))
is c = rw c.loop-i.invariant.1.is at c.entry_on-x.ensures.0

is-2 : (c : goal.After-slice_known-in-loop-i-1) →
    let a = c.args in
    c.entry_on-x.result ≡ item_of c.loop-i.image a.m a.page (le 2 c.loop-i.image (a.at + 2 * c.loop-i.i))
is-2 c = rw c.loop-i.invariant.1.is at c.entry_on-x.ensures.0

pub page_of-q-requires : goal.page_of-q-requires
page_of-q-requires c = let h = c.requires in (h.fits, h.page_small)

pub loop-i-init : goal.loop-i-init
loop-i-init c =
    let a = c.args in
    let d = shift a.d.four a.d.eight in
    let xs = a.image.now in (
      same xs a.m a.page a.at a.count d xs a.at a.count _ _ (omega arith) (omega arith) (passed_start xs a.m a.page a.at a.count d c.requires),
      c.page_of-q.ensures,
    )

pub entry_on-x-requires : goal.entry_on-x-requires
entry_on-x-requires c =
    let inv = c.loop-i.invariant in
    let h = inv.0.hand in (
      h.fits,
      paged_own _ _ _ _ inv.1,
      omega (arith, inv.1.is, h.page_small),
      omega (arith, h.within, c.loop-i-test.true),
    )

pub add_item-requires : goal.add_item-requires
add_item-requires c =
    let a = c.args in
    passed_inside a.image.now a.m a.page a.at a.count (shift a.d.four a.d.eight) c.loop-i.image
    (a.at + 2 * c.loop-i.i) (a.count - c.loop-i.i) c.entry_on-x.result (omega (arith, c.loop-i-test.true)) c.loop-i.invariant.0
    (is c)

pub overflow_add-at : goal.overflow_add-at
overflow_add-at c =
    let h = c.loop-i.invariant.0.hand in
    omega (arith, h.within, h.fits.long)

pub loop-i-preserved : goal.loop-i-preserved
loop-i-preserved c =
    let a = c.args in
    let d = shift a.d.four a.d.eight in
    let p = a.at + 2 * c.loop-i.i in
    let k = a.count - c.loop-i.i in
    let some : 1 ≤ k = omega (arith, c.loop-i-test.true) in (
      same a.image.now a.m a.page a.at a.count d _ (p + 2) (k - 1) _ _ (omega arith) (omega arith)
          (passed_next a.image.now a.m a.page a.at a.count d c.loop-i.image p k c.entry_on-x.result c.add_item.new.image
          some c.loop-i.invariant.0 (is-2 c) c.add_item.ensures),
      passed_paged a.image.now a.m a.page a.at a.count d c.loop-i.image p k c.entry_on-x.result c.add_item.new.image _
          some c.loop-i.invariant.0 (is-2 c) c.add_item.ensures c.loop-i.invariant.1,
    )

pub shape_of-image : goal.shape_of-image
shape_of-image c = c.loop-i.invariant.0.long

pub returns : goal.returns
returns c =
    let a = c.args in
    passed_end a.image.now a.m a.page a.at a.count (shift a.d.four a.d.eight) c.loop-i.image
    (a.at + 2 * c.loop-i.i) (a.count - c.loop-i.i) (omega arith) c.loop-i.invariant.0
