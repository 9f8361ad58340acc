use Rattle.contents.specs.ListingLaws.{counts_all, counts_small}
use Rattle.inside_list.specs.Inventory.{inventory, counts_of}
use Rattle.reading_rules.specs.Reading.{file_at}
use Rattle.words.specs.Le.{le, Bytes}
use mathlib.Core.Path.{◌≡◌}
use native.Mathlib.Omega.{arith}
use Rattle.contents.proofs.count_all.Goals as goal

bytes : (c : goal.After-struct_known-3-1) → Bytes c.args.image.now
unfolding Bytes
bytes c = λ i. omega (arith, c.type_inv.image i)

bytes-at-2 : (c : goal.After-struct_known-4-1) → Bytes c.args.image.now
unfolding Bytes
bytes-at-2 c = λ i. omega (arith, c.type_inv.image i)

-- what is counted is the volume's
totals : (c : goal.After-struct_known-3-1) →
    let a = c.args in
    c.count-n.result ≡ counts_of (inventory a.image.now (le 8 a.image.now 32) (file_at a.r))
totals c = rw c.le64-v.ensures.is at c.count-n.ensures

totals-at-2 : (c : goal.After-struct_known-4-1) →
    let a = c.args in
    c.count-n.result ≡ counts_of (inventory a.image.now (le 8 a.image.now 32) (file_at a.r))
totals-at-2 c = rw c.le64-v.ensures.is at c.count-n.ensures

pub count-n-requires : goal.count-n-requires
count-n-requires c = rw c.le64-v.ensures.is c.requires.walkable

pub overflow_add-result : goal.overflow_add-result
overflow_add-result c =
    let a = c.args in
    omega (arith, (counts_small a.image.now a.r c.requires (bytes c) c.count-n.result (totals c)).0, c.requires.n_most)

pub overflow_add-result-2 : goal.overflow_add-result-2
overflow_add-result-2 c =
    let a = c.args in
    omega (arith, (counts_small a.image.now a.r c.requires (bytes-at-2 c) c.count-n.result (totals-at-2 c)).1, c.requires.n_most)

pub returns : goal.returns
returns c =
    counts_all c.args.image.now c.args.r c.requires c.count-n.result (totals-at-2 c)
