use Rattle.contents.specs.ListingLaws.{entries_small, list_unread, list_full, list_fits_lem}
use Rattle.contents.specs.Listing.{listing}
use Rattle.inside_list.specs.declared.Counts.{Counts}
use Rattle.inside_list.specs.Inventory.{counts_of}
use Rattle.reading_rules.specs.Guarantee.{Guaranteed}
use Rattle.reading_rules.specs.Edition.{guaranteed}
use Rattle.words.specs.Le.{Bytes}
use mathlib.Core.Path.{◌≡◌, sym, ap, ◌∙◌}
use native.Mathlib.Omega.{arith}
use Rattle.contents.proofs.survey.Goals as goal

bytes : (c : goal.After-struct_known-2-1) → Bytes c.args.image.now
unfolding Bytes
bytes c = λ i. omega (arith, c.type_inv.image i)

-- what is counted is the list
totals : (c : goal.After-carry) → c.count_all-n.result ≡ counts_of (listing c.args.image.now)
unfolding listing
totals c = rw c.requires at c.count_all-n.ensures

totals-at-2 : (c : goal.After-carry-2) → c.count_all-n.result ≡ counts_of (listing c.args.image.now)
unfolding listing
totals-at-2 c = rw c.requires at c.count_all-n.ensures

pub returns-then-r-ne0 : goal.returns-then-r-ne0
returns-then-r-ne0 c =
    let a = c.args in
    rw (list_unread a.image.now a.room (rw c.requires at c.if-r-ne0.true), ← c.requires) c.refused.ensures

pub count_all-n-requires : goal.count_all-n-requires
count_all-n-requires c =
    rw c.requires (guaranteed c.args.image.now (rw c.requires at c.if-r-ne0.false))

pub overflow_mul-n : goal.overflow_mul-n
overflow_mul-n c =
    let a = c.args in
    let g : Guaranteed a.image.now a.r = rw c.requires (guaranteed a.image.now (rw c.requires at c.if-r-ne0.false)) in
    let e = ap (λ (n : Counts). n.entries) c.count_all-n.ensures in
    omega (arith, e, entries_small a.image.now a.r g (bytes c))

pub returns-then-room-n : goal.returns-then-room-n
returns-then-room-n c =
    let a = c.args in
    c.carry.ensures
    ∙ sym (list_full a.image.now a.room (rw c.requires at c.if-r-ne0.false) c.count_all-n.result (totals c) c.if-room-n.true)

pub returns : goal.returns
returns c =
    let a = c.args in
    c.carry-2.ensures
    ∙ sym (list_fits_lem a.image.now a.room (rw c.requires at c.if-r-ne0.false) c.count_all-n.result (totals-at-2 c)
    (omega (arith, c.if-room-n.false)))
