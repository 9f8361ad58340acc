use Rattle.words.specs.Le.{le}
use Rattle.inside_pages.specs.PagesLaws.{paged_own}
use Rattle.inside_blocks.specs.Blocks.{item_of}
use Rattle.audit_fill_window.specs.NearLaws.{below_next, below_end}
use Prim.Native.Nat.{ℕ, ◌+◌, ◌-◌, ◌*◌}
use mathlib.Core.Logic.{inr}
use mathlib.Core.Path.{◌≡◌}
use native.Mathlib.Omega.{arith}
use Rattle.audit_fill_window.proofs.any_new.Goals as goal

-- the item of the entry at hand
is : (c : goal.Else-is_new) →
    let a = c.args in
    c.entry_on-x.result ≡ item_of a.image.now a.m a.page (le 2 a.image.now (a.at + 2 * c.loop-i.i))
is c = rw c.page_of-q.ensures.is at c.entry_on-x.ensures.0

pub loop-i-init : goal.loop-i-init
loop-i-init c =
    let a = c.args in
    let at : a.at + 2 * 0 ≡ a.at = omega arith in
    let left : a.k - 0 ≡ a.k = omega arith in
    λ i w h. inr (rw (at, left) h)

pub entry_on-x-requires : goal.entry_on-x-requires
entry_on-x-requires c =
    let pre = c.requires in
    let paged = c.page_of-q.ensures in
    (pre.0, paged_own _ _ _ _ paged, omega (arith, paged.is, pre.1), omega arith)

pub returns-then-is_new : goal.returns-then-is_new
returns-then-is_new c = λ e. let z : ◌≡◌ {A = ℕ} 0 1 = cc in absurd (omega arith)

pub loop-i-preserved : goal.loop-i-preserved
loop-i-preserved c =
    let a = c.args in
    let i = c.loop-i.i in
    let at : a.at + 2 * (i + 1) ≡ a.at + 2 * i + 2 = omega arith in
    let left : a.k - (i + 1) ≡ a.k - i - 1 = omega arith in
    rw (at, left)
    (below_next a.image.now a.m a.page (a.at + 2 * i) (a.k - i) a.least c.entry_on-x.result _ (is c) (omega arith)
    c.loop-i.invariant (c.is_new.ensures c.if-is_new.false))

pub returns : goal.returns
returns c =
    let a = c.args in
    λ e.
    below_end a.image.now a.m a.page (a.at + 2 * c.loop-i.i) (a.k - c.loop-i.i) a.least _ (omega arith)
    c.loop-i.invariant
