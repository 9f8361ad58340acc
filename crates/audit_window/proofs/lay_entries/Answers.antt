use lib.ListN.{length}
use Prim.Native.Nat.{ℕ, ◌+◌, ◌≤◌}
use mathlib.Core.Logic.{inl, inr}
use mathlib.Core.Path.{◌≡◌, refl, sym, ◌∙◌}
use native.Mathlib.Omega.{arith}
use Rattle.facts.specs.FactLaws.{holds, is_test}
use Rattle.inside_pages.specs.PagesLaws.{paged_own}
use Rattle.inside_blocks.specs.Blocks.{entries_from}
use Rattle.audit_fill_window.specs.Near.{Has}
use Rattle.audit_window.specs.DrawLaws.{draws_off, has_page}
use Rattle.audit_window.proofs.lay_entries.Goals as goal

-- the words of the block start in its page
lies : (c : goal.Then-q-from) →
    let a = c.args in
    let q = c.page_of-q.result in
    (i w : ℕ) → Has (entries_from a.image.now a.m a.page a.at a.k) i w → (q.at ≤ i) × (i + w ≤ q.at + 4104)
lies c i w h =
    let a = c.args in
    let paged = c.page_of-q.ensures in
    let whole = holds _ (sym (is_test c.is_whole.ensures) ∙ c.if-is_whole.true) in
    has_page a.image.now a.m c.page_of-q.result (paged_own _ _ _ _ paged) whole.0 whole.1 a.at a.k i w
    (rw paged.is h)

lies-at-2 : (c : goal.Then-from-window) →
    let a = c.args in
    let q = c.page_of-q.result in
    (i w : ℕ) → Has (entries_from a.image.now a.m a.page a.at a.k) i w → (q.at ≤ i) × (i + w ≤ q.at + 4104)
lies-at-2 c i w h =
    let a = c.args in
    let paged = c.page_of-q.ensures in
    let whole = holds _ (sym (is_test c.is_whole.ensures) ∙ c.if-is_whole.true) in
    has_page a.image.now a.m c.page_of-q.result (paged_own _ _ _ _ paged) whole.0 whole.1 a.at a.k i w
    (rw paged.is h)

pub returns-then-q-from : goal.returns-then-q-from
returns-then-q-from c =
    let a = c.args in
    let off = lies c in record { draws = draws_off _ _ a.from (length a.window.now) _ (λ i w h. inl (omega (arith, (off i w h).1))); window_len_unchanged = refl; w_bound = λ e i w h. omega (arith, (off i w h).1) }

pub returns-then-from-window : goal.returns-then-from-window
returns-then-from-window c =
    let a = c.args in
    let off = lies-at-2 c in record { draws = draws_off _ _ a.from (length a.window.now) _ (λ i w h. inr (omega (arith, (off i w h).0))); window_len_unchanged = refl; w_bound = λ e. absurd (let z : ◌≡◌ {A = ℕ} 0 1 = cc in omega arith) }

pub lay_each-requires : goal.lay_each-requires
lay_each-requires c =
    let pre = c.requires.fits in
    let paged = c.page_of-q.ensures in
    record { fits = (pre.0, paged_own _ _ _ _ paged, omega (arith, paged.is, pre.1), pre.2, pre.3); window_in_bounds = c.requires.window_in_bounds }

pub returns : goal.returns
returns c =
    let paged = c.page_of-q.ensures in
    record { draws = rw paged.is at c.lay_each.ensures.draws; window_len_unchanged = c.lay_each.ensures.window_len_unchanged; w_bound = rw paged.is at c.lay_each.ensures.w_bound }
