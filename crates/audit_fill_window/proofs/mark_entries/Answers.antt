use Prim.Native.Nat.{ℕ, ◌+◌, ◌<◌, ◌≤◌}
use mathlib.Core.Logic.{inl, inr}
use mathlib.Core.Path.{◌≡◌, refl, sym, ◌∙◌}
use native.Mathlib.Omega.{arith}
use Rattle.facts.specs.FactLaws.{holds, is_test}
use Rattle.inside_pages.specs.PagesLaws.{paged_own}
use Rattle.inside_blocks.specs.Blocks.{entries_from}
use Rattle.audit_fill_window.specs.Near.{Has}
use Rattle.audit_fill_window.specs.FillLaws.{noting_off, has_page}
use Rattle.audit_fill_window.proofs.mark_entries.Goals as goal

-- the words of the block start in its page
lies : (c : goal.Then-q-from) →
    let a = c.args in
    let q = c.page_of-q.result in
    (i w : ℕ) → Has (entries_from a.image.now a.m a.page a.at a.k) i w → (q.at ≤ i) × (i < q.at + 4096)
lies c i w h =
    let a = c.args in
    let paged = c.page_of-q.ensures in
    let whole = holds _ (sym (is_test c.is_whole.ensures) ∙ c.if-is_whole.true) in
    has_page a.image.now a.m c.page_of-q.result (paged_own _ _ _ _ paged) whole.0 whole.1 a.at a.k i w
    (rw paged.is h)

lies-2 : (c : goal.Then-from-n) →
    let a = c.args in
    let q = c.page_of-q.result in
    (i w : ℕ) → Has (entries_from a.image.now a.m a.page a.at a.k) i w → (q.at ≤ i) × (i < q.at + 4096)
lies-2 c i w h =
    let a = c.args in
    let paged = c.page_of-q.ensures in
    let whole = holds _ (sym (is_test c.is_whole.ensures) ∙ c.if-is_whole.true) in
    has_page a.image.now a.m c.page_of-q.result (paged_own _ _ _ _ paged) whole.0 whole.1 a.at a.k i w
    (rw paged.is h)

pub returns-then-q-from : goal.returns-then-q-from
returns-then-q-from c =
    let a = c.args in
    let off = lies c in
    record {
      noting = noting_off _ a.from a.n _ (λ i w h. inl (omega (arith, (off i w h).1)));
      marks_len_unchanged = refl;
      i_bound = λ e i w h. omega (arith, (off i w h).1);
    }

pub returns-then-from-n : goal.returns-then-from-n
returns-then-from-n c =
    let a = c.args in
    let off = lies-2 c in
    record {
      noting = noting_off _ a.from a.n _ (λ i w h. inr (omega (arith, (off i w h).0)));
      marks_len_unchanged = refl;
      i_bound = λ e. absurd (let z : ◌≡◌ {A = ℕ} 0 1 = cc in omega arith);
    }

pub mark_each-requires : goal.mark_each-requires
mark_each-requires c =
    let pre = c.requires.fits in
    let paged = c.page_of-q.ensures in
    record { fits = (pre.0, paged_own _ _ _ _ paged, omega (arith, paged.is, pre.1), pre.2, pre.3); n_in_bounds = c.requires.n_in_bounds }

pub returns : goal.returns
returns c =
    let paged = c.page_of-q.ensures in
    record {
      noting = rw paged.is at c.mark_each.ensures.noting;
      marks_len_unchanged = c.mark_each.ensures.marks_len_unchanged;
      i_bound = rw paged.is at c.mark_each.ensures.i_bound;
    }
