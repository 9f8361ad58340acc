use Rattle.audit_step.specs.StrideLaws.{plain, InNext, in_next, in_word}
use Rattle.audit_step.specs.Stride.{by}
use Rattle.words.specs.Put.{digit}
use Rattle.words.specs.Le.{Bytes}
use Rattle.std.proofs.Common.{◌≡◌, ℕ, ◌+◌, ◌-◌, ◌<◌, ◌≤◌, get_or, sym, ◌∙◌, ⊎_elim, arith}
use Rattle.audit_step.proofs.step_to.Goals.{Then-at-w, Else-at-w, After-moved_word-value}
use Rattle.audit_step.proofs.step_to.Goals as goal

-- before the next word the reference has the vendor's own bytes
own : (c : Then-at-w) →
    let a = c.args in
    (i : ℕ) → a.at ≤ i → i < a.w → get_or (by a.vendor.now a.r a.d.four a.d.eight) i 0 ≡ get_or a.vendor.now i 0
own c i h l =
    let a = c.args in
    plain a.vendor.now a.r c.requires.0 a.d.four a.d.eight a.at a.w a.m i c.requires.1 h l

-- past the test the walk stands in a word
here : (c : Else-at-w) → let a = c.args in InNext a.vendor.now a.r a.at a.w a.m
here c = in_next _ _ c.requires.0 _ _ _ c.requires.1 (omega arith) c.requires.2

-- in which the reference has the moved value's
moved : (c : After-moved_word-value) →
    let a = c.args in
    InNext a.vendor.now a.r a.at a.w a.m
    → (i : ℕ) → a.w ≤ i → i < a.w + a.m
    → get_or (by a.vendor.now a.r a.d.four a.d.eight) i 0 ≡ digit c.moved_word-value.result (i - a.w)
unfolding Bytes
moved c h i l q =
    let a = c.args in
    let (j, hj, at, width) = h.word in
    rw c.moved_word-value.ensures
    (in_word a.vendor.now a.r c.requires.0 a.d.four a.d.eight (λ k. omega (arith, c.type_inv.vendor k)) a.w a.m i j hj at width l q)

pub first_difference-requires : goal.first_difference-requires
first_difference-requires c = omega (arith, c.requires.1.most, c.requires.3)

pub returns-in-Some : goal.returns-in-Some
returns-in-Some c =
    let o = (goal.at.returns-in-Some c).Then-at-w in
    let (u, less) = c.in-Some.ensures in (
      record {
        onward = u.onward;
        most = omega (arith, u.most, c.requires.1.most, c.requires.3);
        clear = λ i h l. u.clear i h l ∙ sym (own o i h (omega (arith, less)));
      },
      omega (arith, less, c.requires.1.most, c.requires.3),
      λ q. u.found less (q ∙ own o c.in-Some.k u.onward less),
    )

pub returns-then-at-w : goal.returns-then-at-w
returns-then-at-w c =
    let o = (goal.at.returns-then-at-w c).Then-at-w in (
      record {
        onward = omega arith;
        most = omega (arith, c.requires.1.most, c.requires.3);
        clear = λ i h l. c.in_default.ensures i h l ∙ sym (own o i h l);
      },
      omega arith,
    )

pub moved_word-value-requires : goal.moved_word-value-requires
moved_word-value-requires c = ((here c).fits, (here c).wide)

pub first_in_word-requires : goal.first_in_word-requires
first_in_word-requires c =
    let h = here (goal.at.first_in_word-requires c).Else-at-w in
    let most : c.args.m ≤ 8 = ⊎_elim (λ e. omega arith) (λ e. omega arith) h.wide in
    omega (arith, h.past, h.fits, most, c.requires.3)

pub overflow_add-result : goal.overflow_add-result
overflow_add-result c =
    record { fits = omega (arith, (here (goal.at.overflow_add-result c).Else-at-w).fits, c.requires.0.length_most) }

pub returns-in-Some-first_in_word : goal.returns-in-Some-first_in_word
returns-in-Some-first_in_word c =
    let h = here (goal.at.returns-in-Some-first_in_word c).Else-at-w in
    let there = moved (goal.at.returns-in-Some-first_in_word c).After-moved_word-value h in
    let (low, high, written, differs) = c.in-Some-first_in_word.ensures in (
      record {
        onward = low;
        most = omega (arith, h, c.requires.3);
        clear = λ i l q. written i l q ∙ sym (there i (omega arith) (omega arith));
      },
      omega (arith, h, c.requires.3),
      λ q. differs (q ∙ there c.in-Some-first_in_word.k (omega arith) high),
    )

pub returns-in-None : goal.returns-in-None
returns-in-None c =
    let h = here (goal.at.returns-in-None c).Else-at-w in
    let there = moved (goal.at.returns-in-None c).After-moved_word-value h in (
      record {
        onward = omega (arith, h);
        most = omega (arith, h, c.requires.3);
        clear = λ i l q. c.in-None.ensures i l q ∙ sym (there i (omega arith) q);
      },
      h.past,
    )
