use Rattle.words.specs.PutLaws.{number_byte}
use Rattle.audit_step.specs.StrideLaws.{plain, InNext, in_next, in_word}
use Rattle.audit_step.specs.Stride.{by}
use Rattle.words.specs.Put.{digit}
use Rattle.words.specs.Le.{Bytes}
use Rattle.std.proofs.Common.{◌≡◌, ℕ, ◌+◌, ◌-◌, ◌<◌, ◌≤◌, get_or, sym, ◌∙◌, arith}
use Rattle.audit_step.proofs.pass_equal.Goals as goal

-- the vendor's bytes are bytes
bytes : (c : goal.Then-is_word) → Bytes c.args.vendor.now
unfolding Bytes
bytes c = λ i. omega (arith, c.type_inv.vendor i)

-- past the test the walk stands in a word
here : (c : goal.Else-at-w) → let a = c.args in InNext a.vendor.now a.r a.at a.w a.m
here c =
    in_next _ _ c.requires.0 _ _ _ c.requires.1 (omega arith) c.requires.2

here-at-2 : (c : goal.After-moved_word-value) → let a = c.args in InNext a.vendor.now a.r a.at a.w a.m
here-at-2 c =
    in_next _ _ c.requires.0 _ _ _ c.requires.1 (omega arith) c.requires.2

here-at-3 : (c : goal.Then-is_word) → let a = c.args in InNext a.vendor.now a.r a.at a.w a.m
here-at-3 c =
    in_next _ _ c.requires.0 _ _ _ c.requires.1 (omega arith) c.requires.2

pub is_same-requires : goal.is_same-requires
is_same-requires c = omega (arith, c.requires.1.most, c.requires.3)

pub returns-then-is_same : goal.returns-then-is_same
returns-then-is_same c =
    let a = c.args in
    let xs = a.vendor.now in
    let reach = c.requires.1 in
    record {
      onward = omega (arith, c.if-at-w.true);
      most = omega (arith, reach.most, c.requires.3);
      clear = λ i h l. c.is_same.ensures c.if-is_same.true i h l
          ∙ sym (plain xs a.r c.requires.0 a.d.four a.d.eight a.at a.w a.m i reach h l);
    }

pub moved_word-value-requires : goal.moved_word-value-requires
moved_word-value-requires c = ((here c).fits, (here c).wide)

pub is_word-requires : goal.is_word-requires
is_word-requires c = omega (arith, (here-at-2 c).fits, c.requires.3)

pub overflow_add-result : goal.overflow_add-result
overflow_add-result c =
    record { fits = omega (arith, (here-at-3 c).fits, c.requires.0.length_most) }

pub returns-then-is_word : goal.returns-then-is_word
unfolding Bytes
returns-then-is_word c =
    let a = c.args in
    let xs = a.vendor.now in
    let h = here-at-3 c in
    let (j, hj, at, width) = h.word in
    let value = c.moved_word-value.result in
    let ships = number_byte a.m a.shipped.now a.w value (λ i. omega (arith, c.type_inv.shipped i))
    (omega (arith, h, c.requires.3)) (c.is_word.ensures c.if-is_word.true) in
    let same : (i : ℕ) → a.w ≤ i → i < a.w + a.m → get_or (by xs a.r a.d.four a.d.eight) i 0 ≡ digit value (i - a.w) = λ i l q. rw
    c.moved_word-value.ensures (in_word xs a.r c.requires.0 a.d.four a.d.eight (bytes c) a.w
    a.m i j hj at width l q) in
    record {
      onward = omega (arith, h);
      most = omega (arith, h, c.requires.3);
      clear = λ i l q. ships i (omega arith) q ∙ sym (same i (omega arith) q);
    }
