use Rattle.std.specs.Prelude.{not}
use Rattle.std.proofs.Common.{ap}
use Rattle.inside_list.specs.Counting.{counts_one, counts_none}
use Rattle.inside_list.specs.Few.{words_few}
use Rattle.facts.specs.FactLaws.{granted, refuted}
use Prim.Native.Nat.{◌<◌}
use native.Mathlib.Omega.{arith}
use Rattle.inside_list.proofs.count_module.Goals as goal

-- a module has few words
few : (c : goal.After-struct_known-2-1) → c.count_words-k.result < 8589934592
few c =
    omega (arith, words_few c.args.image.now c.args.m c.requires.0, c.count_words-k.ensures)

few-at-2 : (c : goal.After-struct_known-3-1) → c.count_words-k.result < 8589934592
few-at-2 c =
    omega (arith, words_few c.args.image.now c.args.m c.requires.0, c.count_words-k.ensures)

pub returns-then-not-is_module : goal.returns-then-not-is_module
returns-then-not-is_module c =
    let is = c.is_module in
    let a = c.args in
    counts_none a.image.now a.m a.n (refuted is.ensures (ap not c.if-not-is_module.true))

pub count_words-k-requires : goal.count_words-k-requires
count_words-k-requires c = c.requires.0

pub overflow_add-result : goal.overflow_add-result
overflow_add-result c = omega (arith, c.requires.1.modules)

pub overflow_add-result-2 : goal.overflow_add-result-2
overflow_add-result-2 c = omega (arith, few c, c.requires.1.words)

pub overflow_add-result-3 : goal.overflow_add-result-3
overflow_add-result-3 c = omega (arith, few c)

pub overflow_add-result-4 : goal.overflow_add-result-4
overflow_add-result-4 c = omega (arith, few-at-2 c, c.requires.1.entries)

pub returns : goal.returns
returns c =
    let a = c.args in
    counts_one a.image.now a.m a.n (granted c.is_module.ensures (ap not c.if-not-is_module.false)) c.count_words-k.result
    c.count_words-k.ensures
