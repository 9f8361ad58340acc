use Rattle.std.specs.Prelude.{not}
use Rattle.std.proofs.Common.{ℕ, ap, length-take, arith}
use Rattle.std.proofs.Math.ListN.{length-replicate}
use borrow.Author.Tests.{not-false}
use Rattle.fold_words.specs.WordsLaws.{sound_zeros, sound_take}
use Rattle.fold_ways.proofs.fold_counted.Goals as goal

pub gather-g-requires : goal.gather-g-requires
gather-g-requires c = (length-replicate {A = ℕ} 1024 0, length-replicate {A = ℕ} 1024 0)

pub all_held-requires : goal.all_held-requires
all_held-requires c = c.gather-g.ensures.holding.0.seats

pub by_words-requires : goal.by_words-requires
by_words-requires c =
    (record { sound = sound_take _ _ (c.gather-g.ensures.sound (sound_zeros _ 1024)); none = c.all_held.ensures (not-false c.all_held.result (ap not c.if-not-all_held.false)) }, omega (arith, length-take c.gather-g.result.n c.gather-g.new.words, c.gather-g.ensures.holding.1), c.gather-g.ensures.holding.0.seats)
