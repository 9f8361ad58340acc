use Rattle.std.specs.Prelude.{not}
use Rattle.std.proofs.Common.{ℕ, length, ap, arith}
use Rattle.std.proofs.Math.ListN.{length-replicate}
use Rattle.facts.specs.FactLaws.{granted, refuted}
use Rattle.fold_ranks.specs.RanksLaws.{before}
use Rattle.fold_ways.specs.RunLaws.{whole_counted, whole_made}
use Rattle.fold_ways.specs.Ways.{way_kept, way_made}
use Rattle.fold_ways.proofs.by_runs.Goals as goal

pub rank-bytes-requires : goal.rank-bytes-requires
rank-bytes-requires c = (omega (arith, length-replicate {A = ℕ} 512 0, c.requires.1), c.requires.1)

pub returns-then-not-has_room : goal.returns-then-not-has_room
returns-then-not-has_room c =
    way_kept c.args.pile.now.bytes.now c.args.out.now _ (whole_counted _ _ _ c.requires.0 _ (ap (before 0 (length c.args.words.now)) c.rank-bytes.ensures.value.0)) (refuted c.has_room.ensures (ap not c.if-not-has_room.true))

pub make_by_runs-requires : goal.make_by_runs-requires
make_by_runs-requires c =
    (whole_made _ _ _ c.requires.0 _ _ _ c.rank-bytes.ensures.value.0 (omega arith) (omega (arith, c.rank-bytes.ensures.upper_bound.1, length-replicate {A = ℕ} 512 0, c.requires.1)) c.rank-bytes.ensures.value.1 (granted c.has_room.ensures (ap not c.if-not-has_room.false)), c.requires.2)

pub returns : goal.returns
returns c =
    way_made c.args.pile.now.bytes.now c.args.out.now _ _ (whole_counted _ _ _ c.requires.0 _ (ap (before 0 (length c.args.words.now)) c.rank-bytes.ensures.value.0)) (granted c.has_room.ensures (ap not c.if-not-has_room.false)) c.make_by_runs.ensures
