use Rattle.words.specs.Put.{digit, put}
use lib.ListN.{length-set}
use native.Mathlib.Nat.{add-zero, div-one}
use native.Mathlib.Omega.{arith}
use Rattle.fold_sheet.proofs.put16.Goals as goal

pub bounds-s-at-2 : goal.bounds-s-at-2
bounds-s-at-2 c = simp length-set (omega arith)

pub returns : goal.returns
unfolding digit put
returns c = simp (add-zero, div-one)
