use Rattle.contents.specs.Listing.{coded}
use Rattle.contents.specs.Filling.{patches_left}
use Rattle.inside_judge.specs.Rules.{patch_items}
use Rattle.words.specs.Put.{put_all}
use lib.ListN.{length}
use Prim.Native.Nat.{◌+◌, ◌-◌, ◌*◌, ◌≤◌}
use mathlib.Core.Path.{◌≡◌}
use Rattle.contents.proofs.fill_patches.Given as goal

abbrev pub invariant-loop-i : goal.invariant-loop-i
invariant-loop-i l = (l.i ≤ l.n) × (length l.places ≡ length l.initial.places)
    × (put_all 4 l.places (4 * l.i + 4) (patches_left l.image l.t l.n l.i) ≡ put_all 4 l.initial.places 4 (coded 8 (patch_items l.image l.t l.n)))

abbrev pub decreases-loop-i : goal.decreases-loop-i
decreases-loop-i l = l.n - l.i
