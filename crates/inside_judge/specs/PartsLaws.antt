-- The items of a volume are judged part by part, those of a module header by header and block by block.
-- Assumes nothing.
use Rattle.std.specs.Prelude.{ℕ, List, [], ◌∷◌, ◌++◌, ◌≡◌, refl}
use Rattle.items.specs.declared.Item.{Item}
use Rattle.inside_files.specs.declared.Part.{Part}
use Rattle.inside_files.specs.Parts as files
use Rattle.inside_rows.specs.declared.Module.{Module}
use Rattle.inside_blocks.specs.declared.Cursor.{Cursor}
use Rattle.inside_blocks.specs.BlocksWalk.{start_of}
use Rattle.inside_blocks.specs.Blocks.{heads_from, head_count, blocks_from, items}
use Rattle.inside_walk.specs.Whole.{spread, walked}
use Rattle.inside_judge.specs.declared.Judged.{Judged}
use Rattle.inside_judge.specs.declared.limits.Limits.{Limits}
use Rattle.inside_judge.specs.Judges.{JudgesOn, Noted}
use Rattle.inside_judge.specs.JudgesLaws.{on_none, on_more}
use Rattle.inside_judge.specs.RunsLaws.{on_join}
use Rattle.inside_judge.specs.Parts.{part_items}

-- one item, then others
pub on_first : (x : Item) (l : List Item) (lim : Limits) (r s u : Judged) → Noted lim r x s → JudgesOn l lim s u
    → JudgesOn (x ∷ l) lim r u
on_first x l lim r s u n rest = on_join (x ∷ []) l lim r s u (on_more [] lim r r s x (on_none lim r) n) rest

-- the headers of a module, then its blocks
pub on_items : (xs : List ℕ) (m : Module) (lim : Limits) (r s u : Judged) → JudgesOn (heads_from m (head_count m)) lim r s
    → JudgesOn (blocks_from xs m m.size 0) lim s u → JudgesOn (items xs m) lim r u
unfolding items
on_items xs m lim r s u a b = on_join (heads_from m (head_count m)) (blocks_from xs m m.size 0) lim r s u a b

-- a part, then those after it
pub spread_next : (xs : List ℕ) (p : Part) (l : List Part) → spread xs (p ∷ l) ≡ part_items xs p ++ spread xs l
unfolding spread
spread_next xs p l = refl

pub spread_none : (xs : List ℕ) → spread xs [] ≡ []
unfolding spread
spread_none xs = refl

-- from the first place on all items are ahead
pub walked_parts : (xs : List ℕ) (v f : ℕ) → walked xs v f ≡ spread xs (files.ahead xs v (files.first_place xs f))
unfolding walked
walked_parts xs v f = refl

-- the cursor that starts in a module has all headers to come
pub start_heads : (m : Module) (c : Cursor) → c ≡ start_of m → c.heads ≡ head_count m
unfolding start_of
start_heads m c e = rw e
