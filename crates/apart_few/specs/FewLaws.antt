-- Items that lie apart from each other and beside the patch words lie apart from all.
-- Assumes nothing.
use Rattle.std.specs.Prelude.{ℕ, zero, suc, ◌+◌, ◌≤◌, ◌<◌, List, [], ◌∷◌, ◌++◌, ◌≡◌}
use Rattle.std.proofs.Common.{append_assoc, append-nil, inl, inr, ap, ◌∙◌, arith}
use Rattle.facts.specs.Fact.{Holds}
use Rattle.table.specs.Passes.{place}
use Rattle.items.specs.declared.Item.{Item}
use Rattle.items.specs.Items.{word, each, apart, apart_from}
use Rattle.items.specs.ItemsLaws.{each_none, each_join}
use Rattle.items.specs.Judged.{off}
use Rattle.inside_files.specs.declared.Part.{Part}
use Rattle.inside_rows.specs.declared.Module.{Module}
use Rattle.inside_blocks.specs.declared.Cursor.{Cursor}
use Rattle.inside_blocks.specs.Blocks.{heads_from, head_count, blocks_from, items}
use Rattle.inside_blocks.specs.BlocksWalk.{start_of}
use Rattle.inside_blocks.specs.BlocksLaws.{heads_none, blocks_none}
use Rattle.inside_walk.specs.Whole.{module_in, item_for}
use Rattle.inside_judge.specs.Parts.{part_items}
use Rattle.inside_judge.specs.Rules.{patch_from, patch_items}
use Rattle.apart_front.specs.declared.Front.{Front}
use Rattle.apart_front.specs.Fronts.{aside, Ordered, Fronts}
use Rattle.apart_front.specs.FrontsLaws.{fronts_lost}
use Rattle.apart_few.specs.Few.{besides, Bare, Past}

-- off a patch word is apart from it
off_apart : (x : Item) (p : ℕ) → Holds (off p 4 x) → Holds (apart x (word p 4))
off_apart x p (inl h) = inr (inl h)
off_apart x p (inr h) = inr (inr h)

beside_from : (xs : List ℕ) (t : ℕ) (x : Item) (i k : ℕ) → ((j : ℕ) → i ≤ j → j < i + k → Holds (off (place xs t j).at 4 x))
    → Holds (besides (patch_from xs t i k) x)
unfolding each patch_from
beside_from xs t x i zero h = omega arith
beside_from xs t x i (suc k) h =
    (off_apart x (place xs t i).at (h i (omega arith) (omega arith)), beside_from xs t x (suc i) k (λ j a b. h j (omega arith) (omega arith)))

-- off each of the n patch words is beside them all
pub beside_all : (xs : List ℕ) (t n : ℕ) (x : Item) → ((j : ℕ) → j < n → Holds (off (place xs t j).at 4 x)) → Holds (besides (patch_items xs t n) x)
beside_all xs t n x h = beside_from xs t x 0 n (λ j a b. h j (omega arith))

pub bare_start : (m : Module) (c : Cursor) → c ≡ start_of m → c.heads ≡ 0 → head_count m ≡ 0
unfolding start_of
bare_start m c e z = let h : head_count m ≡ c.heads = rw e in omega (arith, h)

items_bare : (xs : List ℕ) (m : Module) → Bare m → items xs m ≡ []
unfolding items
items_bare xs m b =
    let heads : heads_from m (head_count m) ≡ [] = ap (λ (k : ℕ). heads_from m k) b.0 ∙ heads_none m in
    let blocks : blocks_from xs m m.size 0 ≡ [] = ap (λ (k : ℕ). blocks_from xs m k 0) b.1 ∙ blocks_none xs m 0 in
    rw (heads, blocks)

-- a part with a bare module has its own item alone
part_bare : (xs : List ℕ) (p : Part) → Bare (module_in xs p) → part_items xs p ≡ item_for p (module_in xs p) ∷ []
part_bare xs p b = ap (λ (l : List Item). item_for p (module_in xs p) ∷ l) (items_bare xs (module_in xs p) b)

pub past_one : (ps : List Item) (xs : List ℕ) (p : Part) (f u : Front) → Bare (module_in xs p) → Holds (besides ps (item_for p (module_in xs p)))
    → Fronts f (item_for p (module_in xs p) ∷ []) u → Past ps (part_items xs p) f u
unfolding each
past_one ps xs p f u b h fronts =
    rw (part_bare xs p b) (record { front = fronts; beside = λ o. (h, each_none (besides ps)) })

-- of what is lost nothing is said
pub past_lost : (ps l : List Item) (f u : Front) → 1099511627776 ≤ u.top → Past ps l f u
past_lost ps l f u e = record { front = fronts_lost f l u e; beside = λ o. absurd (omega arith) }

-- apart from what is before, and beside ps
apart_more : (ps before l : List Item) → Holds (apart_from before l) → Holds (each (besides ps) l) → Holds (apart_from (ps ++ before) l)
unfolding apart_from each
apart_more ps before [] h b = omega arith
apart_more ps before (x ∷ l) (h, t) (b, bs) =
    let e : (ps ++ before) ++ (x ∷ []) ≡ ps ++ (before ++ (x ∷ [])) = append_assoc ps before (x ∷ []) in
    (each_join (apart x) ps before b h, rw e (apart_more ps (before ++ (x ∷ [])) l t bs))

apart_beside : (ps l : List Item) → Holds (apart_from [] l) → Holds (each (besides ps) l) → Holds (apart_from ps l)
apart_beside ps l h b = rw (append-nil ps) at (apart_more ps [] l h b)

-- in order from a frontier that bounds nothing, and beside ps
pub beside_ordered : (ps l : List Item) (f : Front) → Fronts (record { low = 0; high = 0; top = 0 }) l f → Ordered f
    → Holds (each (besides ps) l) → Holds (apart_from ps l)
beside_ordered ps l f fronts told b =
    apart_beside ps l (fronts.apart told [] (record { low = omega arith; high = omega arith; all = each_none (aside _) })).0 b
