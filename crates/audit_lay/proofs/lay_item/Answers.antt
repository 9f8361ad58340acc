use Rattle.std.proofs.Common.{◌≡◌, ℕ, ◌+◌, ◌≤◌, ◌⊎◌, length, inl, inr, mod-lt, arith}
use Rattle.words.specs.PutLaws.{pos256}
use Rattle.audit_lay.specs.Lay.{value}
use Rattle.audit_lay.specs.LayLaws.{item_laid}
use Rattle.audit_lay.proofs.lay_item.Goals as goal
use Rattle.items.specs.Kinds.{same_kind_not}
use Rattle.items.specs.declared.Kind.TheVariants.{Word}
use Rattle.items.specs.Items.{kind_number, word_kind, inside}
use Rattle.items.specs.declared.Item.{Item}
use Rattle.facts.specs.Fact.{Holds}

-- a word lies in the image and has 4 bytes or 8
within : (n : ℕ) (x : Item) → Holds (inside n x) → kind_number x.kind ≡ word_kind → (x.at + x.len ≤ n) × ((x.len ≡ 4) ⊎ (x.len ≡ 8))
within n x (inl z) k = absurd (z k)
within n x (inr z) k = z

pub overflow_add-x : goal.overflow_add-x
overflow_add-x c =
    record { fits = omega (arith, (within _ c.args.x c.requires.0 (same_kind_not _ Word c.ne.ensures c.if-ne.false)).0, c.requires.1) }

pub moved_word-w-requires : goal.moved_word-w-requires
moved_word-w-requires c = within _ c.args.x c.requires.0 (same_kind_not _ Word c.ne.ensures c.if-ne.false)

pub lay_word-requires : goal.lay_word-requires
lay_word-requires c =
    let (fits, wide) = within _ c.args.x c.requires.0 (same_kind_not _ Word c.ne.ensures c.if-ne.false) in
    (c.requires.2, wide, omega (arith, fits, c.requires.1), rw c.moved_word-w.ensures (mod-lt _ (pos256 c.args.x.len)))

pub returns : goal.returns
returns c =
    let a = c.args in
    item_laid (value a.vendor.now a.d.four a.d.eight) a.from (length a.window.now) a.x _ a.window.now _ (same_kind_not _ Word c.ne.ensures c.if-ne.false) c.moved_word-w.ensures c.lay_word.ensures
