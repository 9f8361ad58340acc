use Rattle.inside_list.specs.Filling.{filled_word, filled_other}
use mathlib.Core.Logic.{⊎_elim}
use native.Mathlib.Omega.{arith}
use Rattle.inside_list.proofs.fill_word.Goals as goal
use Rattle.items.specs.Kinds.{other_kind_not, same_kind_not}
use Rattle.items.specs.declared.Kind.TheVariants.{Word}

pub returns-then-ne : goal.returns-then-ne
returns-then-ne c =
    filled_other c.args.places.now c.args.n c.args.x c.requires.0 (other_kind_not _ Word c.ne.ensures c.if-ne.true)

pub overflow_mul-i : goal.overflow_mul-i
overflow_mul-i c = omega (arith, (c.requires.2 (same_kind_not _ Word c.ne.ensures c.if-ne.false)))

pub entry_of-requires : goal.entry_of-requires
entry_of-requires c =
    ⊎_elim (λ h. absurd (h (same_kind_not _ Word c.ne.ensures c.if-ne.false)))
    (λ h. ⊎_elim (λ e. (omega (arith, c.requires.0), omega arith)) (λ e. (omega (arith, c.requires.0), omega arith)) h.1) c.requires.1

pub put32-requires : goal.put32-requires
put32-requires c = omega (arith, (c.requires.2 (same_kind_not _ Word c.ne.ensures c.if-ne.false)))

pub overflow_add-result : goal.overflow_add-result
overflow_add-result c = omega (arith, (c.requires.2 (same_kind_not _ Word c.ne.ensures c.if-ne.false)))

pub returns : goal.returns
returns c =
    let a = c.args in
    rw (c.put32.ensures, c.entry_of.ensures) (filled_word a.places.now a.n a.x (same_kind_not _ Word c.ne.ensures c.if-ne.false))
