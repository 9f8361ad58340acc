-- What a comparison of two kinds of items tells of their numbers.
-- Assumes nothing.
use Rattle.std.specs.Prelude.{ℕ, zero, suc, Bool, true, false, not, ◌≡◌, refl}
use Rattle.std.proofs.Common.{sym, ap, ◌∙◌, rules}
use denote.Enum.Bare.{sameb, same_true, same_false, differs_true, differs_false}
use Rattle.items.specs.declared.Kind.{Kind}
use Rattle.items.specs.declared.Kind.TheVariants.{End, Kept, Word, Skipped, Alien, Broken, Lost}
use Rattle.items.specs.contracts.Kind.{the_type}
use Rattle.items.specs.Items.{kind_number}

-- the one with this number
abbrev at : ℕ → Kind
at zero = End
at (suc zero) = Kept
at (suc (suc zero)) = Word
at (suc (suc (suc zero))) = Skipped
at (suc (suc (suc (suc zero)))) = Alien
at (suc (suc (suc (suc (suc zero))))) = Broken
at (suc (suc (suc (suc (suc (suc n)))))) = Lost

back : (a : Kind) → at (kind_number a) ≡ a
back End = refl
back Kept = refl
back Word = refl
back Skipped = refl
back Alien = refl
back Broken = refl
back Lost = refl

-- those with one number are one
pub kind_number_one : (a b : Kind) → kind_number a ≡ kind_number b → a ≡ b
kind_number_one a b e = sym (back a) ∙ ap at e ∙ back b

-- `a == b`
pub same_kind : {r : Bool} (a b : Kind) → r ≡ sameb the_type a b → r ≡ true → kind_number a ≡ kind_number b
same_kind a b is e = ap kind_number (same_true the_type (search rules) a b (sym is ∙ e))

pub other_kind : {r : Bool} (a b : Kind) → r ≡ sameb the_type a b → r ≡ false → kind_number a ≡ kind_number b → ⊥
other_kind a b is e n = same_false the_type a b (sym is ∙ e) (kind_number_one a b n)

-- `a != b`
pub same_kind_not : {r : Bool} (a b : Kind) → r ≡ not (sameb the_type a b) → r ≡ false → kind_number a ≡ kind_number b
same_kind_not a b is e = ap kind_number (differs_false the_type (search rules) a b (sym is ∙ e))

pub other_kind_not : {r : Bool} (a b : Kind) → r ≡ not (sameb the_type a b) → r ≡ true → kind_number a ≡ kind_number b → ⊥
other_kind_not a b is e n = differs_true the_type a b (sym is ∙ e) (kind_number_one a b n)
