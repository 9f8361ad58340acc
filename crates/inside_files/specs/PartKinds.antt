-- What a comparison of two part kinds tells of their numbers.
-- Assumes nothing.
use Rattle.std.specs.Prelude.{ℕ, zero, suc, Bool, true, false, not, ◌≡◌, refl}
use Rattle.std.proofs.Common.{sym, ap, ◌∙◌, rules}
use denote.Enum.Bare.{sameb, same_true, same_false, differs_true, differs_false}
use Rattle.inside_files.specs.declared.PartKind.{PartKind}
use Rattle.inside_files.specs.declared.PartKind.TheVariants.{End, Header, Section, Broken}
use Rattle.inside_files.specs.contracts.PartKind.{the_type}
use Rattle.inside_files.specs.Parts.{part_number}

-- the one with this number
abbrev at : ℕ → PartKind
at zero = End
at (suc zero) = Header
at (suc (suc zero)) = Section
at (suc (suc (suc n))) = Broken

back : (a : PartKind) → at (part_number a) ≡ a
back End = refl
back Header = refl
back Section = refl
back Broken = refl

-- those with one number are one
pub part_number_one : (a b : PartKind) → part_number a ≡ part_number b → a ≡ b
part_number_one a b e = sym (back a) ∙ ap at e ∙ back b

-- `a == b`
pub same_part : {r : Bool} (a b : PartKind) → r ≡ sameb the_type a b → r ≡ true → part_number a ≡ part_number b
same_part a b is e = ap part_number (same_true the_type (search rules) a b (sym is ∙ e))

pub other_part : {r : Bool} (a b : PartKind) → r ≡ sameb the_type a b → r ≡ false → part_number a ≡ part_number b → ⊥
other_part a b is e n = same_false the_type a b (sym is ∙ e) (part_number_one a b n)

-- `a != b`
pub same_part_not : {r : Bool} (a b : PartKind) → r ≡ not (sameb the_type a b) → r ≡ false → part_number a ≡ part_number b
same_part_not a b is e = ap part_number (differs_false the_type (search rules) a b (sym is ∙ e))

pub other_part_not : {r : Bool} (a b : PartKind) → r ≡ not (sameb the_type a b) → r ≡ true → part_number a ≡ part_number b → ⊥
other_part_not a b is e n = differs_true the_type a b (sym is ∙ e) (part_number_one a b n)
