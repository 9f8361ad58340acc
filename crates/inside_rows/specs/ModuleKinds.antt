-- What a comparison of two module kinds tells of their numbers.
-- Assumes nothing.
use Rattle.std.specs.Prelude.{ℕ, zero, suc, Bool, true, false, not, ◌≡◌, refl}
use Rattle.std.proofs.Common.{sym, ap, ◌∙◌, rules}
use denote.Enum.Bare.{sameb, same_true, same_false, differs_true, differs_false}
use Rattle.inside_rows.specs.declared.ModuleKind.{ModuleKind}
use Rattle.inside_rows.specs.declared.ModuleKind.TheVariants.{Absent, Pe32, Te, Bad}
use Rattle.inside_rows.specs.contracts.ModuleKind.{the_type}
use Rattle.inside_rows.specs.Rows.{module_number}

-- the one with this number
abbrev at : ℕ → ModuleKind
at zero = Absent
at (suc zero) = Pe32
at (suc (suc zero)) = Te
at (suc (suc (suc n))) = Bad

back : (a : ModuleKind) → at (module_number a) ≡ a
back Absent = refl
back Pe32 = refl
back Te = refl
back Bad = refl

-- those with one number are one
pub module_number_one : (a b : ModuleKind) → module_number a ≡ module_number b → a ≡ b
module_number_one a b e = sym (back a) ∙ ap at e ∙ back b

-- `a == b`
pub same_module : {r : Bool} (a b : ModuleKind) → r ≡ sameb the_type a b → r ≡ true → module_number a ≡ module_number b
same_module a b is e = ap module_number (same_true the_type (search rules) a b (sym is ∙ e))

pub other_module : {r : Bool} (a b : ModuleKind) → r ≡ sameb the_type a b → r ≡ false → module_number a ≡ module_number b → ⊥
other_module a b is e n = same_false the_type a b (sym is ∙ e) (module_number_one a b n)

-- `a != b`
pub same_module_not : {r : Bool} (a b : ModuleKind) → r ≡ not (sameb the_type a b) → r ≡ false → module_number a ≡ module_number b
same_module_not a b is e = ap module_number (differs_false the_type (search rules) a b (sym is ∙ e))

pub other_module_not : {r : Bool} (a b : ModuleKind) → r ≡ not (sameb the_type a b) → r ≡ true → module_number a ≡ module_number b → ⊥
other_module_not a b is e n = differs_true the_type a b (sym is ∙ e) (module_number_one a b n)
