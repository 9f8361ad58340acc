-- That the promises of a lookup admit one answer each, and which numbers a lookup gives.
-- Assumes nothing.
use Rattle.std.specs.Prelude.{◌≡◌, refl, List, ℕ}
use Rattle.std.proofs.Common.{sym, ◌∙◌, inl, inr}
use Rattle.std.specs.Borrow.{Bor}
use Rattle.reading_rules.specs.Reading.{reading2}
use Rattle.reading_rules.specs.Numbers.{Numbered, OwnLookup}
use Rattle.reading_rules.specs.NumbersLaws.{after_every, numbered_own2, own_number, own_zero}
use Rattle.setting.specs.Setting.{setting_number, HandsBack, NumberOf}

-- any two parts that a lookup's promise admits are the same bytes at the same place
pub one_setting : (image : Bor (List ℕ)) (offset size : ℕ) (r s : Bor (List ℕ)) → HandsBack image offset size r
    → HandsBack image offset size s
    → (r.now ≡ s.now) × (r.ref_ptr ≡ s.ref_ptr)
one_setting image offset size r s (a, b) (c, d) = (a ∙ sym c, λ i. ((b.0 ∙ sym d.0) i, (b.1 ∙ sym d.1) i))

pub one_number : (xs : List ℕ) (offset size r s : ℕ) → NumberOf xs offset size r → NumberOf xs offset size s → r ≡ s
one_number xs offset size r s a b = a ∙ sym b

pub lookup_numbered : (xs : List ℕ) (offset size : ℕ) → Numbered xs OwnLookup (setting_number xs offset size) 0
unfolding setting_number
lookup_numbered xs offset size =
    after_every (λ number index. number) (λ (k : ℕ). Numbered xs OwnLookup k 0) (reading2 xs) _
    (λ h. record { known = (numbered_own2 xs OwnLookup (inl refl)).known; entry = inl refl })
    (λ ok. ((λ h. own_number xs OwnLookup 17 (inr refl)), λ h. own_zero xs OwnLookup))
