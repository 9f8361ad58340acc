-- Request #108: the bench's record, lent to be changed in place, and what its calls promise by the step of `station_order`.
-- Assumes nothing.
use Rattle.std.specs.Prelude.{ℕ, ◌≡◌}
use Rattle.std.proofs.Common.{sym, ◌∙◌}
use Rattle.station_order.specs.declared.Answer.{Answer}
use Rattle.station_order.specs.Order.{at_reset, ordered}
use Rattle.station.specs.declared.Station.{Station}

-- the record in a state, whole
abbrev pub standing : ℕ → Station
standing state = record { state = state }

-- the promise of a call with its notification: the answer's number, and the record afterwards
abbrev pub Calls : ℕ → ℕ → Station → ℕ → Station → Type 0
Calls call n was r is = (r ≡ (ordered was.state call n).number) × (is ≡ standing (ordered was.state call n).state)

-- the promise of the reset: a reset starts afresh, whatever was
abbrev pub Resets : Station → Type 0
Resets is = is ≡ standing at_reset

-- the same of a record that is made of a state, and handed back as its state
abbrev pub CallsFrom : ℕ → ℕ → ℕ → Answer → Type 0
CallsFrom state call n r = r ≡ ordered state call n

abbrev pub ResetsFrom : ℕ → Type 0
ResetsFrom r = r ≡ at_reset

-- each admits one outcome
pub one_call : (call n : ℕ) (was : Station) (r s : ℕ) (is js : Station) → Calls call n was r is → Calls call n was s js
    → (r ≡ s) × (is ≡ js)
one_call call n was r s is js (a, b) (c, d) = (a ∙ sym c, b ∙ sym d)

pub one_reset : (is js : Station) → Resets is → Resets js → is ≡ js
one_reset is js a b = a ∙ sym b

pub one_call_from : (state call n : ℕ) (r s : Answer) → CallsFrom state call n r → CallsFrom state call n s → r ≡ s
one_call_from state call n r s a b = a ∙ sym b

pub one_reset_from : (r s : ℕ) → ResetsFrom r → ResetsFrom s → r ≡ s
one_reset_from r s a b = a ∙ sym b
