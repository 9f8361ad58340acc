-- Request #108: a state that doesn't fit 32 bits is judged as any number that is no state of ours.
-- Assumes nothing.
use Rattle.std.specs.Prelude.{ℕ, ◌<◌, List, ◌≡◌, Result}
use Rattle.std.specs.Result.{OkIff, result_unwrap_or}
use Rattle.std.proofs.Common.{Ok, Err, sym, ap, ◌∙◌, arith}
use Rattle.std.proofs.Math.Decide.{dec_lt}
use Rattle.facts.specs.Fact.{◌≤?◌}
use Rattle.facts.specs.FactLaws.{passes, fails}
use Rattle.words.specs.Le.{le}
use Rattle.words.specs.Put.{put}
use Rattle.answers.specs.AfterLaws.{changed_so, kept_so}
use Rattle.station_order.specs.declared.Answer.{Answer}
use Rattle.station_order.specs.Order.{ordered}
use Rattle.station_order.specs.OrderLaws.{other_number, other_refused}
use Rattle.station_bytes.specs.Stored.{stationed, station_bytes, state_of}

fits_itself : (w : ℕ) → w < 4294967296 → state_of w ≡ w
fits_itself w h = rw (passes (w ≤? 4294967295) (omega arith))

is_other : (w : ℕ) → 4294967295 < w → state_of w ≡ 4294967295
is_other w h = rw (fails (w ≤? 4294967295) (λ l. omega arith))

-- from the conversion and the number for where there is none
pub converted : {E : Type 0} (w : ℕ) (r : Result ℕ E) → OkIff r (w < 4294967296) w → result_unwrap_or r 4294967295 ≡ state_of w
converted w (Ok v) (h, e) = e ∙ sym (fits_itself w h)
converted w (Err k) h = sym (is_other w (omega (arith, h)))

module _ (w call n : ℕ) where
  -- the number is that of the state itself
  pub same_number : (ordered (state_of w) call n).number ≡ (ordered w call n).number
  same_number =
      elim (dec_lt 4294967295 w) [
        | yes h ↦ rw (is_other w h) (other_number 4294967295 (omega arith) call n ∙ sym (other_number w (omega arith) call n))
        | no h ↦ rw (fits_itself w (omega arith))
      ]

  -- and so is the next state of a call that is accepted
  pub same_next : (ordered (state_of w) call n).number ≡ 0 → (ordered (state_of w) call n).state ≡ (ordered w call n).state
  same_next ok =
      elim (dec_lt 4294967295 w) [
        | yes h ↦ absurd (other_refused w (omega arith) call n (sym same_number ∙ ok))
        | no h ↦ rw (fits_itself w (omega arith))
      ]

-- a call by a record that is made of the bytes: w is the number that they hold, known the record's state, r the station's answer
module _ (xs : List ℕ) (call n w known : ℕ) (r : Answer) (read : w ≡ le 8 xs 0) (state : known ≡ state_of w)
    (called : r ≡ ordered known call n) where
  number_is : r.number ≡ (stationed xs call n).number
  number_is = rw (called, state, read) (same_number (le 8 xs 0) call n)

  next_is : r.number ≡ 0 → r.state ≡ (stationed xs call n).state
  next_is ok = rw (called, state, read) (same_next (le 8 xs 0) call n (rw (called, state, read) at ok))

  pub refused_call : (r.number ≡ 0 → ⊥) → (r.number ≡ (stationed xs call n).number) × (xs ≡ station_bytes xs call n)
  refused_call isnt = (number_is, sym (kept_so (stationed xs call n).number _ xs (λ z. isnt (number_is ∙ z))))

  pub accepted_call : r.number ≡ 0 → (0 ≡ (stationed xs call n).number) × (put 8 xs 0 r.state ≡ station_bytes xs call n)
  accepted_call ok =
      let ok' : (stationed xs call n).number ≡ 0 = sym number_is ∙ ok in
      (sym ok', ap (put 8 xs 0) (next_is ok) ∙ sym (changed_so (stationed xs call n).number _ xs ok'))
