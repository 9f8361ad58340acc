-- The source's table is the request's.
-- Assumes nothing.
use Rattle.std.specs.Prelude.{ℕ, cond, Option, MatchOption, ◌≤◌, ◌≡◌, refl}
use Rattle.std.proofs.Common.{◌∙◌, Some, None}
use Rattle.facts.specs.Fact.{test}
use Rattle.station_order.specs.declared.State.{State}
use Rattle.station_order.specs.declared.State.TheVariants.{AtReset, WithTempRam, ToExit, WithMemory, WithSilicon, Notified20, Notified40, NotifiedF0}
use Rattle.station_order.specs.declared.Call.{Call}
use Rattle.station_order.specs.declared.Call.TheVariants.{TempRamInit, MemoryInit, TempRamExit, SiliconInit, Notify20, Notify40, NotifyF0}
use Rattle.station_order.specs.Order.{table, noted, of_call, some, refusal, by_rows, ordered}
use Rattle.station_order.specs.OrderLaws.{none_here}
use Rattle.station_order.specs.Forms.{call_number, notification_of, state_number, next_of, reached, told}

-- the same for each call
each : (P : Call → Type 0) → P TempRamInit → P MemoryInit → P TempRamExit → P SiliconInit → P Notify20 → P Notify40 → P NotifyF0
    → (c : Call) → P c
each P a b c d e f g TempRamInit = a
each P a b c d e f g MemoryInit = b
each P a b c d e f g TempRamExit = c
each P a b c d e f g SiliconInit = d
each P a b c d e f g Notify20 = e
each P a b c d e f g Notify40 = f
each P a b c d e f g NotifyF0 = g

same_table : (s : State) (c : Call) → by_rows (state_number s) (call_number c) (notification_of c) table ≡ told (state_number s) (next_of s c)
unfolding by_rows test
same_table AtReset = each _ refl refl refl refl refl refl refl
same_table WithTempRam = each _ refl refl refl refl refl refl refl
same_table ToExit = each _ refl refl refl refl refl refl refl
same_table WithMemory = each _ refl refl refl refl refl refl refl
same_table WithSilicon = each _ refl refl refl refl refl refl refl
same_table Notified20 = each _ refl refl refl refl refl refl refl
same_table Notified40 = each _ refl refl refl refl refl refl refl
same_table NotifiedF0 = each _ refl refl refl refl refl refl refl

in_rows : (state : ℕ) (c : Call)
    → cond (test (some (of_call (call_number c) (notification_of c)) table)) (by_rows state (call_number c) (notification_of c) table) (refusal state 41)
    ≡ by_rows state (call_number c) (notification_of c) table
unfolding test
in_rows state = each _ refl refl refl refl refl refl refl

module _ (call n : ℕ) (c : Call) (is : call ≡ call_number c) (with : noted call n ≡ notification_of c) (state : ℕ) where
  -- the step of a call that the table has
  by_its_rows : ordered state call n ≡ by_rows state (call_number c) (notification_of c) table
  unfolding ordered
  by_its_rows = rw (with, is) (in_rows state c)

  pub other_state : 8 ≤ state → ordered state call n ≡ refusal state 40
  other_state other = by_its_rows ∙ none_here state other (call_number c) n (notification_of c)

  pub by_next : (s : State) (r : Option State) → state ≡ state_number s → r ≡ next_of s c → ordered state call n ≡ told state r
  by_next s r e f = by_its_rows ∙ rw (e, f) (same_table s c)

  pub by_reached : (o r : Option State) → MatchOption o (8 ≤ state) (λ s. state ≡ state_number s) → r ≡ reached o c
      → ordered state call n ≡ told state r
  by_reached None r e f = rw f (other_state e)
  by_reached (Some s) r e f = by_next s r e f
