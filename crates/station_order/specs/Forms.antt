-- The source's calls and states, by their numbers, and its table.
-- Assumes nothing.
use Rattle.std.specs.Prelude.{ℕ, Option, MatchOption, ◌≡◌}
use Rattle.std.proofs.Common.{Some, None}
use Rattle.facts.specs.Fact.{Holds}
use Rattle.station_order.specs.declared.Answer.{Answer}
use Rattle.station_order.specs.declared.State.{State}
use Rattle.station_order.specs.declared.State.TheVariants.{AtReset, WithTempRam, ToExit, WithMemory, WithSilicon, Notified20, Notified40, NotifiedF0}
use Rattle.station_order.specs.declared.Call.{Call}
use Rattle.station_order.specs.declared.Call.TheVariants.{TempRamInit, MemoryInit, TempRamExit, SiliconInit, Notify20, Notify40, NotifyF0}
use Rattle.station_order.specs.Order.{table, noted, of_call, some, refusal, accepted}
use Rattle.station_order.specs.Order.{temp_ram_init, memory_init, temp_ram_exit, silicon_init, notify_phase, none}
use Rattle.station_order.specs.Order.{at_reset, with_temp_ram, to_exit, with_memory, with_silicon, notified20, notified40, notifiedF0}

abbrev pub call_number : Call → ℕ
call_number TempRamInit = temp_ram_init
call_number MemoryInit = memory_init
call_number TempRamExit = temp_ram_exit
call_number SiliconInit = silicon_init
call_number Notify20 = notify_phase
call_number Notify40 = notify_phase
call_number NotifyF0 = notify_phase

abbrev pub notification_of : Call → ℕ
notification_of TempRamInit = none
notification_of MemoryInit = none
notification_of TempRamExit = none
notification_of SiliconInit = none
notification_of Notify20 = 0x20
notification_of Notify40 = 0x40
notification_of NotifyF0 = 0xF0

abbrev pub state_number : State → ℕ
state_number AtReset = at_reset
state_number WithTempRam = with_temp_ram
state_number ToExit = to_exit
state_number WithMemory = with_memory
state_number WithSilicon = with_silicon
state_number Notified20 = notified20
state_number Notified40 = notified40
state_number NotifiedF0 = notifiedF0

-- r is the call of these numbers, or no row has it
abbrev pub Named : ℕ → ℕ → Option Call → Type 0
Named call n r =
    MatchOption r (Holds (some (of_call call (noted call n)) table) → ⊥) (λ c. (call ≡ call_number c) × (noted call n ≡ notification_of c))

-- the table of the source
abbrev pub next_of : State → Call → Option State
next_of AtReset TempRamInit = Some WithTempRam
next_of AtReset MemoryInit = Some WithMemory
next_of WithTempRam MemoryInit = Some ToExit
next_of ToExit TempRamExit = Some WithMemory
next_of WithMemory SiliconInit = Some WithSilicon
next_of WithSilicon Notify20 = Some Notified20
next_of Notified20 Notify40 = Some Notified40
next_of Notified40 NotifyF0 = Some NotifiedF0
next_of s c = None

-- the same from a number that may be none of a state
abbrev pub reached : Option State → Call → Option State
reached None c = None
reached (Some s) c = next_of s c

-- the answer in a state, by what its table says
abbrev pub told : ℕ → Option State → Answer
told state None = refusal state 40
told state (Some to) = accepted (state_number to)
