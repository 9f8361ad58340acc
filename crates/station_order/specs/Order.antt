-- Request #108: which call is in order after which, as a table, and the step that goes by it.
-- Assumes nothing.
use Rattle.std.specs.Prelude.{ℕ, cond, List, [], ◌∷◌, ◌≡◌}
use Rattle.std.proofs.Common.{sym, ◌∙◌}
use Rattle.facts.specs.Fact.{Fact, ◌≡?◌, ◌and◌, ◌or◌, test}
use Rattle.station_order.specs.declared.Answer.{Answer}

-- the calls, by number
abbrev pub temp_ram_init : ℕ
temp_ram_init = 1

abbrev pub memory_init : ℕ
memory_init = 2

abbrev pub temp_ram_exit : ℕ
temp_ram_exit = 3

abbrev pub silicon_init : ℕ
silicon_init = 4

abbrev pub notify_phase : ℕ
notify_phase = 5

-- the states: after a reset; TempRamInit was called; MemoryInit was called after it; SiliconInit may come; it was called; 0x20, 0x40 and
-- 0xF0 were notified
abbrev pub at_reset : ℕ
at_reset = 0

abbrev pub with_temp_ram : ℕ
with_temp_ram = 1

abbrev pub to_exit : ℕ
to_exit = 2

abbrev pub with_memory : ℕ
with_memory = 3

abbrev pub with_silicon : ℕ
with_silicon = 4

abbrev pub notified20 : ℕ
notified20 = 5

abbrev pub notified40 : ℕ
notified40 = 6

abbrev pub notifiedF0 : ℕ
notifiedF0 = 7

-- in this state this call, with this notification, is in order, and leads to that state
pub record Row : Type 0 where
  pub state : ℕ
  pub call : ℕ
  pub notification : ℕ
  pub next : ℕ

abbrev row : ℕ → ℕ → ℕ → ℕ → Row
row state call notification next = record { state = state; call = call; notification = notification; next = next }

-- the notification of a call that has none
abbrev pub none : ℕ
none = 0

-- the table of the request
abbrev pub table : List Row
table =
    row at_reset temp_ram_init none with_temp_ram
    ∷ row at_reset memory_init none with_memory
    ∷ row with_temp_ram memory_init none to_exit
    ∷ row to_exit temp_ram_exit none with_memory
    ∷ row with_memory silicon_init none with_silicon
    ∷ row with_silicon notify_phase 0x20 notified20
    ∷ row notified20 notify_phase 0x40 notified40
    ∷ row notified40 notify_phase 0xF0 notifiedF0
    ∷ []

-- the notification of NotifyPhase counts, that of any other call isn't looked at
unfoldable pub noted : ℕ → ℕ → ℕ
noted call n = cond (test (call ≡? notify_phase)) n none

-- the row is of this call, m being the notification that counts
abbrev pub of_call : ℕ → ℕ → Row → Fact
of_call call m r = call ≡? r.call and m ≡? r.notification

-- and of this state
abbrev pub in_state : ℕ → ℕ → ℕ → Row → Fact
in_state state call m r = state ≡? r.state and of_call call m r

-- some row passes
abbrev pub some : (Row → Fact) → List Row → Fact
some p [] = 0 ≡? 1
some p (r ∷ rows) = p r or some p rows

-- a refused call: the state stays
abbrev pub refusal : ℕ → ℕ → Answer
refusal state number = record { number = number; state = state }

-- a call that is in order
abbrev pub accepted : ℕ → Answer
accepted next = record { number = 0; state = next }

-- by the row of this state and call; 40 where there is none
unfoldable pub by_rows : ℕ → ℕ → ℕ → List Row → Answer
by_rows state call m [] = refusal state 40
by_rows state call m (r ∷ rows) = cond (test (in_state state call m r)) (accepted r.next) (by_rows state call m rows)

-- the step: 41 where no row of any state has the call with its notification, then 40
unfoldable pub ordered : ℕ → ℕ → ℕ → Answer
ordered state call n =
    let m = noted call n in
    cond (test (some (of_call call m) table)) (by_rows state call m table) (refusal state 41)

-- the promise of `step`
abbrev pub Orders : ℕ → ℕ → ℕ → Answer → Type 0
Orders state call n r = r ≡ ordered state call n

-- it admits one answer
pub one_order : (state call n : ℕ) (r s : Answer) → Orders state call n r → Orders state call n s → r ≡ s
one_order state call n r s a b = a ∙ sym b
