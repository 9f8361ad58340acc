-- Boot logs that the checker computes: what the theorems speak of.
-- Assumes nothing.
use Rattle.std.specs.Prelude.{ℕ, List, [], ◌∷◌, ◌++◌, ◌≡◌, refl}
use Rattle.std.proofs.Common.{inl, inr}
use Rattle.facts.specs.Fact.{test}
use Rattle.station_order.specs.Order.{temp_ram_init, memory_init, temp_ram_exit, silicon_init, notify_phase}
use Rattle.station_order.specs.Order.{at_reset, with_temp_ram, notifiedF0, none, noted, by_rows, ordered}
use Rattle.station_logs.specs.Log.{Call, after, answers, NoRefusal, called, reset, log_after, log_answers}
use Rattle.station_logs.specs.Grammar.{FromReset}
use Rattle.station_logs.specs.GrammarHolds.{exact}
use Rattle.station_logs.specs.Said.{boots}

abbrev pub call : ℕ → Call
call k = record { call = k; notification = none }

abbrev pub notify : ℕ → Call
notify n = record { call = notify_phase; notification = n }

-- ---- the two full boots

abbrev pub notifications : List Call
notifications = notify 0x20 ∷ notify 0x40 ∷ notify 0xF0 ∷ []

abbrev pub with_init : List Call
with_init = call temp_ram_init ∷ call memory_init ∷ call temp_ram_exit ∷ call silicon_init ∷ notifications

abbrev pub without_init : List Call
without_init = call memory_init ∷ call silicon_init ∷ notifications

pub with_answers : answers at_reset with_init ≡ 0 ∷ 0 ∷ 0 ∷ 0 ∷ 0 ∷ 0 ∷ 0 ∷ []
unfolding answers ordered noted by_rows test
with_answers = refl

pub without_answers : answers at_reset without_init ≡ 0 ∷ 0 ∷ 0 ∷ 0 ∷ 0 ∷ []
unfolding answers ordered noted by_rows test
without_answers = refl

pub both_done : (after at_reset with_init ≡ notifiedF0) × (after at_reset without_init ≡ notifiedF0)
unfolding ordered noted by_rows test
both_done = (refl, refl)

-- both are sequences of the request, so `exact` speaks of something; a notification that stands beside another call isn't looked at
pub with_taken : FromReset with_init
with_taken = inl (refl, (refl, (refl, (refl, ((refl, refl), ((refl, refl), ((refl, refl), tt)))))))

pub without_taken : FromReset without_init
without_taken = inr (refl, (refl, ((refl, refl), ((refl, refl), ((refl, refl), tt)))))

pub no_refusal : NoRefusal at_reset with_init × NoRefusal at_reset without_init
no_refusal = (exact.taken with_init with_taken, exact.taken without_init without_taken)

pub beside : FromReset (record { call = memory_init; notification = 0x99 } ∷ [])
beside = inr (refl, tt)

-- ---- refusals

-- TempRamExit without TempRamInit; SiliconInit before TempRamExit; a second TempRamInit; a notification before SiliconInit
pub out_of_order : (answers at_reset (call memory_init ∷ call temp_ram_exit ∷ []) ≡ 0 ∷ 40 ∷ [])
    × (answers at_reset (call temp_ram_init ∷ call memory_init ∷ call silicon_init ∷ []) ≡ 0 ∷ 0 ∷ 40 ∷ [])
    × (answers at_reset (call temp_ram_init ∷ call temp_ram_init ∷ []) ≡ 0 ∷ 40 ∷ [])
    × (answers at_reset (call memory_init ∷ notify 0x20 ∷ []) ≡ 0 ∷ 40 ∷ [])
unfolding answers ordered noted by_rows test
out_of_order = (refl, refl, refl, refl)

-- calls 0 and 6, notifications 0 and 0xF1, where nothing would be in order too
pub unknown_calls : (answers at_reset (call 0 ∷ call 6 ∷ notify 0 ∷ notify 0xF1 ∷ []) ≡ 41 ∷ 41 ∷ 41 ∷ 41 ∷ [])
    × (answers notifiedF0 (call 0 ∷ call 6 ∷ notify 0 ∷ notify 0xF1 ∷ []) ≡ 41 ∷ 41 ∷ 41 ∷ 41 ∷ [])
unfolding answers ordered noted by_rows test
unknown_calls = (refl, refl)

-- a state that is none of ours: 40, or 41 first, and it stays
pub none_of_ours : (answers 8 (call temp_ram_init ∷ call 6 ∷ notify 0xF0 ∷ []) ≡ 40 ∷ 41 ∷ 40 ∷ []) × (after 8 (call temp_ram_init ∷ []) ≡ 8)
unfolding answers ordered noted by_rows test
none_of_ours = (refl, refl)

-- a call that was refused may be made in its turn (`as_if_not_made`), and an accepted one never again (`once`)
pub in_its_turn : answers at_reset (call silicon_init ∷ call memory_init ∷ call silicon_init ∷ call silicon_init ∷ []) ≡ 40 ∷ 0 ∷ 0 ∷ 40 ∷ []
unfolding answers ordered noted by_rows test
in_its_turn = refl

-- after the last notification nothing (`ended`), and after a reset a whole boot again (`afresh`)
pub again : (answers at_reset (without_init ++ with_init) ≡ 0 ∷ 0 ∷ 0 ∷ 0 ∷ 0 ∷ 40 ∷ 40 ∷ 40 ∷ 40 ∷ 40 ∷ 40 ∷ 40 ∷ [])
    × (log_answers at_reset (called (call memory_init) ∷ reset ∷ called (call temp_ram_init) ∷ called (call memory_init) ∷ []) ≡ 0 ∷ 0 ∷ 0 ∷ [])
    × (log_after notifiedF0 (reset ∷ called (call temp_ram_init) ∷ []) ≡ with_temp_ram)
unfolding answers log_answers ordered noted by_rows test
again = (refl, refl, refl)

-- two boots, one after the other (`boots_taken`), the first cut short
pub two_boots : log_answers notifiedF0 (boots ((call temp_ram_init ∷ []) ∷ without_init ∷ [])) ≡ 0 ∷ 0 ∷ 0 ∷ 0 ∷ 0 ∷ 0 ∷ []
unfolding log_answers ordered noted by_rows test
two_boots = refl
