-- Request #108: which calls are taken from reset on, as the request says it.
-- Assumes nothing.
use Rattle.std.specs.Prelude.{ℕ, List, [], ◌∷◌, ◌⊎◌, ◌≡◌}
use Rattle.station_order.specs.Order.{temp_ram_init, memory_init, temp_ram_exit, silicon_init, notify_phase}
use Rattle.station_logs.specs.Log.{Call, NoRefusal}

-- ---- the grammar

-- the call is k, with any notification
abbrev pub Is : ℕ → Call → Type 0
Is k c = c.call ≡ k

abbrev pub Notifies : ℕ → Call → Type 0
Notifies n c = (c.call ≡ notify_phase) × (c.notification ≡ n)

-- no call follows
abbrev pub Nothing : List Call → Type 0
Nothing [] = Unit {0}
Nothing (c ∷ l) = ⊥

-- a call of this kind, and then what follows it; the log may end before it
infixr 30 ◌then◌
abbrev pub ◌then◌ : (Call → Type 0) → (List Call → Type 0) → List Call → Type 0
◌then◌ p g [] = Unit {0}
◌then◌ p g (c ∷ l) = p c × g l

-- the notifications, each once and in this order
abbrev pub FromSilicon : List Call → Type 0
FromSilicon = Notifies 0x20 then Notifies 0x40 then Notifies 0xF0 then Nothing

abbrev pub FromMemory : List Call → Type 0
FromMemory = Is silicon_init then FromSilicon

-- TempRamInit, after which only MemoryInit may come, and TempRamExit after that; or MemoryInit without it
abbrev pub FromReset : List Call → Type 0
FromReset l =
    (Is temp_ram_init then Is memory_init then Is temp_ram_exit then FromMemory) l ⊎ (Is memory_init then FromMemory) l

-- ---- it is exact

-- from this state the sequences of g, and no others, have no refusal
pub record Exact (state : ℕ) (g : List Call → Type 0) : Type 0 where
  pub taken : (l : List Call) → g l → NoRefusal state l
  pub only : (l : List Call) → NoRefusal state l → g l
