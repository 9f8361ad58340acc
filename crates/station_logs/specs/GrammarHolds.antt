-- The grammar takes exactly the sequences without a refusal.
-- Assumes nothing.
use Rattle.std.specs.Prelude.{ℕ, ◌⊎◌, ◌≡◌, refl, List, [], ◌∷◌}
use Rattle.std.proofs.Common.{inl, inr, arith, ap}
use Rattle.facts.specs.Fact.{test}
use Rattle.station_order.specs.declared.Answer.{Answer}
use Rattle.station_order.specs.Order.{temp_ram_init, memory_init, temp_ram_exit, silicon_init}
use Rattle.station_order.specs.Order.{at_reset, with_temp_ram, to_exit, with_memory, with_silicon, notified20, notified40, notifiedF0}
use Rattle.station_order.specs.Order.{noted, accepted, by_rows, ordered}
use Rattle.station_order.specs.OrderLaws.{by_order}
use Rattle.station_logs.specs.Log.{Call, made, next, Accepts, answers, NoRefusal}
use Rattle.station_logs.specs.Grammar.{Exact, Is, Notifies, ◌then◌, FromMemory, FromReset, Nothing}

-- one kind of call alone is in order, and leads to the state t
record Leads (state : ℕ) (p : Call → Type 0) (t : ℕ) : Type 0 where
  to : (c : Call) → p c → made state c ≡ accepted t
  from : (c : Call) → Accepts state c → p c × (next state c ≡ t)

module _ {s t : ℕ} {p : Call → Type 0} {g : List Call → Type 0} (row : Leads s p t) (more : Exact t g) where
  then_taken : (l : List Call) → (p then g) l → NoRefusal s l
  unfolding answers
  then_taken [] h = tt
  then_taken (c ∷ l) h =
      let e = row.to c h.0 in
      let n : next s c ≡ t = ap (λ (a : Answer). a.state) e in
      (ap (λ (a : Answer). a.number) e, rw n (more.taken l h.1))

  then_only : (l : List Call) → NoRefusal s l → (p then g) l
  unfolding answers
  then_only [] h = tt
  then_only (c ∷ l) h =
      let e = row.from c h.0 in
      (e.0, more.only l (rw e.1 at h.1))

  exact_then : Exact s (p then g)
  exact_then = record { taken = then_taken; only = then_only }

-- the rows, from the last to the first
none_taken : (l : List Call) → Nothing l → NoRefusal notifiedF0 l
unfolding answers
none_taken [] h = tt
none_taken (c ∷ l) h = absurd h

none_only : (l : List Call) → NoRefusal notifiedF0 l → Nothing l
unfolding answers test
none_only [] h = tt
none_only (c ∷ l) h =
    by_order (λ (a : Answer). a.number ≡ 0 → ⊥) notifiedF0 c.call c.notification tt (λ e. omega arith) (λ e. omega arith) h.0

exact_none : Exact notifiedF0 Nothing
exact_none = record { taken = none_taken; only = none_only }

leads_F0 : Leads notified40 (Notifies 0xF0) notifiedF0
unfolding ordered noted by_rows test
leads_F0 = record {
  to = λ c h. rw (h.0, h.1);
  from = λ c.
      by_order (λ (a : Answer). a.number ≡ 0 → Notifies 0xF0 c × (a.state ≡ notifiedF0)) notified40 c.call c.notification
      ((λ h _. ((h.0, rw h.0 at h.1), refl)), tt) (λ e. absurd (omega arith)) (λ e. absurd (omega arith));
}

leads_40 : Leads notified20 (Notifies 0x40) notified40
unfolding ordered noted by_rows test
leads_40 = record {
  to = λ c h. rw (h.0, h.1);
  from = λ c.
      by_order (λ (a : Answer). a.number ≡ 0 → Notifies 0x40 c × (a.state ≡ notified40)) notified20 c.call c.notification
      ((λ h _. ((h.0, rw h.0 at h.1), refl)), tt) (λ e. absurd (omega arith)) (λ e. absurd (omega arith));
}

leads_20 : Leads with_silicon (Notifies 0x20) notified20
unfolding ordered noted by_rows test
leads_20 = record {
  to = λ c h. rw (h.0, h.1);
  from = λ c.
      by_order (λ (a : Answer). a.number ≡ 0 → Notifies 0x20 c × (a.state ≡ notified20)) with_silicon c.call c.notification
      ((λ h _. ((h.0, rw h.0 at h.1), refl)), tt) (λ e. absurd (omega arith)) (λ e. absurd (omega arith));
}

leads_silicon : Leads with_memory (Is silicon_init) with_silicon
unfolding ordered noted by_rows test
leads_silicon = record {
  to = λ c h. rw h;
  from = λ c.
      by_order (λ (a : Answer). a.number ≡ 0 → Is silicon_init c × (a.state ≡ with_silicon)) with_memory c.call c.notification
      ((λ h _. (h.0, refl)), tt) (λ e. absurd (omega arith)) (λ e. absurd (omega arith));
}

leads_exit : Leads to_exit (Is temp_ram_exit) with_memory
unfolding ordered noted by_rows test
leads_exit = record {
  to = λ c h. rw h;
  from = λ c.
      by_order (λ (a : Answer). a.number ≡ 0 → Is temp_ram_exit c × (a.state ≡ with_memory)) to_exit c.call c.notification
      ((λ h _. (h.0, refl)), tt) (λ e. absurd (omega arith)) (λ e. absurd (omega arith));
}

leads_memory : Leads with_temp_ram (Is memory_init) to_exit
unfolding ordered noted by_rows test
leads_memory = record {
  to = λ c h. rw h;
  from = λ c.
      by_order (λ (a : Answer). a.number ≡ 0 → Is memory_init c × (a.state ≡ to_exit)) with_temp_ram c.call c.notification
      ((λ h _. (h.0, refl)), tt) (λ e. absurd (omega arith)) (λ e. absurd (omega arith));
}

exact_memory : Exact with_memory FromMemory
exact_memory = exact_then leads_silicon (exact_then leads_20 (exact_then leads_40 (exact_then leads_F0 exact_none)))

exact_temp_ram : Exact with_temp_ram (Is memory_init then Is temp_ram_exit then FromMemory)
exact_temp_ram = exact_then leads_memory (exact_then leads_exit exact_memory)

-- at reset two are in order
at_reset_lem : (c : Call) → Accepts at_reset c
    → (Is temp_ram_init c × (next at_reset c ≡ with_temp_ram)) ⊎ (Is memory_init c × (next at_reset c ≡ with_memory))
unfolding test
at_reset_lem c =
    by_order
    (λ (a : Answer). a.number ≡ 0 → (Is temp_ram_init c × (a.state ≡ with_temp_ram)) ⊎ (Is memory_init c × (a.state ≡ with_memory)))
    at_reset c.call c.notification ((λ h _. inl (h.0, refl)), ((λ h _. inr (h.0, refl)), tt)) (λ e. absurd (omega arith))
    (λ e. absurd (omega arith))

init_made : (c : Call) → Is temp_ram_init c → made at_reset c ≡ accepted with_temp_ram
unfolding ordered noted by_rows test
init_made c h = rw h

memory_made : (c : Call) → Is memory_init c → made at_reset c ≡ accepted with_memory
unfolding ordered noted by_rows test
memory_made c h = rw h

reset_taken : (l : List Call) → FromReset l → NoRefusal at_reset l
unfolding answers
reset_taken [] h = tt
reset_taken (c ∷ l) (inl h) =
    let e = init_made c h.0 in
    let n : next at_reset c ≡ with_temp_ram = ap (λ (a : Answer). a.state) e in
    (ap (λ (a : Answer). a.number) e, rw n (exact_temp_ram.taken l h.1))
reset_taken (c ∷ l) (inr h) =
    let e = memory_made c h.0 in
    let n : next at_reset c ≡ with_memory = ap (λ (a : Answer). a.state) e in
    (ap (λ (a : Answer). a.number) e, rw n (exact_memory.taken l h.1))

reset_only : (l : List Call) → NoRefusal at_reset l → FromReset l
unfolding answers
reset_only [] h = inl tt
reset_only (c ∷ l) h =
    elim (at_reset_lem c h.0) [
      | inl e ↦ inl (e.0, exact_temp_ram.only l (rw e.1 at h.1))
      | inr e ↦ inr (e.0, exact_memory.only l (rw e.1 at h.1))
    ]

-- the sequences that are taken from reset on are exactly those of the request
pub exact : Exact at_reset FromReset
exact = record { taken = reset_taken; only = reset_only }
