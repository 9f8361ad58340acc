-- Request #108's claims of a whole boot log.
-- Assumes nothing.
use Rattle.std.specs.Prelude.{ℕ, ◌+◌, ◌≤◌, ◌<◌, cond, ◌≡◌, List, [], ◌∷◌, ◌++◌, map, refl}
use Rattle.std.proofs.Common.{arith}
use mathlib.Core.List.{foldl-append}
use Rattle.facts.specs.Fact.{◌≤?◌, ◌≡?◌, ◌and◌, test, Holds}
use Rattle.station_order.specs.declared.Answer.{Answer}
use Rattle.station_order.specs.Order.{notify_phase, at_reset, notifiedF0, table, noted, of_call, some, refusal}
use Rattle.station_order.specs.OrderLaws.{by_table, refused_stays, unknown}
use Rattle.station.specs.declared.Station.{Station}
use Rattle.station.specs.Station.{standing}
use Rattle.station_logs.specs.Log.{Call, made, next, Accepts, Same, after, answers, Zeros}
use Rattle.station_logs.specs.Log.{Entry, called, reset, turn, log_after, log_answers, Runs, none, by_call, by_reset}
use Rattle.station_logs.specs.Grammar.{Notifies}
use Rattle.station_logs.specs.GrammarHolds.{exact}
use Rattle.station_logs.specs.Said.{AsIfNotMade, EachFromReset, Ended, Folds, boots}

pub folded : {s u : Station} {l : List Entry} {rs : List ℕ} → Runs s l rs u → Folds s l rs u
unfolding log_answers
folded none = record { record_is = refl; answers_are = refl }
folded (by_call {c = c} {l = l} (number, is) more) =
    let rest = rw is at (folded more) in
    record { record_is = rest.record_is; answers_are = rw (number, rest.answers_are) }
folded (by_reset is more) = let rest = rw is at (folded more) in record { record_is = rest.record_is; answers_are = rest.answers_are }

-- and there is such a run for every log
pub ran : (s : Station) (l : List Entry) → Runs s l (log_answers s.state l) (standing (log_after s.state l))
unfolding log_answers
ran s [] = none
ran s (called c ∷ l) = by_call (refl, refl) (ran (standing (next s.state c)) l)
ran s (reset ∷ l) = by_reset refl (ran (standing at_reset) l)

-- what follows a reset goes as from reset, whatever came before
pub afresh : (state : ℕ) (l m : List Entry) → log_after state (l ++ (reset ∷ m)) ≡ log_after at_reset m
afresh state l m = foldl-append turn state l (reset ∷ m)

-- ---- 41 comes before 40 in every state, and on a refusal the state stays

pub unknown_first : (state : ℕ) (c : Call) → (Holds (some (of_call c.call (noted c.call c.notification)) table) → ⊥)
    → made state c ≡ refusal state 41
unknown_first state c isnt = unknown state c.call c.notification isnt

pub stays : (state : ℕ) (c : Call) → (Accepts state c → ⊥) → next state c ≡ state
stays state c isnt = refused_stays state c.call c.notification isnt

-- ---- a refused call leaves every later answer, and the state, as if it had not been made

pub answers_append : (state : ℕ) (l m : List Call) → answers state (l ++ m) ≡ answers state l ++ answers (after state l) m
unfolding answers
answers_append state [] m = refl
answers_append state (c ∷ l) m = rw (answers_append (next state c) l m)

pub as_if_not_made : (state : ℕ) (l : List Call) (c : Call) (m : List Call) → (Accepts (after state l) c → ⊥) → AsIfNotMade state l c m
unfolding answers
as_if_not_made state l c m isnt =
    let e : next (after state l) c ≡ after state l = stays (after state l) c isnt in
    record {
      with_it = rw (answers_append state l (c ∷ m), e);
      without = answers_append state l m;
      same_state = rw (foldl-append next state l (c ∷ m), foldl-append next state l m, e);
    }

-- ---- each accepted call happens at most once between resets

-- how far the calls go: each that is accepted in a state is past it, and not past the next
unfoldable rank : ℕ → ℕ → ℕ
rank call m = cond (test (call ≡? notify_phase)) (cond (test (m ≡? 0x20)) 5 (cond (test (m ≡? 0x40)) 6 7)) call

abbrev rank_of : Call → ℕ
rank_of c = rank c.call (noted c.call c.notification)

-- what a row says of the rank
module _ {call m k j : ℕ} (is : (call ≡ k) × (m ≡ j)) where
  ranked : rank call m ≡ rank k j
  ranked = rw (is.0, is.1)

module _ (state : ℕ) (c : Call) where
  ranks : Accepts state c → (state < rank_of c) × (rank_of c ≤ next state c)
  unfolding rank test
  ranks =
      by_table (λ r. r.state + 1 ≤? rank r.call r.notification and rank r.call r.notification ≤? r.next)
      (λ (a : Answer). a.number ≡ 0 → (state < rank_of c) × (rank_of c ≤ a.state)) state c.call c.notification
      (λ r p h _. let e = ranked h.1 in (omega arith, omega arith)) (λ e. absurd (omega arith)) (λ e. absurd (omega arith)) refl

  climbs : state ≤ next state c
  unfolding test
  climbs =
      by_table (λ r. r.state ≤? r.next) (λ (a : Answer). state ≤ a.state) state c.call c.notification (λ r p h. omega arith)
      (omega arith) (omega arith) refl

after_climbs : (state : ℕ) (l : List Call) → state ≤ after state l
after_climbs state [] = omega arith
after_climbs state (c ∷ l) = omega (arith, climbs state c, after_climbs (next state c) l)

-- c is accepted after the calls l; d, accepted after it and the calls m, isn't the same call again
pub once : (state : ℕ) (l m : List Call) (c d : Call) → Accepts (after state l) c → Accepts (after state (l ++ (c ∷ m))) d → Same c d → ⊥
once state l m c d first second same =
    let e : after state (l ++ (c ∷ m)) ≡ after (next (after state l) c) m = foldl-append next state l (c ∷ m) in
    let r : rank_of c ≡ rank_of d = ranked same in
    omega (
      arith,
      ranks (after state l) c first,
      after_climbs (next (after state l) c) m,
      ranks (after (next (after state l) c) m) d (rw e at second),
    )

-- ---- after the last notification nothing but the reset is accepted

-- where a call is accepted the last notification hasn't been
not_last : (state : ℕ) (c : Call) → Accepts state c → (state < notifiedF0) × (next state c ≤ notifiedF0)
unfolding test
not_last state c =
    by_table (λ r. r.state + 1 ≤? notifiedF0 and r.next ≤? notifiedF0)
    (λ (a : Answer). a.number ≡ 0 → (state < notifiedF0) × (a.state ≤ notifiedF0)) state c.call c.notification
    (λ r p h _. (omega arith, omega arith)) (λ e. absurd (omega arith)) (λ e. absurd (omega arith)) refl

last_state : (state : ℕ) (c : Call) → Accepts state c → Notifies 0xF0 c → next state c ≡ notifiedF0
unfolding rank noted test
last_state state c ok is =
    let e : rank_of c ≡ notifiedF0 = rw (is.0, is.1) in
    omega (arith, ranks state c ok, not_last state c ok)

nothing_more : (d : Call) → Accepts notifiedF0 d → ⊥
nothing_more d ok = omega (arith, not_last notifiedF0 d ok)

stays_last : (m : List Call) → after notifiedF0 m ≡ notifiedF0
stays_last [] = refl
stays_last (d ∷ m) = rw (stays notifiedF0 d (nothing_more d)) (stays_last m)

-- c, the last notification, is accepted after the calls l; then, whatever calls m are made
pub ended : (state : ℕ) (l m : List Call) (c : Call) → Accepts (after state l) c → Notifies 0xF0 c → Ended (after state (l ++ (c ∷ m)))
ended state l m c ok is =
    let e : after state (l ++ (c ∷ m)) ≡ after (next (after state l) c) m = foldl-append next state l (c ∷ m) in
    let n : next (after state l) c ≡ notifiedF0 = last_state (after state l) c ok is in
    rw (e, n, stays_last m) (record { last = refl; refused = nothing_more; but_reset = refl })

zeros_join : (a b : List ℕ) → Zeros a → Zeros b → Zeros (a ++ b)
zeros_join [] b za zb = zb
zeros_join (k ∷ a) b za zb = (za.0, zeros_join a b za.1 zb)

zeros_split : (a b : List ℕ) → Zeros (a ++ b) → Zeros a × Zeros b
zeros_split [] b z = (tt, z)
zeros_split (k ∷ a) b z = let rest = zeros_split a b z.1 in ((z.0, rest.0), rest.1)

log_calls : (state : ℕ) (l : List Call) (m : List Entry)
    → log_answers state (map called l ++ m) ≡ answers state l ++ log_answers (after state l) m
unfolding answers log_answers
log_calls state [] m = refl
log_calls state (c ∷ l) m = rw (log_calls (next state c) l m)

-- it has no refusal exactly where the calls of each boot are a sequence of the request, whatever the state was before
pub boots_taken : (state : ℕ) (ls : List (List Call)) → EachFromReset ls → Zeros (log_answers state (boots ls))
unfolding log_answers
boots_taken state [] h = tt
boots_taken state (l ∷ ls) h =
    rw (log_calls at_reset l (boots ls)) (zeros_join (answers at_reset l) _ (exact.taken l h.0) (boots_taken (after at_reset l) ls h.1))

pub boots_only : (state : ℕ) (ls : List (List Call)) → Zeros (log_answers state (boots ls)) → EachFromReset ls
unfolding log_answers
boots_only state [] h = tt
boots_only state (l ∷ ls) h =
    let z = zeros_split (answers at_reset l) _ (rw (log_calls at_reset l (boots ls)) at h) in
    (exact.only l z.0, boots_only (after at_reset l) ls z.1)
