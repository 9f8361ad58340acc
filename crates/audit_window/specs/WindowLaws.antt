-- The words of a list, and the walk to the first word that is yet to come.
-- Assumes nothing.
use Rattle.std.specs.Prelude.{ℕ, ◌+◌, ◌-◌, ◌≤◌, ◌<◌, Option, None, Some, unwrap_or, List, [], ◌∷◌, ◌⊎◌, ◌≡◌, length}
use Rattle.std.proofs.Common.{inl, inr, sym, ap, ◌∙◌, arith}
use Rattle.std.proofs.Math.Decide.{ℕ_discrete, dec_lt}
use Rattle.facts.specs.Fact.{Holds}
use Rattle.words.specs.Le.{le}
use Rattle.items.specs.declared.Item.{Item}
use Rattle.items.specs.Items.{each, apart_from, inside, words_in, nth, word_kind, end_kind, kind_number}
use Rattle.items.specs.Listed.{spread}
use Rattle.inside_rows.specs.declared.Module.{Module}
use Rattle.inside_blocks.specs.Blocks.{item_of, entries_from}
use Rattle.inside_walk.specs.declared.Spot.{Spot}
use Rattle.inside_walk.specs.declared.Move.{Move}
use Rattle.inside_walk.specs.WholeWalk.{ahead, Valid, Stepped}
use Rattle.inside_walk.specs.Entries.{entries_of, past_of, ahead_entries, past_valid}
use Rattle.audit_lay.specs.Lay.{In}
use Rattle.audit_fill_window.specs.Near.{Has, Low}
use Rattle.audit_fill_window.specs.NearLaws.{has_nth, step_none, step_fork, step_join, entries_next, has_split, has_later, low_above}
use Rattle.audit_window.specs.Window.{Apart, Passed, Sought}

-- ---- the words of a list

pub has_inside : (n : ℕ) (l : List Item) (k w : ℕ) → Holds (each (inside n) l) → Has l k w → (k + w ≤ n) × ((w ≡ 4) ⊎ (w ≡ 8))
unfolding Has each
has_inside n [] k w h g = absurd g
has_inside n (x ∷ l) k w (h, t) (inr g) = has_inside n l k w t g
has_inside n (x ∷ l) k w (inl z, t) (inl (a, b, c)) = absurd (z a)
has_inside n (x ∷ l) k w (inr (p, q), t) (inl (a, b, c)) =
    (omega arith, elim q [ inl e ↦ inl (omega arith) | inr e ↦ inr (omega arith) ])

-- two words that share a byte are one
has_one : (xs : List ℕ) (l : List Item) → Holds (each (inside (length xs)) l) → Holds (apart_from [] l)
    → (k w p m i : ℕ) → Has l k w → Has l p m → In k w i → In p m i → (k ≡ p) × (w ≡ m)
has_one xs l within separate k w p m i g h (a, b) (d, e) =
    let (u, hu, at-u, len-u) = has_nth l k w g in
    let (o, ho, at-o, len-o) = has_nth l p m h in
    let apart = (spread xs l within separate).apart in
    elim (ℕ_discrete u o) [
      | yes s ↦ (sym at-u ∙ (ap (λ n. (nth (words_in l) n).at) s ∙ at-o), sym len-u ∙ (ap (λ n. (nth (words_in l) n).len) s ∙ len-o))
      | no s ↦
          elim (dec_lt u o) [
            | yes z ↦ elim (apart u o z ho) [ inl q ↦ absurd (omega arith) | inr q ↦ absurd (omega arith) ]
            | no z ↦ elim (apart o u (omega arith) hu) [ inl q ↦ absurd (omega arith) | inr q ↦ absurd (omega arith) ]
          ]
    ]

pub apart_all : (xs : List ℕ) (l : List Item) → Holds (each (inside (length xs)) l) → Holds (apart_from [] l) → Apart l
apart_all xs l within separate =
    record {
      some = λ k w h. elim (has_inside (length xs) l k w within h).1 [ inl e ↦ omega arith | inr e ↦ omega arith ];
      one = has_one xs l within separate;
    }

-- some of them are apart too
pub apart_some : (l m : List Item) → ((k w : ℕ) → Has m k w → Has l k w) → Apart l → Apart m
apart_some l m of a =
    record { some = λ k w h. a.some k w (of k w h); one = λ k w p u i g h. a.one k w p u i (of k w g) (of p u h) }

-- ---- the entries of a block

-- the words of k entries at `at` end by n, but for those that are left
abbrev pub Below : List Item → List Item → ℕ → Type 0
Below l rest n = (k w : ℕ) → Has l k w → (k + w ≤ n) ⊎ Has rest k w

pub below_next : (xs : List ℕ) (m : Module) (page at k n : ℕ) (x : Item) (l : List Item) → x ≡ item_of xs m page (le 2 xs at) → 0 < k
    → Below l (entries_from xs m page at k) n → (kind_number x.kind ≡ word_kind → x.at + x.len ≤ n) → Below l (entries_from xs m page (at + 2) (k - 1)) n
unfolding Has
below_next xs m page at k n x l e some below old i w h =
    elim (rw (entries_next xs m page at k x e some) at (below i w h)) [
      | inl a ↦ inl a
      | inr (inl (a, b, c)) ↦ inl (omega (arith, old a))
      | inr (inr a) ↦ inr a
    ]

pub below_end : (xs : List ℕ) (m : Module) (page at k n : ℕ) (l : List Item) → k ≡ 0 → Below l (entries_from xs m page at k) n
    → (i w : ℕ) → Has l i w → i + w ≤ n
unfolding Has entries_from
below_end xs m page at k n l e below i w h = elim (below i w h) [ inl a ↦ a | inr a ↦ absurd (rw e at a) ]

-- on and on
pub passed_join : (xs : List ℕ) (v : ℕ) (s t u : Spot) (n m : ℕ) → n ≤ m → Passed xs v s n t → Passed xs v t m u → Passed xs v s m u
passed_join xs v s t u n m up a b =
    record {
      valid = b.valid;
      below = λ k w h. elim (a.below k w h) [ inl z ↦ inl (omega arith) | inr z ↦ b.below k w z ];
      back = λ k w h. a.back k w (b.back k w h);
    }

-- the spot before what ends too late, once there is such, and else the spot at hand
pub kept_on : (xs : List ℕ) (v : ℕ) (s : Spot) (n : ℕ) (kept : Option Spot) (spot new : Spot) → Passed xs v s n (unwrap_or kept spot)
    → (Passed xs v s n spot → Passed xs v s n new) → Passed xs v s n (unwrap_or kept new)
kept_on xs v s n None spot new p on = on p
kept_on xs v s n (Some k) spot new p on = p

-- ---- on to the first word that is yet to come

module _ (xs : List ℕ) (v : ℕ) (s : Spot) (n : ℕ) where
  pub passed_start : Valid xs v s → Passed xs v s n s
  passed_start valid = record { valid = valid; below = λ k w h. inr h; back = λ k w h. h }

  pub passed_entries : (t : Spot) → Passed xs v s n t → ((k w : ℕ) → Has (entries_of xs t) k w → k + w ≤ n) → Passed xs v s n (past_of t)
  passed_entries t passed old =
      record {
        valid = past_valid xs v t passed.valid;
        below = λ k w h.
            elim (passed.below k w h) [
              | inl z ↦ inl z
              | inr z ↦
                  elim (has_split (entries_of xs t) (ahead xs v (past_of t)) k w (rw (ahead_entries xs v t) at z)) [
                    | inl a ↦ inl (old k w a)
                    | inr a ↦ inr a
                  ]
            ];
        back = λ k w h.
            passed.back k w (rw (ahead_entries xs v t) (has_later (entries_of xs t) (ahead xs v (past_of t)) k w h));
      }

  module _ (t : Spot) (m : Move) (passed : Passed xs v s n t) (step : Stepped xs v t m) where
    pub passed_next : (kind_number m.item.kind ≡ end_kind → ⊥) → (kind_number m.item.kind ≡ word_kind → m.item.at + m.item.len ≤ n) → Passed xs v s n m.next
    passed_next is old =
        record {
          valid = step.valid;
          below = λ k w h.
              elim (passed.below k w h) [
                | inl z ↦ inl z
                | inr z ↦
                    elim (step_fork xs v t m step is k w z) [ inl (a, b, c) ↦ inl (omega (arith, old a)) | inr g ↦ inr g ]
              ];
          back = λ k w h. passed.back k w (step_join xs v t m step is k w (inr h));
        }

    pub sought_end : n ≤ length xs → kind_number m.item.kind ≡ end_kind → Sought xs v s n (record { spot = t; low = length xs })
    sought_end most z =
        record { passed = passed; low = λ k w h. absurd (step_none xs v t m step z k w h); onward = most; most = omega arith }

  pub sought_here : (t : Spot) → Passed xs v s n t → (low : ℕ) → Apart (ahead xs v s) → n ≤ low → low ≤ length xs
      → (low ≡ n) ⊎ Low t low → Sought xs v s n (record { spot = t; low = low })
  sought_here t passed low apart up most is =
      record {
        passed = passed;
        low = λ k w h g.
            elim is [
              | inl e ↦ absurd (omega arith)
              | inr e ↦ low_above xs v low t passed.valid e k w h (apart.some k w (passed.back k w h))
            ];
        onward = up;
        most = most;
      }
