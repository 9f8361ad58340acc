-- What a frontier says of order is settled; a frontier as one item is passed, and as a list is.
-- Assumes nothing.
use Rattle.std.specs.Prelude.{ℕ, ◌+◌, ◌≤◌, List, [], ◌∷◌, ◌++◌, Bool, ◌≡◌}
use Rattle.std.proofs.Common.{append_assoc, append-nil, inl, inr, sym, ◌∙◌, arith}
use Rattle.facts.specs.Fact.{Holds}
use Rattle.facts.specs.FactLaws.{is_test}
use Rattle.items.specs.declared.Item.{Item}
use Rattle.items.specs.Items.{apart, apart_from}
use Rattle.items.specs.ItemsLaws.{each_so, each_more, apart_join}
use Rattle.apart_front.specs.declared.Front.{Front}
use Rattle.apart_front.specs.Fronts.{aside, Bounds, Ordered, SaysOrdered, Fronts}

-- the promise of `is_ordered` admits one answer
pub one_ordered : (f : Front) (r s : Bool) → SaysOrdered f r → SaysOrdered f s → r ≡ s
one_ordered f r s a b = is_test a ∙ sym (is_test b)

-- ---- one item, x: f becomes u

-- x is apart from p, and u bounds p
abbrev Far : Item → Front → Item → Type 0
Far x u p = Holds (apart x p) × Holds (aside u p)

record Step (f : Front) (x : Item) (u : Front) : Type 0 where
  low : u.low ≤ u.high
  high : u.high ≤ u.top
  own : Holds (aside u x)
  far : (p : Item) → Holds (aside f p) → Far x u p

step_one : (f : Front) (x : Item) (u : Front) → (Ordered u → Ordered f) → (f.low ≤ f.high → f.high ≤ f.top → Step f x u)
    → Fronts f (x ∷ []) u
unfolding apart_from
step_one f x u kept step = record { kept = kept; apart = λ ok before b. go before b (step b.low b.high) }
  where
    go : (before : List Item) → Bounds before f → Step f x u → Holds (apart_from before (x ∷ [])) × Bounds (before ++ (x ∷ [])) u
    go before b s = (
      (each_so (aside f) (apart x) before (λ p h. (s.far p h).0) b.all, omega arith),
      record {
        low = s.low;
        high = s.high;
        all = each_more (aside u) before x (each_so (aside f) (aside u) before (λ p h. (s.far p h).1) b.all) s.own;
      },
    )

-- nothing is said, whatever is passed
pub fronts_lost : (f : Front) (l : List Item) (u : Front) → 1099511627776 ≤ u.top → Fronts f l u
fronts_lost f l u e = record { kept = λ k. absurd (omega arith); apart = λ k. absurd (omega arith) }

module _ (f : Front) (x : Item) where
  abbrev End : ℕ
  End = x.at + x.len

  -- x goes into the gap
  pub in_gap : f.low ≤ x.at → End ≤ f.high → Fronts f (x ∷ []) (record { low = End; high = f.high; top = f.top })
  in_gap a b = step_one f x _ (λ k. k) (λ m n. record { low = b; high = n; own = inl (omega arith); far = far m n })
    where
      far : f.low ≤ f.high → f.high ≤ f.top → (p : Item) → Holds (aside f p)
          → Far x (record { low = End; high = f.high; top = f.top }) p
      far m n p (inl h) = (inr (inr (omega arith)), inl (omega arith))
      far m n p (inr h) = (inr (inl (omega arith)), inr h)

  -- x stands above all, and closes the gap
  pub above : f.top ≤ x.at → Fronts f (x ∷ []) (record { low = End; high = End; top = End })
  above a =
      step_one f x _ (λ k. omega arith) (λ m n. record { low = omega arith; high = omega arith; own = inl (omega arith); far = far m n })
    where
      far : f.low ≤ f.high → f.high ≤ f.top → (p : Item) → Holds (aside f p)
          → Far x (record { low = End; high = End; top = End }) p
      far m n p (inl h) = (inr (inr (omega arith)), inl (omega arith))
      far m n p (inr h) = (inr (inr (omega arith)), inl (omega arith))

  -- x stands above all, and leaves the gap
  pub leaves : f.top ≤ x.at → Fronts f (x ∷ []) (record { low = f.low; high = f.high; top = End })
  leaves a =
      step_one f x _ (λ k. omega arith) (λ m n. record { low = m; high = omega arith; own = inr (omega arith, omega arith); far = far m n })
    where
      far : f.low ≤ f.high → f.high ≤ f.top → (p : Item) → Holds (aside f p)
          → Far x (record { low = f.low; high = f.high; top = End }) p
      far m n p (inl h) = (inr (inr (omega arith)), inl h)
      far m n p (inr h) = (inr (inr (omega arith)), inr (h.0, omega arith))

  -- x stands above all, which lies below low, and opens a gap below itself
  pub opens : f.top ≤ x.at → f.low ≡ f.top → Fronts f (x ∷ []) (record { low = f.low; high = x.at; top = End })
  opens a e =
      step_one f x _ (λ k. omega arith) (λ m n. record { low = omega arith; high = omega arith; own = inr (omega arith, omega arith); far = far m n })
    where
      far : f.low ≤ f.high → f.high ≤ f.top → (p : Item) → Holds (aside f p)
          → Far x (record { low = f.low; high = x.at; top = End }) p
      far m n p (inl h) = (inr (inr (omega arith)), inl h)
      far m n p (inr h) = (inr (inr (omega arith)), inl (omega arith))

  -- x has neither place nor bytes
  pub nowhere : End ≡ 0 → Fronts f (x ∷ []) f
  nowhere e =
      step_one f x f (λ k. k)
      (λ m n. record { low = m; high = n; own = inl (omega arith); far = λ p h. (inr (inl (omega arith)), h) })

-- ---- lists

pub fronts_none : (f : Front) → Fronts f [] f
unfolding apart_from
fronts_none f = record { kept = λ k. k; apart = λ k before b. (omega arith, rw (append-nil before) b) }

pub fronts_join : (s f u : Front) (l k : List Item) → Fronts s l f → Fronts f k u → Fronts s (l ++ k) u
fronts_join s f u l k a b = record { kept = λ e. a.kept (b.kept e); apart = λ e before m. go before e (a.apart (b.kept e) before m) }
  where
    go : (before : List Item) → Ordered u → Holds (apart_from before l) × Bounds (before ++ l) f
        → Holds (apart_from before (l ++ k)) × Bounds (before ++ (l ++ k)) u
    go before e (h, m) =
        let (g, n) = b.apart e (before ++ l) m in
        let t : (before ++ l) ++ k ≡ before ++ (l ++ k) = append_assoc before l k in
        (apart_join before l k h g, rw t at n)
