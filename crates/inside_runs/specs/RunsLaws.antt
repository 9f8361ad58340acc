-- One entry more of a run, in order or not.
-- Assumes nothing.
use Rattle.std.specs.Prelude.{ℕ, ◌+◌, ◌/◌, ◌%◌, ◌≤◌, ◌<◌, List, ◌⊎◌, ◌≡◌, get_or}
use Rattle.std.proofs.Common.{inl, inr, sym, ◌∙◌, arith, below_more, eq-eqb, ne_eqb}
use Rattle.std.proofs.Math.Decide.{dec_lt, ℕ_discrete}
use Rattle.apart_strokes.specs.Strokes.{Painting}
use Rattle.inside_pages.specs.declared.Page.{Page}
use Rattle.inside_runs.specs.Runs.{width_of, end_of, entry, InGap, Beside, Lain, Strewing}

pub width_four : (e : ℕ) → e / 4096 ≡ 3 → width_of e ≡ 4
unfolding width_of
width_four e t = rw (eq-eqb (e / 4096) 3 t)

pub width_eight : (e : ℕ) → e / 4096 ≡ 10 → width_of e ≡ 8
unfolding width_of
width_eight e t = rw (ne_eqb (e / 4096) 3 (λ z. omega arith), eq-eqb (e / 4096) 10 t)

pub width_none : (e : ℕ) → (e / 4096 ≡ 3 → ⊥) → (e / 4096 ≡ 10 → ⊥) → width_of e ≡ 0
unfolding width_of
width_none e a b = rw (ne_eqb (e / 4096) 3 a, ne_eqb (e / 4096) 10 b)

-- a word has 4 bytes or 8
pub width_some : (e : ℕ) → (width_of e ≡ 0 → ⊥) → (width_of e ≡ 4) ⊎ (width_of e ≡ 8)
width_some e n =
    elim (ℕ_discrete (e / 4096) 3) [
      | yes t ↦ inl (width_four e t)
      | no t ↦ elim (ℕ_discrete (e / 4096) 10) [ yes s ↦ inr (width_eight e s) | no s ↦ absurd (n (width_none e t s)) ]
    ]

pub width_most : (e : ℕ) → width_of e ≤ 8
width_most e =
    elim (ℕ_discrete (width_of e) 0) [
      | yes z ↦ omega arith
      | no n ↦ elim (width_some e n) [ inl h ↦ omega arith | inr h ↦ omega arith ]
    ]

module _ (xs : List ℕ) (q : Page) (low high at : ℕ) where
  pub lain_none : Lain xs q low high at 0 low
  lain_none =
      record { up = omega arith; most = λ h. h; each = λ i h. absurd (omega arith); beside = λ i h. absurd (omega arith) }

  module _ (k end : ℕ) (l : Lain xs q low high at k end) (new : InGap q low high (entry xs at k)) where
    -- one beside all before it
    pub lain_more : (to : ℕ) → end ≤ to → end_of q (entry xs at k) ≤ to → (low ≤ high → to ≤ high)
        → ((j : ℕ) → j < k → Beside (entry xs at k) (entry xs at j)) → Lain xs q low high at (k + 1) to
    lain_more to up own most far =
        record {
          up = omega (arith, l.up);
          most = most;
          each = below_more _ _ (λ i h. ((l.each i h).0, omega (arith, (l.each i h).1))) (new, own);
          beside = below_more _ _ l.beside far;
        }

    -- one that starts where all before it end, or after
    pub lain_after : end ≤ q.at + entry xs at k % 4096 → Lain xs q low high at (k + 1) (end_of q (entry xs at k))
    lain_after h =
        lain_more (end_of q (entry xs at k)) (omega arith) (omega arith) (λ g. new.2) (λ j i. inr (omega (arith, (l.each j i).1)))

  -- one whose bytes weren't marked, and are now
  module _ (k end to : ℕ) (ms ns : List ℕ) (s : Strewing xs q low high at k end ms) (new : InGap q low high (entry xs at k))
      (p : Painting ms ns (entry xs at k % 4096) (entry xs at k % 4096 + width_of (entry xs at k)) 0 2) where
    abbrev from : ℕ → ℕ
    from i = entry xs at i % 4096

    abbrev past : ℕ → ℕ
    past i = entry xs at i % 4096 + width_of (entry xs at i)

    -- no byte is both marked and free
    apart : (j b : ℕ) → j < k → from j ≤ b → b < past j → from k ≤ b → b < past k → ⊥
    apart j b h g l m n = s.marked j h b g l (omega (arith, p.met b m n))

    beside : (j : ℕ) → j < k → Beside (entry xs at k) (entry xs at j)
    beside j h =
        elim (dec_lt (from j) (past k)) [
          | no g ↦ inl (omega arith)
          | yes g ↦ elim (dec_lt (from k) (past j)) [
            | no l ↦ inr (omega arith)
            | yes l ↦ elim (dec_lt (from k) (from j)) [
              | yes m ↦ absurd (apart j (from j) h (omega arith) (omega (arith, (s.lain.each j h).0.0.0)) (omega arith) g)
              | no m ↦ absurd (apart j (from k) h (omega arith) l (omega arith) (omega (arith, new.0.0)))
            ]
          ]
        ]

    -- what is marked stays so
    still : (b : ℕ) → (get_or ms b 0 ≡ 0 → ⊥) → get_or ns b 0 ≡ 0 → ⊥
    still b n z =
        elim (dec_lt b (from k)) [
          | yes g ↦ n (sym (p.below b g) ∙ z)
          | no g ↦ elim (dec_lt b (past k)) [
            | yes l ↦ absurd (omega (arith, p.done b (omega arith) l))
            | no l ↦ n (sym (p.above b (omega arith)) ∙ z)
          ]
        ]

    pub strewing_more : end ≤ to → end_of q (entry xs at k) ≤ to → (low ≤ high → to ≤ high)
        → Strewing xs q low high at (k + 1) to ns
    strewing_more up own most =
        record {
          lain = lain_more k end s.lain new to up own most beside;
          long = p.long ∙ s.long;
          marked = below_more _ _ (λ i h b g l. still b (s.marked i h b g l)) (λ b g l z. omega (arith, p.done b g l));
        }
