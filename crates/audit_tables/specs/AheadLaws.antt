-- The walk goes through the list in order.
-- Assumes nothing.
use Rattle.std.specs.Prelude.{ℕ, zero, suc, ◌+◌, ◌≤◌, ◌<◌, Bool, true, false, List, ◌⊎◌, ◌≡◌, refl, length, get_or}
use Rattle.std.proofs.Common.{inl, inr, sym, ◌∙◌, arith}
use Rattle.std.proofs.Math.Decide.{ℕ_discrete}
use Rattle.table_order.specs.Ranks.{Ranked, Ranks}
use Rattle.table_order.specs.RanksLaws.{ranked_below}
use Rattle.answers.specs.declared.Reading.{Reading}
use Rattle.reading_rules.specs.Reading.{entries_at}
use Rattle.reading_rules.specs.Guarantee.{Guaranteed}
use Rattle.move_image.specs.Fixed.{fixed_at}
use Rattle.audit_tables.specs.declared.Ahead.{Ahead}
use Rattle.audit_tables.specs.Ahead.{started, Listed, Rest, Known, Foremost}

-- the words of an accepted reading lie apart, so they are ranked
pub all_ranked : (xs : List ℕ) (r : Reading) (old new : List ℕ) (t : Bool) → Guaranteed xs r
    → Ranks xs (entries_at r) r.n old new t → Ranked xs (entries_at r) r.n new
all_ranked xs r old new true g s = s.ranked refl
all_ranked xs r old new false g s = absurd (s.tells.says (λ i h j l. g.word_apart i j l h))

module _ (xs : List ℕ) (r : Reading) (ms : List ℕ) (g : Guaranteed xs r) (ranked : Ranked xs (entries_at r) r.n ms) where
  -- what stands in the list is a patch word's place
  listed_word : (k : ℕ) → k < r.n → (j : ℕ) × (j < r.n) × (fixed_at xs r (suc j) ≡ get_or ms k 0)
  listed_word k h = ranked.own k h

  pub known_start : (q : Ahead) → q ≡ started r → Known xs r ms 0 q
  known_start q e =
      rw e
      (record {
        ranked = ranked;
        most = omega (arith, g);
        word = λ h. (0, omega arith, refl);
        past = past;
        after = λ k a h. let (j, l, d) = listed_word k h in omega (arith, g, (g.word_outside j l).0);
      })
    where
      past : (j : ℕ) → j < suc r.n → 0 < fixed_at xs r j + 4 → (fixed_at xs r j ≡ r.H + 28) ⊎ Listed r ms 0 (fixed_at xs r j)
      past zero h l = inl refl
      past (suc j) h l = let (k, b, d) = ranked.all j (omega arith) in inr (k, omega arith, b, d)

  module _ (at k : ℕ) (rest : Rest xs r ms at k) where
    -- the word at k ends past `at`: it is the next
    pub known_at : k < r.n → (p : ℕ) → p ≡ get_or ms k 0 → Known xs r ms at (record { first = p; next = k + 1 })
    known_at h p is =
        let (j, l, d) = listed_word k h in
        record {
          ranked = ranked;
          most = omega (arith, g.word_within j l);
          word = λ b. (suc j, omega arith, d ∙ sym is);
          past = λ i b c.
              let (m, e, f, s) = rest i b c in
              elim (ℕ_discrete m k) [ yes o ↦ inl (sym s ∙ rw o (sym is)) | no o ↦ inr (m, omega arith, f, s) ];
          after = λ m e f. omega (arith, ranked_below xs (entries_at r) r.n ms ranked k m (omega arith) f);
        }

    -- it doesn't: those that do come after it
    pub rest_more : get_or ms k 0 + 4 ≤ at → Rest xs r ms at (k + 1)
    rest_more passed j h l =
        let (m, e, f, s) = rest j h l in
        elim (ℕ_discrete m k) [
          | yes o ↦ let u : get_or ms k 0 ≡ fixed_at xs r j = rw o at s in absurd (omega arith)
          | no o ↦ (m, omega arith, f, s)
        ]

    -- the list is at its end: no such word is left
    pub known_end : r.n ≤ k → Known xs r ms at (record { first = length xs; next = k })
    known_end done =
        record {
          ranked = ranked;
          most = omega arith;
          word = λ h. absurd (omega arith);
          past = λ j h l. let (m, e, f, s) = rest j h l in absurd (omega arith);
          after = λ m e f. absurd (omega arith);
        }

module _ (xs : List ℕ) (r : Reading) {ms : List ℕ} (at : ℕ) (q : Ahead) (known : Known xs r ms at q) where
  pub known_first : Foremost xs r at q.first
  known_first =
      record {
        most = known.most;
        word = known.word;
        least = λ j h l.
            elim (known.past j h l) [
              | inl e ↦ omega arith
              | inr (k, a, b, e) ↦ omega (arith, known.after k a b)
            ];
      }

  -- its first is passed
  pub known_rest : q.first + 4 ≤ at → Rest xs r ms at q.next
  known_rest passed j h l = elim (known.past j h l) [ inl e ↦ absurd (omega arith) | inr there ↦ there ]

  pub known_on : (to : ℕ) → at ≤ to → Known xs r ms to q
  known_on to h =
      record {
        ranked = known.ranked;
        most = known.most;
        word = known.word;
        past = λ j i l. known.past j i (omega arith);
        after = known.after;
      }
