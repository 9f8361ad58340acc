-- The frame law for an accepted image, in one sentence: an image that agrees with it at every byte that lies in no word of a move and is no
-- setting has the same reading but for the base, which stays legal, and the same words.
-- Below header revision 6 the two bytes of the extended number don't matter either.
-- Assumes nothing.
use Prim.{tt}
use Rattle.std.specs.Prelude.{ℕ, ◌+◌, ◌-◌, ◌*◌, ◌≤◌, ◌<◌, ◌⊎◌, ◌≡◌, refl, length, get_or}
use mathlib.Core.List.{List, [], ◌∷◌, ◌++◌}
use Rattle.std.proofs.Math.Logic.{inl, inr}
use Rattle.std.proofs.Common.{sym, ap, ◌∙◌, arith}
use Rattle.facts.specs.Fact.{Holds}
use Rattle.words.specs.Le.{le, Alike}
use Rattle.words.specs.LeLaws.{le_cong}
use Rattle.moves.specs.Moves.{Beside}
use Rattle.header.specs.Base.{legal_base}
use Rattle.items.specs.declared.Item.{Item}
use Rattle.items.specs.Items.{word, each}
use Rattle.items.specs.ItemsLaws.{each_so, each_join, apart_fork}
use Rattle.items.specs.Judged.{unbroken, sound}
use Rattle.items.specs.Shapes.{from, Kept}
use Rattle.items.specs.KeptLaws.{kept_but}
use Rattle.inside_walk.specs.Whole.{walked}
use Rattle.inside_walk.specs.WholeAbove.{walked_sized}
use Rattle.inside_walk.specs.WholeFrame.{walked_cong}
use Rattle.inside_judge.specs.Rules.{patch_items}
use Rattle.inside_judge.specs.RulesLaws.{patches_cong}
use Rattle.answers.specs.declared.Reading.{Reading}
use Rattle.reading_rules.specs.Reading.{entries_at, file_at, rebased, reading}
use Rattle.reading_rules.specs.Guarantee.{Later, Guaranteed, guaranteed}
use Rattle.reading_rules.specs.FrameBelow.{AlikeBelow, Framed, framed, frame_below}
use Rattle.reading_rules.specs.Words.{met, words_of}
use Rattle.reading_rules.specs.WordsLaws.{walked_starts, met_apart, beside}

-- a and b agree but for the words of a move and the settings
pub record AlikeBut (a b : List ℕ) (r : Reading) : Type 0 where
  pub long : length a ≡ length b
  pub same : (k : ℕ) → Beside (words_of a r) (words_of a r).count k → (k < r.c + 32) ⊎ (r.c + r.z ≤ k) → get_or a k 0 ≡ get_or b k 0

module _ (a b : List ℕ) (r : Reading) (g : Guaranteed a r) (but : AlikeBut a b r) where
  -- what stands below E, but for the base word, and in the region's header
  plain : (k : ℕ) → (k < r.H + 28) ⊎ (r.H + 32 ≤ k) → (k < r.E) ⊎ ((r.c ≤ k) × (k < r.c + 32)) → get_or a k 0 ≡ get_or b k 0
  plain k base (inl h) =
      but.same k (beside a r g (words_of a r).count k (omega arith) base (inl h)) (inl (omega (arith, g)))
  plain k base (inr h) =
      but.same k (beside a r g (words_of a r).count k (omega arith) base (inr (omega (arith, g)))) (inl (omega arith))

  below : AlikeBelow a b r
  below =
      record {
        long = but.long;
        below = λ k h. plain k (inl h) (inl (omega (arith, g)));
        above = λ k h l. plain k (inr h) (inl l);
        marks = record { same = λ j h. plain (r.c + 6 + j) (inr (omega (arith, g))) (inr (omega arith)) };
      }

  pub range : (p m : ℕ) → p + m ≤ r.H + 28 → Alike a b p m
  range p m h = record { same = λ j l. plain (p + j) (inl (omega arith)) (inl (omega (arith, g))) }

  kept : Kept a b (walked a (le 8 a 32) (file_at r))
  unfolding met
  kept =
      kept_but a b (word (r.H + 28) 4 ∷ patch_items a (entries_at r) r.n) (walked a (le 8 a 32) (file_at r)) r.c r.z
      g.modules (walked_sized a (le 8 a 32) (file_at r))
      (apart_fork [] (word (r.H + 28) 4 ∷ patch_items a (entries_at r) r.n) _ (met_apart a r g)).1
      (λ k out far. but.same k out (elim far [ inl h ↦ inl (omega arith) | inr h ↦ inr h ]))

  v_same : le 8 a 32 ≡ le 8 b 32
  v_same = le_cong 8 a b 32 (range 32 8 (omega (arith, g)))

  -- the walk over the modules meets the same
  pub walked_but : walked a (le 8 a 32) (file_at r) ≡ walked b (le 8 b 32) (file_at r)
  walked_but =
      walked_cong a b (le 8 a 32) (file_at r) (each_so (sound r.c r.z) unbroken _ (λ x h. h.0) g.modules)
      (range (file_at r + 18) 5 (omega (arith, g.file_at_lem))) (range (file_at r + 24) 3 (omega (arith, g.file_at_lem))) kept
      ∙ ap (λ (v : ℕ). walked b v (file_at r)) v_same

  -- the words are the same
  pub words_but : met a r ≡ met b r
  unfolding met
  words_but =
      rw (patches_cong a b (entries_at r) r.n but.long table, walked_but)
    where
      table : Alike a b (entries_at r) (4 * r.n)
      table = record { same = λ j l. plain (entries_at r + j) (inr (omega (arith, g))) (inl (omega (arith, g))) }

-- the reading is the same but for the base, which is the other's own base word
pub frame_but : (a b : List ℕ) → Later a → AlikeBut a b (reading a)
    → Holds (legal_base (length b) (le 4 b ((reading a).H + 28))) → reading b ≡ rebased (reading a) (le 4 b ((reading a).H + 28))
frame_but a b e but legal =
    let g = guaranteed a e in
    frame_below a b e (below a b (reading a) g but) (walked_but a b (reading a) g but) legal

-- images that agree from n on agree on all that starts there
kept_from : (a b : List ℕ) (n : ℕ) (l : List Item) → ((k : ℕ) → n ≤ k → get_or a k 0 ≡ get_or b k 0) → Holds (each (from n) l) → Kept a b l
unfolding each Kept
kept_from a b n [] same h = tt
kept_from a b n (x ∷ l) same (h, t) = ((λ other. now h), kept_from a b n l same t)
  where
    now : Holds (from n x) → Alike a b x.at x.len
    now (inl z) = record { same = λ j l. absurd (omega arith) }
    now (inr z) = record { same = λ j l. same (x.at + j) (omega arith) }

-- below header revision 6, where the header's own bytes stand at H+76 and H+77, no reading looks at those two
pub unlooked : (a b : List ℕ) → Later a → le 1 a ((reading a).H + 11) < 6 → 78 ≤ le 4 a ((reading a).H + 4)
    → length a ≡ length b
    → ((k : ℕ) → (k < (reading a).H + 76) ⊎ ((reading a).H + 78 ≤ k) → get_or a k 0 ≡ get_or b k 0) → reading b ≡ reading a
unlooked a b e below wide long same =
    let r = reading a in
    let g = guaranteed a e in
    let base : le 4 b (r.H + 28) ≡ r.base =
    sym (le_cong 4 a b (r.H + 28) (record { same = λ j l. same (r.H + 28 + j) (inl (omega arith)) })) ∙ sym g.base_is in
    let above : (k : ℕ) → r.E ≤ k → get_or a k 0 ≡ get_or b k 0 = λ k h. same k (inr (omega (arith, g))) in
    let low : (p m : ℕ) → p + m ≤ r.H + 28 → Alike a b p m = λ p m h. record { same = λ j l. same (p + j) (inl (omega arith)) } in
    let modules : walked a (le 8 a 32) (file_at r) ≡ walked b (le 8 b 32) (file_at r) =
    walked_cong a b (le 8 a 32) (file_at r) (each_so (sound r.c r.z) unbroken _ (λ x h. h.0) g.modules)
    (low (file_at r + 18) 5 (omega (arith, g.file_at_lem))) (low (file_at r + 24) 3 (omega (arith, g.file_at_lem)))
    (kept_from a b r.E (walked a (le 8 a 32) (file_at r)) above (walked_starts a r g))
    ∙ ap (λ (v : ℕ). walked b v (file_at r)) (le_cong 8 a b 32 (low 32 8 (omega (arith, g)))) in
    framed a b 78 e
    (record {
      long = long;
      below = λ k h. same k (inl (omega arith));
      within = λ k h l. same k (inl l);
      above = λ k h l. same k (inr h);
      extended = λ six. absurd (omega arith);
      marks = record { same = λ j l. same (r.c + 6 + j) (inr (omega (arith, g))) };
      header_long = λ h. wide;
      modules = modules;
    }) (rw (base, ← long) g.legal)
    ∙ ap (λ (w : ℕ). rebased r w) base
