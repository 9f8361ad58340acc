-- The way that the code goes: the vendor's bytes are laid over the file outside its settings part, and then moved.
-- Assumes nothing.
use Prim.Native.Nat.{ℕ, zero, suc, ◌+◌, ◌-◌, ◌%◌, ◌^◌, ◌≤◌, ◌<◌}
use mathlib.Core.List.{List}
use Rattle.std.specs.Prelude.{◌⊎◌, ◌≡◌, length, get_or}
use Rattle.std.proofs.Math.Logic.{inl, inr}
use Rattle.std.proofs.Math.Path.{sym, ap}
use Rattle.std.proofs.Common.{◌∙◌, arith}
use Rattle.std.proofs.Math.Decide.{dec_lt}
use Rattle.std.proofs.Math.ListN.{get_or-eq_default}
use Rattle.facts.specs.Fact.{Holds}
use Rattle.words.specs.Le.{le, Alike}
use Rattle.words.specs.LeLaws.{le_cong}
use Rattle.words.specs.Put.{digit, add}
use Rattle.words.specs.PutLaws.{put_in, add_below, add_above}
use Rattle.items.specs.declared.Item.{Item}
use Rattle.items.specs.Items.{words_in, listed}
use Rattle.answers.specs.declared.Reading.{Reading}
use Rattle.reading_rules.specs.Reading.{rebased, reading2, Read2}
use Rattle.reading_rules.specs.Guarantee.{Guaranteed}
use Rattle.reading_rules.specs.Edition.{guaranteed, frame_but}
use Rattle.reading_rules.specs.Settings.{OutsideSettings}
use Rattle.reading_rules.specs.Words.{words_of}
use Rattle.reading_rules.specs.WordsLaws.{spread, words_outside, beside}
use Rattle.reading_rules.specs.FrameBut.{AlikeBut, words_but}
use Rattle.moves.specs.Moves.{Words, difference, moved_to, moved}
use Rattle.moves.specs.MovesLaws.{length_moved, moved_beside}
use Rattle.move_image.specs.Moving.{move_to}
use Rattle.audit_count.specs.Differences.{setting}
use Rattle.sheet_bodies.specs.Set.{copied}
use Rattle.sheet_bodies.specs.SetLaws.{length_copied, copied_beside, copied_in}
use Rattle.mend_file.specs.PutBack.{restored}
use Rattle.mend_file.specs.PutBackLaws.{restored_is}

-- ---- a move goes by the bytes of its words alone

-- lists that agree on a word agree, wherever they did, once it is moved
add_agree : (a b : List ℕ) (w at d k : ℕ) → length a ≡ length b → at + w ≤ length a → Alike a b at w → get_or a k 0 ≡ get_or b k 0
    → get_or (add w a at d) k 0 ≡ get_or (add w b at d) k 0
unfolding add
add_agree a b w at d k long fits word same =
    elim (dec_lt k at) [
      | yes low ↦ add_below w a at d k low ∙ same ∙ sym (add_below w b at d k low)
      | no low ↦
          elim (dec_lt k (at + w)) [
            | no high ↦ add_above w a at d k (omega arith) ∙ same ∙ sym (add_above w b at d k (omega arith))
            | yes high ↦
                let j = k - at in
                let e : at + j ≡ k = omega arith in
                let number : ℕ → ℕ = λ x. (x + d) % 256 ^ w in
                rw e at
                (put_in w a at (number (le w a at)) j fits (omega arith)
                ∙ ap (λ (x : ℕ). digit (number x) j) (le_cong w a b at word)
                ∙ sym (put_in w b at (number (le w b at)) j (omega arith) (omega arith)))
          ]
    ]

module _ (a b : List ℕ) (r : Reading) (ws : Words) (d : ℕ → ℕ) (long : length a ≡ length b)
    (within : (j : ℕ) → j < ws.count → ws.at j + ws.width j ≤ length a)
    (off : (j : ℕ) → j < ws.count → (ws.at j + ws.width j ≤ r.c) ⊎ (r.c + r.z ≤ ws.at j))
    (same : (k : ℕ) → OutsideSettings r k → get_or a k 0 ≡ get_or b k 0) where
  -- lists that agree outside the settings agree there once moved
  moved_agree : (i k : ℕ) → i ≤ ws.count → OutsideSettings r k → get_or (moved_to a ws d i) k 0 ≡ get_or (moved_to b ws d i) k 0
  unfolding moved_to
  moved_agree zero k h out = same k out
  moved_agree (suc i) k h out =
      add_agree (moved_to a ws d i) (moved_to b ws d i) (ws.width i) (ws.at i) (d (ws.width i)) k
      (length_moved a ws d i ∙ long ∙ sym (length_moved b ws d i)) (rw length_moved (within i (omega arith)))
      (record { same = λ j l. moved_agree i (ws.at i + j) (omega arith) (outside j l (off i (omega arith))) })
      (moved_agree i k (omega arith) out)
    where
      outside : (j : ℕ) → j < ws.width i → (ws.at i + ws.width i ≤ r.c) ⊎ (r.c + r.z ≤ ws.at i) → OutsideSettings r (ws.at i + j)
      outside j l (inl h) = inl (omega arith)
      outside j l (inr h) = inr (omega arith)

-- ---- the vendor's bytes laid over the file

-- ys with the bytes of xs outside the settings part
abbrev pub laid : List ℕ → List ℕ → Reading → List ℕ
laid xs ys r =
    copied (copied ys 0 xs 0 (r.c + 32)) (r.c + r.z) xs (r.c + r.z) (length xs - (r.c + r.z))

module _ (xs ys : List ℕ) (ok : Read2 xs) (long : length ys ≡ length xs) where
  abbrev r : Reading
  r = reading2 xs

  g : Guaranteed xs r
  g = guaranteed xs ok

  abbrev low : List ℕ
  low = copied ys 0 xs 0 (r.c + 32)

  abbrev ls : List ℕ
  ls = laid xs ys r

  pub length_low : length low ≡ length ys
  length_low = length_copied ys 0 xs 0 (r.c + 32)

  pub length_laid : length ls ≡ length xs
  length_laid = length_copied low (r.c + r.z) xs (r.c + r.z) (length xs - (r.c + r.z)) ∙ length_low ∙ long

  laid_setting : (k : ℕ) → Holds (setting r k) → get_or ls k 0 ≡ get_or ys k 0
  laid_setting k s =
      copied_beside low (r.c + r.z) xs (r.c + r.z) (length xs - (r.c + r.z)) k (inl (omega arith))
      ∙ copied_beside ys 0 xs 0 (r.c + 32) k (inr (omega arith))

  laid_outside : (k : ℕ) → OutsideSettings r k → get_or ls k 0 ≡ get_or xs k 0
  laid_outside k (inl h) =
      let e : 0 + k ≡ k = omega arith in
      copied_beside low (r.c + r.z) xs (r.c + r.z) (length xs - (r.c + r.z)) k (inl (omega (arith, g)))
      ∙ rw e at (copied_in ys 0 xs 0 (r.c + 32) k (omega (arith, g)) h)
  laid_outside k (inr h) =
      elim (dec_lt k (length xs)) [
        | no past ↦
            let here : length ls ≤ k = omega (arith, length_laid) in
            let there : length xs ≤ k = omega arith in
            get_or-eq_default ls 0 here ∙ sym (get_or-eq_default xs 0 there)
        | yes inner ↦
            let j = k - (r.c + r.z) in
            let e : r.c + r.z + j ≡ k = omega arith in
            rw e at
            (copied_in low (r.c + r.z) xs (r.c + r.z) (length xs - (r.c + r.z)) j (omega (arith, g, length_low, long))
            (omega arith))
      ]

  alike : AlikeBut xs ls r
  alike = record { long = sym length_laid; same = λ k out far. sym (laid_outside k far) }

  base_laid : le 4 ls (r.H + 28) ≡ r.base
  base_laid =
      le_cong 4 ls xs (r.H + 28) (record { same = λ j h. laid_outside (r.H + 28 + j) (inl (omega (arith, g))) })
      ∙ sym g.base_is

  laid_reads : reading2 ls ≡ reading2 xs
  laid_reads =
      frame_but xs ls ok alike (rw (base_laid, length_laid) g.legal) ∙ ap (λ (w : ℕ). rebased r w) base_laid

  -- it reads as the vendor image does, so it can be moved
  pub laid_guaranteed : Guaranteed ls (reading2 xs)
  laid_guaranteed = rw laid_reads at (guaranteed ls (ap (λ (q : Reading). q.number) laid_reads ∙ ok))

  module _ (base : ℕ) where
    abbrev d : ℕ → ℕ
    d = difference r.base base

    abbrev ws : Words
    ws = words_of xs r

    moved_laid : move_to ls r base ≡ moved ls ws d
    unfolding move_to
    moved_laid = ap (λ (l : List Item). moved ls (listed (words_in l)) d) (sym (words_but xs ls r g alike))

    -- moved, it is the file with its strays put back
    pub laid_restores : move_to ls (reading2 xs) base ≡ restored (move_to xs (reading2 xs) base) (reading2 xs) ys
    unfolding move_to
    laid_restores =
        moved_laid
        ∙ restored_is (move_to xs r base) r ys (length_moved xs ws d ws.count ∙ sym long) (moved ls ws d)
        (length_moved ls ws d ws.count ∙ length_laid ∙ sym long)
        (λ k out. moved_agree ls xs r ws d length_laid (λ j h. rw length_laid ((spread xs r g).within j h)) (words_outside xs r g) laid_outside
        ws.count k (omega arith) out)
        (λ k s. moved_beside ls ws d ws.count k
        (beside xs r g ws.count k (omega arith) (inr (omega (arith, g))) (inr (omega arith))) ∙ laid_setting k s)
