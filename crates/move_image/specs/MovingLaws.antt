-- What a move does to an image that reads: the tables' words first, then the modules'.
-- Assumes nothing.
use Rattle.std.specs.Prelude.{◌≡◌, ℕ, zero, suc, ◌+◌, ◌-◌, ◌*◌, ◌<◌, ◌≤◌, ◌⊎◌, List, [], ◌∷◌, ◌++◌, length, get_or}
use Rattle.std.proofs.Common.{inl, inr, sym, ◌∙◌, arith, length-append}
use Rattle.std.proofs.Math.Path.{refl, ap}
use Rattle.std.proofs.Math.ListN.{get_or-append}
use Rattle.facts.specs.Fact.{◌≡?◌, deny, Holds}
use Rattle.words.specs.Le.{le, Alike}
use Rattle.words.specs.LeLaws.{le_cong}
use Rattle.items.specs.declared.Item.{Item}
use Rattle.items.specs.Items.{word, skip, each, inside, words_in, nth, listed}
use Rattle.items.specs.ItemsLaws.{each_so, apart_fork}
use Rattle.items.specs.Judged.{sound}
use Rattle.items.specs.Listed.{words_more, words_join}
use Rattle.items.specs.Join.{moved_join}
use Rattle.inside_walk.specs.Whole.{walked}
use Rattle.inside_walk.specs.Walkable.{Walkable}
use Rattle.inside_walk.specs.WholeAbove.{walked_inside}
use Rattle.inside_judge.specs.Rules.{patch_items}
use Rattle.inside_judge.specs.RulesLaws.{patches_count, patches_words, patches_nth}
use Rattle.move_modules.specs.Relocate.{shift, Movable}
use Rattle.move_modules.specs.MovableLaws.{movable}
use Rattle.answers.specs.declared.Reading.{Reading}
use Rattle.reading_rules.specs.Reading.{entries_at, file_at, reading2, Read2}
use Rattle.reading_rules.specs.Guarantee.{Guaranteed}
use Rattle.reading_rules.specs.Edition.{guaranteed}
use Rattle.reading_rules.specs.Words.{met, words_of}
use Rattle.reading_rules.specs.WordsLaws.{widths, met_apart}
use Rattle.reading_rules.specs.FrameBut.{AlikeBut, range, walked_but, words_but}
use Rattle.moves.specs.Moves.{difference, moved_to, moved, Beside}
use Rattle.moves.specs.MovesLaws.{length_moved, moved_beside, moved_cong}
use Rattle.move_image.specs.Fixed.{fixed_at, fixed_of, fixed}

-- what the rules give the mover holds of every image that agrees with an accepted one but for words and settings
pub movable_but : (a b : List ℕ) (r : Reading) → Guaranteed a r → AlikeBut a b r → Movable b (le 8 b 32) (file_at r)
movable_but a b r g but =
    let f = file_at r in
    let same = walked_but a b r g but in
    let s : le 3 a (f + 20) ≡ le 3 b (f + 20) = le_cong 3 a b (f + 20) (range a b r g but (f + 20) 3 (omega (arith, g.file_at_lem))) in
    let t : le 3 a (f + 24) ≡ le 3 b (f + 24) = le_cong 3 a b (f + 24) (range a b r g but (f + 24) 3 (omega (arith, g.file_at_lem))) in
    let v : le 8 a 32 ≡ le 8 b 32 = le_cong 8 a b 32 (range a b r g but 32 8 (omega (arith, g))) in
    let w = g.walkable in
    movable b (le 8 b 32) f r.c r.z (patch_items a (entries_at r) r.n)
    (record {
      within = omega (arith, w, but.long);
      small = omega (arith, w, but.long);
      head = omega (arith, w, but.long);
      ends = omega (arith, w);
      low = omega (arith, w);
      section = omega (arith, w);
    }) (rw (← same) g.modules) (rw (← same) g.words.1)

module _ (xs : List ℕ) (r : Reading) (g : Guaranteed xs r) where
  abbrev walk : List Item
  walk = walked xs (le 8 xs 32) (file_at r)

  -- the words of a move are the tables' words, then the modules'
  pub words_split : words_in (met xs r) ≡ fixed xs r ++ words_in walk
  unfolding met
  words_split =
      words_more (word (r.H + 28) 4) (patch_items xs (entries_at r) r.n ++ walk) refl
      ∙ ap (λ (l : List Item). word (r.H + 28) 4 ∷ l)
      (words_join (patch_items xs (entries_at r) r.n) walk ∙ rw (patches_words xs (entries_at r) 0 r.n))

  pub fixed_count : length (fixed xs r) ≡ suc r.n
  fixed_count = rw (patches_count xs (entries_at r) 0 r.n)

  -- the j-th of the tables' words
  fixed_nth : (j : ℕ) → j < suc r.n → nth (fixed xs r) j ≡ word (fixed_at xs r j) 4
  fixed_nth zero h = refl
  fixed_nth (suc j) h = let e : 0 + j ≡ j = omega arith in rw e at (patches_nth xs (entries_at r) 0 r.n j (omega arith))

  pub fixed_in : (j : ℕ) → j < suc r.n → nth (words_in (met xs r)) j ≡ word (fixed_at xs r j) 4
  fixed_in j h =
      rw words_split (get_or-append (fixed xs r) (words_in walk) skip j (omega (arith, fixed_count)) ∙ fixed_nth j h)

  pub count_least : suc r.n ≤ (words_of xs r).count
  count_least = rw words_split (omega (arith, length-append (fixed xs r) (words_in walk), fixed_count))

  -- a byte in no word of a move lies in none of the tables' words
  fixed_out : (k : ℕ) → Beside (words_of xs r) (words_of xs r).count k → Beside (fixed_of xs r) (suc r.n) k
  fixed_out k out j h = let e = fixed_in j h in rw e at (out j (omega (arith, count_least)))

  -- the tables' words moved
  pub fixed_alike : (d : ℕ → ℕ) → AlikeBut xs (moved xs (fixed_of xs r) d) r
  fixed_alike d =
      record {
        long = sym (length_moved xs (fixed_of xs r) d (suc r.n));
        same = λ k out far. sym (moved_beside xs (fixed_of xs r) d (suc r.n) k (fixed_out k out));
      }

  fixed_moved : (d : ℕ → ℕ) → moved xs (fixed_of xs r) d ≡ moved xs (listed (fixed xs r)) d
  fixed_moved d =
      moved_cong xs (fixed_of xs r) (listed (fixed xs r)) d d (suc r.n) (λ j h. sym (ap (λ (x : Item). x.at) (fixed_nth j h)))
      (λ j h. sym (ap (λ (x : Item). x.len) (fixed_nth j h))) (λ j h. refl)
      ∙ ap (λ (n : ℕ). moved_to xs (listed (fixed xs r)) d n) (sym fixed_count)

  -- then the modules'
  pub moved_split : (d : ℕ → ℕ) → moved xs (words_of xs r) d ≡ moved (moved xs (fixed_of xs r) d) (listed (words_in walk)) d
  moved_split d =
      ap (λ (l : List Item). moved xs (listed l) d) words_split
      ∙ moved_join xs (fixed xs r) (words_in walk) d
      ∙ ap (λ (ys : List ℕ). moved ys (listed (words_in walk)) d) (sym (fixed_moved d))

  -- by two numbers, one for each width
  module _ (four eight : ℕ) (ys : List ℕ) (fixed-done : ys ≡ moved xs (fixed_of xs r) (λ w. four)) where
    pub movable_fixed : Movable ys (le 8 ys 32) (file_at r)
    movable_fixed = rw fixed-done (movable_but xs (moved xs (fixed_of xs r) (λ w. four)) r g (fixed_alike (λ w. four)))

    walked_fixed : walked ys (le 8 ys 32) (file_at r) ≡ walk
    walked_fixed = rw fixed-done (sym (walked_but xs (moved xs (fixed_of xs r) (λ w. four)) r g (fixed_alike (λ w. four))))

    pub moved_both : moved ys (listed (words_in (walked ys (le 8 ys 32) (file_at r)))) (shift four eight)
        ≡ moved xs (words_of xs r) (shift four eight)
    moved_both =
        ap (λ (l : List Item). moved ys (listed (words_in l)) (shift four eight)) walked_fixed
        ∙ ap (λ (zs : List ℕ). moved zs (listed (words_in walk)) (shift four eight))
        (fixed-done
        ∙ moved_cong xs (fixed_of xs r) (fixed_of xs r) (λ w. four) (shift four eight) (suc r.n) (λ j h. refl) (λ j h. refl) (λ j h. refl))
        ∙ sym (moved_split (shift four eight))

  -- all of them: what a reading looks at is as it was, but for the base word
  pub moved_alike : (d : ℕ → ℕ) → AlikeBut xs (moved xs (words_of xs r) d) r
  moved_alike d =
      record {
        long = sym (length_moved xs (words_of xs r) d (words_of xs r).count);
        same = λ k out far. sym (moved_beside xs (words_of xs r) d (words_of xs r).count k out);
      }

-- images that agree but for words and settings, and read alike, have the same words
pub same_words : (a b : List ℕ) → Read2 a → AlikeBut a b (reading2 a) → reading2 b ≡ reading2 a
    → met b (reading2 b) ≡ met a (reading2 a)
same_words a b ok but same = ap (λ (r : Reading). met b r) same ∙ sym (words_but a b (reading2 a) (guaranteed a ok) but)
