-- The digest word by word, the answer and the buffer case by case.
-- Assumes nothing.
use Rattle.std.specs.Prelude.{ℕ, ◌+◌, ◌-◌, ◌/◌, ◌%◌, ◌^◌, ◌≤◌, ◌<◌, List, [], ◌∷◌, ◌++◌, ◌≡◌, take, drop, length}
use Rattle.std.proofs.Common.{sym, ap, ◌∙◌, arith, zero-add, length-append}
use Rattle.std.specs.Int.{w32, to_be_bytes}
use Rattle.std.proofs.lemmas.List.Edits.{sets-eq}
use borrow.Rule.Slice.PartMut.{put_mid}
use Rattle.std.proofs.lemmas.Slice.{put_mid-paste}
use Rattle.facts.specs.Fact.{◌≤?◌}
use Rattle.facts.specs.FactLaws.{passes, fails}
use Rattle.facts.specs.Rules.{run}
use Rattle.text_lines.specs.Lines.{Wrote}
use Rattle.text_lines.specs.LineLaws.{wrote_then}
use Rattle.digest_rounds.specs.declared.Eight.{Eight}
use Rattle.digest_message.specs.Message.{big, hashed}
use Rattle.digest_message.specs.PaddedLaws.{length_big}
use Rattle.digest.specs.Digest.{bytes_of, SHA256, digest_rules, digest_number, digest_over, Digests}

-- any two outcomes that the promise admits are the same
pub one_digest : (xs l : List ℕ) (r s : ℕ) (m n : List ℕ) → Digests xs l r m → Digests xs l s n → (r ≡ s) × (m ≡ n)
one_digest xs l r s m n (a, b) (c, d) = (a ∙ sym c, b ∙ sym d)

-- ---- bytes

big_four : (w : ℕ) → big 4 w ≡ w / 16777216 % 256 ∷ w / 65536 % 256 ∷ w / 256 % 256 ∷ w % 256 ∷ []
unfolding big
big_four w =
    let e : w / 1 % 256 ≡ w % 256 = omega arith in
    ap (λ (x : ℕ). w / 16777216 % 256 ∷ w / 65536 % 256 ∷ w / 256 % 256 ∷ x ∷ []) e

-- a word's bytes in the place of four
pub wrote_word : (l : List ℕ) (at w : ℕ) (ys : List ℕ) → at + 4 ≤ length l → ys ≡ to_be_bytes w32 w
    → Wrote l (put_mid at (at + 4 - at) l ys) at (big 4 w) (at + 4)
wrote_word l at w ys h e =
    let n : length (big 4 w) ≡ 4 = length_big 4 w in
    let whole : take 4 (big 4 w) ≡ big 4 w = rw (big_four w) in
    record {
      bytes =
          put_mid-paste at (at + 4 - at) l ys (big 4 w) 4 (e ∙ sym (big_four w)) (omega arith) (sym n)
          ∙ ap (λ (x : List ℕ). take at l ++ x ++ drop (at + 4) l) whole
          ∙ ap (λ (j : ℕ). take at l ++ big 4 w ++ drop (at + j) l) (sym n)
          ∙ sym (sets-eq (big 4 w) l at (omega (arith, n)));
      after = ap (λ (j : ℕ). at + j) (sym n);
    }

length_bytes : (v : Eight) → length (bytes_of v) ≡ 32
unfolding bytes_of
length_bytes v = simp (length-append, length_big)

-- eight words, each from where the one before it ends
module _ {l a b c d e f g h : List ℕ} {p q s t u x y z : ℕ} (v : Eight) where
  pub wrote_eight : Wrote l a 0 (big 4 v.a) p → Wrote a b p (big 4 v.b) q → Wrote b c q (big 4 v.c) s
      → Wrote c d s (big 4 v.d) t → Wrote d e t (big 4 v.e) u → Wrote e f u (big 4 v.f) x → Wrote f g x (big 4 v.g) y
      → Wrote g h y (big 4 v.h) z → Wrote l h 0 (bytes_of v) z
  unfolding bytes_of
  wrote_eight i j k m n o r w =
      wrote_then _ _ i (wrote_then _ _ j (wrote_then _ _ k (wrote_then _ _ m (wrote_then _ _ n (wrote_then _ _ o (wrote_then _ _ r w))))))

over_first : (l m : List ℕ) (r : ℕ) (v : Eight) → 32 ≤ length l → Wrote l m 0 (bytes_of v) r → m ≡ bytes_of v ++ drop 32 l
over_first l m r v h w =
    w.bytes
    ∙ sets-eq (bytes_of v) l 0 (omega (arith, length_bytes v))
    ∙ ap (λ (n : ℕ). bytes_of v ++ drop n l) (zero-add (length (bytes_of v)) ∙ length_bytes v)

-- ---- the three outcomes

module _ (xs l : List ℕ) where
  pub digests_short : length l < 32 → Digests xs l 100 l
  unfolding digest_number digest_over digest_rules run
  digests_short h = let e = fails (32 ≤? length l) (λ k. omega arith) in (rw e, rw e)

  pub digests_long : 32 ≤ length l → 2 ^ 61 ≤ length xs → Digests xs l 1 l
  unfolding digest_number digest_over digest_rules run
  digests_long h g =
      let e = passes (32 ≤? length l) h in
      let f = fails (length xs + 1 ≤? 2 ^ 61) (λ k. omega arith) in
      (rw (e, f), rw (e, f))

  pub digests_bytes : 32 ≤ length l → length xs < 2 ^ 61 → (m : List ℕ) (r : ℕ) (v : Eight) → v ≡ hashed xs → Wrote l m 0 (bytes_of v) r
      → Digests xs l 0 m
  unfolding digest_number digest_over digest_rules run SHA256
  digests_bytes h g m r v is wrote =
      let e = passes (32 ≤? length l) h in
      let f = passes (length xs + 1 ≤? 2 ^ 61) (omega arith) in
      (rw (e, f), over_first l m r v h wrote ∙ rw (e, f, is))
