-- Taking the bytes in parts, whatever parts, is taking them at once.
-- Assumes nothing.
use Rattle.std.specs.Prelude.{ℕ, zero, suc, ◌+◌, ◌*◌, ◌/◌, ◌<◌, List, [], ◌∷◌, ◌++◌, ◌≡◌, refl, length, get_or, drop}
use Rattle.std.proofs.Common.{append_assoc, append-nil, sym, ap, ◌∙◌, arith, add-zero, add-suc, length-append, length-drop, get_or-drop, drop-drop}
use Rattle.std.proofs.Math.ListN.{get_or-append}
use Rattle.std.proofs.lemmas.List.{drop-append-le}
use Rattle.digest_rounds.specs.declared.Eight.{Eight}
use Rattle.digest_blocks.specs.Blocks.{compressed, chained}
use Rattle.digest_blocks.specs.BlocksLaws.{same_compressed, same_chained}
use Rattle.digest_message.specs.Message.{padding, padded, H₀, hashed}
use Rattle.digest.specs.Digest.{bytes_of, SHA256}
use Rattle.digest_laws.specs.Parts.{Running, begun, more, all_more, joined, ended}

-- j blocks and then k
chained_split : (v : Eight) (xs : List ℕ) (j k : ℕ) → chained v xs (j + k) ≡ chained (chained v xs j) (drop (64 * j) xs) k
unfolding chained
chained_split v xs j zero = rw add-zero
chained_split v xs j (suc k) =
    let same : (i : ℕ) → i < 64 → get_or xs (64 * (j + k) + i) 0 ≡ get_or (drop (64 * j) xs) (64 * k + i) 0 = λ i h.
    let e : 64 * (j + k) + i ≡ 64 * j + (64 * k + i) = omega arith in rw e (sym (get_or-drop (64 * j) xs (64 * k + i) 0)) in
    rw add-suc
    (same_compressed (chained v xs (j + k)) xs (drop (64 * j) xs) (64 * (j + k)) (64 * k) same
    ∙ ap (λ (q : Eight). compressed q (drop (64 * j) xs) (64 * k)) (chained_split v xs j k))

-- what is left after the whole blocks of xs, and ys after it
abbrev left : List ℕ → List ℕ → List ℕ
left xs ys = drop (64 * (length xs / 64)) xs ++ ys

left_is : (xs ys : List ℕ) → left xs ys ≡ drop (64 * (length xs / 64)) (xs ++ ys)
left_is xs ys = sym (drop-append-le (64 * (length xs / 64)) xs ys (omega arith))

left_blocks : (xs ys : List ℕ) → length (xs ++ ys) / 64 ≡ length xs / 64 + length (left xs ys) / 64
left_blocks xs ys = omega (
  arith,
  length-append xs ys,
  length-append (drop (64 * (length xs / 64)) xs) ys,
  length-drop (64 * (length xs / 64)) xs,
)

-- the blocks of xs, and then those of what is left and ys, are the blocks of both
join_blocks : (xs ys : List ℕ) → chained (chained H₀ xs (length xs / 64)) (left xs ys) (length (left xs ys) / 64)
    ≡ chained H₀ (xs ++ ys) (length (xs ++ ys) / 64)
join_blocks xs ys =
    let j = length xs / 64 in
    let k = length (left xs ys) / 64 in
    let first : chained H₀ xs j ≡ chained H₀ (xs ++ ys) j = same_chained H₀ xs (xs ++ ys) j
    (λ i h. sym (get_or-append xs ys 0 i (omega arith))) in
    ap (λ (q : Eight). chained q (left xs ys) k) first
    ∙ ap (λ (l : List ℕ). chained (chained H₀ (xs ++ ys) j) l k) (left_is xs ys)
    ∙ sym (chained_split H₀ (xs ++ ys) j k)
    ∙ ap (λ (n : ℕ). chained H₀ (xs ++ ys) n) (sym (left_blocks xs ys))

join_left : (xs ys : List ℕ) → drop (64 * (length (left xs ys) / 64)) (left xs ys) ≡ drop (64 * (length (xs ++ ys) / 64)) (xs ++ ys)
join_left xs ys =
    let j = length xs / 64 in
    let k = length (left xs ys) / 64 in
    let e : 64 * j + 64 * k ≡ 64 * (length (xs ++ ys) / 64) = omega (arith, left_blocks xs ys) in
    ap (λ (l : List ℕ). drop (64 * k) l) (left_is xs ys)
    ∙ drop-drop (64 * k) (64 * j) (xs ++ ys)
    ∙ ap (λ (n : ℕ). drop n (xs ++ ys)) e

-- the state after the bytes xs
abbrev after : List ℕ → Running
after xs =
    record { value = chained H₀ xs (length xs / 64); kept = drop (64 * (length xs / 64)) xs; count = length xs }

after_none : begun ≡ after []
unfolding begun chained
after_none = refl

after_more : (xs ys : List ℕ) → more (after xs) ys ≡ after (xs ++ ys)
unfolding more
after_more xs ys = rw (join_blocks xs ys, join_left xs ys, length-append xs ys)

after_all_lem : (xs : List ℕ) (ps : List (List ℕ)) → all_more (after xs) ps ≡ after (xs ++ joined ps)
unfolding all_more joined
after_all_lem xs [] = rw append-nil
after_all_lem xs (p ∷ ps) = rw (after_more xs p) (after_all_lem (xs ++ p) ps ∙ ap after (append_assoc xs p (joined ps)))

after_ended : (xs : List ℕ) → ended (after xs) ≡ SHA256 xs
unfolding ended SHA256 hashed padded
after_ended xs = ap bytes_of (join_blocks xs (padding (length xs)))

-- the law: the digest of bytes that came in parts is that of all of them at once
pub in_parts : (ps : List (List ℕ)) → ended (all_more begun ps) ≡ SHA256 (joined ps)
in_parts ps = rw after_none (ap ended (after_all_lem [] ps) ∙ after_ended (joined ps))
