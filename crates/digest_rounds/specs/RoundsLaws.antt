-- Four rounds at once.
-- Assumes nothing.
use Rattle.std.specs.Prelude.{ℕ, suc, ◌+◌, List, ◌≡◌, refl, get_or}
use Rattle.std.proofs.Common.{sym, ap, ◌∙◌, arith}
use Rattle.digest_rounds.specs.declared.Eight.{Eight}
use Rattle.digest_rounds.specs.Rounds.{turned, rounds}

-- the rounds t to t + 3
unfoldable pub four_turned : List ℕ → Eight → List ℕ → ℕ → Eight
four_turned ks s ws t =
    turned
    (turned
    (turned (turned s (get_or ks t 0) (get_or ws t 0)) (get_or ks (t + 1) 0) (get_or ws (t + 1) 0)) (get_or ks (t + 2) 0) (get_or ws (t + 2) 0))
    (get_or ks (t + 3) 0) (get_or ws (t + 3) 0)

pub rounds_none : (ks : List ℕ) (s : Eight) (ws : List ℕ) → rounds ks s ws 0 ≡ s
unfolding rounds
rounds_none ks s ws = refl

pub rounds_four : (ks : List ℕ) (s : Eight) (ws : List ℕ) (t : ℕ)
    → rounds ks s ws (t + 4) ≡ four_turned ks (rounds ks s ws t) ws t
unfolding rounds four_turned
rounds_four ks s ws t =
    let e : t + 4 ≡ suc (suc (suc (suc t))) = omega arith in
    let a : t + 1 ≡ suc t = omega arith in
    let b : t + 2 ≡ suc (suc t) = omega arith in
    let c : t + 3 ≡ suc (suc (suc t)) = omega arith in
    rw (e, a, b, c)

-- one after the other
pub four_joined : (ks : List ℕ) (s : Eight) (ws : List ℕ) (t : ℕ) (v x y z : Eight) → v ≡ turned s (get_or ks t 0) (get_or ws t 0)
    → x ≡ turned v (get_or ks (t + 1) 0) (get_or ws (t + 1) 0) → y ≡ turned x (get_or ks (t + 2) 0) (get_or ws (t + 2) 0)
    → z ≡ turned y (get_or ks (t + 3) 0) (get_or ws (t + 3) 0) → z ≡ four_turned ks s ws t
unfolding four_turned
four_joined ks s ws t v x y z e f g h =
    h
    ∙ ap (λ (q : Eight). turned q (get_or ks (t + 3) 0) (get_or ws (t + 3) 0))
    (g
    ∙ ap (λ (q : Eight). turned q (get_or ks (t + 2) 0) (get_or ws (t + 2) 0))
    (f ∙ ap (λ (q : Eight). turned q (get_or ks (t + 1) 0) (get_or ws (t + 1) 0)) e))

pub rounds_turn : (ks : List ℕ) (s : Eight) (ws : List ℕ) (t : ℕ) (v r : Eight) → v ≡ rounds ks s ws t → r ≡ four_turned ks v ws t
    → r ≡ rounds ks s ws (t + 4)
rounds_turn ks s ws t v r e f = f ∙ ap (λ (q : Eight). four_turned ks q ws t) e ∙ sym (rounds_four ks s ws t)
