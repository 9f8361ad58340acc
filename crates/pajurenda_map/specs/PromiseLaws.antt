-- Request #111, the C calls: any two outcomes that a promise admits are the same.
-- Assumes nothing.
use Rattle.std.specs.Prelude.{ℕ, List, ◌≡◌}
use Rattle.std.proofs.Common.{sym, ◌∙◌}
use Rattle.pajurenda_map.specs.Promises.{MapCall, PlaceCall}

pub one_map_call : (xs out A : List ℕ) (r s : ℕ) (a b m n : List ℕ) → MapCall xs out A r m a → MapCall xs out A s n b
    → (r ≡ s) × (m ≡ n) × (a ≡ b)
one_map_call xs out A r s a b m n (e, (f, g)) (h, (k, p)) = (e ∙ sym h, f ∙ sym k, g ∙ sym p)

pub one_place_call : (xs A : List ℕ) (size r s : ℕ) (a b : List ℕ) → PlaceCall xs size A r a → PlaceCall xs size A s b → (r ≡ s) × (a ≡ b)
one_place_call xs A size r s a b (e, f) (g, h) = (e ∙ sym g, f ∙ sym h)
