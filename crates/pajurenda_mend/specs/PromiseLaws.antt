-- Request #110, the C call: any two outcomes that its promise admits are the same.
-- Assumes nothing.
use Rattle.std.specs.Prelude.{ℕ, List, ◌≡◌}
use Rattle.std.proofs.Common.{sym, ◌∙◌}
use Rattle.pajurenda_mend.specs.Promises.{MendCall}

pub one_mend_call : (xs ys bytes A : List ℕ) (r s : ℕ) (zs ws l m a b : List ℕ) → MendCall xs ys bytes A r zs l a
    → MendCall xs ys bytes A s ws m b → (r ≡ s) × (zs ≡ ws) × (l ≡ m) × (a ≡ b)
one_mend_call xs ys bytes A r s zs ws l m a b (e, (f, (g, h))) (i, (j, (k, n))) = (e ∙ sym i, f ∙ sym j, g ∙ sym k, h ∙ sym n)
