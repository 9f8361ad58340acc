-- The words of two lists are moved one list after the other.
-- Assumes nothing.
use Prim.Native.Nat.{ℕ, zero, suc, ◌+◌}
use Rattle.std.specs.Prelude.{List, ◌++◌, ◌≡◌, refl, length}
use Rattle.std.proofs.Math.Path.{ap}
use Rattle.std.proofs.Common.{◌∙◌, add-zero, add-suc, length-append}
use Rattle.std.proofs.Math.ListN.{get_or-append}
use Rattle.std.proofs.Math.Seq.{get_or-append-add}
use Rattle.moves.specs.Moves.{moved_to, moved}
use Rattle.moves.specs.MovesLaws.{moved_cong}
use Rattle.items.specs.declared.Item.{Item}
use Rattle.items.specs.Items.{skip, nth, listed}

module _ (xs : List ℕ) (p q : List Item) (d : ℕ → ℕ) where
  -- the first list's words, then i of the second's
  joined_to : (i : ℕ) → moved_to xs (listed (p ++ q)) d (length p + i) ≡ moved_to (moved xs (listed p) d) (listed q) d i
  unfolding moved_to
  joined_to zero =
      rw (add-zero (length p))
      (moved_cong xs (listed (p ++ q)) (listed p) d d (length p)
      (λ j h. ap (λ (x : Item). x.at) (get_or-append p q skip j h))
      (λ j h. ap (λ (x : Item). x.len) (get_or-append p q skip j h)) (λ j h. refl))
  joined_to (suc i) =
      let e : nth (p ++ q) (length p + i) ≡ nth q i = get_or-append-add p q i skip in
      rw (add-suc (length p) i, e, joined_to i)

  pub moved_join : moved xs (listed (p ++ q)) d ≡ moved (moved xs (listed p) d) (listed q) d
  moved_join = ap (λ (n : ℕ). moved_to xs (listed (p ++ q)) d n) (length-append p q) ∙ joined_to (length q)
