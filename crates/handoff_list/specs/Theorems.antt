-- Request #101's claims of the whole list.
-- Assumes nothing.
use Prim.Native.Nat.{ℕ, zero, suc, ◌+◌, ◌≤◌, ◌<◌}
use Rattle.std.specs.Prelude.{Bool, cond, ◌≡◌, refl, get_or}
use mathlib.Core.List.{List, [], ◌∷◌, ◌++◌}
use Rattle.std.proofs.Common.{sym, length-append}
use native.Mathlib.Omega.{arith}
use Rattle.std.proofs.Math.Decide.{dec_lt}
use Rattle.std.proofs.Math.ListN.{length, get_or-append}
use Rattle.words.specs.Le.{Alike}
use Rattle.words.specs.LeLaws.{alike_in}
use Rattle.handoff_step.specs.declared.Block.{Block}
use Rattle.handoff_step.specs.declared.Kind.{Kind}
use Rattle.handoff_step.specs.declared.Kind.TheVariants.{Handoff, End}
use Rattle.handoff_step.specs.Step.{nothing, stepped}
use Rattle.handoff_step.specs.StepLaws.{is_handoff, is_end, shows, step_left, step_frame, moves}
use Rattle.handoff_list.specs.Blocks.{Listing, listing, before, within, blocks_from, blocks}
use Rattle.handoff_list.specs.BlocksLaws.{by_turn, blocks_end, blocks_next}

-- block i of a list
abbrev pub nth : List Block → ℕ → Block
nth bs i = get_or bs i nothing

-- how many blocks have a kind that p takes
unfoldable pub how_many : (Kind → Bool) → List Block → ℕ
how_many p [] = 0
how_many p (b ∷ bs) = cond (p b.kind) 1 0 + how_many p bs

-- b, a block of the list of xs, is what a step at its place shows, and lies inside the buffer
pub record Stands (xs : List ℕ) (b : Block) : Type 0 where
  pub accepted : (stepped xs b.place).number ≡ 0
  pub is_shown : (stepped xs b.place).block ≡ b
  pub inside : b.place + b.length ≤ length xs

-- c stands right after b
abbrev pub Next : Block → Block → Type 0
Next b c = c.place ≡ b.place + b.length

-- the end block, at `at`
pub record EndAt (at : ℕ) (b : Block) : Type 0 where
  pub place_is : b.place ≡ at
  pub kind_is : b.kind ≡ End
  pub length_is : b.length ≡ 8

-- an accepted list from `at` on: there is no gap, and the last block, and no other, is the end block
pub record Chain (xs : List ℕ) (at : ℕ) (l : Listing) : Type 0 where
  pub some : 1 ≤ length l.blocks
  pub starts : (nth l.blocks 0).place ≡ at
  pub stands : (i : ℕ) → i < length l.blocks → Stands xs (nth l.blocks i)
  pub follows : (i : ℕ) → suc i < length l.blocks → Next (nth l.blocks i) (nth l.blocks (suc i))
  pub last : (i : ℕ) → suc i ≡ length l.blocks → EndAt l.at (nth l.blocks i)
  pub one_end : how_many is_end l.blocks ≡ 1
  pub later : (at ≡ 0 → ⊥) → how_many is_handoff l.blocks ≡ 0
  pub first : at ≡ 0 → how_many is_handoff l.blocks ≡ 1

module _ (b : Block) (bs : List Block) where
  each_more : (P : Block → Type 0) → P b → ((i : ℕ) → i < length bs → P (nth bs i)) → (i : ℕ) → i < suc (length bs) → P (nth (b ∷ bs) i)
  each_more P head rest zero h = head
  each_more P head rest (suc i) h = rest i (omega arith)

  follows_more : Next b (nth bs 0) → ((i : ℕ) → suc i < length bs → Next (nth bs i) (nth bs (suc i)))
      → (i : ℕ) → suc i < suc (length bs) → Next (nth (b ∷ bs) i) (nth (b ∷ bs) (suc i))
  follows_more head rest zero h = head
  follows_more head rest (suc i) h = rest i (omega arith)

  last_more : (at : ℕ) → 1 ≤ length bs → ((i : ℕ) → suc i ≡ length bs → EndAt at (nth bs i)) → (i : ℕ) → suc i ≡ suc (length bs)
      → EndAt at (nth (b ∷ bs) i)
  last_more at some rest zero h = absurd (omega arith)
  last_more at some rest (suc i) h = rest i (omega arith)

module _ (xs : List ℕ) (at : ℕ) (ok : (stepped xs at).number ≡ 0) where
  -- the block of a step
  stands_here : Stands xs (stepped xs at).block
  stands_here =
      let s = shows xs at ok in
      record { accepted = rw s.place_is ok; is_shown = rw s.place_is; inside = omega (arith, s.inside, s.place_is) }

  chain_end : (stepped xs at).block.code ≡ 0xFFFF → Chain xs at (listing 0 at ((stepped xs at).block ∷ []))
  unfolding how_many
  chain_end is =
      let s = shows xs at ok in
      let end = s.stays is in
      record {
        some = omega arith;
        starts = s.place_is;
        stands = each_more (stepped xs at).block [] (Stands xs) stands_here (λ i h. absurd (omega arith));
        follows = λ i h. absurd (omega arith);
        last = λ i e. let z : i ≡ 0 = omega arith in rw z (record { place_is = s.place_is; kind_is = end.0; length_is = end.1 });
        one_end = rw end.0;
        later = λ _. rw end.0;
        first = λ z. absurd (omega (arith, (s.first z).1));
      }

  chain_next : ((stepped xs at).block.code ≡ 0xFFFF → ⊥) → (l : Listing) → Chain xs (stepped xs at).next.at l
      → Chain xs at (before (stepped xs at).block l)
  unfolding how_many
  chain_next isnt l rest =
      let s = shows xs at ok in
      let on = s.onward isnt in
      let past : (stepped xs at).next.at ≡ 0 → ⊥ = λ z. omega (arith, s.least, on.1) in
      record {
        some = omega arith;
        starts = s.place_is;
        stands = each_more (stepped xs at).block l.blocks (Stands xs) stands_here rest.stands;
        follows = follows_more (stepped xs at).block l.blocks (omega (arith, rest.starts, on.1, s.place_is)) rest.follows;
        last = last_more (stepped xs at).block l.blocks l.at rest.some rest.last;
        one_end = rw (on.0, rest.one_end);
        later = λ z. rw (s.later z, rest.later past);
        first = λ z. rw ((s.first z).0, rest.later past);
      }

module _ (xs : List ℕ) where
  chain : (f at : ℕ) → (within xs f at).number ≡ 0 → Chain xs at (within xs f at)
  unfolding within
  chain zero at e = absurd (omega arith)
  chain (suc f) at e =
      by_turn at (stepped xs at) _ (λ (l : Listing). l.number ≡ 0 → Chain xs at l) (λ isnt e. absurd (isnt e))
      (λ ok is e. chain_end xs at ok is)
      (λ ok isnt e. chain_next xs at ok isnt (within xs f (stepped xs at).next.at) (chain f (stepped xs at).next.at e)) e

  -- where the list stops is no place before its start
  reach : (f at : ℕ) → at ≤ (within xs f at).at
  unfolding within
  reach zero at = omega arith
  reach (suc f) at =
      by_turn at (stepped xs at) _ (λ (l : Listing). at ≤ l.at) (λ _. omega arith) (λ ok is. omega arith)
      (λ ok isnt. omega (arith, reach f (stepped xs at).next.at, (moves xs at ok isnt).by_least))

  -- the end block lies inside the buffer
  end_inside : (f at : ℕ) → (within xs f at).number ≡ 0 → (within xs f at).at + 8 ≤ length xs
  unfolding within
  end_inside zero at e = absurd (omega arith)
  end_inside (suc f) at e =
      by_turn at (stepped xs at) _ (λ (l : Listing). l.number ≡ 0 → l.at + 8 ≤ length xs) (λ isnt e. absurd (isnt e))
      (λ ok is e. omega (arith, (shows xs at ok).inside, ((shows xs at ok).stays is).1))
      (λ ok isnt e. end_inside f (stepped xs at).next.at e) e

  stops : (f at : ℕ) → length xs ≤ f + at → ((within xs f at).number ≡ 0 → ⊥)
      → (stepped xs (within xs f at).at).number ≡ (within xs f at).number
  unfolding within
  stops zero at h e = let left : length xs ≤ at = omega arith in rw (step_left xs at left)
  stops (suc f) at h e =
      by_turn at (stepped xs at) _ (λ (l : Listing). (l.number ≡ 0 → ⊥) → (stepped xs l.at).number ≡ l.number) (λ _ _. refl)
      (λ ok is e. absurd (e refl)) (λ ok isnt e. stops f (stepped xs at).next.at (omega (arith, (moves xs at ok isnt).by_least)) e) e

-- an accepted list, whole: the first block, and no other, is the handoff block; the last, and no other, is the end block
pub record Whole (xs : List ℕ) (l : Listing) : Type 0 where
  pub two : 2 ≤ length l.blocks
  pub starts : (nth l.blocks 0).place ≡ 0
  pub handoff : (nth l.blocks 0).kind ≡ Handoff
  pub handoff_length : (nth l.blocks 0).length ≡ 56
  pub one_handoff : how_many is_handoff l.blocks ≡ 1
  pub stands : (i : ℕ) → i < length l.blocks → Stands xs (nth l.blocks i)
  pub follows : (i : ℕ) → suc i < length l.blocks → Next (nth l.blocks i) (nth l.blocks (suc i))
  pub last : (i : ℕ) → suc i ≡ length l.blocks → EndAt l.at (nth l.blocks i)
  pub one_end : how_many is_end l.blocks ≡ 1

chain_whole : (xs : List ℕ) (l : Listing) → Chain xs 0 l → Whole xs l
chain_whole xs l c =
    let b = c.stands 0 c.some in
    let s = rw b.is_shown at ((shows xs (nth l.blocks 0).place b.accepted).first c.starts) in
    record {
      two = elim (dec_lt 1 (length l.blocks)) [
        | yes h ↦ h
        | no h ↦ absurd (omega (arith, c.some, s.2, (c.last 0 (omega (arith, c.some))).length_is))
      ];
      starts = c.starts;
      handoff = s.0;
      handoff_length = s.2;
      one_handoff = c.first refl;
      stands = c.stands;
      follows = c.follows;
      last = c.last;
      one_end = c.one_end;
    }

pub whole : (xs : List ℕ) → (blocks xs).number ≡ 0 → Whole xs (blocks xs)
unfolding blocks blocks_from
whole xs e = chain_whole xs (within xs (length xs) 0) (chain xs (length xs) 0 e)

-- a refused list stops where a step is refused, with that step's number: the first block at fault decides
pub refused_list_lem : (xs : List ℕ) → ((blocks xs).number ≡ 0 → ⊥) → (stepped xs (blocks xs).at).number ≡ (blocks xs).number
unfolding blocks blocks_from
refused_list_lem xs e = stops xs (length xs) 0 (omega arith) e

-- ---- the bytes after the end block

module _ (a b : List ℕ) where
  -- b goes on as a does, for a block that lies whole below k
  step_same : (k at : ℕ) → Alike a b 0 k → k ≤ length b → (stepped a at).number ≡ 0 → at + (stepped a at).block.length ≤ k
      → stepped b at ≡ stepped a at
  step_same k at same room ok h =
      step_frame a b at ok (alike_in same at (stepped a at).block.length (omega arith) (omega arith)) (omega arith)

  abbrev Framed : ℕ → Listing → Type 0
  Framed at l = l.number ≡ 0 → Alike a b 0 (l.at + 8) → l.at + 8 ≤ length b → blocks_from b at ≡ l

  framed_end : (at : ℕ) → (stepped a at).number ≡ 0 → (stepped a at).block.code ≡ 0xFFFF
      → Framed at (listing 0 at ((stepped a at).block ∷ []))
  framed_end at ok is e same room =
      let s : stepped b at ≡ stepped a at = step_same (at + 8) at same room ok (omega (arith, ((shows a at ok).stays is).1)) in
      rw s at (blocks_end b at (rw s ok) (rw s is))

  framed_next : (at : ℕ) → (stepped a at).number ≡ 0 → ((stepped a at).block.code ≡ 0xFFFF → ⊥) → (l : Listing)
      → (stepped a at).next.at ≤ l.at
      → Framed (stepped a at).next.at l → Framed at (before (stepped a at).block l)
  framed_next at ok isnt l far rest e same room =
      let s : stepped b at ≡ stepped a at = step_same (l.at + 8) at same room ok (omega (arith, (moves a at ok isnt).by_length)) in
      rw (s, rest e same room) at (blocks_next b at (rw s ok) (rw s isnt))

  framed : (f at : ℕ) → Framed at (within a f at)
  unfolding within
  framed zero at = λ e. absurd (omega arith)
  framed (suc f) at =
      let next = (stepped a at).next.at in
      by_turn at (stepped a at) _ (Framed at) (λ isnt e. absurd (isnt e)) (framed_end at)
      (λ ok isnt. framed_next at ok isnt (within a f next) (reach a f next) (framed f next))

framed_from : (a b : List ℕ) → Framed a b 0 (blocks_from a 0)
unfolding blocks_from
framed_from a b e same room = framed a b (length a) 0 e same room

end_in : (xs : List ℕ) → (blocks xs).number ≡ 0 → (blocks xs).at + 8 ≤ length xs
unfolding blocks blocks_from
end_in xs e = end_inside xs (length xs) 0 e

-- two buffers that agree up to the end block and with it have one list, whatever follows there
pub blocks_frame : (a b : List ℕ) → (blocks a).number ≡ 0 → Alike a b 0 ((blocks a).at + 8) → (blocks a).at + 8 ≤ length b
    → blocks b ≡ blocks a
unfolding blocks
blocks_frame a b = framed_from a b

-- so whatever is put after the buffer changes nothing
pub blocks_tail : (xs ys : List ℕ) → (blocks xs).number ≡ 0 → blocks (xs ++ ys) ≡ blocks xs
blocks_tail xs ys e =
    let room : (blocks xs).at + 8 ≤ length xs = end_in xs e in
    blocks_frame xs (xs ++ ys) e (record { same = λ j h. sym (get_or-append xs ys 0 (0 + j) (omega arith)) })
    (rw length-append (omega arith))
