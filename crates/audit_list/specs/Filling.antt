-- What the listing walk keeps, and that a step of it lists what it passes.
-- Assumes nothing.
use Rattle.std.specs.Prelude.{◌≡◌, refl, ℕ, ◌+◌, ◌-◌, ◌<◌, ◌≤◌, get_or}
use Rattle.std.proofs.Math.Path.{sym}
use Rattle.std.proofs.Common.{◌∙◌}
use mathlib.Core.List.{List, [], ◌∷◌}
use native.Mathlib.Omega.{arith}
use Rattle.std.proofs.Math.ListN.{length}
use Rattle.audit_places.specs.Writing.{Writing}
use Rattle.answers.specs.declared.Reading.{Reading}
use Rattle.audit_tables.specs.declared.Ahead.{Ahead}
use Rattle.audit_list.specs.declared.Fill.{Fill}
use Rattle.audit_count.specs.Differences.{differences, entry, entries}
use Rattle.audit_step.specs.Stride.{Alike}
use Rattle.audit_count.specs.DifferenceLaws.{rest, rest_over, rest_hit, rest_none}

-- what is left has room
abbrev pub Room : List ℕ → List ℕ → ℕ → Fill → Type 0
Room ref ys room f = f.count + length (rest ref ys f.at) ≤ room

-- f at k, with nothing to list before it
abbrev pub went_to : Fill → ℕ → Ahead → Fill
went_to f k ahead = record { at = k; ahead = ahead; count = f.count }

-- u is f after some steps, l the list before and m after them: filled and left together are what they were
pub record Filled {A : Type 0} (w : Writing A) (ref ys : List ℕ) (r : Reading) (l m : List A) (f u : Fill) : Type 0 where
  pub onward : f.at ≤ u.at
  pub most : u.at ≤ length ys
  pub long : length m ≡ length l
  pub room : u.count + length (rest ref ys u.at) ≡ f.count + length (rest ref ys f.at)
  pub kept : w.all m u.count (entries r (rest ref ys u.at)) ≡ w.all l f.count (entries r (rest ref ys f.at))

module _ {A : Type 0} (w : Writing A) (ref ys : List ℕ) (r : Reading) (l : List A) (f : Fill) (k : ℕ) (alike : Alike ref ys f.at k)
    (q : Ahead) where
  left : rest ref ys f.at ≡ rest ref ys k
  left = rest_over ref ys f.at k alike.onward alike.most alike.clear

  -- at a difference, which is the first of what is left
  module _ (less : k < length ys) (differs : get_or ys k 0 ≡ get_or ref k 0 → ⊥) where
    first : rest ref ys f.at ≡ k ∷ rest ref ys (k + 1)
    first = left ∙ rest_hit ref ys k less differs

    -- there is a place for it
    pub place : (room : ℕ) → Room ref ys room f → f.count + 1 ≤ room
    place room h =
        let some : f.count + length (k ∷ rest ref ys (k + 1)) ≤ room = rw first at h in
        omega (arith, some)

    pub fill_hit : Filled w ref ys r l (w.one l f.count (entry r k)) f (record { at = k + 1; ahead = q; count = f.count + 1 })
    unfolding entries
    fill_hit =
        record {
          onward = omega (arith, alike.onward);
          most = omega (arith, less);
          long = w.long l f.count (entry r k);
          room = rw first (omega arith);
          kept = rw first (sym (w.more l f.count (entry r k) (entries r (rest ref ys (k + 1)))));
        }

  -- past bytes that are the reference's
  pub fill_on : Filled w ref ys r l l f (went_to f k q)
  fill_on = record { onward = alike.onward; most = alike.most; long = refl; room = rw left; kept = rw left }

-- ---- from the start of the walk to its end

module _ {A : Type 0} (w : Writing A) (ref ys : List ℕ) (r : Reading) where
  pub filled_none : (l : List A) (f : Fill) → f.at ≤ length ys → Filled w ref ys r l l f f
  filled_none l f h = record { onward = omega arith; most = h; long = refl; room = refl; kept = refl }

  -- steps after steps
  pub filled_join : (l m k : List A) (f u v : Fill) → Filled w ref ys r l m f u → Filled w ref ys r m k u v → Filled w ref ys r l k f v
  filled_join l m k f u v a b =
      record {
        onward = omega (arith, a.onward, b.onward);
        most = b.most;
        long = b.long ∙ a.long;
        room = b.room ∙ a.room;
        kept = b.kept ∙ a.kept;
      }

  -- there is still room
  pub room_on : (l m : List A) (f u : Fill) (room : ℕ) → Filled w ref ys r l m f u → Room ref ys room f → Room ref ys room u
  room_on l m f u room a h = omega (arith, a.room, h)

  -- at the end all are listed
  pub filled_all : (l m : List A) (q : Ahead) (u : Fill) → Filled w ref ys r l m (record { at = 0; ahead = q; count = 0 }) u
      → length ys ≤ u.at → m ≡ w.all l 0 (entries r (differences ref ys 0 (length ys)))
  unfolding entries
  filled_all l m q u a h =
      let e : length ys - 0 ≡ length ys = omega arith in
      let all : w.all m u.count [] ≡ w.all l 0 (entries r (differences ref ys 0 (length ys))) =
      rw (rest_none ref ys u.at h, e) at a.kept in
      sym (w.none m u.count) ∙ all
