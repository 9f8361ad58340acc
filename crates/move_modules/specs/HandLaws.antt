-- A turn over the entries of a block: the entries after it are those of the image as it was.
-- Assumes nothing.
use Rattle.std.specs.Prelude.{◌≡◌, ℕ, zero, suc, ◌+◌, ◌-◌, ◌*◌, ◌≤◌, List, length, refl}
use Rattle.std.proofs.Common.{sym, ◌∙◌, arith}
use Rattle.std.proofs.Math.Path.{ap}
use Rattle.facts.specs.Fact.{Holds}
use Rattle.words.specs.Le.{le, Alike}
use Rattle.items.specs.declared.Item.{Item}
use Rattle.items.specs.Items.{each, inside}
use Rattle.items.specs.Shapes.{Kept}
use Rattle.inside_rows.specs.declared.Module.{Module}
use Rattle.inside_modules.specs.ModulesFit.{Fits}
use Rattle.inside_pages.specs.declared.Page.{Page}
use Rattle.inside_pages.specs.Pages.{Paged}
use Rattle.inside_pages.specs.PagesLaws.{paged_cong}
use Rattle.inside_blocks.specs.Blocks.{item_of, entries_from}
use Rattle.inside_blocks.specs.BlocksFrame.{entries_cong}
use Rattle.move_modules.specs.Relocate.{add_item, moved_by, Held, AtHand, Passed}
use Rattle.move_modules.specs.HeldLaws.{kept_self, held_alike, held_part}
use Rattle.move_modules.specs.AddItem.{length_add_item, kept_add}

-- a module's bounds go by the image's length alone
pub fits_long : (a b : List ℕ) (m : Module) → length b ≡ length a → Fits a m → Fits b m
fits_long a b m e fits =
    record {
      long = omega (arith, fits.long);
      within = omega (arith, fits.within);
      pe_up = fits.pe_up;
      base_up = fits.base_up;
      base_within = fits.base_within;
      rows_within = fits.rows_within;
      dos = fits.dos;
      stripped_small = fits.stripped_small;
      dir_small = fits.dir_small;
      size_small = fits.size_small;
      headed = fits.headed;
    }

module _ (ys : List ℕ) (m : Module) (page : ℕ) (d : ℕ → ℕ) where
  module _ (p k : ℕ) (h : AtHand ys m page p (suc k)) where
    -- the item of the next entry, and the image with its word moved
    abbrev item : Item
    item = item_of ys m page (le 2 ys p)

    abbrev after : List ℕ
    after = add_item ys item d

    long : length after ≡ length ys
    long = length_add_item ys item d

    here : Holds (inside (length ys) item)
    unfolding each entries_from
    here = h.words.0

    later : Held h.looked (p + 2) (2 * k)
    later = held_part h.looked p (2 * suc k) (p + 2) (2 * k) (omega arith) (omega arith) h.entries

    kept : Kept ys after h.looked
    unfolding each entries_from
    kept = kept_add ys ys item d h.looked h.free.0 (kept_self ys h.looked)

    rows : Alike ys after m.table (40 * m.rows)
    rows = held_alike ys after h.looked _ _ kept h.rows

    same : entries_from ys m page (p + 2) k ≡ entries_from after m page (p + 2) k
    same = entries_cong ys after m rows page (p + 2) k (held_alike ys after h.looked _ _ kept later)

    next : AtHand after m page (p + 2) k
    unfolding each entries_from
    next =
        record {
          looked = h.looked;
          fits = fits_long ys after m long h.fits;
          page_small = h.page_small;
          within = omega (arith, long, h.within);
          rows = h.rows;
          entries = later;
          words = rw (long, ← same) h.words.1;
          free = rw (← same) h.free.1;
        }

    goes : moved_by ys (entries_from ys m page p (suc k)) d ≡ moved_by after (entries_from after m page (p + 2) k) d
    unfolding moved_by entries_from
    goes = ap (λ (l : List Item). moved_by after l d) same

-- ---- the loop over them

module _ (xs : List ℕ) (m : Module) (page at n : ℕ) (d : ℕ → ℕ) where
  pub passed_start : AtHand xs m page at n → Passed xs m page at n d xs at n
  passed_start h = record { hand = h; long = refl; done = refl }

  pub passed_end : (ys : List ℕ) (p k : ℕ) → k ≡ 0 → Passed xs m page at n d ys p k → ys ≡ moved_by xs (entries_from xs m page at n) d
  unfolding moved_by entries_from
  passed_end ys p zero e g = g.done
  passed_end ys p (suc k) e g = absurd (omega arith)

  -- the word of the next entry lies in the image
  pub passed_inside : (ys : List ℕ) (p k : ℕ) (x : Item) → 1 ≤ k → Passed xs m page at n d ys p k → x ≡ item_of ys m page (le 2 ys p)
      → Holds (inside (length ys) x)
  passed_inside ys p zero x some g e = absurd (omega arith)
  passed_inside ys p (suc k) x some g e = rw e (here ys m page d p k g.hand)

  pub passed_next : (ys : List ℕ) (p k : ℕ) (x : Item) (zs : List ℕ) → 1 ≤ k → Passed xs m page at n d ys p k
      → x ≡ item_of ys m page (le 2 ys p) → zs ≡ add_item ys x d → Passed xs m page at n d zs (p + 2) (k - 1)
  passed_next ys p zero x zs some g e z = absurd (omega arith)
  passed_next ys p (suc k) x zs some g e z =
      let less : suc k - 1 ≡ k = omega arith in
      rw (z, e, less)
      (record {
        hand = next ys m page d p k g.hand;
        long = long ys m page d p k g.hand ∙ g.long;
        done = sym (goes ys m page d p k g.hand) ∙ g.done;
      })

  -- the page lies where it lay
  pub passed_paged : (ys : List ℕ) (p k : ℕ) (x : Item) (zs : List ℕ) (q : Page) → 1 ≤ k → Passed xs m page at n d ys p k
      → x ≡ item_of ys m page (le 2 ys p) → zs ≡ add_item ys x d → Paged ys m page q → Paged zs m page q
  passed_paged ys p zero x zs q some g e z paged = absurd (omega arith)
  passed_paged ys p (suc k) x zs q some g e z paged =
      rw (z, e) (paged_cong ys _ m page q (rows ys m page d p k g.hand) paged)
