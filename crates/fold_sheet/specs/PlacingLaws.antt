-- What is written is the folded sheet.
-- Assumes nothing.
use Prim.Native.Nat.{ℕ, zero, suc, ◌+◌, ◌-◌, ◌*◌, ◌≤◌, ◌<◌}
use Rattle.std.specs.Prelude.{List, [], ◌∷◌, ◌++◌, ◌≡◌, length, get_or, set, drop}
use Rattle.std.proofs.Math.Path.{refl}
use Rattle.std.proofs.Common.{sym, ap, ◌∙◌, length-set, length-append, length-drop, get_or-set_same, get_or-set_other, get_or-append-add, get_or-drop, ext_get_or}
use native.Mathlib.Omega.{arith}
use Rattle.std.proofs.Math.Decide.{dec_lt}
use Rattle.std.proofs.Math.ListN.{get_or-append}
use Rattle.words.specs.Put.{digit, put}
use Rattle.words.specs.PutLaws.{length_put, put_below, put_above, put_in}
use Rattle.words.specs.Number.{number}
use Rattle.words.specs.NumberLaws.{length_number}
use Rattle.answers.specs.declared.Identity.{Identity}
use Rattle.fold_cells.specs.Cells.{last, Unset, Shows, Bounded}
use Rattle.fold_tally.specs.declared.Tally.{Tally}
use Rattle.fold_tally.specs.Tally.{ended, stepped, tally_to, tally_of, through}
use Rattle.fold_tally.specs.TallyLaws.{through_tally, tally_small, run_bytes, runs_most, bytes_most, runs_grow, bytes_grow, settled}
use Rattle.fold_sheet.specs.Folded.{header, entry, ending, entries_to, body, bodies_to, sheet_of, size_of, onto}
use Rattle.fold_sheet.specs.Placing.{put_header, put_entry, placed, out_to, placed_cells, Safe, Room}

-- ---- a list that stands in another

pub record At (xs : List ℕ) (at : ℕ) (es : List ℕ) : Type 0 where
  pub same : (j : ℕ) → j < length es → get_or xs (at + j) 0 ≡ get_or es j 0

at_none : (xs : List ℕ) (at : ℕ) → At xs at []
at_none xs at = record { same = λ j h. absurd (omega arith) }

pub at_append : (xs : List ℕ) (at : ℕ) (us bs : List ℕ) → At xs at us → At xs (at + length us) bs → At xs at (us ++ bs)
at_append xs at us bs a b =
    record {
      same = λ j h.
          elim (dec_lt j (length us)) [
            | yes l ↦ a.same j l ∙ sym (get_or-append us bs 0 j l)
            | no l ↦
                let i : ℕ = j - length us in
                let e : length us + i ≡ j = omega arith in
                let d : at + length us + i ≡ at + j = omega arith in
                (rw d at (b.same i (omega (arith, length-append us bs)))) ∙ sym (rw e at (get_or-append-add us bs i 0))
          ];
    }

pub at_keep : (xs ys : List ℕ) (at : ℕ) (es : List ℕ) → At xs at es
    → ((j : ℕ) → at ≤ j → j < at + length es → get_or ys j 0 ≡ get_or xs j 0) → At ys at es
at_keep xs ys at es a k = record { same = λ j h. k (at + j) (omega arith) (omega arith) ∙ a.same j h }

number_at : (k w j : ℕ) → j < k → get_or (number k w) j 0 ≡ digit w j
unfolding number
number_at zero w j h = absurd (omega arith)
number_at (suc k) w j h =
    elim (dec_lt j k) [
      | yes l ↦ get_or-append (number k w) (digit w k ∷ []) 0 j (rw length_number l) ∙ number_at k w j l
      | no l ↦
          let e : length (number k w) + 0 ≡ j = omega (arith, length_number k w) in
          let d : k ≡ j = omega arith in
          (rw e at (get_or-append-add (number k w) (digit w k ∷ []) 0 0)) ∙ ap (digit w) d
    ]

at_put : (k : ℕ) (xs : List ℕ) (at w : ℕ) → at + k ≤ length xs → At (put k xs at w) at (number k w)
at_put k xs at w h =
    record { same = λ j l. let g : j < k = omega (arith, length_number k w) in put_in k xs at w j h g ∙ sym (number_at k w j g) }

-- put elsewhere
at_put_above : (k : ℕ) (xs : List ℕ) (at w p : ℕ) (es : List ℕ) → At xs p es → p + length es ≤ at → At (put k xs at w) p es
at_put_above k xs at w p es a h = at_keep xs (put k xs at w) p es a (λ j g l. put_below k xs at w j (omega arith))

-- ---- an entry

length_entry : (o n b : ℕ) → length (entry o n b) ≡ 8
unfolding entry
length_entry o n b = simp length-append (omega (arith, length_number 4 o, length_number 2 n, length_number 2 b))

pub length_put_entry : (xs : List ℕ) (at o n b : ℕ) → length (put_entry xs at o n b) ≡ length xs
unfolding put_entry
length_put_entry xs at o n b =
    length_put 2 (put 2 (put 4 xs at o) (at + 4) n) (at + 6) b ∙ length_put 2 (put 4 xs at o) (at + 4) n ∙ length_put 4 xs at o

put_entry_below : (xs : List ℕ) (at o n b j : ℕ) → j < at → get_or (put_entry xs at o n b) j 0 ≡ get_or xs j 0
unfolding put_entry
put_entry_below xs at o n b j h =
    put_below 2 (put 2 (put 4 xs at o) (at + 4) n) (at + 6) b j (omega arith)
    ∙ put_below 2 (put 4 xs at o) (at + 4) n j (omega arith) ∙ put_below 4 xs at o j h

pub put_entry_above : (xs : List ℕ) (at o n b j : ℕ) → at + 8 ≤ j → get_or (put_entry xs at o n b) j 0 ≡ get_or xs j 0
unfolding put_entry
put_entry_above xs at o n b j h =
    put_above 2 (put 2 (put 4 xs at o) (at + 4) n) (at + 6) b j (omega arith)
    ∙ put_above 2 (put 4 xs at o) (at + 4) n j (omega arith) ∙ put_above 4 xs at o j (omega arith)

put_entry_at : (xs : List ℕ) (at o n b : ℕ) → at + 8 ≤ length xs → At (put_entry xs at o n b) at (entry o n b)
unfolding put_entry entry
put_entry_at xs at o n b h =
    let one = put 4 xs at o in
    let two = put 2 one (at + 4) n in
    let l1 : length one ≡ length xs = length_put 4 xs at o in
    let l2 : length two ≡ length xs = length_put 2 one (at + 4) n ∙ l1 in
    let n4 = length_number 4 o in
    let n2 = length_number 2 n in
    let a1 = at_put_above 2 two (at + 6) b at (number 4 o)
    (at_put_above 2 one (at + 4) n at (number 4 o) (at_put 4 xs at o (omega arith)) (omega arith)) (omega arith) in
    let a2 = at_put_above 2 two (at + 6) b (at + 4) (number 2 n) (at_put 2 one (at + 4) n (omega arith)) (omega arith) in
    let a3 = at_put 2 two (at + 6) b (omega arith) in
    let e1 : at + length (number 4 o) ≡ at + 4 = omega arith in
    let e2 : at + 4 + length (number 2 n) ≡ at + 6 = omega arith in
    at_append (put 2 two (at + 6) b) at (number 4 o) (number 2 n ++ number 2 b) a1
    (rw e1 (at_append (put 2 two (at + 6) b) (at + 4) (number 2 n) (number 2 b) a2 (rw e2 a3)))

-- ---- the header

pub length_header : (i : Identity) (m : ℕ) → length (header i m) ≡ 16
unfolding header
length_header i m =
    simp length-append
    (omega (arith, length_number 8 i.image, length_number 4 i.revision, length_number 2 m, length_number 2 i.extended))

pub length_put_header : (xs : List ℕ) (i : Identity) (m : ℕ) → length (put_header xs i m) ≡ length xs
unfolding put_header
length_put_header xs i m = simp length_put

pub put_header_above : (xs : List ℕ) (i : Identity) (m j : ℕ) → 16 ≤ j → get_or (put_header xs i m) j 0 ≡ get_or xs j 0
unfolding put_header
put_header_above xs i m j h =
    let a = put 8 xs 0 i.image in
    let b = put 4 a 8 i.revision in
    let c = put 2 b 12 m in
    put_above 2 c 14 i.extended j (omega arith) ∙ put_above 2 b 12 m j (omega arith) ∙ put_above 4 a 8 i.revision j (omega arith)
    ∙ put_above 8 xs 0 i.image j (omega arith)

put_header_at : (xs : List ℕ) (i : Identity) (m : ℕ) → 16 ≤ length xs → At (put_header xs i m) 0 (header i m)
unfolding put_header header
put_header_at xs i m h =
    let a = put 8 xs 0 i.image in
    let b = put 4 a 8 i.revision in
    let c = put 2 b 12 m in
    let d = put 2 c 14 i.extended in
    let la : length a ≡ length xs = length_put 8 xs 0 i.image in
    let lb : length b ≡ length xs = length_put 4 a 8 i.revision ∙ la in
    let lc : length c ≡ length xs = length_put 2 b 12 m ∙ lb in
    let n8 = length_number 8 i.image in
    let n4 = length_number 4 i.revision in
    let n2 = length_number 2 m in
    let a1 : At d 0 (number 8 i.image) =
    at_put_above 2 c 14 i.extended 0 (number 8 i.image)
    (at_put_above 2 b 12 m 0 (number 8 i.image)
    (at_put_above 4 a 8 i.revision 0 (number 8 i.image) (at_put 8 xs 0 i.image (omega arith)) (omega arith)) (omega arith))
    (omega arith) in
    let a2 : At d 8 (number 4 i.revision) =
    at_put_above 2 c 14 i.extended 8 (number 4 i.revision)
    (at_put_above 2 b 12 m 8 (number 4 i.revision) (at_put 4 a 8 i.revision (omega arith)) (omega arith)) (omega arith) in
    let a3 : At d 12 (number 2 m) =
    at_put_above 2 c 14 i.extended 12 (number 2 m) (at_put 2 b 12 m (omega arith)) (omega arith) in
    let a4 : At d 14 (number 2 i.extended) = at_put 2 c 14 i.extended (omega arith) in
    let e1 : 0 + length (number 8 i.image) ≡ 8 = omega arith in
    let e2 : 8 + length (number 4 i.revision) ≡ 12 = omega arith in
    let e3 : 12 + length (number 2 m) ≡ 14 = omega arith in
    at_append d 0 (number 8 i.image) (number 4 i.revision ++ (number 2 m ++ number 2 i.extended)) a1
    (rw e1 (at_append d 8 (number 4 i.revision) (number 2 m ++ number 2 i.extended) a2
    (rw e2 (at_append d 12 (number 2 m) (number 2 i.extended) a3 (rw e3 a4)))))

-- ---- what is written so far: entries es from 16 on, and bodies bs after the room of m entries

pub record Wrote (m : ℕ) (es bs xs ys : List ℕ) : Type 0 where
  pub long : length ys ≡ length xs
  pub front : (j : ℕ) → j < 16 → get_or ys j 0 ≡ get_or xs j 0
  pub entries : At ys 16 es
  pub bodies : At ys (16 + 8 * m) bs
  pub rest : (j : ℕ) → 16 + 8 * m + length bs ≤ j → get_or ys j 0 ≡ get_or xs j 0

wrote_none : (m : ℕ) (xs : List ℕ) → Wrote m [] [] xs xs
wrote_none m xs =
    record { long = refl; front = λ j h. refl; entries = at_none xs 16; bodies = at_none xs (16 + 8 * m); rest = λ j h. refl }

wrote_body : (m : ℕ) (es bs xs ys : List ℕ) (b : ℕ) → Wrote m es bs xs ys → length es ≤ 8 * m → 16 + 8 * m + length bs < length xs
    → Wrote m es (bs ++ (b ∷ [])) xs (set ys (16 + 8 * m + length bs) b)
wrote_body m es bs xs ys b w few room =
    let at : ℕ = 16 + 8 * m + length bs in
    let zs = set ys (16 + 8 * m + length bs) b in
    let other : (j : ℕ) → (j ≡ 16 + 8 * m + length bs → ⊥) → get_or zs j 0 ≡ get_or ys j 0 =
    λ j h. get_or-set_other ys (16 + 8 * m + length bs) j b 0 h in
    let here : get_or zs (16 + 8 * m + length bs) 0 ≡ b = get_or-set_same ys (16 + 8 * m + length bs) b 0 (omega (arith, w.long)) in
    record {
      long = length-set ys (16 + 8 * m + length bs) b ∙ w.long;
      front = λ j h. other j (omega arith) ∙ w.front j h;
      entries = at_keep ys zs 16 es w.entries (λ j g h. other j (omega arith));
      bodies = at_append zs (16 + 8 * m) bs (b ∷ []) (at_keep ys zs (16 + 8 * m) bs w.bodies (λ j g h. other j (omega arith)))
          (record { same = λ j h. let e : j ≡ 0 = omega arith in one j e here });
      rest = λ j h. let l = length-append bs (b ∷ []) in other j (omega arith) ∙ w.rest j (omega arith);
    }
  where
    one : (j : ℕ) → j ≡ 0 → get_or (set ys (16 + 8 * m + length bs) b) (16 + 8 * m + length bs) 0 ≡ b
        → get_or (set ys (16 + 8 * m + length bs) b) (16 + 8 * m + length bs + j) 0 ≡ get_or (b ∷ []) j 0
    one j e h = let z : 16 + 8 * m + length bs + 0 ≡ 16 + 8 * m + length bs = omega arith in rw (e, z) h

wrote_entry : (m : ℕ) (es bs xs ys : List ℕ) (o n b : ℕ) → Wrote m es bs xs ys → length es + 8 ≤ 8 * m → 16 + 8 * m ≤ length xs
    → Wrote m (es ++ entry o n b) bs xs (put_entry ys (16 + length es) o n b)
wrote_entry m es bs xs ys o n b w few room =
    let zs = put_entry ys (16 + length es) o n b in
    record {
      long = length_put_entry ys (16 + length es) o n b ∙ w.long;
      front = λ j h. put_entry_below ys (16 + length es) o n b j (omega arith) ∙ w.front j h;
      entries = at_append zs 16 es (entry o n b)
          (at_keep ys zs 16 es w.entries (λ j g h. put_entry_below ys (16 + length es) o n b j (omega arith)))
          (put_entry_at ys (16 + length es) o n b (omega (arith, w.long)));
      bodies = at_keep ys zs (16 + 8 * m) bs w.bodies (λ j g h. put_entry_above ys (16 + length es) o n b j (omega arith));
      rest = λ j h. put_entry_above ys (16 + length es) o n b j (omega arith) ∙ w.rest j h;
    }

-- ---- how many there are

append_none : (es : List ℕ) → es ++ [] ≡ es
append_none [] = refl
append_none (e ∷ es) = ap (λ (l : List ℕ). e ∷ l) (append_none es)

length_ending : (m k : ℕ) (t : Tally) (c : ℕ) (r : ℕ) → r ≡ t.run → t.runs * 8 + length (ending m k t c r) ≡ (stepped c t).runs * 8
length_ending m k t zero zero e = rw (← e) (omega arith)
length_ending m k t zero (suc r) e =
    let one : ended t.run ≡ 1 = rw (← e) in
    omega (arith, one, length_entry (k - t.run) t.run (16 + 8 * m + (t.bytes - t.run)))
length_ending m k t (suc b) r e = omega arith

pub length_entries : (m : ℕ) (f : ℕ → ℕ) (k : ℕ) → length (entries_to m f k) ≡ 8 * (tally_to f k).runs
unfolding entries_to tally_to
length_entries m f zero = omega arith
length_entries m f (suc k) =
    omega (
      arith,
      length-append (entries_to m f k) (ending m k (tally_to f k) (f k) (tally_to f k).run),
      length_entries m f k,
      length_ending m k (tally_to f k) (f k) (tally_to f k).run refl,
    )

length_body : (t : Tally) (c : ℕ) → t.bytes + length (body c) ≡ (stepped c t).bytes
length_body t zero = omega arith
length_body t (suc b) = omega arith

pub length_bodies : (f : ℕ → ℕ) (k : ℕ) → length (bodies_to f k) ≡ (tally_to f k).bytes
unfolding bodies_to tally_to
length_bodies f zero = refl
length_bodies f (suc k) =
    omega (arith, length-append (bodies_to f k) (body (f k)), length_bodies f k, length_body (tally_to f k) (f k))

-- ---- one position more

wrote_step : (m k : ℕ) (t : Tally) (c r : ℕ) (es bs xs ys : List ℕ) → r ≡ t.run → length es ≡ 8 * t.runs → length bs ≡ t.bytes
    → (stepped c t).runs ≤ m → 16 + 8 * m + (stepped c t).bytes ≤ length xs → Wrote m es bs xs ys
    → Wrote m (es ++ ending m k t c r) (bs ++ body c) xs (placed m k t c r ys)
wrote_step m k t zero zero es bs xs ys e le lb few room w = rw (append_none es, append_none bs) w
wrote_step m k t zero (suc r) es bs xs ys e le lb few room w =
    let one : ended t.run ≡ 1 = rw (← e) in
    let s : 16 + 8 * t.runs ≡ 16 + length es = omega arith in
    rw (append_none bs, s)
    (wrote_entry m es bs xs ys (k - t.run) t.run (16 + 8 * m + (t.bytes - t.run)) w (omega (arith, one)) (omega arith))
wrote_step m k t (suc b) r es bs xs ys e le lb few room w =
    let s : 16 + 8 * m + t.bytes ≡ 16 + 8 * m + length bs = omega arith in
    rw (append_none es, s) (wrote_body m es bs xs ys b w (omega arith) (omega arith))

module _ (m : ℕ) (f : ℕ → ℕ) (xs : List ℕ) where
  pub wrote_to : (k : ℕ) → (tally_to f k).runs ≤ m → 16 + 8 * m + (tally_to f k).bytes ≤ length xs
      → Wrote m (entries_to m f k) (bodies_to f k) xs (out_to m f k xs)
  unfolding entries_to bodies_to out_to tally_to
  wrote_to zero few room = wrote_none m xs
  wrote_to (suc k) few room =
      wrote_step m k (tally_to f k) (f k) (tally_to f k).run (entries_to m f k) (bodies_to f k) xs (out_to m f k xs) refl
      (length_entries m f k) (length_bodies f k) few room
      (wrote_to k (omega (arith, grow_runs (f k) (tally_to f k))) (omega (arith, grow_bytes (f k) (tally_to f k))))
    where
      grow_runs : (c : ℕ) (t : Tally) → t.runs ≤ (stepped c t).runs
      grow_runs zero t = omega arith
      grow_runs (suc b) t = omega arith

      grow_bytes : (c : ℕ) (t : Tally) → t.bytes ≤ (stepped c t).bytes
      grow_bytes zero t = omega arith
      grow_bytes (suc b) t = omega arith

-- ---- the whole

onto_is : (s o ys : List ℕ) → At ys 0 s → length ys ≡ length o → length s ≤ length o
    → ((j : ℕ) → length s ≤ j → get_or ys j 0 ≡ get_or o j 0) → ys ≡ onto s o
onto_is s o ys a long fits rest =
    ext_get_or 0 ys (onto s o) (omega (arith, length-append s (drop (length s) o), length-drop (length s) o))
    (λ j h. elim (dec_lt j (length s)) [
      | yes l ↦ let z : 0 + j ≡ j = omega arith in (rw z at (a.same j l)) ∙ sym (get_or-append s (drop (length s) o) 0 j l)
      | no l ↦
          let i : ℕ = j - length s in
          let e : length s + i ≡ j = omega arith in
          rest j (omega arith) ∙ sym (rw e at (get_or-append-add s (drop (length s) o) i 0 ∙ get_or-drop (length s) o i 0))
    ])

pub length_sheet : (i : Identity) (f : ℕ → ℕ) → length (sheet_of i f) ≡ size_of f
unfolding sheet_of size_of tally_of
length_sheet i f =
    let m = (tally_to f last).runs in
    omega (
      arith,
      length-append (header i m) (entries_to m f last ++ bodies_to f last),
      length-append (entries_to m f last) (bodies_to f last),
      length_header i m,
      length_entries m f last,
      length_bodies f last,
    )

pub written_sheet : (i : Identity) (m : ℕ) (f : ℕ → ℕ) (o : List ℕ) → Room m f (length o)
    → out_to m f last (put_header o i m) ≡ onto (sheet_of i f) o
unfolding sheet_of size_of tally_of
written_sheet i m f o r =
    let xs = put_header o i m in
    let ys = out_to m f last xs in
    let lx : length xs ≡ length o = length_put_header o i m in
    let fits : 16 + 8 * (tally_to f last).runs + (tally_to f last).bytes ≤ length o = r.fits in
    let w = wrote_to m f xs last (omega (arith, r.count)) (omega (arith, r.count)) in
    let le : length (entries_to m f last) ≡ 8 * m = length_entries m f last ∙ ap (λ (x : ℕ). 8 * x) (sym r.count) in
    let lh : length (header i m) ≡ 16 = length_header i m in
    let a1 : At ys 0 (header i m) =
    at_keep xs ys 0 (header i m) (put_header_at o i m (omega arith)) (λ j g h. w.front j (omega arith)) in
    let e1 : 0 + length (header i m) ≡ 16 = omega arith in
    let e2 : 16 + length (entries_to m f last) ≡ 16 + 8 * m = omega arith in
    let all : At ys 0 (header i m ++ (entries_to m f last ++ bodies_to f last)) =
    at_append ys 0 (header i m) (entries_to m f last ++ bodies_to f last) a1
    (rw e1 (at_append ys 16 (entries_to m f last) (bodies_to f last) w.entries (rw e2 w.bodies))) in
    let ls : length (header i m ++ (entries_to m f last ++ bodies_to f last)) ≡ 16 + 8 * m + (tally_to f last).bytes =
    omega (
      arith,
      length-append (header i m) (entries_to m f last ++ bodies_to f last),
      length-append (entries_to m f last) (bodies_to f last),
      length_bodies f last,
    ) in
    rw (← r.count)
    (onto_is (header i m ++ (entries_to m f last ++ bodies_to f last)) o ys all (w.long ∙ lx) (omega (arith, r.count))
    (λ j h. w.rest j (omega (arith, length_bodies f last)) ∙ put_header_above o i m j (omega arith)))
