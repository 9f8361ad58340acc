use Rattle.std.proofs.Common.{◌≡◌, refl, ℕ, zero, suc, ◌+◌, ◌-◌, ◌*◌, ◌≤◌, ◌<◌, List, [], ◌∷◌, length, take, drop, get_or, sum, add-one, add-zero, arith, length-drop, get_or-drop}
use Rattle.std.proofs.lemmas.List.Sums.{sum_by-cons, sum_by_more}
use Rattle.words.specs.Le.{le}
use Rattle.volume.specs.Volume.{sum_bytes, file_sum}
use Rattle.volume_file.proofs.file_sum.Goals as goal

-- the sum of a part of the list
part : (xs : List ℕ) (at n : ℕ) → at + n ≤ length xs → sum (take n (drop at xs)) ≡ sum_bytes xs at n
unfolding sum_bytes le
part xs at zero h = refl
part xs at (suc n) h =
    let lies : n < length (drop at xs) = rw length-drop (omega arith) in
    let step = rw add-one at (sum_by_more (λ (x : ℕ). x) (drop at xs) n 0 lies) in
    rw add-zero (omega (arith, step, part xs at n (omega arith), get_or-drop at xs n 0))

-- bytes add up to 255 each at most
few : (ys : List ℕ) (n : ℕ) → ((i : ℕ) → get_or ys i 0 < 256) → sum (take n ys) ≤ 255 * n
few ys zero b = omega arith
few [] (suc n) b = omega arith
few (y ∷ ys) (suc n) b = omega (arith, sum_by-cons (λ (x : ℕ). x) y (take n ys), few ys n (λ i. b (suc i)), b 0)

of_few : {r : ℕ} (xs : List ℕ) (at n : ℕ) → ((i : ℕ) → get_or xs i 0 < 256) → r ≡ sum (take n (drop at xs)) → r ≤ 255 * n
of_few xs at n b e = omega (arith, few (drop at xs) n (λ i. rw get_or-drop (b (at + i))))

pub overflow_add-result : goal.overflow_add-result
overflow_add-result c =
    let xs = c.args.image.now in
    let bytes : (i : ℕ) → get_or xs i 0 < 256 = λ i. omega (arith, c.type_inv.image i) in
    omega (arith, of_few xs _ _ bytes c.sum_of.ensures, of_few xs _ _ bytes c.sum_of-2.ensures)

pub returns : goal.returns
unfolding file_sum
returns c =
    let xs = c.args.image.now in
    let f = c.args.f in
    let a : f + 17 - f ≡ 17 = omega arith in
    let b : f + 23 - (f + 18) ≡ 5 = omega arith in
    let head = rw a at c.sum_of.ensures in
    let tail = rw b at c.sum_of-2.ensures in
    omega (arith, head, tail, part xs f 17 (omega arith), part xs (f + 18) 5 (omega arith))
