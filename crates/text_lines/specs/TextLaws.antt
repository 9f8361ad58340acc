-- What the digits of a number are: they come one by one, stand for the number, and don't begin with 0.
-- Assumes nothing.
use Rattle.std.specs.Prelude.{ℕ, zero, suc, ◌+◌, ◌-◌, ◌*◌, ◌/◌, ◌%◌, ◌^◌, ◌≤◌, ◌<◌, cond, List, [], ◌∷◌, ◌++◌, ◌≡◌, refl, length, get_or}
use Rattle.std.proofs.Common.{sym, ap, ◌∙◌, arith, pow-suc, length-append}
use Rattle.std.proofs.Math.Decide.{dec_le}
use Rattle.std.proofs.Math.ListN.{get_or-append}
use Rattle.facts.specs.Fact.{◌≤?◌, test}
use Rattle.facts.specs.FactLaws.{passes, fails}
use Rattle.text_lines.specs.Text.{ascii, digit, hex_digit, digits, decimal, hex_digits}

-- one digit, and one more
digits_last : (fuel n : ℕ) → n ≤ 9 → digits (suc fuel) n ≡ digit n ∷ []
unfolding digits
digits_last fuel n h = rw (passes (n ≤? 9) h)

digits_more : (fuel n : ℕ) → 10 ≤ n → digits (suc fuel) n ≡ digits fuel (n / 10) ++ (digit (n % 10) ∷ [])
unfolding digits
digits_more fuel n h = rw (fails (n ≤? 9) (λ k. omega arith))

-- fuel above the number is enough
digits_enough : (j k n : ℕ) → n < j → n < k → digits j n ≡ digits k n
digits_enough zero k n h l = absurd (omega arith)
digits_enough (suc j) zero n h l = absurd (omega arith)
digits_enough (suc j) (suc k) n h l =
    elim (dec_le n 9) [
      | yes s ↦ digits_last j n s ∙ sym (digits_last k n s)
      | no b ↦
          digits_more j n (omega arith)
          ∙ ap (λ (ds : List ℕ). ds ++ (digit (n % 10) ∷ [])) (digits_enough j k (n / 10) (omega arith) (omega arith))
          ∙ sym (digits_more k n (omega arith))
    ]

pub decimal_last : (n : ℕ) → n ≤ 9 → decimal n ≡ digit n ∷ []
unfolding decimal
decimal_last n h = digits_last n n h

pub decimal_more : (n : ℕ) → 10 ≤ n → decimal n ≡ decimal (n / 10) ++ (digit (n % 10) ∷ [])
unfolding decimal
decimal_more n h =
    digits_more n n h ∙ ap (λ (ds : List ℕ). ds ++ (digit (n % 10) ∷ []))
    (digits_enough n (suc (n / 10)) (n / 10) (omega arith) (omega arith))

pub length_decimal : (n : ℕ) → 10 ≤ n → length (decimal n) ≡ length (decimal (n / 10)) + 1
length_decimal n h = ap length (decimal_more n h) ∙ length-append (decimal (n / 10)) (digit (n % 10) ∷ [])

-- a number below 10^k has at most k digits
pub decimal_short : (k n : ℕ) → n < 10 ^ suc k → length (decimal n) ≤ suc k
decimal_short zero n h = rw (decimal_last n (omega arith)) (omega arith)
decimal_short (suc k) n h =
    elim (dec_le n 9) [
      | yes s ↦ rw (decimal_last n s) (omega arith)
      | no b ↦
          omega (arith, length_decimal n (omega arith), decimal_short k (n / 10) (omega (arith, pow-suc 10 (suc k))))
    ]

-- of 32 bits at most 10, of 64 at most 20
pub decimal_32 : (n : ℕ) → n < 2 ^ 32 → length (decimal n) ≤ 10
decimal_32 n h = decimal_short 9 n (omega arith)

pub decimal_64 : (n : ℕ) → n < 2 ^ 64 → length (decimal n) ≤ 20
decimal_64 n h = decimal_short 19 n (omega arith)

pub hex_none : (k n : ℕ) → k ≡ 0 → hex_digits k n ≡ []
unfolding hex_digits
hex_none zero n h = refl
hex_none (suc k) n h = absurd (omega arith)

pub hex_more : (k n : ℕ) → 1 ≤ k → hex_digits k n ≡ hex_digits (k - 1) (n / 16) ++ (hex_digit (n % 16) ∷ [])
unfolding hex_digits
hex_more zero n h = absurd (omega arith)
hex_more (suc k) n h = let e : suc k - 1 ≡ k = omega arith in rw e

pub length_hex : (k n : ℕ) → length (hex_digits k n) ≡ k
unfolding hex_digits
length_hex zero n = refl
length_hex (suc k) n = length-append (hex_digits k (n / 16)) (hex_digit (n % 16) ∷ []) ∙ rw (length_hex k (n / 16)) (omega arith)

-- ---- what digits stand for

-- the value of digits in base b after those of n, v being a digit's
unfoldable pub value : ℕ → (ℕ → ℕ) → ℕ → List ℕ → ℕ
value b v n [] = n
value b v n (d ∷ ds) = value b v (n * b + v d) ds

value_more : (b : ℕ) (v : ℕ → ℕ) (n : ℕ) (ds : List ℕ) (d : ℕ) → value b v n (ds ++ (d ∷ [])) ≡ value b v n ds * b + v d
unfolding value
value_more b v n [] d = refl
value_more b v n (c ∷ ds) d = value_more b v (n * b + v c) ds d

-- what a decimal digit's character stands for, and a hex digit's
unfoldable pub from_digit : ℕ → ℕ
from_digit c = c - 48

unfoldable pub from_hex : ℕ → ℕ
from_hex c = cond (test (c ≤? 57)) (c - 48) (c - 55)

unfoldable pub decimal_value : List ℕ → ℕ
decimal_value ds = value 10 from_digit 0 ds

unfoldable pub hex_value : List ℕ → ℕ
hex_value ds = value 16 from_hex 0 ds

value_digits : (fuel n : ℕ) → n < fuel → decimal_value (digits fuel n) ≡ n
unfolding value from_digit decimal_value
value_digits zero n h = absurd (omega arith)
value_digits (suc fuel) n h =
    elim (dec_le n 9) [
      | yes s ↦ ap decimal_value (digits_last fuel n s) ∙ omega arith
      | no b ↦
          ap decimal_value (digits_more fuel n (omega arith))
          ∙ value_more 10 from_digit 0 (digits fuel (n / 10)) (digit (n % 10))
          ∙ omega (arith, value_digits fuel (n / 10) (omega arith))
    ]

-- the digits of n stand for n
pub decimal_value_lem : (n : ℕ) → decimal_value (decimal n) ≡ n
unfolding decimal
decimal_value_lem n = value_digits (suc n) n (omega arith)

-- so two numbers of the same digits are one
pub decimal_one : (a b : ℕ) → decimal a ≡ decimal b → a ≡ b
decimal_one a b e = sym (decimal_value_lem a) ∙ ap decimal_value e ∙ decimal_value_lem b

from_hex_lem : (d : ℕ) → d < 16 → from_hex (hex_digit d) ≡ d
unfolding from_hex hex_digit
from_hex_lem d h =
    elim (dec_le d 9) [
      | yes s ↦ rw (passes (d ≤? 9) s, passes (48 + d ≤? 57) (omega arith)) (omega arith)
      | no b ↦ rw (fails (d ≤? 9) b, fails (55 + d ≤? 57) (λ k. omega arith)) (omega arith)
    ]

-- k hex digits stand for n modulo 16^k
pub hex_value_lem : (k n : ℕ) → n < 16 ^ k → hex_value (hex_digits k n) ≡ n
unfolding value hex_value hex_digits
hex_value_lem zero n h = omega arith
hex_value_lem (suc k) n h =
    value_more 16 from_hex 0 (hex_digits k (n / 16)) (hex_digit (n % 16))
    ∙ omega (arith, hex_value_lem k (n / 16) (omega (arith, pow-suc 16 k)), from_hex_lem (n % 16) (omega arith))

first_digit : (fuel n : ℕ) → n < fuel → 0 < n → (48 < get_or (digits fuel n) 0 0) × (0 < length (digits fuel n))
first_digit zero n h p = absurd (omega arith)
first_digit (suc fuel) n h p =
    elim (dec_le n 9) [
      | yes s ↦ rw (digits_last fuel n s) (omega arith)
      | no b ↦
          let rest = first_digit fuel (n / 10) (omega arith) (omega arith) in
          rw (digits_more fuel n (omega arith)) (
            rw (get_or-append (digits fuel (n / 10)) (digit (n % 10) ∷ []) 0 0 rest.1) rest.0,
            rw length-append (omega (arith, rest.1)),
          )
    ]

-- no number but 0 begins with 0
pub no_leading_zero : (n : ℕ) → 0 < n → 48 < get_or (decimal n) 0 0
unfolding decimal
no_leading_zero n p = (first_digit (suc n) n (omega arith) p).0

-- ---- numbers that the checker writes out

pub example_zero : decimal 0 ≡ ascii "0"
unfolding test digits decimal
example_zero = refl

pub example_place : decimal 28671 ≡ ascii "28671"
unfolding test digits decimal
example_place = refl

pub example_most : decimal 18446744073709551615 ≡ ascii "18446744073709551615"
unfolding test digits decimal
example_most = refl

pub example_base : hex_digits 8 0xFFF80000 ≡ ascii "FFF80000"
unfolding test hex_digit hex_digits
example_base = refl

pub example_low_base : hex_digits 8 0x0010A000 ≡ ascii "0010A000"
unfolding test hex_digit hex_digits
example_low_base = refl
