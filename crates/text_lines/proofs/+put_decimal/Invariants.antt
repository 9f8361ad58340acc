-- The measure is the number: what is written before its last digit is its tenth.
use Rattle.text_lines.proofs.+put_decimal.Given as goal

abbrev pub decreases-put_decimal : goal.decreases-put_decimal
decreases-put_decimal l = l.n
