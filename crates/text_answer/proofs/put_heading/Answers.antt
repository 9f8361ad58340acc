use mathlib.Core.List.{◌++◌}
use native.Mathlib.Omega.{arith}
use Rattle.text_lines.specs.Text.{ascii}
use Rattle.text_lines.specs.Lines.{line, hex_line}
use Rattle.text_lines.specs.LineLaws.{wrote_then}
use Rattle.text_answer.proofs.put_heading.Goals as goal

pub returns : goal.returns
returns c =
    let a = c.args in
    let settings = line (ascii "settings ") a.settings in
    let strays = line (ascii "strays ") a.strays in
    let bits = line (ascii "bits ") a.bits in record {
      wrote = wrote_then (hex_line (ascii "base ") a.base) (settings ++ (strays ++ bits)) c.put_hex_line-p.ensures.wrote
          (wrote_then settings (strays ++ bits) c.put_line-q.ensures.wrote
          (wrote_then strays bits c.put_line-s.ensures.wrote c.put_line.ensures.wrote));
      upper_bound = omega (arith, c.put_line-s.ensures.upper_bound, c.put_line-q.ensures.upper_bound, c.put_hex_line-p.ensures.value);
    }
