-- The kinds of the items of parts themselves.
-- Assumes nothing.
use Rattle.std.specs.Prelude.{◌≡◌, refl}
use Rattle.std.proofs.Common.{arith}
use Rattle.items.specs.Items.{kind_number, end_kind, kept_kind, word_kind, broken_kind}
use Rattle.inside_files.specs.declared.PartKind.{PartKind}
use Rattle.inside_files.specs.declared.PartKind.TheVariants.{End, Header, Section, Broken}
use Rattle.inside_files.specs.Parts.{part_number, no_part, header_part, broken_part}
use Rattle.inside_walk.specs.Whole.{item_kind}

-- none is a word
pub own_word : (k : PartKind) → kind_number (item_kind k) ≡ word_kind → ⊥
own_word End e = omega arith
own_word Header e = omega arith
own_word Section e = omega arith
own_word Broken e = omega arith

pub own_end : (k : PartKind) → kind_number (item_kind k) ≡ end_kind → part_number k ≡ no_part
own_end End e = refl
own_end Header e = omega arith
own_end Section e = omega arith
own_end Broken e = omega arith

pub own_header : (k : PartKind) → part_number k ≡ header_part → kind_number (item_kind k) ≡ kept_kind
own_header End e = omega arith
own_header Header e = refl
own_header Section e = omega arith
own_header Broken e = omega arith

pub own_broken : (k : PartKind) → part_number k ≡ broken_part → kind_number (item_kind k) ≡ broken_kind
own_broken End e = omega arith
own_broken Header e = omega arith
own_broken Section e = omega arith
own_broken Broken e = refl
