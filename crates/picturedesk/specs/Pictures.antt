-- Pictures by number (docs/RULES.md, "Colour and comb"; "What the desk gets back": 3 for a code that names nothing).
use Rattle.std.specs.Prelude.{ℕ, Bool, false, cond, ◌&&◌, List, ◌∷◌, leb, eqb, length, Option, Some, None}
use Rattle.std.specs.Borrow.{MutBor}
use denote.Triple.Both.{Both}
use Rattle.laws.specs.Lent.{Slice}
use Rattle.laws.specs.Refusal.{lowest}
use Rattle.field.specs.declared.Parity.{Parity}
use Rattle.field.specs.declared.Source.{Source}
use Rattle.field.specs.declared.Source.TheVariants as source
use Rattle.field.specs.declared.Output.{Output}
use Rattle.field.specs.Field.{parity_named}
use Rattle.plane.specs.declared.Planes.{Planes}
use Rattle.colour.specs.declared.Conversion.{Conversion}
use Rattle.filter.specs.Rows.{quality_named}
use Rattle.picture.specs.declared.Asked.{Asked}
use Rattle.picture.specs.Picture.{Frames, picture_tests, frames_lent, asked_out}
use Rattle.numbers.specs.Numbers.{shape_named}
use Rattle.picturedesk.specs.declared.FrameNumbers.{FrameNumbers}
use Rattle.picturedesk.specs.declared.OutputNumbers.{OutputNumbers}

-- 0 top, 1 bottom, 2 neither
abbrev pub chosen_named : ℕ → Option Parity
chosen_named code = cond (leb code 1) (Some (parity_named code)) None

-- 0 the previous frame, 1 the current one, 2 the next
abbrev pub source_named : ℕ → Source
source_named code = cond (eqb code 0) source.Previous (cond (eqb code 1) source.Current source.Next)

-- The output that the numbers name. When it is shown, and the flag for the shader, say nothing about the picture.
abbrev pub output_named : OutputNumbers → Output
output_named n = record {
  field = chosen_named n.field;
  weave = chosen_named n.weave;
  before = source_named n.earlier;
  after = source_named n.later;
  at = 0;
  of = 1;
  matched = false;
}

abbrev pub planes_named : FrameNumbers → Planes
planes_named n = record { luma = shape_named n.luma; cb = shape_named n.cb; cr = shape_named n.cr }

abbrev pub layouts_named : FrameNumbers → Bool
layouts_named n = leb n.luma.layout 3 && leb n.cb.layout 3 && leb n.cr.layout 3

abbrev pub output_good : OutputNumbers → Bool
output_good n = leb n.field 2 && leb n.weave 2 && leb n.earlier 2 && leb n.later 2

abbrev pub all_named : ℕ → OutputNumbers → FrameNumbers → FrameNumbers → FrameNumbers → Bool
all_named quality output previous current following =
    leb quality 3 && output_good output && layouts_named previous && layouts_named current && layouts_named following

abbrev pub asked_named : ℕ → OutputNumbers → Conversion → FrameNumbers → FrameNumbers → FrameNumbers → Asked
asked_named quality output conversion previous current next = record {
  quality = quality_named quality;
  output = output_named output;
  conversion = conversion;
  previous = planes_named previous;
  current = planes_named current;
  next = planes_named next;
}

-- 3: a code of the quality, of the output or of a layout names nothing; then as for `picture_of`
abbrev pub named_tests : ℕ → OutputNumbers → Conversion → FrameNumbers → FrameNumbers → FrameNumbers → Frames → ℕ → List (ℕ × Bool)
named_tests quality output conversion previous current next f room =
    (3, all_named quality output previous current next) ∷ picture_tests conversion f.previous f.current f.next room

-- The output as an `ensures` has it: `.entry` is what is lent, and its `.now` the bytes that the call finds.
abbrev pub LentOutput : Type 0 → Type 0
LentOutput A = Both (MutBor (List ℕ)) A

-- the number, and what the output holds afterwards by the number, of what the call finds
abbrev pub named_no :
    {A B C D E F G H I J : Type 0} → ℕ → OutputNumbers → Conversion → FrameNumbers → FrameNumbers → FrameNumbers
    → Slice A → Slice B → Slice C → Slice D → Slice E → Slice F → Slice G → Slice H → Slice I → LentOutput J → ℕ
named_no quality output conversion previous current next previous-luma previous-cb previous-cr current-luma current-cb current-cr next-luma next-cb next-cr out =
    lowest
    (named_tests quality output conversion previous current next
    (frames_lent (asked_named quality output conversion previous current next) previous-luma previous-cb previous-cr current-luma current-cb current-cr
    next-luma next-cb next-cr) (length out.entry.now))

abbrev pub named_out :
    {A B C D E F G H I J : Type 0} → ℕ → ℕ → OutputNumbers → Conversion → FrameNumbers → FrameNumbers → FrameNumbers
    → Slice A → Slice B → Slice C → Slice D → Slice E → Slice F → Slice G → Slice H → Slice I → LentOutput J → List ℕ
named_out number quality output conversion previous current next previous-luma previous-cb previous-cr current-luma current-cb current-cr next-luma next-cb next-cr out =
    let asked = asked_named quality output conversion previous current next in
    asked_out number asked
    (frames_lent asked previous-luma previous-cb previous-cr current-luma current-cb current-cr next-luma next-cb next-cr) out.entry.now
