-- Weaving and readback by number (docs/RULES.md, "Fields and readback", "What the desk gets back"). Numbers are meant as the host gives them, however
-- large they are.
use Rattle.std.specs.Prelude.{ℕ, Bool, true, false, not, List, [], ◌∷◌, ◌++◌, leb, eqb}
use Rattle.laws.specs.Refusal.{lowest, written}
use Rattle.laws.specs.Rows.{over}
use Rattle.numbers.specs.declared.GridNumbers.{GridNumbers}
use Rattle.numbers.specs.Numbers.{grid_named}
use Rattle.weave.specs.declared.Field.{Field}
use Rattle.weave.specs.declared.Format.{Format}
use Rattle.weave.specs.Weave.{line_bytes, woven_line, line_tests}
use Rattle.readback.specs.declared.Readback.{Readback}
use Rattle.weavedesk.specs.declared.FieldNumbers.{FieldNumbers}
use Rattle.weavedesk.specs.declared.FormatNumbers.{FormatNumbers}
use Rattle.weavedesk.specs.declared.ReadbackNumbers.{ReadbackNumbers}

abbrev pub field_named : FieldNumbers → Field
field_named n = record { luma = grid_named n.luma; cb = grid_named n.cb; cr = grid_named n.cr }

-- The line's bytes go to an output: 7 also where it is too short for them. The four numbers before it are those of the line.
abbrev pub line_out_tests : GridNumbers → ℕ → GridNumbers → ℕ → ℕ → ℕ → List (ℕ × Bool)
line_out_tests t top-bytes b bottom-bytes y room =
    line_tests (grid_named t) top-bytes (grid_named b) bottom-bytes y ++ ((7, leb (line_bytes (grid_named t)) room) ∷ [])

abbrev pub line_out_no : GridNumbers → ℕ → GridNumbers → ℕ → ℕ → ℕ → ℕ
line_out_no t top-bytes b bottom-bytes y room = lowest (line_out_tests t top-bytes b bottom-bytes y room)

-- what the output holds after a call that gets this number
abbrev pub line_after : ℕ → List ℕ → GridNumbers → List ℕ → GridNumbers → ℕ → List ℕ → List ℕ
line_after number top t bottom b y out = written number (over (woven_line top (grid_named t) bottom (grid_named b) y) out) out

-- a flag is 0 or any other number
abbrev pub flag_named : ℕ → Bool
flag_named n = not (eqb n 0)

abbrev pub flag_number : Bool → ℕ
flag_number true = 1
flag_number false = 0

abbrev pub format_named : FormatNumbers → Format
format_named n = record {
  width = n.width;
  height = n.height;
  depth = n.depth;
  rate_numerator = n.rate_numerator;
  rate_denominator = n.rate_denominator;
  field_pictures = flag_named n.field_pictures;
  progressive = flag_named n.progressive;
  woven = flag_named n.woven;
}

abbrev pub format_numbers : Format → FormatNumbers
format_numbers f = record {
  width = f.width;
  height = f.height;
  depth = f.depth;
  rate_numerator = f.rate_numerator;
  rate_denominator = f.rate_denominator;
  field_pictures = flag_number f.field_pictures;
  progressive = flag_number f.progressive;
  woven = flag_number f.woven;
}

abbrev pub readback_named : ReadbackNumbers → Readback
readback_named n = record {
  planes = n.planes;
  width = n.width;
  height = n.height;
  depth = n.depth;
  luma_pitch = n.luma_pitch;
  second_pitch = n.second_pitch;
  third_pitch = n.third_pitch;
}
