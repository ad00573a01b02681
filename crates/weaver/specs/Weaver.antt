-- The field that waits for its mate (docs/RULES.md, "Fields and readback", "Forms that must change"; the source is `Weaver` in weave.rs): what each
-- call gives, on every value that the struct can hold.
use Rattle.std.specs.Prelude.{ℕ, ◌+◌, ◌*◌, Bool, cond, not, ◌&&◌, ℤ, Option, None, Some, is_some, Result, Ok, Err, List, [], ◌∷◌, ◌++◌, leb, eqb, length, take, drop}
use Rattle.laws.specs.Lent.{Output}
use Rattle.laws.specs.Refusal.{lowest, written}
use Rattle.laws.specs.Rows.{laid, over}
use Rattle.refusal.specs.declared.Refusal.{Refusal}
use Rattle.field.specs.declared.Parity.{Parity}
use Rattle.field.specs.declared.Parity.TheVariants.{Top, Bottom}
use Rattle.field.specs.Field.{first_row_of}
use Rattle.plane.specs.Plane.{sample_bytes, half}
use Rattle.plane.specs.declared.Grid.{Grid}
use Rattle.weave.specs.declared.Field.{Field}
use Rattle.weave.specs.Weave.{Given, given_of, line_in, good_field, chroma_fits, whole, room_for, woven_plane}
use Rattle.weaver.specs.declared.Waiting.{Waiting}
use Rattle.weaver.specs.declared.Weaver.{Weaver}
use Rattle.weaver.specs.declared.Paired.{Paired}
use Rattle.weaver.specs.declared.Paired.TheVariants as paired

-- ---- a field packed in a store

-- lines with nothing between them
abbrev pub packed_lines : ℕ → ℕ → ℕ → Grid
packed_lines width height depth = record { width = width; height = height; depth = depth; stride = width * sample_bytes depth }

abbrev pub packed_shape : ℕ → ℕ → ℕ → Field
packed_shape width height depth = record {
  luma = packed_lines width height depth;
  cb = packed_lines (half width) (half height) depth;
  cr = packed_lines (half width) (half height) depth;
}

abbrev pub luma_bytes_of : ℕ → ℕ → ℕ → ℕ
luma_bytes_of width height depth = height * (width * sample_bytes depth)

abbrev pub chroma_bytes : ℕ → ℕ → ℕ → ℕ
chroma_bytes width height depth = luma_bytes_of (half width) (half height) depth

-- what a store needs for a field
abbrev pub field_bytes : ℕ → ℕ → ℕ → ℕ
field_bytes width height depth = luma_bytes_of width height depth + (chroma_bytes width height depth + chroma_bytes width height depth)

-- the lines of a plane, and the three planes one after another
unfoldable pub packed_plane : List ℕ → Grid → List ℕ
packed_plane bytes l = laid l.height (line_in bytes l)

unfoldable pub packed_field : Given → List ℕ
packed_field g =
    packed_plane g.luma g.shape.luma ++ (packed_plane g.cb g.shape.cb ++ packed_plane g.cr g.shape.cr)

-- ---- the weaver

abbrev pub empty_weaver : Weaver
empty_weaver = record { waiting = None }

-- Whether a field waits, and that field: where none does, one of no size, with nothing in it that an answer depends on.
abbrev pub field_of : Option Waiting → Waiting
field_of None = record { width = 0; height = 0; depth = 0; parity = Top; time = None }
field_of (Some field) = field

abbrev pub held : Weaver → Bool
held w = is_some w.waiting

abbrev pub kept_of : Weaver → Waiting
kept_of w = field_of w.waiting

abbrev pub waiting_for : Field → Parity → Option ℤ → Weaver
waiting_for shape parity at =
    record { waiting = Some (record { width = shape.luma.width; height = shape.luma.height; depth = shape.luma.depth; parity = parity; time = at }) }

-- the field that the store keeps
abbrev pub kept_field : Waiting → List ℕ → Given
kept_field w store =
    given_of (packed_shape w.width w.height w.depth) (take (luma_bytes_of w.width w.height w.depth) store)
    (take (chroma_bytes w.width w.height w.depth) (drop (luma_bytes_of w.width w.height w.depth) store))
    (take (chroma_bytes w.width w.height w.depth)
    (drop (luma_bytes_of w.width w.height w.depth + chroma_bytes w.width w.height w.depth) store))

abbrev pub kept_bytes : Weaver → ℕ
kept_bytes w = cond (held w) (field_bytes (kept_of w).width (kept_of w).height (kept_of w).depth) 0

abbrev pub opposite : Parity → Parity → Bool
opposite a b = not (eqb (first_row_of a) (first_row_of b))

-- A field of equal parity replaces the one that waits, as does an opposite one of another width, height or depth; a fitting one gives the picture.
abbrev pub mates : Waiting → Field → Parity → Bool
mates w shape parity = opposite w.parity parity && eqb w.width shape.luma.width && eqb w.height shape.luma.height && eqb w.depth shape.luma.depth

abbrev pub fits : Weaver → Field → Parity → Bool
fits w shape parity = held w && mates (kept_of w) shape parity

-- ---- push

-- 4: a shape is outside the bounds. 5: a chroma plane is not half its luma's size. 6: a plane is shorter than its shape needs, or the store than the
-- field it keeps. 7: where there is a picture an output is too short for it, else the store for the field.
abbrev pub push_tests : Weaver → Given → Parity → ℕ → ℕ → ℕ → ℕ → List (ℕ × Bool)
push_tests w g parity store luma_room cb_room cr_room =
    (4, good_field g.shape)
    ∷ (5, chroma_fits g.shape)
    ∷ (6, whole g && leb (kept_bytes w) store)
    ∷ (
      7,
      cond (fits w g.shape parity) (room_for g.shape luma_room cb_room cr_room)
          (leb (field_bytes g.shape.luma.width g.shape.luma.height g.shape.luma.depth) store),
    )
    ∷ []

abbrev pub push_no : Weaver → Given → Parity → ℕ → ℕ → ℕ → ℕ → ℕ
push_no w g parity store luma_room cb_room cr_room = lowest (push_tests w g parity store luma_room cb_room cr_room)

-- the same of a store and three outputs that are lent
abbrev pub push_no_of : {A B C D : Type 0} → Weaver → Given → Parity → Output A → Output B → Output C → Output D → ℕ
push_no_of w g parity store luma cb cr =
    push_no w g parity (length store.entry.now) (length luma.entry.now) (length cb.entry.now) (length cr.entry.now)

-- The value of an answer as a list of times: a picture comes with the earlier field's, a field that waits with none. A refusal has no value.
abbrev pub times_of : Paired → List (Option ℤ)
times_of paired.Waits = []
times_of (paired.Picture at) = at ∷ []

abbrev pub paired_values : Result Paired Refusal → List (List (Option ℤ))
paired_values (Ok pair) = times_of pair ∷ []
paired_values (Err refused) = []

-- the time that comes with the picture, if there is a picture
abbrev pub picture_times : Weaver → Field → Parity → List (Option ℤ)
picture_times w shape parity = cond (fits w shape parity) ((kept_of w).time ∷ []) []

abbrev pub push_weaver : ℕ → Weaver → Field → Parity → Option ℤ → Weaver
push_weaver number w shape parity at = written number (cond (fits w shape parity) empty_weaver (waiting_for shape parity at)) w

abbrev pub push_store : ℕ → Weaver → Given → Parity → List ℕ → List ℕ
push_store number w g parity store = written number (cond (fits w g.shape parity) store (over (packed_field g) store)) store

-- a plane of two fields woven, of which the first has this parity
abbrev pub woven_by : Parity → List ℕ → Grid → List ℕ → Grid → List ℕ
woven_by Top first f second s = woven_plane first f second s
woven_by Bottom first f second s = woven_plane second s first f

-- the picture: each plane of the field that waited woven with the new field's
abbrev pub picture_luma : Weaver → List ℕ → Given → List ℕ
picture_luma w store g = let kept = kept_field (kept_of w) store in woven_by (kept_of w).parity kept.luma kept.shape.luma g.luma g.shape.luma

abbrev pub picture_cb : Weaver → List ℕ → Given → List ℕ
picture_cb w store g = let kept = kept_field (kept_of w) store in woven_by (kept_of w).parity kept.cb kept.shape.cb g.cb g.shape.cb

abbrev pub picture_cr : Weaver → List ℕ → Given → List ℕ
picture_cr w store g = let kept = kept_field (kept_of w) store in woven_by (kept_of w).parity kept.cr kept.shape.cr g.cr g.shape.cr

-- what an output holds, where its plane of the picture is this
abbrev pub push_out : ℕ → Weaver → Field → Parity → List ℕ → List ℕ → List ℕ
push_out number w shape parity plane out = written number (cond (fits w shape parity) (over plane out) out) out
