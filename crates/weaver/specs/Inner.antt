-- What the contracts of inner functions of `weaver` cite, and no other contract.
use Rattle.std.specs.Prelude.{ℕ, ◌≤◌, ◌≡◌, Bool, true, cond, ◌&&◌, List, [], ◌∷◌, leb, length}
use Rattle.std.specs.Borrow.{Bor}
use denote.MutBor.{MutBor}
use Rattle.plane.specs.Plane.{grid_shape, plane_bytes, half}
use Rattle.plane.specs.declared.Grid.{Grid}
use Rattle.weave.specs.declared.Field.{Field}
use Rattle.weave.specs.Weave.{Given, given_of, good_lines, good_field, chroma_fits, whole_field, whole, room_for, weave_no}
use Rattle.weaver.specs.declared.Size.{Size}
use Rattle.weaver.specs.declared.Waiting.{Waiting}
use Rattle.weaver.specs.declared.Weaver.{Weaver}
use Rattle.weaver.specs.Weaver.{luma_bytes_of, field_bytes, kept_bytes}

-- the size of a plane, of a chroma plane beside it, and of the field that is kept
abbrev pub size_of : Grid → Size
size_of l = record { width = l.width; height = l.height; depth = l.depth }

abbrev pub half_size : Size → Size
half_size s = record { width = half s.width; height = half s.height; depth = s.depth }

abbrev pub kept_size : Waiting → Size
kept_size w = record { width = w.width; height = w.height; depth = w.depth }

-- the tests of a push, by whether it gives a picture and by the lengths of the planes
abbrev pub tests_of : Weaver → Bool → Field → ℕ → ℕ → ℕ → ℕ → ℕ → ℕ → ℕ → List (ℕ × Bool)
tests_of w picture shape luma cb cr store luma_room cb_room cr_room =
    (4, good_field shape)
    ∷ (5, chroma_fits shape)
    ∷ (6, whole_field shape luma cb cr && leb (kept_bytes w) store)
    ∷ (
      7,
      cond picture (room_for shape luma_room cb_room cr_room) (leb (field_bytes shape.luma.width shape.luma.height shape.luma.depth) store),
    )
    ∷ []

-- a field as an inner function finds it
abbrev pub found_field : Field → Bor (List ℕ) → Bor (List ℕ) → Bor (List ℕ) → Given
found_field shape luma cb cr = given_of shape luma.now cb.now cr.now

-- a plane that can be packed over a part of the store
pub record Packable (part bytes : ℕ) (l : Grid) : Type 0 where
  pub good : good_lines l ≡ true
  pub long : plane_bytes (grid_shape l) ≤ bytes
  pub exact : part ≡ luma_bytes_of l.width l.height l.depth

-- a field that can be packed at the front of the store
pub record PackableField (store : ℕ) (g : Given) : Type 0 where
  pub good : good_field g.shape ≡ true
  pub half_sized : chroma_fits g.shape ≡ true
  pub long : whole g ≡ true
  pub room : field_bytes g.shape.luma.width g.shape.luma.height g.shape.luma.depth ≤ store

-- two fields that can be woven, whichever is the top one
pub record Weavable (first second : Given) (luma_room cb_room cr_room : ℕ) : Type 0 where
  pub as_top : weave_no first second luma_room cb_room cr_room ≡ 0
  pub as_bottom : weave_no second first luma_room cb_room cr_room ≡ 0

-- two fields that are not refused, of which the first is the top one, and two that can be woven, into these outputs
abbrev pub Weaves : Given → Given → MutBor (List ℕ) → MutBor (List ℕ) → MutBor (List ℕ) → Type 0
Weaves top bottom luma cb cr = weave_no top bottom (length luma.now) (length cb.now) (length cr.now) ≡ 0

abbrev pub WeavableInto : Given → Given → MutBor (List ℕ) → MutBor (List ℕ) → MutBor (List ℕ) → Type 0
WeavableInto first second luma cb cr = Weavable first second (length luma.now) (length cb.now) (length cr.now)
