-- What the contracts of `plane` and `part` come to. proofs/Claims.antt proves each claim under its name in small letters.
use Rattle.std.specs.Prelude.{ℕ, ◌+◌, ◌*◌, ◌<◌, List, get_or}
use Rattle.std.specs.Float.{nan}
use Rattle.laws.specs.Refusal.{Says}
use Rattle.float.specs.Bounds.{Unit}
use Rattle.filter.specs.declared.Making.{Making}
use Rattle.fill.specs.declared.Place.{Place}
use Rattle.fill.specs.Fill.{plane_tests, plane_made, part_tests, part_made}

-- 0 exactly when no number of the table applies, and otherwise the lowest that does
abbrev pub PlaneSays : Type 0
PlaneSays = (making : Making) (before cur after room : ℕ) → Says (plane_tests making before cur after room)

abbrev pub PartSays : Type 0
PartSays = (making : Making) (place : Place) (before cur after room : ℕ) → Says (part_tests making place before cur after room)

-- Every float of a plane, and of a part, lies from 0 to 1, whatever the bytes and the shapes.
abbrev pub PlaneInUnit : Type 0
PlaneInUnit =
    (making : Making) (before cur after : List ℕ) (x y : ℕ) → x < making.cur.width → y < making.cur.height →
    Unit (get_or (plane_made making before cur after) (y * making.cur.width + x) nan)

abbrev pub PartInUnit : Type 0
PartInUnit =
    (making : Making) (place : Place) (before cur after : List ℕ) (x y : ℕ) → x < place.width → y < place.height →
    Unit (get_or (part_made making place before cur after) (y * place.width + x) nan)
