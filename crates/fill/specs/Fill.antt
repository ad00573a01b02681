-- A whole plane of samples, or a part of one (docs/RULES.md, "Rows a field lacks" and "What the desk gets back"; the source is `plane` in
-- filter.rs): its number, and what the lent list holds afterwards. Pictures are made from parts.
use Rattle.std.specs.Prelude.{ℕ, ◌+◌, ◌*◌, Bool, ◌&&◌, List, [], ◌∷◌, ◌++◌, leb, pos, Float}
use Rattle.laws.specs.Refusal.{lowest}
use Rattle.laws.specs.Rows.{listed, laid}
use Rattle.filter.specs.declared.Making.{Making}
use Rattle.filter.specs.declared.Quality.{Quality}
use Rattle.filter.specs.declared.Rows.{Rows}
use Rattle.filter.specs.Filter.{Sampler, sample_of}
use Rattle.filter.specs.Rows.{good_rows}
use Rattle.filter.specs.Making.{of_planes}
use Rattle.filter.specs.Answer.{planes_tests}
use Rattle.fill.specs.declared.Place.{Place}

-- the samples of one row, and the rows laid end to end
abbrev pub line_of : Quality → Rows → Sampler → Sampler → Sampler → ℕ → ℕ → List Float
line_of quality rows before cur after width y = listed width (λ x. sample_of quality rows before cur after (pos x) (pos y))

abbrev pub lines_of : Quality → Rows → Sampler → Sampler → Sampler → ℕ → ℕ → List Float
lines_of quality rows before cur after width height = laid height (line_of quality rows before cur after width)

-- the same of a part of the plane
abbrev pub part_of : Quality → Rows → Place → Sampler → Sampler → Sampler → List Float
part_of quality rows place before cur after =
    laid place.height
    (λ y. listed place.width (λ x. sample_of quality rows before cur after (pos (place.left + x)) (pos (place.top + y))))

-- of lent planes
abbrev pub part_made : Making → Place → List ℕ → List ℕ → List ℕ → List Float
part_made making place = of_planes (part_of making.quality making.rows place) making

abbrev pub plane_made : Making → List ℕ → List ℕ → List ℕ → List Float
plane_made making =
    of_planes
    (λ before cur after. lines_of making.quality making.rows before cur after making.cur.width making.cur.height)
    making

-- 3: `first` is not 0 or 1, `mate` not 0, 1 or 2, or the part is not inside the plane. 4, 5 and 6 as of three planes. 7: the lent output is too
-- short. The numbers of bytes and of floats are of what is lent.
abbrev pub part_tests : Making → Place → ℕ → ℕ → ℕ → ℕ → List (ℕ × Bool)
part_tests making place before cur after room =
    (3, good_rows making.rows && leb (place.top + place.height) making.cur.height && leb (place.left + place.width) making.cur.width)
    ∷ planes_tests making before cur after ++ ((7, leb (place.height * place.width) room) ∷ [])

abbrev pub part_no : Making → Place → ℕ → ℕ → ℕ → ℕ → ℕ
part_no making place before cur after room = lowest (part_tests making place before cur after room)

abbrev pub plane_tests : Making → ℕ → ℕ → ℕ → ℕ → List (ℕ × Bool)
plane_tests making before cur after room =
    (3, good_rows making.rows) ∷ planes_tests making before cur after ++ ((7, leb (making.cur.height * making.cur.width) room) ∷ [])

abbrev pub plane_no : Making → ℕ → ℕ → ℕ → ℕ → ℕ
plane_no making before cur after room = lowest (plane_tests making before cur after room)
