use lib.ListN.{length}
use mir.Facts.{to_z-of_z}
use mathlib.Core.Path.{◌∙◌}
use Rattle.desk.specs.Filters.{rows_named, sample_no}
use Rattle.desk_c.proofs.desk_sample.Goals as goal

-- The coordinates, as the machine holds them, are those that were given.
pub returns-clause-value : goal.returns-clause-value
returns-clause-value c =
    let a = c.args in
    c.desk_sample.ensures.value
    ∙ (λ i. sample_no a.quality (rows_named a.first a.mate) a.before_shape a.cur_shape a.after_shape (length a.before.now) (length a.cur.now) (length a.after.now)
    (to_z-of_z c.ranges.x i) (to_z-of_z c.ranges.y i))
