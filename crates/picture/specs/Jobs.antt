-- What a job comes to. Apart from Inner.antt, since a job's own fact cites that.
use Rattle.std.specs.Prelude.{ℕ, ◌+◌, ◌*◌, List}
use Rattle.fill.specs.declared.Place.{Place}
use Rattle.picture.specs.declared.Job.{Job}
use Rattle.picture.specs.Inner.{lumas_in, cbs_in, crs_in, row_in, rows_in, Painted}

-- row y of its picture, and all of them
abbrev pub row_of : Job → ℕ → List ℕ
row_of j = row_in j.recipe (lumas_in j.trio) (cbs_in j.trio) (crs_in j.trio)

abbrev pub picture_in : Job → List ℕ
picture_in j = rows_in j.recipe (lumas_in j.trio) (cbs_in j.trio) (crs_in j.trio)

-- the rows of a tile, up to where it starts and up to where it ends
abbrev pub PaintedTo : Job → Place → List ℕ → Type 0
PaintedTo j place = Painted (λ y. row_of j (place.top + y)) place.height (j.recipe.luma.cur.width * 4) (place.left * 4)

abbrev pub PaintedWith : Job → Place → List ℕ → Type 0
PaintedWith j place = Painted (λ y. row_of j (place.top + y)) place.height (j.recipe.luma.cur.width * 4) (place.left * 4 + place.width * 4)
