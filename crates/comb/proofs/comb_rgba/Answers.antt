use mathlib.Core.Path.{refl}
use lib.ListN.{length}
use Rattle.laws.proofs.Refusal.{gives}
use Rattle.comb.proofs.Codes.{rgba_narrow, rgba_long, rgba_total}
use Rattle.comb.proofs.comb_rgba.Goals as goal

pub rows_bend-requires : goal.rows_bend-requires
rows_bend-requires c =
    let a = c.args in
    let bytes = length a.rgba.now in
    let done = c.in_ok-rgba_countable.ensures in
    rw (c.from.ensures, c.from-2.ensures) (rgba_narrow a.width a.height bytes done, rgba_long a.width a.height bytes done, tt)

pub returns : goal.returns
returns c =
    let a = c.args in
    gives c.in_ok-rgba_countable.ensures refl
    (rgba_total a.rgba.now a.width a.height (rw (c.from.ensures, c.from-2.ensures) at c.rows_bend.ensures))
