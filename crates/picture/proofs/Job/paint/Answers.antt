use mathlib.Core.Path.{◌≡◌, refl, subst}
use mathlib.Core.List.{List}
use Prim.Native.Nat.{ℕ, ◌+◌, ◌-◌, ◌*◌, ◌≤◌, ◌<◌, min}
use native.Mathlib.Nat.{add-mul, mul-le-mul_right}
use native.Mathlib.Omega.{arith}
use lib.ListN.{length}
use Rattle.laws.proofs.Lists.{Stacked, stack_starts, stacks_rows, stack_ends}
use Rattle.picture.specs.Jobs.{row_of}
use Rattle.picture.proofs.Painted.{length_row}
use Rattle.picture.proofs.Job.paint.Goals as goal

-- a group ends within the output
ends :
    (from count height width out : ℕ) → from < height → height * (width * 4) ≤ out → count ≡ min (height - from) 8 →
    from * (width * 4) + count * (width * 4) ≤ out
ends from count height width out below room g =
    let inside : from + count ≤ height = omega (arith, g) in
    omega (arith, mul-le-mul_right {m = from + count} {n = height} (width * 4) inside, room, add-mul from count (width * 4))

-- a count of rows in another form
counted : {row : ℕ → List ℕ} {width n x y : ℕ} {old new : List ℕ} → x ≡ y → Stacked row width n old new x → Stacked row width n old new y
counted {row} {width} {n} {x} {y} {old} {new} e = subst (Stacked row width n old new) e

pub loop-from-init : goal.loop-from-init
loop-from-init c = (counted (omega arith) (stack_starts (λ y. length_row _ _ _ _ y)), refl)

pub slice_bounds-paint_group-end : goal.slice_bounds-paint_group-end
slice_bounds-paint_group-end c =
    let within = ends c.loop-from.from c.min-count.result c.args.self.recipe.luma.cur.height c.args.self.recipe.luma.cur.width (length c.loop-from.out) c.loop-from-test.true
    (omega (arith, c.requires.width_in_bounds, c.loop-from.invariant.0.long)) c.min-count.ensures in
    omega (arith, within, c.bytes_of-at.ensures, c.bytes_of.ensures)

pub loop-from-preserved : goal.loop-from-preserved
loop-from-preserved c =
    let a = c.args in
    let l = c.loop-from in
    let width = a.self.recipe.luma.cur.width * 4 in
    let row = row_of a.self in (
      counted (omega arith)
          (stacks_rows row width (λ y. length_row _ _ _ _ y) c.min-count.result (counted {y = l.from} (omega arith) l.invariant.0) (omega arith)
          c.requires.width_in_bounds c.bytes_of-at.ensures c.bytes_of.ensures c.paint_group.ensures),
      omega (arith, l.invariant.1),
    )

pub returns-2 : goal.returns-2
returns-2 c =
    let a = c.args in
    let l = c.loop-from in
    let width = a.self.recipe.luma.cur.width * 4 in
    let row = row_of a.self in
    stack_ends (λ y. length_row _ _ _ _ y)
    (stacks_rows row width (λ y. length_row _ _ _ _ y) c.min-count.result (counted {y = l.from} (omega arith) l.invariant.0) (omega arith)
    c.requires.width_in_bounds c.bytes_of-at.ensures c.bytes_of.ensures c.paint_group.ensures)
    (omega arith)
