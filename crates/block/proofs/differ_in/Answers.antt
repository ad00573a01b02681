-- The loop keeps `Summed` of the columns passed.
use Prim.Native.Nat.{ℕ, min}
use mathlib.Core.Path.{◌≡◌, ap₂, ◌∙◌}
use lib.ListN.{length, length-append}
use native.Mathlib.Omega.{arith}
use Rattle.std.specs.Iterator.Adapters.{zip_first, zip_second}
use Rattle.std.specs.Slice.Iter.{iter_rest}
use Rattle.std.proofs.lemmas.Slice.Zip.{zip_turn, zip_end}
use Rattle.laws.proofs.Sums.{starts, adds, ends}
use Rattle.block.specs.Block.{one_if, differs}
use Rattle.block.proofs.differ_in.Goals as goal

pub loop-new-init : goal.loop-new-init
loop-new-init c = starts _ _ _

pub loop-new-preserved : goal.loop-new-preserved
loop-new-preserved c =
    let s = c.into_iter-new-iterator.result in
    let zipped = c.into_iter-new-iterator.ensures.into_iter_gives in
    let first : iter_rest (zip_first s) ≡ c.args.a.now = rw (zipped, c.zip-new-items.ensures.first) c.iter.ensures.rest in
    let second : iter_rest (zip_second s) ≡ c.args.b.now = rw zipped c.zip-new-items.ensures.second.0 in
    let turn =
    zip_turn c.args.a.now c.args.b.now c.loop-new.yielded s c.loop-new.new-iterator c.next.new.self c.next.result first second c.loop-new.yielded_by
    (c.in-Some.new, c.in-Some.old) c.in-Some.is c.next.ensures.steps in
    rw length-append
    (adds c.loop-new.invariant turn.0 c.differ-n.ensures.1
    (c.differ-n.ensures.0 ∙ ap₂ (λ (i j : ℕ). one_if (differs i j)) (turn.2 0) (turn.3 0)))

pub returns : goal.returns
returns c =
    let s = c.into_iter-new-iterator.result in
    let zipped = c.into_iter-new-iterator.ensures.into_iter_gives in
    let first : iter_rest (zip_first s) ≡ c.args.a.now = rw (zipped, c.zip-new-items.ensures.first) c.iter.ensures.rest in
    let second : iter_rest (zip_second s) ≡ c.args.b.now = rw zipped c.zip-new-items.ensures.second.0 in
    let whole : length c.loop-new.yielded ≡ min (length c.args.a.now) (length c.args.b.now) =
    zip_end c.args.a.now c.args.b.now c.loop-new.yielded s c.loop-new.new-iterator c.next.new.self c.next.result first second c.loop-new.yielded_by c.in-None.is
    c.next.ensures.steps in
    (c.from.ensures ∙ ends c.loop-new.invariant (omega (arith, whole)), omega (arith, whole))
