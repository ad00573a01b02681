use Prim.Native.Nat.{ℕ}
use mathlib.Core.Path.{ap, ◌∙◌}
use mathlib.Core.List.{List, [], ◌∷◌, ◌++◌}
use lib.ListN.{length}
use Rattle.laws.specs.Rows.{over}
use Rattle.packed.specs.Packed.{packed_of}
use Rattle.filmdesk.proofs.Kept.{parts_kept}
use Rattle.filmdesk.proofs.keep.Goals as goal

pub returns : goal.returns
returns c =
    parts_kept c.numbers_of-numbers.result c.args.state.now (ap length c.numbers_of-numbers.ensures) c.requires c.args.detector.now.lock.ring _ _ c.args.detector.now.lock.course.phase _
    c.write_ring.ensures.1 c.write_numbers.ensures.value c.write_numbers.ensures.bytes_after c.write_ring.ensures.0
    ∙ ap (λ (numbers : List ℕ). over (packed_of numbers ++ (c.args.detector.now.lock.ring ++ (c.args.detector.now.lock.course.phase ∷ []))) c.args.state.now) c.numbers_of-numbers.ensures
