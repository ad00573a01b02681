use Prim.Native.Nat.{◌+◌, ◌-◌}
use mathlib.Core.Path.{◌≡◌, ◌∙◌}
use native.Mathlib.Omega.{arith}
use lib.Seq.{drop-drop}
use Rattle.copy.proofs.Copied.{copied_part}
use Rattle.weave.proofs.copy_part.Goals as goal

pub copy_front-requires : goal.copy_front-requires
copy_front-requires c = tt

pub returns : goal.returns
returns c =
    let a = c.args in
    let pre = c.requires in
    let span : a.at + a.n - a.at ≡ a.n = omega arith in
    let part = c.copy_front.ensures ∙ copied_part a.dst.now a.src.now a.at a.from a.n pre.0 pre.1 in
    rw (part, span, drop-drop a.n a.at a.dst.now)
