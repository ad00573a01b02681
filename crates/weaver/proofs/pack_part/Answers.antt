use Prim.Native.Nat.{◌+◌, ◌-◌}
use mathlib.Core.Path.{◌≡◌, ◌∙◌}
use native.Mathlib.Omega.{arith}
use lib.Seq.{drop-drop}
use Rattle.laws.proofs.Lists.{part_length}
use Rattle.weaver.proofs.pack_part.Goals as goal

pub pack_plane-requires : goal.pack_plane-requires
pack_plane-requires c =
    let a = c.args in
    let span : a.at + a.n - a.at ≡ a.n = omega arith in
    let p = c.requires.0 in
    record { good = p.good; long = p.long; exact = rw span (part_length a.store.now a.at a.n c.requires.1 ∙ p.exact) }

pub returns : goal.returns
returns c =
    let a = c.args in
    let span : a.at + a.n - a.at ≡ a.n = omega arith in
    rw (c.pack_plane.ensures, span, drop-drop a.n a.at a.store.now)
