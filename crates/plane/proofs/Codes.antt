-- Codes by the bytes that they are read from.
use Prim.Native.Nat.{ℕ, ◌+◌, ◌*◌, ◌/◌, ◌^◌, ◌≤◌, ◌<◌}
use mathlib.Core.Path.{◌≡◌, refl, sym, ap, ◌∙◌}
use mathlib.Core.Bool.{false}
use mathlib.Core.List.{List}
use native.Mathlib.Nat.{div-one}
use native.Mathlib.Omega.{arith}
use lib.Dec.{leb}
use lib.ListN.{get_or}
use borrow.Author.Tests.{le-ltb, le-leb, lt-leb}
use Rattle.plane.specs.declared.Shape.{Shape}
use Rattle.plane.specs.Plane.{stored_at, start_of, shift, word_of, code_of}
use Rattle.plane.specs.Claims.{AllBytes, may_exceed}
use Rattle.plane.proofs.Places.{no_shift}
use Rattle.plane.proofs.Claims.{others_are_within}

module _ (bytes : List ℕ) (s : Shape) (x y : ℕ) where
  -- a byte is neither shifted nor above the largest code
  pub byte_code : AllBytes bytes → s.depth ≤ 8 → get_or bytes (start_of s x y) 0 ≡ code_of bytes s x y
  byte_code all h =
      let stored = stored_at bytes s.depth (start_of s x y) in
      let one : get_or bytes (start_of s x y) 0 ≡ stored = simp (le-leb s.depth 8 h) in
      let shallow : leb 9 s.depth ≡ false = lt-leb 9 s.depth (omega arith) in
      let within : may_exceed s.layout s.depth ≡ false = rw (le-ltb 8 s.depth h) refl in
      one
      ∙ sym (div-one stored)
      ∙ ap (λ (right : ℕ). stored / 2 ^ right) (sym (no_shift s.layout s.depth shallow))
      ∙ sym (others_are_within bytes all s within x y)

  -- two bytes, shifted
  pub pair_word : 8 < s.depth → (get_or bytes (start_of s x y) 0 + 256 * get_or bytes (start_of s x y + 1) 0) / 2 ^ shift s.layout s.depth ≡ word_of bytes s x y
  pair_word h = simp (lt-leb s.depth 8 h)
