-- A coordinate within reach, as the code holds it: it has room, and is the coordinate.
use mathlib.Core.Path.{◌≡◌, sym, ap, ◌∙◌, subst}
use mathlib.Core.Bool.{true, ◌&&◌}
use Prim.Native.Nat.{ℕ, zero, suc, ◌≤◌}
use native.Mathlib.Omega.{arith}
use lib.Dec.{lit<}
use lib.IntN.{ℤ, pos, ◌-ℤ◌}
use mir.Syntax.{w32}
use mir.Val.{to_z, of_z}
use Rattle.laws.proofs.Bools.{halves}
use Rattle.laws.proofs.Refusal.{first_passes}
use Rattle.plane.specs.declared.Shape.{Shape}
use Rattle.plane.specs.Coordinates.{in_reach, bias_of, unbiased}
use Rattle.plane.proofs.Coordinates.{reached, unbiased_bias}
use Rattle.filter.specs.declared.Making.{Making}
use Rattle.filter.specs.Rows.{good_rows}
use Rattle.filter.specs.Answer.{edge_no, sample_no}
use Rattle.filter.specs.Held.{Room, step}

pub record Placed (c : ℕ) (x : ℤ) : Type 0 where
  pub room : Room c
  pub is : unbiased c ≡ x

-- z is x as the machine reads it back
pub placed : {c : ℕ} {x z : ℤ} → in_reach x ≡ true → c ≡ bias_of z → z ≡ x → Placed c x
placed {c} {x} {z} h e p =
    subst (λ (n : ℕ). Placed n x) (sym (e ∙ ap bias_of p))
    record { room = record { low = (reached x h).low; high = (reached x h).high }; is = unbiased_bias x h }

-- The two coordinates of a call that is not refused. It was tested by the numbers x' and y', as the machine reads them back.
module _ {x y x' y' : ℤ} {column row : ℕ} (same_x : x' ≡ x) (same_y : y' ≡ y) (held_x : column ≡ bias_of x') (held_y : row ≡ bias_of y') where
  both : in_reach x' ≡ true → in_reach y' ≡ true → Placed column x × Placed row y
  both h k = (placed (ap in_reach (sym same_x) ∙ h) held_x same_x, placed (ap in_reach (sym same_y) ∙ k) held_y same_y)

  pub edge_placed : (s : Shape) (bytes : ℕ) → 0 ≡ edge_no s bytes x' y' → Placed column x × Placed row y
  edge_placed s bytes done =
      let reach = halves (in_reach x') (in_reach y') (first_passes 3 _ _ (lit< tt) (sym done)) in
      both reach.0 reach.1

  pub sample_placed : (making : Making) (before cur after : ℕ) → 0 ≡ sample_no making before cur after x' y' → Placed column x × Placed row y
  sample_placed making before cur after done =
      let inside = halves (good_rows making.rows && in_reach x') (in_reach y') (first_passes 3 _ _ (lit< tt) (sym done)) in
      both (halves (good_rows making.rows) (in_reach x') inside.0).1 inside.1

-- the slant that is held, as the machine takes it from its number
pub slant_is : (j : ℕ) → j ≤ 4 → to_z w32 (of_z w32 (to_z w32 j -ℤ pos 2)) ≡ step j
slant_is zero l = search arith
slant_is (suc zero) l = search arith
slant_is (suc (suc zero)) l = search arith
slant_is (suc (suc (suc zero))) l = search arith
slant_is (suc (suc (suc (suc zero)))) l = search arith
slant_is (suc (suc (suc (suc (suc n))))) l = absurd (omega arith)
