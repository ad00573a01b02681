-- The largest code of a depth: a number that a float holds exactly, and not 0; and the same by the bits that a depth leaves of sixteen.
use Prim.Native.Nat.{ℕ, ◌+◌, ◌-◌, ◌/◌, ◌^◌, ◌≤◌, ◌<◌, min, max}
use mathlib.Core.Path.{◌≡◌, refl, ap, ◌∙◌}
use native.Mathlib.Omega.{arith}
use lib.Pow.{pow_mono, high, ones_lt, ones_split}
use Rattle.plane.specs.Plane.{full_code}

depths : (depth : ℕ) → (8 ≤ max 8 (min depth 16)) × (max 8 (min depth 16) ≤ 16)
depths depth = (omega arith, omega arith)

pub full_least : (depth : ℕ) → 0 < full_code depth
full_least depth = omega (arith, pow_mono (depths depth).0)

pub full_16 : (depth : ℕ) → full_code depth ≤ 65535
full_16 depth = omega (arith, pow_mono (depths depth).1)

pub full_most : (depth : ℕ) → full_code depth ≤ 2 ^ 24
full_most depth = omega (arith, full_16 depth)

-- at 8 bits it is 255
pub full_short : (depth : ℕ) → depth ≤ 8 → full_code depth ≡ 255
full_short depth h =
    let d : max 8 (min depth 16) ≡ 8 = omega arith in
    rw d refl

-- and from 16 on 65,535
pub full_long : (depth : ℕ) → 16 ≤ depth → full_code depth ≡ 65535
full_long depth h =
    let d : max 8 (min depth 16) ≡ 16 = omega arith in
    rw d refl

-- below 16 bits twice a code fits sixteen
pub full_low : (depth : ℕ) → depth < 16 → full_code depth ≤ 32767
full_low depth h =
    let most : max 8 (min depth 16) ≤ 15 = omega arith in
    omega (arith, pow_mono most)

-- ---- by the bits that a depth leaves of sixteen
-- sixteen ones, shifted right
pub ones_left : (spare : ℕ) → spare ≤ 16 → 65535 / 2 ^ spare ≡ 2 ^ (16 - spare) - 1
ones_left spare h =
    let all : 16 ≡ 16 - spare + spare = omega arith in
    ap (λ (bits : ℕ). (2 ^ bits - 1) / 2 ^ spare) all
    ∙ ap (λ (n : ℕ). n / 2 ^ spare) (ones_split (16 - spare) spare)
    ∙ high (2 ^ (16 - spare) - 1) spare (ones_lt spare)

pub full_by_spare : (depth : ℕ) {spare : ℕ} → spare ≡ 16 - max 8 (min depth 16) → 2 ^ (16 - spare) - 1 ≡ full_code depth
full_by_spare depth e =
    let bits : 16 - (16 - max 8 (min depth 16)) ≡ max 8 (min depth 16) = omega arith in
    rw (e, bits) refl
