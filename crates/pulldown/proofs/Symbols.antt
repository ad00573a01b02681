-- A symbol's number is the one that the enum gives it, and `==` and what is counted by it compare these numbers.
use Prim.Native.Nat.{ℕ, ◌≤◌}
use native.Mathlib.Omega.{arith}
use mathlib.Core.Path.{◌≡◌, refl, ap, ◌∙◌}
use mathlib.Core.Bool.{Bool, true, false, cond}
use lib.Dec.{eqb}
use mir.Val.{bool_byte}
use denote.Enum.Bare.{sameb}
use denote.Enum.Declared.{tag_of}
use Rattle.pulldown.specs.declared.Symbol.{Symbol}
use Rattle.pulldown.specs.declared.Symbol.TheVariants.{Still, Moved, RepeatFirst, RepeatSecond}
use Rattle.pulldown.specs.contracts.Symbol.{the_type}
use Rattle.pulldown.specs.Symbols.{symbol_number, same_symbol, one_if}

pub tag_is : (s : Symbol) → tag_of the_type s ≡ symbol_number s
tag_is Still = refl
tag_is Moved = refl
tag_is RepeatFirst = refl
tag_is RepeatSecond = refl

same_is : (s t : Symbol) → sameb the_type s t ≡ same_symbol s t
same_is s t = λ i. eqb (tag_is s i) (tag_is t i)

byte_is : (b : Bool) → (bool_byte b ≡ cond b 1 0) × (bool_byte b ≤ 1)
byte_is true = (refl, omega arith)
byte_is false = (refl, omega arith)

pub counted : (s t : Symbol) {b : Bool} {n : ℕ} → b ≡ sameb the_type s t → n ≡ bool_byte b → (n ≡ one_if s t) × (n ≤ 1)
counted s t {b} e f =
    let byte = byte_is b in
    (f ∙ byte.0 ∙ ap (λ (b : Bool). cond b 1 0) (e ∙ same_is s t), omega (arith, f, byte.1))
