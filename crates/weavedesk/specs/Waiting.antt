-- A weaver kept in lent bytes between calls: 7 numbers of eight bytes. Every list of bytes is some weaver, so that no call has to trust what it is
-- lent.
use Rattle.std.specs.Prelude.{ℕ, ◌%◌, ◌^◌, cond, List, [], ◌∷◌, eqb, ℤ, pos, negsuc, Option, None, Some}
use Rattle.laws.specs.Rows.{over}
use Rattle.field.specs.Field.{first_row_of, parity_named}
use Rattle.packed.specs.Packed.{packed_of, number_at}
use Rattle.weaver.specs.declared.Waiting.{Waiting}
use Rattle.weaver.specs.declared.Weaver.{Weaver}
use Rattle.weaver.specs.Weaver.{held, kept_of}
use Rattle.weavedesk.specs.Woven.{flag_named, flag_number}

-- the bytes that a state needs
abbrev pub state_bytes : ℕ
state_bytes = 56

-- ---- times

-- a time as two numbers: 0 none, 1 a time n, 2 a time -(n + 1); then n
abbrev pub whole_kind : ℤ → ℕ
whole_kind (pos n) = 1
whole_kind (negsuc n) = 2

abbrev pub whole_size : ℤ → ℕ
whole_size (pos n) = n
whole_size (negsuc n) = n

abbrev pub time_kind : Option ℤ → ℕ
time_kind None = 0
time_kind (Some at) = whole_kind at

abbrev pub time_size : Option ℤ → ℕ
time_size None = 0
time_size (Some at) = whole_size at

abbrev pub time_of : ℕ → ℕ → Option ℤ
time_of kind size = cond (eqb kind 0) None (Some (cond (eqb kind 1) (pos (size % 2 ^ 63)) (negsuc (size % 2 ^ 63))))

-- ---- the state

-- of a weaver with no field 0 each
abbrev pub weaver_numbers : Weaver → List ℕ
weaver_numbers w =
    let kept = kept_of w in
    flag_number (held w) ∷ kept.width ∷ kept.height ∷ kept.depth ∷ first_row_of kept.parity ∷ time_kind kept.time ∷ time_size kept.time ∷ []

-- The field and the weaver that bytes hold. A number too large for its place is cut to the place's size.
unfoldable pub waiting_in : List ℕ → Waiting
waiting_in bytes = record {
  width = number_at bytes 1 % 65536;
  height = number_at bytes 2 % 65536;
  depth = number_at bytes 3 % 256;
  parity = parity_named (number_at bytes 4);
  time = time_of (number_at bytes 5) (number_at bytes 6);
}

unfoldable pub weaver_in : List ℕ → Weaver
weaver_in bytes = record { waiting = cond (flag_named (number_at bytes 0)) (Some (waiting_in bytes)) None }

-- bytes with a weaver written at their front
abbrev pub keeping : Weaver → List ℕ → List ℕ
keeping w bytes = over (packed_of (weaver_numbers w)) bytes
