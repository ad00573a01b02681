-- What the exported calls on a weaver give, each part by its name: the number, and what each lent place then holds. Contracts and histories cite the
-- same definitions.
use Rattle.std.specs.Prelude.{ℕ, Bool, cond, ◌&&◌, List, [], ◌∷◌, leb, eqb, ℤ, pos, length, Option, None, Some}
use Rattle.laws.specs.Lent.{Slice, Output}
use Rattle.laws.specs.Refusal.{lowest, written}
use Rattle.field.specs.declared.Parity.{Parity}
use Rattle.field.specs.Field.{parity_named}
use Rattle.weave.specs.Weave.{Given, given_of, good_field, chroma_fits, whole, room_for}
use Rattle.weaver.specs.declared.Weaver.{Weaver}
use Rattle.weaver.specs.Weaver.{empty_weaver, fits, field_bytes, kept_bytes, picture_times, picture_luma, picture_cb, picture_cr, push_weaver, push_store, push_out}
use Rattle.weavedesk.specs.declared.FieldNumbers.{FieldNumbers}
use Rattle.weavedesk.specs.Woven.{field_named}
use Rattle.weavedesk.specs.Waiting.{state_bytes, weaver_in, keeping}

-- ---- what is lent and what is given

-- the state's bytes and the store, which every call finds as the last one left them
pub record Lent : Type 0 where
  pub state : List ℕ
  pub store : List ℕ

-- a field that the host pushes, by the numbers and bytes that it gives, and the rooms of the three outputs
pub record Offer : Type 0 where
  pub parity : ℕ
  pub timed : ℕ
  pub time : ℤ
  pub shape : FieldNumbers
  pub luma : List ℕ
  pub cb : List ℕ
  pub cr : List ℕ
  pub luma_room : ℕ
  pub cb_room : ℕ
  pub cr_room : ℕ

-- both as an export finds them: bytes are read at entry
abbrev pub lent : {A B : Type 0} → Output A → Output B → Lent
lent state store = record { state = state.entry.now; store = store.entry.now }

abbrev pub offer : {A B C D E F : Type 0} → ℕ → ℕ → ℤ → FieldNumbers → Slice A → Slice B → Slice C → Output D → Output E → Output F → Offer
offer parity timed at shape luma cb cr out_luma out_cb out_cr = record {
  parity = parity;
  timed = timed;
  time = at;
  shape = shape;
  luma = luma.entry.now;
  cb = cb.entry.now;
  cr = cr.entry.now;
  luma_room = length out_luma.entry.now;
  cb_room = length out_cb.entry.now;
  cr_room = length out_cr.entry.now;
}

-- ---- `new` and `clear`

-- 7: the state is too short to be written
abbrev pub new_tests : ℕ → List (ℕ × Bool)
new_tests state = (7, leb state_bytes state) ∷ []

abbrev pub new_no : ℕ → ℕ
new_no state = lowest (new_tests state)

-- 6: the state is too short to be one
abbrev pub clear_tests : ℕ → List (ℕ × Bool)
clear_tests state = (6, leb state_bytes state) ∷ []

abbrev pub clear_no : ℕ → ℕ
clear_no state = lowest (clear_tests state)

-- what the state holds after either: a weaver with no field
abbrev pub emptied : ℕ → List ℕ → List ℕ
emptied number state = written number (keeping empty_weaver state) state

-- ---- `push`: what the numbers name

abbrev pub given : Offer → Given
given o = given_of (field_named o.shape) o.luma o.cb o.cr

abbrev pub parity_in : Offer → Parity
parity_in o = parity_named o.parity

-- where `timed` is 0 there is no time
abbrev pub time_named : ℕ → ℤ → Option ℤ
time_named timed at = cond (eqb timed 0) None (Some at)

abbrev pub time_in : Offer → Option ℤ
time_in o = time_named o.timed o.time

abbrev pub weaver_of : Lent → Weaver
weaver_of l = weaver_in l.state

-- ---- its number

-- 3: parity or `timed` is neither 0 nor 1. 6: also where the state is too short. The rest as for the weaver.
abbrev pub push_tests : Lent → Offer → List (ℕ × Bool)
push_tests l o =
    let f = field_named o.shape in
    (3, leb o.parity 1 && leb o.timed 1)
    ∷ (4, good_field f)
    ∷ (5, chroma_fits f)
    ∷ (6, leb state_bytes (length l.state) && whole (given o) && leb (kept_bytes (weaver_of l)) (length l.store))
    ∷ (
      7,
      cond (fits (weaver_of l) f (parity_in o)) (room_for f o.luma_room o.cb_room o.cr_room)
          (leb (field_bytes f.luma.width f.luma.height f.luma.depth) (length l.store)),
    )
    ∷ []

abbrev pub push_no : Lent → Offer → ℕ
push_no l o = lowest (push_tests l o)

-- ---- what it leaves, at each number

-- the weaver that a push leaves which gets 0
abbrev pub weaver_after : Lent → Offer → Weaver
weaver_after l o = push_weaver 0 (weaver_of l) (field_named o.shape) (parity_in o) (time_in o)

abbrev pub state_after : ℕ → Lent → Offer → List ℕ
state_after number l o = written number (keeping (weaver_after l o) l.state) l.state

abbrev pub store_after : ℕ → Lent → Offer → List ℕ
store_after number l o = push_store number (weaver_of l) (given o) (parity_in o) l.store

-- the three outputs, of lists that are lent for them
abbrev pub luma_after : ℕ → Lent → Offer → List ℕ → List ℕ
luma_after number l o out = push_out number (weaver_of l) (field_named o.shape) (parity_in o) (picture_luma (weaver_of l) l.store (given o)) out

abbrev pub cb_after : ℕ → Lent → Offer → List ℕ → List ℕ
cb_after number l o out = push_out number (weaver_of l) (field_named o.shape) (parity_in o) (picture_cb (weaver_of l) l.store (given o)) out

abbrev pub cr_after : ℕ → Lent → Offer → List ℕ → List ℕ
cr_after number l o out = push_out number (weaver_of l) (field_named o.shape) (parity_in o) (picture_cr (weaver_of l) l.store (given o)) out

-- the time that comes with the picture, if there is a picture
abbrev pub times_given : Lent → Offer → List (Option ℤ)
times_given l o = picture_times (weaver_of l) (field_named o.shape) (parity_in o)

-- whether there is a picture, whether its earlier field had a time, and that time, else 0
abbrev pub picture_number : List (Option ℤ) → ℕ
picture_number [] = 0
picture_number (at ∷ more) = 1

abbrev pub timed_number : List (Option ℤ) → ℕ
timed_number [] = 0
timed_number (None ∷ more) = 0
timed_number (Some at ∷ more) = 1

abbrev pub time_number : List (Option ℤ) → ℤ
time_number [] = pos 0
time_number (None ∷ more) = pos 0
time_number (Some at ∷ more) = at

abbrev pub picture_after : ℕ → Lent → Offer → ℕ → ℕ
picture_after number l o old = written number (picture_number (times_given l o)) old

abbrev pub timed_after : ℕ → Lent → Offer → ℕ → ℕ
timed_after number l o old = written number (timed_number (times_given l o)) old

abbrev pub time_after : ℕ → Lent → Offer → ℤ → ℤ
time_after number l o old = written number (time_number (times_given l o)) old
