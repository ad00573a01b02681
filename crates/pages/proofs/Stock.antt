-- What a read does to what is held: it is longer by what came, and no byte is lost.
use Prim.Native.Nat.{ℕ, zero, suc, ◌+◌, ◌-◌, ◌≤◌, ◌<◌, min}
use native.Mathlib.Omega.{arith}
use mathlib.Core.Path.{◌≡◌, refl, sym, ap, ◌∙◌}
use mathlib.Core.Bool.{Bool, true}
use mathlib.Core.List.{List, [], ◌∷◌, ◌++◌, append_assoc}
use lib.Dec.{eqb}
use lib.ListN.{length, take, drop, length-append, length-take, length-drop, take-append-drop}
use lib.Seq.{take-append_seam, take-append-add, drop-append-add}
use borrow.Author.Tests.{eqb-true}
use Rattle.laws.specs.Rows.{over}
use Rattle.pages.specs.declared.Held.{Held}
use Rattle.pages.specs.Pages.{held_of, front_of, came_of, put}
use Rattle.pages.specs.Run.{delivered, undelivered, joined}
use Rattle.pages.proofs.Parts.{length_part}

-- ---- what is delivered

delivers : (n : ℕ) (chunks : List (List ℕ)) → delivered n chunks ++ joined (undelivered n chunks) ≡ joined chunks
delivers n [] = refl
delivers n ([] ∷ more) = delivers n more
delivers n ((byte ∷ chunk) ∷ more) =
    sym (append_assoc (take n (byte ∷ chunk)) (drop n (byte ∷ chunk)) (joined more))
    ∙ ap (λ (all : List ℕ). all ++ joined more) (take-append-drop n (byte ∷ chunk))

pub no_more : (n : ℕ) (chunks : List (List ℕ)) → length (delivered n chunks) ≤ n
no_more n [] = omega arith
no_more n ([] ∷ more) = no_more n more
no_more n ((byte ∷ chunk) ∷ more) = rw (length-take n (byte ∷ chunk)) (omega arith)

-- nothing is delivered where nothing is left
pub nothing_left : (n : ℕ) (chunks : List (List ℕ)) → 0 < n → length (delivered n chunks) ≡ 0 → joined (undelivered n chunks) ≡ []
nothing_left n [] h e = refl
nothing_left n ([] ∷ more) h e = nothing_left n more h e
nothing_left zero ((byte ∷ chunk) ∷ more) h e = absurd (omega (arith, h))
nothing_left (suc n) ((byte ∷ chunk) ∷ more) h e = absurd (omega (arith, e))

pub fewer_left : (n : ℕ) (chunks : List (List ℕ)) → length (joined (undelivered n chunks)) + length (delivered n chunks) ≡ length (joined chunks)
fewer_left n chunks =
    let all : length (delivered n chunks) + length (joined (undelivered n chunks)) ≡ length (joined chunks) =
    sym (length-append (delivered n chunks) (joined (undelivered n chunks))) ∙ ap length (delivers n chunks) in
    omega (arith, all)

-- ---- the buffer of a program: so long, what it holds and what has still to come are the bytes that are left, and where the input has ended
-- nothing has
pub record Stock (size : ℕ) (h : Held) (ended : Bool) (buffer : List ℕ) (chunks : List (List ℕ)) (bytes : List ℕ) : Type 0 where
  pub long : length buffer ≡ size
  pub is : bytes ≡ held_of h buffer ++ joined chunks
  pub end : ended ≡ true → joined chunks ≡ []

-- what a read leaves in the buffer
abbrev pub room_in : Held → List ℕ → ℕ
room_in h buffer = length (over (held_of h buffer) buffer) - length (held_of h buffer)

abbrev pub read_in : Held → List ℕ → List (List ℕ) → List ℕ
read_in h buffer chunks = put (over (held_of h buffer) buffer) (length (held_of h buffer)) (delivered (room_in h buffer) chunks)

abbrev pub held_then : Held → List ℕ → List (List ℕ) → Held
held_then h buffer chunks = came_of (front_of h buffer) (length (read_in h buffer chunks)) (length (delivered (room_in h buffer) chunks))

length_over : (h : Held) (buffer : List ℕ) → length (over (held_of h buffer) buffer) ≡ length buffer
length_over h buffer =
    length-append (held_of h buffer) (drop (length (held_of h buffer)) buffer)
    ∙ ap (λ (k : ℕ). length (held_of h buffer) + k) (length-drop (length (held_of h buffer)) buffer)
    ∙ sums
  where
    sums : length (held_of h buffer) + (length buffer - length (held_of h buffer)) ≡ length buffer
    sums = omega (arith, length_part h.from h.to buffer)

-- a text put behind the front
behind : (front back chunk : List ℕ) → put (front ++ back) (length front) chunk ≡ front ++ (chunk ++ drop (length chunk) back)
unfolding put
behind front back chunk = simp (take-append_seam, drop-append-add)

pub read_is : (h : Held) (buffer : List ℕ) (chunks : List (List ℕ))
    → read_in h buffer chunks
    ≡ held_of h buffer ++ (delivered (room_in h buffer) chunks ++ drop (length (delivered (room_in h buffer) chunks)) (drop (length (held_of h buffer)) buffer))
read_is h buffer chunks = behind (held_of h buffer) (drop (length (held_of h buffer)) buffer) (delivered (room_in h buffer) chunks)

length_behind : (front back chunk : List ℕ) → length chunk ≤ length back
    → length (front ++ (chunk ++ drop (length chunk) back)) ≡ length front + length back
length_behind front back chunk few = simp (length-append, length-drop) (omega arith)

pub length_read : (h : Held) (buffer : List ℕ) (chunks : List (List ℕ)) → length (read_in h buffer chunks) ≡ length buffer
length_read h buffer chunks =
    let chunk = delivered (room_in h buffer) chunks in
    let back = drop (length (held_of h buffer)) buffer in
    let behind-it : length back ≡ length buffer - length (held_of h buffer) = length-drop (length (held_of h buffer)) buffer in
    let few : length chunk ≤ length back = omega (arith, no_more (room_in h buffer) chunks, length_over h buffer, behind-it) in
    let sums : length (held_of h buffer) + length back ≡ length buffer = omega (arith, behind-it, length_part h.from h.to buffer) in
    ap length (read_is h buffer chunks) ∙ length_behind (held_of h buffer) back chunk few ∙ sums

-- what is held after a read
pub came : (h : Held) (buffer : List ℕ) (chunks : List (List ℕ))
    → held_of (held_then h buffer chunks) (read_in h buffer chunks) ≡ held_of h buffer ++ delivered (room_in h buffer) chunks
came h buffer chunks =
    let chunk = delivered (room_in h buffer) chunks in
    let rest = drop (length chunk) (drop (length (held_of h buffer)) buffer) in
    let few = no_more (room_in h buffer) chunks in
    let all = length_over h buffer in
    let whole : min (length chunk) (length (read_in h buffer chunks) - length (held_of h buffer)) ≡ length chunk =
    omega (arith, few, all, length_read h buffer chunks) in
    rw (whole, read_is h buffer chunks)
    (take-append-add (held_of h buffer) (chunk ++ rest) (length chunk)
    ∙ ap (λ (part : List ℕ). held_of h buffer ++ part) (take-append_seam chunk rest))

pub reads_on : {size : ℕ} {h : Held} {ended : Bool} {buffer : List ℕ} {chunks : List (List ℕ)} {bytes : List ℕ}
    → Stock size h ended buffer chunks bytes → length (held_of h buffer) < size
    → Stock size (held_then h buffer chunks) (eqb (length (delivered (room_in h buffer) chunks)) 0) (read_in h buffer chunks)
    (undelivered (room_in h buffer) chunks) bytes
reads_on {size} {h} {ended} {buffer} {chunks} {bytes} s free = record {
  long = length_read h buffer chunks ∙ s.long;
  is =
      s.is
      ∙ ap (λ (more : List ℕ). held_of h buffer ++ more) (sym (delivers (room_in h buffer) chunks))
      ∙ sym (append_assoc (held_of h buffer) (delivered (room_in h buffer) chunks) (joined (undelivered (room_in h buffer) chunks)))
      ∙ ap (λ (front : List ℕ). front ++ joined (undelivered (room_in h buffer) chunks)) (sym (came h buffer chunks));
  end = λ e.
      nothing_left (room_in h buffer) chunks
      (omega (arith, free, s.long, length_over h buffer))
      (eqb-true (length (delivered (room_in h buffer) chunks)) 0 e);
}
