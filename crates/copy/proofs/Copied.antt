-- A list that is written from the front with another, block by block.
use Prim.Native.Nat.{ℕ, ◌+◌, ◌-◌, ◌*◌, ◌≤◌, min}
use mathlib.Core.Path.{◌≡◌, refl, sym, ap, subst, ◌∙◌}
use mathlib.Core.List.{List, [], ◌∷◌, ◌++◌, append_assoc}
use native.Mathlib.Nat.{le_antisymm}
use native.Mathlib.Omega.{arith}
use lib.ListN.{length, take, drop, get_or, length-append, length-take, length-drop}
use lib.Seq.{take-add, drop-drop, take_at, drop_at, length-take-le, take_all, take-take}
use Rattle.laws.specs.Rows.{laid, over}
use Rattle.laws.proofs.Lists.{listed_again, laid_singles}
use Rattle.laws.proofs.Rows.{over_all}

-- `new`, which was `old`, has the first x of src's n bytes, and behind them what it had
pub record Copied {A : Type 0} (old src : List A) (n : ℕ) (new : List A) (x : ℕ) : Type 0 where
  pub within : x ≤ n
  pub room : n ≤ length old
  pub given : n ≤ length src
  pub long : length new ≡ length old
  pub exact : new ≡ take x src ++ drop x old

length_copied : {A : Type 0} (old src : List A) (x : ℕ) → x ≤ length old → x ≤ length src → length (take x src ++ drop x old) ≡ length old
length_copied old src x h k = rw (length-append, length-take-le x src k, length-drop) (omega arith)

-- the bytes that both have, at most as many as old
shared : {A : Type 0} (old src : List A) (n : ℕ) → n ≡ min (length old) (length src) → take n src ++ drop n old ≡ over (take (length old) src) old
shared old src n e =
    let long : length (take (length old) src) ≡ n = length-take (length old) src ∙ sym e in
    let same : take n src ≡ take (length old) src =
    sym (take-take n (length old) src (omega arith)) ∙ take_all n (take (length old) src) (omega (arith, long)) in
    rw (long, same)

-- what `copy_front` leaves of a list as long as the other
pub copied_all : {A : Type 0} (old src : List A) → length old ≡ length src → over (take (length old) src) old ≡ src
copied_all old src e =
    let all : take (length old) src ≡ src = take_all (length old) src (omega arith) in
    rw all (over_all src old e)

-- and, row by row, of one that n rows of one byte fill
pub copy_lays :
    {A : Type 0} (old row : List A) (n : ℕ) (d : A) → length old ≡ n * 1 → length row ≡ n * 1 →
    over (take (length old) (take (n - 0) row)) old ≡ laid n (λ x. get_or row x d ∷ [])
copy_lays {A} old row n d e r =
    let long : n ≡ length row = omega arith in
    ap (λ (part : List A). over (take (length old) part) old) (take_all (n - 0) row (omega arith))
    ∙ copied_all old row (e ∙ sym r)
    ∙ sym (listed_again row n d long)
    ∙ sym (laid_singles n (λ x. get_or row x d))

-- and of a part of a list, given as long a part of another
pub copied_part :
    {A : Type 0} (old src : List A) (at from n : ℕ) → at + n ≤ length old → from + n ≤ length src →
    let part = take (at + n - at) (drop at old) in
    over (take (length part) (take (from + n - from) (drop from src))) part ≡ take n (drop from src)
copied_part old src at from n h k =
    let span : at + n - at ≡ n = omega arith in
    let taken : from + n - from ≡ n = omega arith in
    let room : length (take n (drop at old)) ≡ n = length-take-le n (drop at old) (rw length-drop (omega arith)) in
    let given : length (take n (drop from src)) ≡ n = length-take-le n (drop from src) (rw length-drop (omega arith)) in
    rw (span, taken) (copied_all (take n (drop at old)) (take n (drop from src)) (room ∙ sym given))

module _ {A : Type 0} {old src : List A} {n : ℕ} where
  pub copy_starts : {x : ℕ} → x ≡ 0 → n ≤ length old → n ≤ length src → Copied old src n old x
  copy_starts e h k = subst (Copied old src n old) (sym e) (record { within = omega arith; room = h; given = k; long = refl; exact = refl })

  -- a part that starts at x is written, of the bytes of src that stand there
  turned :
      {new : List A} {x : ℕ} (size : ℕ) → Copied old src n new x →
      take x new ++ (take size (drop x src) ++ drop size (drop x new)) ≡ take (x + size) src ++ drop (x + size) old
  turned {new} {x} size l =
      let front : length (take x src) ≡ x = length-take-le x src (omega arith) in
      rw (l.exact, take_at (take x src) (drop x old) x front, drop_at (take x src) (drop x old) x front, drop-drop size x old, take-add x size src)
      (sym (append_assoc (take x src) (take size (drop x src)) (drop (x + size) old)))

  pub copies :
      {new part : List A} {x : ℕ} (at size end : ℕ) → Copied old src n new x → x ≡ at → at + size ≡ end → end ≤ n → part ≡ take size (drop at src) →
      Copied old src n (take at new ++ (part ++ drop size (drop at new))) end
  copies {new} {part} {x} at size end l e f h p =
      let here : Copied old src n new at = subst (Copied old src n new) e l in
      let whole : take at new ++ (part ++ drop size (drop at new)) ≡ take end src ++ drop end old = rw (p, ← f) (turned size here) in
      record {
        within = h;
        room = l.room;
        given = l.given;
        long = ap length whole ∙ length_copied old src end (omega (arith, l.room)) (omega (arith, l.given));
        exact = whole;
      }

  pub copy_ends : {new : List A} {x : ℕ} → Copied old src n new x → n ≡ min (length old) (length src) → n ≤ x → new ≡ over (take (length old) src) old
  copy_ends {new} {x} l e h = l.exact ∙ ap (λ (k : ℕ). take k src ++ drop k old) (le_antisymm l.within h) ∙ shared old src n e
