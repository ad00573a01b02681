-- The turn of a frame in a row of codes: the lock of the codes passed, and the cadence that takes the place of the next.
use Prim.Native.Nat.{ℕ, ◌+◌, ◌<◌}
use native.Mathlib.Numerals.{add-one}
use native.Mathlib.Omega.{arith}
use mathlib.Core.Path.{◌≡◌, refl, sym, ap, ◌∙◌}
use mathlib.Core.List.{List, ◌++◌}
use lib.ListN.{length, get_or, drop}
use lib.Seq.{get_or-append-add, get_or-drop}
use Rattle.laws.specs.Rows.{listed}
use Rattle.laws.proofs.Lists.{Filled, length_listed}
use Rattle.field.specs.Field.{cadence_number}
use Rattle.pulldown.specs.declared.Lock.{Lock}
use Rattle.pulldown.specs.declared.Course.{Course}
use Rattle.pulldown.specs.Runs.{cadence_by}
use Rattle.pulldown.specs.Lock.{lock_with, advance_of, lock_of}
use Rattle.pulldown.specs.Codes.{seen_by, seen_before, cadence_of_code}
use Rattle.pulldown.proofs.Claims.{push_taken, one_taken}

-- ---- what is not yet written is as it was
pub unread : {f : ℕ → ℕ} {old new : List ℕ} {k : ℕ} → Filled f old new k → get_or new k 0 ≡ get_or old k 0
unread {f} {old} {new} {k} filled =
    let seam : length (listed k f) + 0 ≡ k = omega (arith, length_listed k f) in
    let same : k + 0 ≡ k = omega arith in
    ap (λ (list : List ℕ). get_or list k 0) filled.exact
    ∙ ap (λ (i : ℕ). get_or (listed k f ++ drop k old) i 0) (sym seam)
    ∙ get_or-append-add (listed k f) (drop k old) 0 0
    ∙ get_or-drop k old 0 0
    ∙ ap (λ (i : ℕ). get_or old i 0) same

-- ---- the turn of a frame
module _ (codes : List ℕ) where
  pub record Known (ring : List ℕ) (c : Course) (k : ℕ) : Type 0 where
    pub lock : lock_with ring c ≡ lock_of (seen_before codes k)
    pub count : c.taken ≡ k
    pub next : c.next < 15

  module _ {ring : List ℕ} {c : Course} {k code : ℕ} {ring' : List ℕ} {c' : Course} (known : Known ring c k) (code_is : code ≡ get_or codes k 0)
      (few : k < 4000000000) (left : lock_with ring' c' ≡ advance_of (lock_with ring c) (seen_by code)) where
    abbrev lock : Lock
    lock = lock_of (seen_before codes k)

    advanced : lock_with ring' c' ≡ advance_of lock (seen_by (get_or codes k 0))
    advanced = left ∙ rw (known.lock, code_is) refl

    pub still_known : c'.next < 15 → Known ring' c' (k + 1)
    unfolding seen_before
    still_known h = record {
      lock = advanced ∙ rw (add-one, push_taken lock (seen_by (get_or codes k 0)) (rw (← known.lock, known.count) few));
      count = ap (λ (l : Lock). l.course.taken) left ∙ one_taken (lock_with ring c) (seen_by code) ∙ ap (λ (n : ℕ). n + 1) known.count;
      next = h;
    }

    pub cadence_known : cadence_number (cadence_by c'.phase c.taken) ≡ cadence_of_code codes k
    unfolding cadence_of_code
    cadence_known = rw (← known.lock, ← code_is, ← left) refl
