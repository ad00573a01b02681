-- Laws of texts that are put one after another into a list.
use Prim.Native.Nat.{ℕ, ◌+◌, ◌≤◌}
use native.Mathlib.Nat.{add_assoc, add-zero}
use mathlib.Core.Path.{◌≡◌, refl, sym, ◌∙◌}
use mathlib.Core.List.{List, [], ◌++◌, append_assoc}
use lib.ListN.{length, take, drop, length-append, take-append-drop}
use native.Mathlib.Omega.{arith}
use lib.Seq.{take-append_seam, drop-append-add, drop-drop, take-append-add, length-take-le}
use Rattle.pages.specs.Pages.{put}
use Rattle.listing.specs.declared.Page.{Page}
use Rattle.listing.specs.Lines.{Room, Wrote}

-- ---- a text, and another behind it
seam : (front x y back : List ℕ)
    → take (length front + length x) (front ++ (x ++ back)) ++ (y ++ drop (length front + length x + length y) (front ++ (x ++ back)))
    ≡ front ++ ((x ++ y) ++ drop (length y) back)
seam front x y back = simp (add_assoc, take-append-add, take-append_seam, drop-append-add, append_assoc)

seam_at : (front x y back : List ℕ) (at : ℕ) → length front ≡ at
    → take (at + length x) (front ++ (x ++ back)) ++ (y ++ drop (at + length x + length y) (front ++ (x ++ back)))
    ≡ front ++ ((x ++ y) ++ drop (length y) back)
seam_at front x y back at e = rw (← e) (seam front x y back)

put_put : (list : List ℕ) (at : ℕ) (x y : List ℕ) → at ≤ length list → put (put list at x) (at + length x) y ≡ put list at (x ++ y)
unfolding put
put_put list at x y h =
    seam_at (take at list) x y (drop (at + length x) list) at (length-take-le at list h)
    ∙ simp (drop-drop, length-append, add_assoc)

pub put_nothing : (list : List ℕ) (at : ℕ) → list ≡ put list at []
unfolding put
put_nothing list at = simp (add-zero, take-append-drop)

-- ---- texts that were written, one behind another

pub wrote_nothing : (page : Page) → Wrote page page []
wrote_nothing page = record { same_page = refl; same_length = refl; ends = sym (add-zero page.at); is = put_nothing page.out.now page.at }

pub then : {old new newer : Page} {x y : List ℕ} → old.at ≤ length old.out.now → Wrote old new x → Wrote new newer y → Wrote old newer (x ++ y)
then {old} {new} {newer} {x} {y} h v w = record {
  same_page = w.same_page ∙ v.same_page;
  same_length = w.same_length ∙ v.same_length;
  ends = simp (w.ends, v.ends, length-append, add_assoc);
  is = rw (w.is, v.is, v.ends) (put_put old.out.now old.at x y h);
}

-- a word, and a number of at most 20 digits behind it
pub word_then : {old new newer : Page} {x y : List ℕ} → Room old (length x + 20) → Wrote old new x → Wrote new newer y × (newer.at ≤ new.at + 20)
    → Wrote old newer (x ++ y) × (newer.at ≤ old.at + length x + 20)
word_then room v w = (then (omega arith) v w.0, omega arith)

-- the parts of a line of totals
regroup : (w a x b y c z d e : List ℕ)
    → ((((w ++ a) ++ (x ++ b)) ++ (y ++ c)) ++ (z ++ d)) ++ e ≡ w ++ (a ++ (x ++ (b ++ (y ++ (c ++ (z ++ (d ++ e)))))))
regroup w a x b y c z d e = simp append_assoc

pub flat : {old new : Page} (w a x b y c z d e : List ℕ)
    → Wrote old new (((((w ++ a) ++ (x ++ b)) ++ (y ++ c)) ++ (z ++ d)) ++ e)
    → Wrote old new (w ++ (a ++ (x ++ (b ++ (y ++ (c ++ (z ++ (d ++ e))))))))
flat w a x b y c z d e t = rw (regroup w a x b y c z d e) at t
