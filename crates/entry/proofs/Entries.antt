-- The frames that entries stand for: up to 4,000,000,000 of them a fresh detector refuses none, so that its lock is that of what was seen of
-- the entries, and the cadences of their codes are those of the entries.
use Prim.Native.Nat.{ℕ, zero, suc, ◌+◌, ◌-◌, ◌<◌, ◌≤◌}
use native.Mathlib.Numerals.{add-one}
use native.Mathlib.Omega.{arith}
use mathlib.Core.Path.{◌≡◌, refl, sym, ap, ap₂, ◌∙◌}
use mathlib.Core.Bool.{Bool, true, ◌&&◌}
use mathlib.Core.List.{List, [], ◌∷◌, ◌++◌}
use Rattle.std.specs.Prelude.{Option, Some}
use lib.ListN.{length, get_or, take, drop}
use lib.Seq.{get_or-take, take_at, drop_at}
use borrow.Author.Tests.{lt-ltb, le-leb}
use Rattle.laws.specs.Refusal.{lowest, written}
use Rattle.laws.specs.Rows.{listed, over}
use Rattle.laws.proofs.Lists.{length_listed, same_listed, listed_at}
use Rattle.field.specs.declared.Parity.{Parity}
use Rattle.field.specs.Field.{parity_named, cadence_number}
use Rattle.pulldown.specs.declared.Symbol.{Symbol}
use Rattle.pulldown.specs.Codes.{seen_code, seen_by, seen_before, cadence_of_code}
use Rattle.pulldown.specs.Codes as codes
use Rattle.pulldown.proofs.Claims.{code_seen}
use Rattle.telecine.specs.declared.Measured.{Measured}
use Rattle.telecine.specs.Detector.{seen_measured}
use Rattle.telecine.specs.History.{number_of, last_parity, seen_of, seens, frames_of, taken}
use Rattle.telecine.proofs.Claims.{refusal_known, cadence_is}
use Rattle.entry.specs.declared.Entry.{Entry}
use Rattle.entry.specs.Entry.{word_at, entry_of, measured_in, push_in, entry_at, earlier_than, cadence_at, every_below}
use Rattle.entry.specs.Inner.{code_at}

-- an entry is all in its twelve bytes
pub entry_within : (bytes : List ℕ) → entry_of (take 12 bytes) ≡ entry_of bytes
unfolding entry_of
entry_within bytes = λ i. record {
  parity = word 0 (omega arith) i;
  present = word 2 (omega arith) i;
  leading = record { busy = word 4 (omega arith) i; total = word 6 (omega arith) i };
  trailing = record { busy = word 8 (omega arith) i; total = word 10 (omega arith) i };
}
  where
    word : (at : ℕ) → at + 1 < 12 → word_at (take 12 bytes) at ≡ word_at bytes at
    word at h = rw (get_or-take 12 bytes at 0 (omega arith), get_or-take 12 bytes (at + 1) 0 h)

-- the part of just those bytes from a place on
pub entry_there : (bytes : List ℕ) (at : ℕ) → entry_of (take (at + 12 - at) (drop at bytes)) ≡ entry_of (drop at bytes)
entry_there bytes at =
    let span : at + 12 - at ≡ 12 = omega arith in
    ap (λ (n : ℕ). entry_of (take n (drop at bytes))) span ∙ entry_within (drop at bytes)

-- a number more to test
pub one_more : (n : ℕ) (test : ℕ → Bool) → every_below (n + 1) test ≡ (every_below n test && test n)
unfolding every_below
one_more n test = rw add-one refl

pub none_yet : (test : ℕ → Bool) → every_below 0 test ≡ true
unfolding every_below
none_yet test = refl

module _ (bytes : List ℕ) where
  -- ---- none is refused
  pub frames_before_lem : (k : ℕ) → frames_of (earlier_than bytes k) ≡ k
  unfolding earlier_than
  frames_before_lem zero = refl
  frames_before_lem (suc k) = ap suc (frames_before_lem k)

  pub all_taken : (k : ℕ) → k ≤ 4000000000 → taken 0 (earlier_than bytes k) ≡ earlier_than bytes k
  unfolding earlier_than lowest
  all_taken zero h = refl
  all_taken (suc k) h = rw (all_taken k (omega arith), frames_before_lem k, lt-ltb k 4000000000 (omega arith))

  pub not_refused : (k : ℕ) → k < 4000000000 → number_of [] (push_in (entry_at bytes k)) (earlier_than bytes k) ≡ 0
  unfolding lowest
  not_refused k h =
      refusal_known [] (push_in (entry_at bytes k)) (earlier_than bytes k)
      ∙ rw (all_taken k (omega arith), frames_before_lem k, lt-ltb k 4000000000 h)

  -- ---- what is seen of entry k, by the numbers that are read from it
  module _ (k : ℕ) {last : Option Parity} {e : Entry} {first : Parity} {m : Option Measured} (last_is : last ≡ last_parity (earlier_than bytes k)) (e-is : e ≡ entry_at bytes k) (first_is : first ≡ parity_named e.parity) (m-is : m ≡ measured_in e) where
    pub code_given : {s : Option Symbol} {code : ℕ} → s ≡ seen_measured last first m → code ≡ seen_code s → code ≡ code_at bytes k
    unfolding code_at
    code_given s-is code_is = rw (code_is, s-is, first_is, m-is, last_is, e-is)

    pub last_left : Some first ≡ last_parity (earlier_than bytes (k + 1))
    unfolding earlier_than
    last_left = rw (add-one, first_is, e-is)

  -- ---- the cadences of n codes
  module _ (n : ℕ) (few : n ≤ 4000000000) where
    abbrev all : List ℕ
    all = listed n (code_at bytes)

    code_there : (k : ℕ) → k < n → seen_by (get_or all k 0) ≡ seen_of (push_in (entry_at bytes k)) (earlier_than bytes k)
    unfolding code_at
    code_there k h = ap seen_by (listed_at n (code_at bytes) k 0 h) ∙ code_seen (seen_of (push_in (entry_at bytes k)) (earlier_than bytes k))

    seen_before_lem : (k : ℕ) → k ≤ n → seen_before all k ≡ seens (earlier_than bytes k)
    unfolding seen_before earlier_than
    seen_before_lem zero h = refl
    seen_before_lem (suc k) h =
        ap₂ (λ (s : Option Symbol) (earlier : List (Option Symbol)). s ∷ earlier) (code_there k (omega arith)) (seen_before_lem k (omega arith))

    cadence_there : (k : ℕ) → k < n → cadence_of_code all k ≡ cadence_at bytes k
    unfolding cadence_of_code cadence_at
    cadence_there k h =
        let here = rw (all_taken k (omega arith)) at (cadence_is [] (push_in (entry_at bytes k)) (earlier_than bytes k)) in
        rw (seen_before_lem k (omega arith), code_there k h) (ap cadence_number (sym here))

    pub cadences_there : codes.cadences_of all ≡ listed n (cadence_at bytes)
    cadences_there = rw (length_listed n (code_at bytes)) (same_listed n (cadence_of_code all) (cadence_at bytes) cadence_there)

    -- the output, of which the front was lent for the codes to give place to their cadences
    module _ (out : List ℕ) {made : List ℕ} (made-is : made ≡ over all out) where
      abbrev lent : List ℕ
      lent = take n made

      long : length all ≡ n
      long = length_listed n (code_at bytes)

      lent_is : lent ≡ all
      lent_is = rw made-is (take_at all (drop (length all) out) n long)

      rest-is : drop n made ≡ drop n out
      rest-is = rw made-is (drop_at all (drop (length all) out) n long ∙ ap (λ (k : ℕ). drop k out) long)

      number_is : codes.codes_no (length lent) ≡ 0
      unfolding lowest
      number_is = rw (lent_is, long, le-leb n 4000000000 few)

      pub none_refused : {no : ℕ} → no ≡ codes.codes_no (length lent) → no ≡ 0
      none_refused no-is = no-is ∙ number_is

      pub all_written : {given : List ℕ} {no : ℕ} → no ≡ codes.codes_no (length lent) → given ≡ written no (codes.cadences_of lent) lent
          → given ++ drop n made ≡ over (listed n (cadence_at bytes)) out
      all_written no-is given_is =
          rw (given_is, no-is, number_is, lent_is, cadences_there, rest-is, length_listed n (cadence_at bytes))
