-- What a symbol makes of a lock whose place is in the ring: the phase that is left stays unless the symbol contradicts, and where none is left
-- the window may lock one.
use Prim.Native.Nat.{ℕ, ◌+◌, ◌%◌, min, ◌<◌, ◌≤◌}
use native.Mathlib.Omega.{arith}
use mathlib.Core.Path.{◌≡◌, refl, ap}
use mathlib.Core.Bool.{Bool, true, false, cond}
use mathlib.Core.List.{List, []}
use lib.Dec.{ltb}
use lib.ListN.{set}
use Rattle.pulldown.specs.declared.Symbol.{Symbol}
use Rattle.pulldown.specs.declared.Course.{Course}
use Rattle.pulldown.specs.declared.Lock.{Lock}
use Rattle.pulldown.specs.Symbols.{symbol_number}
use Rattle.pulldown.specs.Runs.{frame_of, contradicts}
use Rattle.pulldown.specs.Lock.{window, locked_by, phase_after, stills_after, with_symbol, without_symbol, lock_with}
use Rattle.pulldown.specs.Inner.{with_phase, phase_in}
use Rattle.pulldown.proofs.Few.{few_locked}

-- the end of a run, by the place that it leaves
pub ended : (r c : Course) → ((ring : List ℕ) → lock_with ring r ≡ without_symbol (lock_with ring c))
    → (r.next ≡ c.next) × (r ≡ (without_symbol (lock_with [] c)).course)
ended r c e = let same : r ≡ (without_symbol (lock_with [] c)).course = ap (λ (l : Lock). l.course) (e []) in (ap (λ (x : Course). x.next) same, same)

module _ (ring : List ℕ) (c : Course) (s : Symbol) (within : c.next < 15) where
  abbrev stills : ℕ
  stills = stills_after c.stills s

  abbrev left : ℕ
  left = cond (ltb stills 12) c.phase 5

  abbrev broken : Bool
  broken = contradicts left (frame_of c.taken s)

  abbrev held : ℕ
  held = min 15 (c.held + 1)

  abbrev ring' : List ℕ
  ring' = set ring c.next (symbol_number s)

  abbrev after : Bool → Course
  after b = record {
    next = (c.next + 1) % 15;
    held = cond b 0 held;
    taken = c.taken + 1;
    phase = cond b 5 left;
    since = cond (ltb left 5) c.since c.taken;
    stills = stills;
  }

  small : c.next % 15 ≡ c.next
  small = omega (arith, within)

  -- a window that a contradiction left empty locks nothing
  searched : (b : Bool)
      → phase_in ring' c (after b)
      ≡ cond b 5 (cond (ltb left 5) left (locked_by (window ring' c.next c.taken held) c.taken))
  searched true = few_locked ring' c.next c.taken 0 (omega arith)
  searched false = refl

  pub entered : lock_with ring' (with_phase (after broken) (phase_in ring' c (after broken))) ≡ with_symbol (lock_with ring c) s
  unfolding phase_after
  entered = rw (small, searched broken)

  pub few_held : (after broken).held ≤ 15
  few_held = fewer broken
    where
      fewer : (b : Bool) → (after b).held ≤ 15
      fewer true = omega arith
      fewer false = omega arith
