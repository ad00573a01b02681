-- What inner functions promise. Only their contracts cite it.
use Rattle.std.specs.Prelude.{ℕ, cond, List, ltb}
use Rattle.pulldown.specs.declared.Course.{Course}
use Rattle.pulldown.specs.Lock.{window, locked_by}

abbrev pub with_phase : Course → ℕ → Course
with_phase c p = record { next = c.next; held = c.held; taken = c.taken; phase = p; since = c.since; stills = c.stills }

-- The phase after a frame that the course before it took into this ring: the one that the frame leaves, and where it leaves none the one that
-- the window locks.
abbrev pub phase_in : List ℕ → Course → Course → ℕ
phase_in ring before after =
    cond (ltb after.phase 5) after.phase (locked_by (window ring before.next before.taken after.held) before.taken)
