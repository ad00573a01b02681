-- What is claimed of the machine and of the definition. proofs/Claims.antt proves each claim under its name in small letters.
use Rattle.std.specs.Prelude.{ℕ, ◌<◌, ◌≡◌, ◌↔◌, Bool, true, ◌&&◌, ◌||◌, List, [], ◌∷◌, eqb, get_or, replicate}
use Rattle.field.specs.declared.Cadence.{Cadence}
use Rattle.pulldown.specs.Runs.{Meets}
use Rattle.pulldown.specs.Claims.{Third}
use Rattle.telecine.specs.History.{Push, push, frames_of, run_of}
use Rattle.reel.specs.declared.Said.{Said}
use Rattle.reel.specs.declared.Said.TheVariants.{Quiet, Frame, Totals, Fault}
use Rattle.reel.specs.Reel.{said_of}
use Rattle.reel.specs.Machine.{start_of, Ends}
use Rattle.reel.specs.Frames.{frame_at, frames_before}

-- Whatever the file, the units read one after another say exactly what the whole file says, and the machine ends.
abbrev pub ReadsEveryFile : Type 0
ReadsEveryFile = (bytes : List ℕ) → Ends start_of (replicate 16384 0) bytes (said_of bytes)

-- every element is a byte
abbrev pub Bytes : List ℕ → Type 0
Bytes bytes = (i : ℕ) → get_or bytes i 0 < 256

-- the numbers of the list of docs/RULES.md
abbrev pub known : Said → Bool
known Quiet = true
known (Frame n c locked) = true
known (Totals t) = true
known (Fault n) = eqb n 3 || eqb n 4 || eqb n 6 || eqb n 7

abbrev pub all_known : List Said → Bool
all_known [] = true
all_known (said ∷ more) = known said && all_known more

-- A file of bytes is refused with 3, 4, 6 or 7 if at all: its frames are too few for 9.
abbrev pub FaultsKnown : Type 0
FaultsKnown = (bytes : List ℕ) → Bytes bytes → all_known (said_of bytes) ≡ true

-- ---- demand 3

-- what the demand says of frame k of these, the frames before it pushed to a fresh detector, and of what is said of it
pub record Demanded (frames : ℕ → Push) (k n : ℕ) (c : Cadence) (locked : Bool) : Type 0 where
  -- its number,
  pub number : n ≡ k
  pub before : frames_of (frames_before frames k) ≡ k
  -- its cadence,
  pub third : Third n (run_of (push (frames k) ∷ frames_before frames k)) c
  -- and whether it met the demand with some phase
  pub lock : (locked ≡ true) ↔ ((p : ℕ) × (p < 5) × Meets p (run_of (push (frames k) ∷ frames_before frames k)))

-- Whatever the file: where what is said in place k is a frame, it is frame k of the file, and the demand says the same of it.
abbrev pub LinesDemanded : Type 0
LinesDemanded =
    (bytes : List ℕ) (k n : ℕ) (c : Cadence) (locked : Bool) → get_or (said_of bytes) k Quiet ≡ Frame n c locked
    → Demanded (frame_at bytes) k n c locked
