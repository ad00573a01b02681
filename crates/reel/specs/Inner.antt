-- What inner functions promise. Only their contracts cite it.
use Rattle.std.specs.Prelude.{List, ℕ, Result, Ok, Err}
use Rattle.refusal.specs.declared.Refusal.{Refusal}
use Rattle.field.specs.declared.Cadence.{Cadence}
use Rattle.field.specs.Field.{parity_named}
use Rattle.numbers.specs.Inner.{cut_grid}
use Rattle.pulldown.specs.Lock.{locked_of}
use Rattle.telecine.specs.declared.Detector.{Detector}
use Rattle.telecine.specs.declared.Pushed.{Pushed}
use Rattle.entry.specs.Entry.{word_at}
use Rattle.refusal.specs.Refusal.{number_of}
use Rattle.reel.specs.declared.Pictured.{Pictured}
use Rattle.reel.specs.declared.Said.TheVariants.{Frame, Fault}
use Rattle.reel.specs.declared.Stage.{Stage}
use Rattle.reel.specs.declared.Reel.{Reel}
use Rattle.reel.specs.declared.Next.{Next}
use Rattle.reel.specs.Reel.{shape_in}
use Rattle.reel.specs.Machine.{reel_of, close, tallied_in}

-- what pictures look like, with the shape's numbers cut to their places
abbrev pub cut_pictured : List ℕ → Pictured
cut_pictured u = record { shape = cut_grid (shape_in u); first = parity_named (word_at u 8) }

-- what a unit leads to by a function's answer: a refusal closes the file
abbrev pub closed : Reel → Result Next Refusal → Next
closed r (Ok next) = next
closed r (Err refused) = close r (Fault (number_of refused))

-- What is made of a detector's answer. Machine says the same by the push.
abbrev pub answered_as : Reel → Stage → Detector → Result Cadence Refusal → Next
answered_as r stage d (Ok c) = record {
  reel = reel_of stage r.pictured d (tallied_in c r.tally);
  said = Frame r.detector.lock.course.taken c (locked_of d.lock);
}
answered_as r stage d (Err refused) = close r (Fault (number_of refused))

unfoldable pub pushed_as : Reel → Stage → Pushed → Next
pushed_as r stage p = answered_as r stage p.detector p.answer
