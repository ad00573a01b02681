use mathlib.Core.Path.{sym, ap, ◌∙◌}
use Rattle.laws.specs.Refusal.{when_done}
use Rattle.refusal.specs.Refusal.{values_of}
use Rattle.pulldown.specs.Lock.{push_no, push_cadence, lock_with}
use Rattle.telecine.specs.Detector.{seen_measured}
use Rattle.filmdesk.proofs.push_counts.Goals as goal

pub returns-clause-result_value_2 : goal.returns-clause-result_value_2
returns-clause-result_value_2 c =
    sym (ap values_of c.in_ok-found.was) ∙ c.step-stepped.ensures.answer_value_2
    ∙ (λ i. when_done (push_no (lock_with (c.ring_in-ring.ensures i) (c.course_in-course.ensures i)))
    (push_cadence (lock_with (c.ring_in-ring.ensures i) (c.course_in-course.ensures i)) (c.seen_measured-seen.ensures i)))
    ∙ (λ i. when_done (push_no (lock_with (c.ring_in-ring.ensures 1) (c.course_in-course.ensures 1)))
    (push_cadence (lock_with (c.ring_in-ring.ensures 1) (c.course_in-course.ensures 1)) (seen_measured (c.last_in-led.ensures i) c.args.first c.args.measured)))
