use Rattle.telecine.proofs.Detector.push_measured.Goals as goal

pub returns-clause-answer_value_2 : goal.returns-clause-answer_value_2
returns-clause-answer_value_2 c = rw (← c.seen_measured.ensures) c.step-stepped.ensures.answer_value_2
