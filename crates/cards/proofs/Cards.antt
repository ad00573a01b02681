-- The cards of specs/Cards.antt, by one computation.
use Rattle.std.proofs.Common.{refl}
use Rattle.laws.specs.Refusal.{lowest}
use Rattle.laws.specs.Sums.{sum_over}
use Rattle.plane.specs.Plane.{code_of}
use Rattle.comb.specs.Comb.{comb_of, plane_comb}
use Rattle.block.specs.Block.{differing, busy}
use Rattle.pulldown.specs.Symbols.{symbol_of}
use Rattle.pulldown.specs.Runs.{still_or_expected, agrees, first_phase, contradicts, foretold}
use Rattle.pulldown.specs.Lock.{candidate_of, locked_by, phase_after, advance_of}
use Rattle.cards.specs.Cards.{detector_after, cards, CardsHold}

pub cards_hold : CardsHold
unfolding lowest sum_over code_of comb_of plane_comb differing busy symbol_of still_or_expected agrees first_phase contradicts foretold candidate_of locked_by phase_after advance_of detector_after cards
cards_hold = (refl, (refl, (refl, (refl, (refl, (refl, (refl, (refl, (refl, (refl, (refl, (refl, (refl, tt)))))))))))))
