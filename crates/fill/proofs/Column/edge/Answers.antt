use lib.Ieee.{of_bits, of_int}
use Rattle.filter.specs.Filter.{best_of}
use borrow.Author.Rules.{rules}
use Rattle.fill.proofs.Column.edge.Goals as goal

pub returns : goal.returns
unfolding best_of
returns g c = λ v from count y off near far l.
    c.tried.ensures v from count y off _ near far l
    (c.tried-far_left.ensures v from count y off _ near far l
    (c.tried-right.ensures v from count y off _ near far l
    (c.tried-left.ensures v from count y off _ near far l
    (λ i. record {
      score = c.score.ensures v from count y near l i;
      near = c.near.ensures v from count y near l i;
      far = c.far.ensures v from count y off far l i;
    }))))

pub tried-left-requires : goal.tried-left-requires
unfolding of_bits of_int
tried-left-requires g c = search rules

pub tried-right-requires : goal.tried-right-requires
unfolding of_bits of_int
tried-right-requires g c = search rules

pub tried-far_left-requires : goal.tried-far_left-requires
unfolding of_bits of_int
tried-far_left-requires g c = search rules

pub tried-requires : goal.tried-requires
unfolding of_bits of_int
tried-requires g c = search rules
