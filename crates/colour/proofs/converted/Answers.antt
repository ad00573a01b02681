-- `colour::converted` meets its contract: under its steps' names the definition is the code's one expression.
use Rattle.colour.specs.Colour.{luma_of, chroma_of, u_of, v_of, kg_of, doubled_of, share_of, converted_of}
use Rattle.colour.proofs.converted.Goals as goal

pub returns : goal.returns
unfolding converted_of luma_of chroma_of u_of v_of kg_of doubled_of share_of
returns c = λ i. record { red = c.clamp.ensures i; green = c.clamp-2.ensures i; blue = c.clamp-3.ensures i }
