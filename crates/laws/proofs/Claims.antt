-- The claims of specs/Claims.antt.
use Rattle.laws.specs.Claims.{LowestSays}
use Rattle.laws.proofs.Refusal.{lowest_of_rising}

pub lowest_says : LowestSays
lowest_says = lowest_of_rising
