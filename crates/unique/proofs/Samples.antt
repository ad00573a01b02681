-- Nothing else would satisfy a contract of `samples`. A function with a struct that holds a reference has no plain contract, so that all but
-- `sample_at` are said in the logic itself.
use mathlib.Core.Path.{refl}
use seplogic.Ra.Ura.{Ura}
use prog.Memory.{Memory}
use prog.Routine.{Routine}
use base.Logic.{SProp}
use contract.Monad.{Fun}
use types.Logic.{Logic}
use Rattle.refusal.proofs.Claims.{one_answered}
use Rattle.samples.specs.contracts.Samples.new as new
use Rattle.samples.specs.contracts.Samples.width as width
use Rattle.samples.specs.contracts.Samples.height as height
use Rattle.samples.specs.contracts.Samples.code as code
use Rattle.samples.specs.contracts.Samples.at as at
use Rattle.samples.proofs.sample_at.Kinds as sample_at_kinds
use Rattle.samples.proofs.sample_at.Reads as sample_at
use Rattle.unique.specs.Unique.{OneAnswer, OneAnswerBy}
use Rattle.unique.proofs.Law.{same, both}

module _ {M : Type 1} {𝓤 : Ura M} (𝓛 : Logic 𝓤) (mem : Memory → SProp 𝓤) (run : Routine → Fun 𝓤) where
  pub width_once : OneAnswerBy 𝓤 width.ended (width.clauses 𝓛 mem run)
  width_once κs a g x y s t = both 𝓤 _ _ _ (λ p q. same p q)

  pub height_once : OneAnswerBy 𝓤 height.ended (height.clauses 𝓛 mem run)
  height_once κs a g x y s t = both 𝓤 _ _ _ (λ p q. same p q)

  pub new_once : OneAnswerBy 𝓤 new.ended (new.clauses 𝓛 mem run)
  new_once κs a g x y s t = both 𝓤 _ _ _ (λ p q i. record { plane = same p.0 q.0 i; shape = same p.1 q.1 i })

  pub code_once : OneAnswerBy 𝓤 code.ended (code.clauses 𝓛 mem run)
  code_once κs a g x y s t = both 𝓤 _ _ _ (λ p q. one_answered _ x y (same p.0 q.0) (same p.1 q.1))

  pub at_once : OneAnswerBy 𝓤 at.ended (at.clauses 𝓛 mem run)
  at_once κs a g x y s t = both 𝓤 _ _ _ (λ p q. one_answered _ x y (same p.0 q.0) (same p.1 q.1))

pub sample_at_once : OneAnswer 1 sample_at_kinds.ps sample_at_kinds.r sample_at.Post
sample_at_once κs a x y u v p q = (one_answered _ x y (same p.0 q.0) (same p.1 q.1), refl)
