use Rattle.std.proofs.Common.{◌≡◌, ℕ, List, ◌++◌, codes, Result, Ok, Err, string_bytes}
use Rattle.std.specs.Prelude.{IfOk}
use Rattle.gen_words.specs.FaultLine.{PointsAtHelp}
use Rattle.gen_words.proofs.blaming.fault_line.Goals as goal

points : {X E : Type 0} (bytes : X → List ℕ) (r : Result X E) (front : List ℕ) → IfOk r (λ s. bytes s ≡ front ++ codes "; for more, try '--help'") → IfOk r (λ s. PointsAtHelp (bytes s))
points bytes (Ok s) front h = (front, h)
points bytes (Err e) front h = tt

pub returns : goal.returns
returns c = points (λ s. string_bytes s) c.format.result _ c.format.ensures.ok
