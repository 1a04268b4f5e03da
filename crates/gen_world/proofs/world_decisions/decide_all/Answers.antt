use Rattle.std.proofs.Common.{◌≡◌, ◌<◌, ◌∷◌, ◌++◌, [], sym, subst, arith, rules}
use Rattle.gen_net.specs.Network.{rounds}
use Rattle.gen_general.specs.Participant.{Participant}
use Rattle.gen_general.specs.Driving.{StandsAfter, decided_of}
use Rattle.gen_general.proofs.Worlds.{decided_more}
use Rattle.gen_world.proofs.world_decisions.decide_all.Goals as goal

pub parts-preserved-then-has_script : goal.parts-preserved-then-has_script
parts-preserved-then-has_script c =
    let s = c.args.scenario.now in
    let g = c.parts.index in
    let p = c.index-parts-index.result in
    let known : g < s.net.generals = omega (arith, c.parts-test.true, c.requires.count) in
    let stood = subst (λ (x : Participant). StandsAfter s (rounds s.net) g x) (sym c.index-parts-index.is) (c.requires.each g p known) in
    let stands : StandsAfter s (rounds s.net) p.known.me p = subst (λ k. StandsAfter s (rounds s.net) k p) (sym stood.part.me) stood in
    let added : c.parts.decisions.items ≡ c.parts.decisions.items ++ decided_of s (p.known.me ∷ []) = search rules in
    decided_more s g c.parts.decisions.items c.parts.decisions.items c.parts.invariant (rw stood.part.me at added)

pub parts-preserved : goal.parts-preserved
parts-preserved c =
    let s = c.args.scenario.now in
    let g = c.parts.index in
    let p = c.index-parts-index.result in
    let known : g < s.net.generals = omega (arith, c.parts-test.true, c.requires.count) in
    let stood = subst (λ (x : Participant). StandsAfter s (rounds s.net) g x) (sym c.index-parts-index.is) (c.requires.each g p known) in
    let stands : StandsAfter s (rounds s.net) p.known.me p = subst (λ k. StandsAfter s (rounds s.net) k p) (sym stood.part.me) stood in
    let added : c.push.new.self.items ≡ c.parts.decisions.items ++ decided_of s (p.known.me ∷ []) = search rules in
    decided_more s g c.parts.decisions.items c.push.new.self.items c.parts.invariant (rw stood.part.me at added)
