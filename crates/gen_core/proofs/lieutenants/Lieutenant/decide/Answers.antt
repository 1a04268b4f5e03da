use Rattle.std.proofs.Common.{◌≡◌, ap}
use Rattle.gen_core.specs.Seeing.{Lieutenant}
use Rattle.gen_core.proofs.Seeing.{decides_of}
use Rattle.gen_core.proofs.lieutenants.Lieutenant.decide.Goals as goal

pub returns : goal.returns
returns c = λ net run saw.
    let known : c.self.inside.known ≡ c.args.self.now.known = ap (λ (s : Lieutenant). s.known) c.self.view_is in
    let choice : c.self.inside.choice ≡ c.args.self.now.choice = ap (λ (s : Lieutenant). s.choice) c.self.view_is in
    record {
      set = rw known (decides_of net run c.args.self.now saw c.requires);
      chosen = rw (← saw.choice, ← choice) c.choose.ensures;
    }
