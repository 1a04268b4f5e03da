use Rattle.std.proofs.Common.{rules, ◌≡◌, ◌==◌, refl}
use Rattle.std.specs.Prelude.{filter}
use Rattle.std.proofs.lemmas.Fn.{filter_same}
use Rattle.sm_embed.specs.RunFacts.{facts_of}
use Rattle.sm_embed.specs.Systems.{numbered}
use Rattle.sm_embed.proofs.systems.header_made.Goals as goal

pub returns-clause-made : goal.returns-clause-made
returns-clause-made c =
    let all = c.in_ok-admitted.admitted in
    let runs : c.retain.new.self.items ≡ filter (λ r. r.number == c.args.run) all.runs.items = filter_same _ _ _ (λ x b f' k. search rules) _ _ c.retain.ensures.filtered in
    let facts : c.push_runs.new.facts.items ≡ facts_of all.system (numbered c.args.run all)
    = rw (c.in_ok-push_runs.ensures, c.new-facts.ensures.items, c.deref.ensures.value, runs) refl in
    record {
      made = c.in_ok-made.made;
      header = c.in_ok-made.ensures.made;
      admitted = all;
      are = rw c.as_ref.ensures.value at c.in_ok-admitted.ensures.admitted;
      parts = λ i. (c.in_ok-made.made.bytes.items, facts i);
    }
