use Rattle.std.proofs.Common.{◌∙◌, codes, refl}
use Rattle.std.proofs.lemmas.Result.{err_from_is_err_and}
use Rattle.clap.specs.Words.{found_of}
use Rattle.clap.proofs.WalkLemmas.{first_value-rows}
use Rattle.gen_words.proofs.Faults.{both_parts, is_given, without}
use Rattle.gen_words.proofs.words.given_in.Goals as goal

pub returns-clause-ok : goal.returns-clause-ok
returns-clause-ok c =
    let met = both_parts _ _ _ _ _ c.in-Some.ensures.name c.in-Some.ensures.rows in
    let found = found_of c.in-Some.inner.now in (
      c.in_ok-matches.ensures.ok.0,
      is_given _ _ _ _ met c.in_ok-matches.ensures.ok.1 (record {
        name = refl;
        capacity = c.get_str.ensures ∙ first_value-rows found (codes "capacity");
        workers = c.get_str-2.ensures ∙ first_value-rows found (codes "workers");
        general = c.get_str-3.ensures ∙ first_value-rows found (codes "general");
        asked = c.get_str-4.ensures ∙ first_value-rows found (codes "run");
        faulty = c.get_str-5.ensures ∙ first_value-rows found (codes "faulty");
        strict = c.get_str-6.ensures ∙ first_value-rows found (codes "strict");
        json = c.get_str-7.ensures ∙ first_value-rows found (codes "json");
        receipts = c.get_str-8.ensures ∙ first_value-rows found (codes "receipts");
        tall = c.get_str-9.ensures ∙ first_value-rows found (codes "tall");
        slot = c.get_str-10.ensures ∙ first_value-rows found (codes "slot");
        print_run = c.get_str-11.ensures ∙ first_value-rows found (codes "print-run");
        file = c.get_str-12.ensures ∙ first_value-rows found (codes "file");
      }),
    )

pub returns-in_err-matches-clause-only : goal.returns-in_err-matches-clause-only
returns-in_err-matches-clause-only c =
    let p = err_from_is_err_and c.from_residual.result c.from_residual.ensures.1 in
    rw p.1 (λ asks. p.2 ∙ c.in_err-matches.ensures.only (without _ _ asks))
