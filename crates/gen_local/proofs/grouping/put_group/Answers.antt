use Rattle.std.proofs.Common.{◌≡◌, refl, All, List, map, length, arith, ap, subst, sym, ◌∙◌}
use Rattle.std.proofs.lemmas.List.{length-map, nil_from_length}
use Rattle.std.proofs.lemmas.List.Elements.{All-head, All-tail}
use Rattle.gen_local.specs.declared.opening.Opened.{Opened}
use Rattle.gen_local.specs.Endings.{ending_over}
use Rattle.gen_local.specs.Opened.{IsOpened, exhibits_of, logs_in}
use Rattle.gen_local.proofs.Grouped.{few_logs, of_network, none_put, one_put, all_put}
use Rattle.gen_local.proofs.grouping.put_group.Goals as goal

pub endings_of-requires-clause-few : goal.endings_of-requires-clause-few
endings_of-requires-clause-few g c =
    let opened = c.in_ok-opened.opened.items in
    let shown : length opened ≡ length c.args.exhibits.now = sym (length-map opened (λ (o : Opened). o.exhibit)) ∙ ap length c.in_ok-opened.ensures.exhibits in
    rw (c.as_slice-3.ensures.value, c.in_ok-texts.ensures, c.as_slice-2.ensures.value) (omega (arith, few_logs opened, shown, c.requires.few))

pub endings_of-requires-clause-generals : goal.endings_of-requires-clause-generals
endings_of-requires-clause-generals g c =
    rw (c.as_slice-3.ensures.value, c.in_ok-texts.ensures, c.as_slice-2.ensures.value) (of_network c.args.header.now c.in_ok-opened.opened.items c.in_ok-opened.ensures.opened)

pub texts_of-requires : goal.texts_of-requires
texts_of-requires g c = (c.args.header.now, rw c.as_slice-2.ensures.value c.in_ok-opened.ensures.opened)

pub loop-one-init : goal.loop-one-init
loop-one-init g c =
    let all = c.into_iter-one-iterator.ensures.into_iter_gives.0 in
    record {
      serves = c.exchange-2.ensures.serves;
      grows = λ t answer kept. c.exchange-2.ensures.grows t answer (c.exchange.ensures.grows t answer (c.verify_signs.ensures.grows t answer (c.open_each.ensures.grows t answer kept)));
      opened = rw all c.in_ok-opened.ensures.opened;
      endings = rw (all, c.as_slice-rest.ensures.value, c.in_ok-endings.ensures, c.as_slice-3.ensures.value, c.in_ok-texts.ensures, c.as_slice-2.ensures.value) refl;
      done = none_put c.args.header.now _ c.args.reports.now.items _ (ap exhibits_of all ∙ c.in_ok-opened.ensures.exhibits);
    }

pub loop-one-preserved : goal.loop-one-preserved
loop-one-preserved g c =
    let h = c.args.header.now in
    let o = c.in-Some.one in
    let split = c.in-Some.ensures.steps.0 in
    let are = subst (λ (xs : List Opened). All (IsOpened h) xs) split c.loop-one.invariant.opened in
    let endings = subst (λ (xs : List Opened). c.loop-one.rest.now ≡ map (ending_over h) (logs_in xs)) split c.loop-one.invariant.endings in
    record {
      serves = c.report_of.ensures.serves;
      grows = λ t answer kept. c.report_of.ensures.grows t answer (c.loop-one.invariant.grows t answer kept);
      opened = All-tail (IsOpened h) o _ are;
      endings = c.next_ending.ensures.rest h _ endings;
      done = rw c.in_ok-push.ensures.items (one_put h _ c.args.reports.now.items c.loop-one.reports.items _ _ o c.in_ok-report.report split c.in_ok-report.ensures.header c.in_ok-report.ensures.exhibit c.in_ok-report.ensures.report c.loop-one.invariant.done);
    }

pub report_of-requires-clause-opened : goal.report_of-requires-clause-opened
report_of-requires-clause-opened g c =
    let h = c.args.header.now in
    All-head (IsOpened h) c.in-Some.one _ (subst (λ (xs : List Opened). All (IsOpened h) xs) c.in-Some.ensures.steps.0 c.loop-one.invariant.opened)

pub report_of-requires-clause-ending : goal.report_of-requires-clause-ending
report_of-requires-clause-ending g c =
    let h = c.args.header.now in
    c.next_ending.ensures.ending h _ (subst (λ (xs : List Opened). c.loop-one.rest.now ≡ map (ending_over h) (logs_in xs)) c.in-Some.ensures.steps.0 c.loop-one.invariant.endings)

pub returns-clause-put : goal.returns-clause-put
returns-clause-put g c = all_put c.args.header.now _ c.args.reports.now.items c.loop-one.reports.items _ (nil_from_length _ (omega (arith, c.loop-one.one-iterator.rest.ok, c.in-None.ensures.steps.0))) c.loop-one.invariant.done
