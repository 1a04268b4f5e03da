use Rattle.std.proofs.Common.{◌≡◌, ◌∙◌, sym, ap, arith}
use Rattle.gen_net.specs.Header.{RunHeader}
use Rattle.gen_net.specs.Network.{Network}
use Rattle.gen_system.specs.Systems.{RunSystem, id_text}
use Rattle.gen_system.proofs.TwoHeaders.{not_all, same_system}
use Rattle.gen_system.proofs.colliding.collide_headers.Goals as goal

pub collide_at-requires-clause-system : goal.collide_at-requires-clause-system
collide_at-requires-clause-system c =
    let bytes = sym c.deref.ensures.value ∙ c.same_bytes.ensures.0 c.if-not-same_bytes.false ∙ c.deref-2.ensures.value in
    same_system c.args.first.now.system c.args.second.now.system c.system.ensures.admission.system c.system-2.ensures.admission.system
    (sym (c.in_ok-text.ensures ∙ ap id_text c.system.ensures.value) ∙ bytes ∙ (c.in_ok-other_text.ensures ∙ ap id_text c.system-2.ensures.value))

pub unreachable-requires : goal.unreachable-requires
unreachable-requires c =
    let bytes = sym c.deref.ensures.value ∙ c.same_bytes.ensures.0 c.if-not-same_bytes.false ∙ c.deref-2.ensures.value in
    let same : c.args.first.now.system ≡ c.args.second.now.system
    = same_system c.args.first.now.system c.args.second.now.system c.system.ensures.admission.system c.system-2.ensures.admission.system
    (sym (c.in_ok-text.ensures ∙ ap id_text c.system.ensures.value) ∙ bytes ∙ (c.in_ok-other_text.ensures ∙ ap id_text c.system-2.ensures.value)) in
    let count : c.generals-number-end.result ≡ c.args.first.now.system.header.network.generals
    = c.generals-number-end.ensures.value ∙ ap (λ (n : Network). n.generals) (c.net.ensures.value ∙ ap (λ (h : RunHeader). h.network) (c.header.ensures.value ∙ ap (λ (s : RunSystem). s.header) c.system-3.ensures.value)) in
    not_all c.args.first.now c.args.second.now c.args.run c.requires same (λ v lt. c.nodes.invariant v (omega (arith, lt, count, c.nodes-test.false)))
