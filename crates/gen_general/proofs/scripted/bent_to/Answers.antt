use Rattle.std.proofs.Common.{◌≡◌, ◌-◌, ◌∙◌, ◌∷◌, [], ap, sym, length, map, arith}
use Rattle.std.specs.Prelude.{Option, option_to_list}
use Rattle.gen_tree.specs.Sizes.{signature_length}
use Rattle.gen_chain.specs.Chain.{Chain, chain_spelling}
use Rattle.gen_general.specs.declared.scripted.Planned.TheVariants.{Bytes}
use Rattle.gen_scenario.specs.Signing.{bent}
use Rattle.gen_general.proofs.Bending.{has_signature, bent_bytes}
use Rattle.gen_general.proofs.scripted.bent_to.Goals as goal

pub overflow_sub-last_signature : goal.overflow_sub-last_signature
overflow_sub-last_signature c =
    let long = has_signature c.height.result c.in-Some.chain c.height.ensures in
    omega (arith, long, c.signature_bytes.ensures, c.len.ensures, c.in_ok-bytes.bytes.ok.0, ap length c.in_ok-bytes.ensures)

pub returns : goal.returns
returns c =
    let long : c.len.result ≡ length c.in_ok-bytes.bytes.items = cc in
    let place : c.len.result - c.signature_bytes.result ≡ length c.in_ok-bytes.bytes.items - signature_length c.height.result = omega (arith, long, c.signature_bytes.ensures) in
    let parcel : c.new-parcel.result ≡ chain_spelling (bent c.in-Some.chain) = c.new-parcel.ensures ∙ bent_bytes c.height.result c.in-Some.chain c.in_ok-bytes.bytes.items _ _ _ _ c.height.ensures c.in_ok-bytes.ensures place c.index.ensures c.flip_top_bit.ensures in
    ap (λ p. Bytes c.args.to p ∷ []) parcel ∙ ap (λ (o : Option Chain). map (Bytes c.args.to) (map (λ k. chain_spelling (bent k)) (option_to_list o))) (sym c.in-Some.is)
