use Rattle.std.proofs.Common.{◌≡◌, ◌-◌, ℕ, List, length, Result, Ok, Err, refl, arith}
use Rattle.std.proofs.lemmas.Result.{err_from_is_err_and}
use Rattle.gen_types.specs.declared.reading.ReadError.{ReadError}
use Rattle.gen_types.specs.declared.reading.ReadError.TheVariants as errors
use Rattle.gen_types.specs.Reading.{Fails}
use Rattle.gen_types.specs.Spelled.{counted}
use Rattle.gen_types.proofs.Front.{front_found, front_only, front_shorter}
use Rattle.gen_chain.specs.declared.fault.ChainFault.{ChainFault}
use Rattle.gen_chain.specs.Chain.{Chain, IsSignedChain, chain_spelling}
use Rattle.gen_chain.specs.ChainReading.{chain_at}
use Rattle.gen_chain.proofs.ChainLaws.{chains_read}
use Rattle.gen_chain.proofs.reading.read_chain_with.Goals as goal

-- what fails to be read isn't counted either
not_counted : (e : ReadError ChainFault) (read : List ℕ → Result (Chain × List ℕ) ChainFault) (bytes : List ℕ) → Fails e (read bytes) → Fails e (counted read bytes)
not_counted errors.Memory read bytes fails = tt
not_counted (errors.Fault fault) read bytes fails = rw fails refl

pub overflow_sub-result : goal.overflow_sub-result
overflow_sub-result c = front_shorter (chain_at c.args.height) chain_spelling (IsSignedChain c.args.height) (chains_read c.args.height) c.args.bytes.now _ _ (λ i. omega (arith, c.type_inv.bytes i)) c.in_ok-chain.ensures

pub returns-in_err-chain-clause-only : goal.returns-in_err-chain-clause-only
returns-in_err-chain-clause-only c =
    let p = err_from_is_err_and c.from_residual.result c.from_residual.ensures.1 in
    rw (p.1, p.2) (front_only (chain_at c.args.height) chain_spelling (IsSignedChain c.args.height) (chains_read c.args.height) c.args.bytes.now (Err c.in_err-chain.field-0.0) (not_counted c.in_err-chain.field-0.0 (chain_at c.args.height) c.args.bytes.now c.in_err-chain.ensures))

pub returns-clause-found : goal.returns-clause-found
returns-clause-found c =
    let read : counted (chain_at c.args.height) c.args.bytes.now ≡ Ok (c.in_ok-chain.chain, length c.args.bytes.now - length c.in_ok-chain.rest.now) = rw c.in_ok-chain.ensures refl in
    front_found (chain_at c.args.height) chain_spelling (IsSignedChain c.args.height) (chains_read c.args.height) c.args.bytes.now (Ok (c.in_ok-chain.chain, length c.args.bytes.now - length c.in_ok-chain.rest.now)) (λ i. omega (arith, c.type_inv.bytes i)) read

pub returns-clause-only : goal.returns-clause-only
returns-clause-only c =
    let read : counted (chain_at c.args.height) c.args.bytes.now ≡ Ok (c.in_ok-chain.chain, length c.args.bytes.now - length c.in_ok-chain.rest.now) = rw c.in_ok-chain.ensures refl in
    front_only (chain_at c.args.height) chain_spelling (IsSignedChain c.args.height) (chains_read c.args.height) c.args.bytes.now (Ok (c.in_ok-chain.chain, length c.args.bytes.now - length c.in_ok-chain.rest.now)) read
