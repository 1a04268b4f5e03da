-- Reserved room for signers, one after another.
use Rattle.std.proofs.Common.{◌≡◌, ℕ, ◌+◌, ◌<◌, ◌≤◌, suc, List, length, take, get_or, Result, Ok, Err, refl, sym, ap, arith}
use Rattle.std.specs.Prelude.{OnErr}
use Rattle.std.specs.List.{flat_map}
use Rattle.std.specs.Result.{IsOk}
use Rattle.std.proofs.lemmas.List.Folds.{length-flat_map-take}
use Rattle.gen_chain.specs.declared.chains.Signer.{Signer}
use Rattle.gen_chain.specs.Chain.{signer_spelling, signers_length}

-- those before a signer and he himself take no more bytes than all
pub signer_fits : (signers : List Signer) (i : ℕ) (s : Signer) → i < length signers → s ≡ get_or signers i s → length (flat_map signer_spelling (take i signers)) + suc (length s.signature) ≤ signers_length signers
signer_fits signers i s lt is =
    let all = length-flat_map-take signer_spelling signers i s lt in
    let his : length (signer_spelling (get_or signers i s)) ≡ suc (length s.signature) = ap (λ (t : Signer). length (signer_spelling t)) (sym is) in
    omega (arith, all, his)

-- a call that fails only where there is no room
pub ok_with_room : {X E : Type 0} (r : Result X E) (Short : Type 0) → OnErr r Short → (Short → ⊥) → IsOk r
ok_with_room (Ok x) Short short room = refl
ok_with_room (Err e) Short short room = absurd (room short)
