use Rattle.std.proofs.Common.{rules, ◌≡◌, ◌≢◌, take, drop, sym, ap, ◌∙◌}
use Rattle.gen_lms.specs.PublicKeys.{u32_of}
use Rattle.gen_lms.specs.Signatures.{IsRefused, number_in, one_time_code_in, tree_code_in}
use Rattle.gen_lms.proofs.verifying.verify.Goals as goal

pub returns-then-signature-signature_bytes-clause-err : goal.returns-then-signature-signature_bytes-clause-err
unfolding IsRefused
returns-then-signature-signature_bytes-clause-err c = λ e. c.if-signature-signature_bytes.true (e ∙ sym c.signature_bytes.ensures)

pub returns-then-u32_of-ne-TYPE_CODE-clause-err : goal.returns-then-u32_of-ne-TYPE_CODE-clause-err
unfolding IsRefused
returns-then-u32_of-ne-TYPE_CODE-clause-err c =
    let code : c.u32_of.result ≡ one_time_code_in c.args.signature.now
    = c.u32_of.ensures ∙ ap u32_of (c.split_at-3.ensures.front ∙ ap (take 4) (c.split_at-2.ensures.front ∙ ap (take 2180) c.split_at.ensures.back)) in
    (c.if-signature-signature_bytes.false ∙ c.signature_bytes.ensures, λ e. c.if-u32_of-ne-TYPE_CODE.true (code ∙ e))

pub returns-then-u32_of-type_code-clause-err : goal.returns-then-u32_of-type_code-clause-err
unfolding IsRefused
returns-then-u32_of-type_code-clause-err c =
    let code : c.u32_of.result ≡ one_time_code_in c.args.signature.now
    = c.u32_of.ensures ∙ ap u32_of (c.split_at-3.ensures.front ∙ ap (take 4) (c.split_at-2.ensures.front ∙ ap (take 2180) c.split_at.ensures.back)) in
    let tree : c.u32_of-2.result ≡ tree_code_in c.args.signature.now
    = c.u32_of-2.ensures ∙ ap u32_of (c.split_at-4.ensures.front ∙ ap (take 4) (c.split_at-2.ensures.back ∙ ap (drop 2180) c.split_at.ensures.back)) in (
      c.if-signature-signature_bytes.false ∙ c.signature_bytes.ensures,
      sym code ∙ c.if-u32_of-ne-TYPE_CODE.false,
      λ e. c.if-u32_of-type_code.true (tree ∙ e ∙ sym c.type_code.ensures),
    )

pub returns-then-u32_of-leaves-clause-err : goal.returns-then-u32_of-leaves-clause-err
unfolding IsRefused
returns-then-u32_of-leaves-clause-err c =
    let code : c.u32_of.result ≡ one_time_code_in c.args.signature.now
    = c.u32_of.ensures ∙ ap u32_of (c.split_at-3.ensures.front ∙ ap (take 4) (c.split_at-2.ensures.front ∙ ap (take 2180) c.split_at.ensures.back)) in
    let tree : c.u32_of-2.result ≡ tree_code_in c.args.signature.now
    = c.u32_of-2.ensures ∙ ap u32_of (c.split_at-4.ensures.front ∙ ap (take 4) (c.split_at-2.ensures.back ∙ ap (drop 2180) c.split_at.ensures.back)) in
    let number : c.u32_of-3.result ≡ number_in c.args.signature.now = c.u32_of-3.ensures ∙ ap u32_of c.split_at.ensures.front in (
      c.if-signature-signature_bytes.false ∙ c.signature_bytes.ensures,
      sym code ∙ c.if-u32_of-ne-TYPE_CODE.false,
      sym tree ∙ c.if-u32_of-type_code.false ∙ c.type_code.ensures,
      rw (← number, ← c.leaves.ensures.value) c.if-u32_of-leaves.true,
    )

pub returns-then-not-same_hash-clause-err : goal.returns-then-not-same_hash-clause-err
unfolding IsRefused
returns-then-not-same_hash-clause-err c =
    let code : c.u32_of.result ≡ one_time_code_in c.args.signature.now
    = c.u32_of.ensures ∙ ap u32_of (c.split_at-3.ensures.front ∙ ap (take 4) (c.split_at-2.ensures.front ∙ ap (take 2180) c.split_at.ensures.back)) in
    let tree : c.u32_of-2.result ≡ tree_code_in c.args.signature.now
    = c.u32_of-2.ensures ∙ ap u32_of (c.split_at-4.ensures.front ∙ ap (take 4) (c.split_at-2.ensures.back ∙ ap (drop 2180) c.split_at.ensures.back)) in
    let number : c.u32_of-3.result ≡ number_in c.args.signature.now = c.u32_of-3.ensures ∙ ap u32_of c.split_at.ensures.front in
    let apart : c.implied_root.result ≢ c.args.key.now.root = search rules in (
      c.if-signature-signature_bytes.false ∙ c.signature_bytes.ensures,
      sym code ∙ c.if-u32_of-ne-TYPE_CODE.false,
      sym tree ∙ c.if-u32_of-type_code.false ∙ c.type_code.ensures,
      rw (← number, ← c.leaves.ensures.value) c.if-u32_of-leaves.false,
      λ e. apart (c.implied_root.ensures ∙ e),
    )
