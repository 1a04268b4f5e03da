use Rattle.std.proofs.Common.{ℕ, List, Some, None, ◌≡◌, true, false, refl, sym, ◌∙◌, subst, arith, Contains}
use Rattle.gen_core.proofs.Due.{due_told, stopped_told, none_told}
use Rattle.gen_core.proofs.sending.due_at.Goals as goal
use Rattle.gen_core.proofs.sending.due_at.Goals.{then-len-from-via-then-len-from, then-len-from-via-else-len-from+then-contains}

nothing : (path : List ℕ) → None ≡ Some path → ⊥
nothing path e = cc

otherwise : false ≡ true → ⊥
otherwise e = cc

pub returns-in_err-longer : goal.returns-in_err-longer
returns-in_err-longer c = rw c.from_residual.ensures (none_told c.args.net.now c.args.me c.args.adds.now c.args.to c.args.order (λ path at. nothing path ((c.in_err-longer.ensures path).1 at)))

pub returns-then-len-from : goal.returns-then-len-from
returns-then-len-from c = stopped_told c.args.net.now c.args.me c.args.adds.now c.args.to c.args.order c.in_ok-longer.longer ((c.in_ok-longer.ensures c.in_ok-longer.longer).0 refl) (λ in_time new outside. elim c.then-len-from.branch [
  | then-len-from-via-then-len-from w ↦ omega (arith, in_time, w.if-len-from.true, c.len.ensures.length, c.from.ensures, c.rounds.ensures.value)
  | then-len-from-via-else-len-from+then-contains w ↦ new (w.contains.ensures.0 w.if-contains.true)
])

pub returns-then-contains-2 : goal.returns-then-contains-2
returns-then-contains-2 c = stopped_told c.args.net.now c.args.me c.args.adds.now c.args.to c.args.order c.in_ok-longer.longer ((c.in_ok-longer.ensures c.in_ok-longer.longer).0 refl) (λ in_time new outside. outside (subst (λ p. Contains p c.args.to) c.push_new.ensures (c.contains-2.ensures.0 c.if-contains-2.true)))

pub returns : goal.returns
returns c = due_told c.args.net.now c.args.me c.args.adds.now c.args.to c.args.order c.in_ok-longer.longer c.push_new.new.self ((c.in_ok-longer.ensures c.in_ok-longer.longer).0 refl) (c.has_edge.ensures.0 c.if-not-has_edge.false) (omega (arith, c.if-len-from.false, c.len.ensures.length, c.from.ensures, c.rounds.ensures.value)) (λ h. otherwise (sym c.if-contains.false ∙ c.contains.ensures.1 h)) c.push_new.ensures (λ h. otherwise (sym c.if-contains-2.false ∙ c.contains-2.ensures.1 h))
