use Rattle.std.proofs.Common.{◌≡◌, refl, sym, subst, Ok}
use Rattle.gen_chain.specs.StoredChain.{KeepsSigners}
use Rattle.gen_chain.specs.Verifying.{EachHasSigned}
use Rattle.gen_chain.proofs.DistinctPaths.{AreDistinct, next_fits, next_is_new}
use Rattle.gen_chain.proofs.SignedSoFar.{joined}
use Rattle.gen_chain.proofs.StoredSoFar.{Checks, StoredSoFar, checks_of, stored_ahead, stored_first, stored_on, stored_stop, grown_next, known_next, count_stop, signed_so_far}
use Rattle.gen_chain.proofs.store.VerifyStore.are_signed.Goals as goal
use Rattle.gen_chain.proofs.store.VerifyStore.are_signed.Goals.{After-saturating_sub-ahead, Then-not-signed}

pub loop-signer-init : goal.loop-signer-init
loop-signer-init c = rw c.new-path.ensures (stored_first c.args.header.now c.args.order c.args.signers.now c.args.self.now c.requires.serves)

pub look_ahead-requires-clause-distinct : goal.look_ahead-requires-clause-distinct
look_ahead-requires-clause-distinct c = subst AreDistinct (sym (joined _ _ _ _ _ (signed_so_far _ _ _ _ _ _ _ _ c.loop-signer.invariant))) c.requires.distinct

pub push_new-requires-clause-room : goal.push_new-requires-clause-room
push_new-requires-clause-room c = next_fits c.loop-signer.path c.loop-signer.rest.now c.in-Some.others.now c.args.signers.now c.in-Some.signer.now c.requires.few c.in-Some.ensures.cases.0 (joined _ _ _ _ _ (signed_so_far _ _ _ _ _ _ _ _ c.loop-signer.invariant))

pub push_new-requires-clause-new : goal.push_new-requires-clause-new
push_new-requires-clause-new c = next_is_new c.loop-signer.path c.loop-signer.rest.now c.in-Some.others.now c.args.signers.now c.in-Some.signer.now c.requires.distinct c.in-Some.ensures.cases.0 (joined _ _ _ _ _ (signed_so_far _ _ _ _ _ _ _ _ c.loop-signer.invariant))

stop_ahead : (c : Then-not-signed) → StoredSoFar c.args.header.now c.args.order c.args.signers.now c.loop-signer.rest.now c.loop-signer.path c.in_ok-next.next c.args.self.now c.look_ahead.new.self
stop_ahead c = stored_ahead _ _ _ _ _ _ _ _ _ _ c.loop-signer.invariant c.in-Some.ensures.cases.0 _ (λ is. (c.look_ahead.ensures.known _ _ c.in-Some.ensures.cases.0 is).1) _ c.in_ok-next.ensures.ahead c.look_ahead.ensures.grows c.look_ahead.ensures.serves

stopping : (c : Then-not-signed) → Checks c.args.header.now c.args.order c.push_new.new.self c.look_ahead.new.self c.in-Some.signer.now c.check.new.self
stopping c = checks_of c.args.header.now c.args.order c.push_new.new.self c.look_ahead.new.self c.in-Some.signer.now c.check.new.self c.in_ok-signed.signed (λ b. c.check.result ≡ Ok b) c.in_ok-signed.ensures.kept c.in_ok-signed.ensures.grows c.in_ok-signed.ensures.serves c.check.ensures.known

stopped : (c : Then-not-signed) → (EachHasSigned c.args.header.now c.args.order c.args.signers.now → ⊥) × KeepsSigners c.args.header.now c.check.new.self c.args.order c.args.signers.now
stopped c = stored_stop _ _ _ _ _ _ _ _ _ _ _ (stop_ahead c) c.in-Some.ensures.cases.0 c.push_new.ensures _ (stopping c) (λ h. let t = c.in_ok-signed.ensures.answer.1 h in absurd cc)

pub returns-then-not-signed-clause-value : goal.returns-then-not-signed-clause-value
returns-then-not-signed-clause-value c = (λ t. absurd cc, λ all. absurd ((stopped c).0 all))

pub returns-then-not-signed-clause-kept : goal.returns-then-not-signed-clause-kept
returns-then-not-signed-clause-kept c = (stopped c).1

pub returns-then-not-signed-clause-known : goal.returns-then-not-signed-clause-known
returns-then-not-signed-clause-known c = λ all. (refl, known_next _ _ _ _ _ _ _ _ _ _ _ (stop_ahead c) c.in-Some.ensures.cases.0 c.push_new.ensures _ (stopping c) all)

pub returns-then-not-signed-clause-count : goal.returns-then-not-signed-clause-count
returns-then-not-signed-clause-count c = count_stop _ _ _ _ _ _ _ _ _ _ _ (stop_ahead c) c.in-Some.ensures.cases.0 c.push_new.ensures _ (stopping c)

pub returns-then-not-signed-clause-grows : goal.returns-then-not-signed-clause-grows
returns-then-not-signed-clause-grows c = grown_next _ _ _ _ _ _ _ _ _ _ _ (stop_ahead c) c.in-Some.ensures.cases.0 c.push_new.ensures _ (stopping c)

go_ahead : (c : After-saturating_sub-ahead) → StoredSoFar c.args.header.now c.args.order c.args.signers.now c.loop-signer.rest.now c.loop-signer.path c.in_ok-next.next c.args.self.now c.look_ahead.new.self
go_ahead c = stored_ahead _ _ _ _ _ _ _ _ _ _ c.loop-signer.invariant c.in-Some.ensures.cases.0 _ (λ is. (c.look_ahead.ensures.known _ _ c.in-Some.ensures.cases.0 is).1) _ c.in_ok-next.ensures.ahead c.look_ahead.ensures.grows c.look_ahead.ensures.serves

going_on : (c : After-saturating_sub-ahead) → Checks c.args.header.now c.args.order c.push_new.new.self c.look_ahead.new.self c.in-Some.signer.now c.check.new.self
going_on c = checks_of c.args.header.now c.args.order c.push_new.new.self c.look_ahead.new.self c.in-Some.signer.now c.check.new.self c.in_ok-signed.signed (λ b. c.check.result ≡ Ok b) c.in_ok-signed.ensures.kept c.in_ok-signed.ensures.grows c.in_ok-signed.ensures.serves c.check.ensures.known

pub loop-signer-preserved : goal.loop-signer-preserved
loop-signer-preserved c = stored_on _ _ _ _ _ _ _ _ _ _ _ (go_ahead c) c.in-Some.ensures.cases.0 c.push_new.ensures _ (going_on c) c.saturating_sub-ahead.result c.saturating_sub-ahead.ensures (c.in_ok-signed.ensures.answer.0 c.if-not-signed.false)
