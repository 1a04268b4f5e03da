-- A store whose pool is lent.
use Rattle.std.specs.Borrow.{Lends, MutBor, Fml}
use Rattle.gen_chain.specs.declared.store.VerifyStore.{VerifyStore}
use Rattle.gen_chain.specs.contracts.store.VerifyStore as store
use Rattle.gen_tree.specs.declared.pool.SignaturePool.{SignaturePool}
use Rattle.gen_tree.specs.contracts.pool.SignaturePool as pool

-- the store is unchanged, whatever is put into the pool that it lends
abbrev pub LendsPool : MutBor VerifyStore → MutBor SignaturePool → Fml
LendsPool s r = Lends store.the_row pool.the_row s r (λ _. s.now)
