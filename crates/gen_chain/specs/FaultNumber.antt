-- The numbers of the rules that a chain can break.
use Rattle.std.specs.Prelude.{ℕ}
use Rattle.gen_chain.specs.declared.fault.ChainFault.{ChainFault}
use Rattle.gen_chain.specs.declared.fault.ChainFault.TheVariants.{Truncated, OrderRange, SignerCount, BadSigner, NotFromCommander}

abbrev pub chain_fault_number : ChainFault → ℕ
chain_fault_number Truncated = 1
chain_fault_number OrderRange = 2
chain_fault_number SignerCount = 3
chain_fault_number BadSigner = 4
chain_fault_number NotFromCommander = 5
