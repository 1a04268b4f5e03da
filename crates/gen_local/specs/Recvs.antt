-- Which entries are RECVs of a chain.
use Rattle.std.specs.Prelude.{ℕ, List, length, Contains, Bool, false, ◌&&◌, ◌==◌}
use Rattle.std.specs.Bool.{nat_eq}
use Rattle.std.specs.Cmp.Lexicographic.{pointwise}
use Rattle.gen_chain.specs.Chain.{signed_path}
use Rattle.gen_net.specs.Log.{LogEntry, Received}
use Rattle.gen_log.specs.declared.entries.Entry.{Entry}
use Rattle.gen_log.specs.declared.entries.Entry.TheVariants.{Recv}

-- the entries have a RECV of this order and path
abbrev pub HasRecv : List LogEntry → ℕ → List ℕ → Type 0
HasRecv before v path = (from : ℕ) × Contains before (Received from v path)

-- the entry is a RECV of this order and path
abbrev pub is_recv_of : ℕ → List ℕ → Entry → Bool
is_recv_of v path (Recv from chain) =
    chain.order == v
    && (length chain.signers == length path && pointwise nat_eq (signed_path chain.signers) path)
is_recv_of v path _ = false
