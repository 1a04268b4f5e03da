-- The ranks of messages, as numbers.
use Rattle.std.specs.Prelude.{ℕ, ◌+◌, ◌*◌, ◌/◌, ◌%◌}
use Rattle.gen_match.specs.declared.finding.Finding.{Finding}
use Rattle.gen_match.specs.declared.finding.Finding.TheVariants.{Unmatched, Underivable}
use Rattle.gen_match.specs.declared.kinds.Kind.{Kind}
use Rattle.gen_match.specs.declared.kinds.Kind.TheVariants.{OneSided, Stray}

-- the number of a message's rank: its sender, its receiver, its round and its order
abbrev pub rank_number : ℕ → ℕ → ℕ → ℕ → ℕ
rank_number from to round order = ((from * 16 + to) * 32 + round) * 16 + order

-- the finding of this kind about a message
abbrev pub finding_of : Kind → ℕ → ℕ → ℕ → ℕ → Finding
finding_of OneSided from to round order = Unmatched from to round order
finding_of Stray from to round order = Underivable from to round order

-- the finding of this kind about the message with rank k
abbrev pub finding_at : Kind → ℕ → Finding
finding_at kind k = finding_of kind (k / 8192 % 16) (k / 512 % 16) (k / 16 % 32) (k % 16)
