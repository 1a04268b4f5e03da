use Rattle.std.proofs.Common.{◌≡◌, ◌≤◌, ◌+◌, vec_len, vec_capacity}
use Rattle.gen_general.specs.Loops.Journals.{entries_by, signs_at}
use Rattle.gen_scenario.specs.RoundEntries.{sign_of}
use Rattle.gen_general.proofs.participants.Participant.sign_entries.Given as goal

abbrev pub invariant-orders : goal.invariant-orders
invariant-orders l = record {
  written : l.entries.items ≡ entries_by sign_of (signs_at l.self) l.number;
  rooms : l.self.known.header.network.orders ≤ vec_len l.rooms + l.number;
  room : l.self.known.header.network.orders ≤ vec_capacity l.entries;
  few : vec_len l.entries ≤ l.number;
}
