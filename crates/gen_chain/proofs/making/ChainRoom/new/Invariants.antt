use Rattle.std.proofs.Common.{◌≡◌, ◌+◌, vec_len}
use Rattle.gen_chain.proofs.making.ChainRoom.new.Given as goal

abbrev pub invariant-rooms : goal.invariant-rooms
invariant-rooms l = vec_len l.copies + 1 ≡ l._room
