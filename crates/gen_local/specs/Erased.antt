-- What entries say without their signatures. The algorithm is judged by this alone.
use Rattle.std.specs.Prelude.{List, map}
use Rattle.gen_net.specs.Log.{LogEntry}
use Rattle.gen_log.specs.declared.entries.Entry.{Entry}
use Rattle.gen_log.specs.Entry.{erase}

abbrev pub erased : List Entry → List LogEntry
erased entries = map erase entries
