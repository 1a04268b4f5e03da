-- Where an input comes from, and which jobs write bytes.
use Rattle.std.specs.Prelude.{ℕ, Bool, true, false, if◌then◌else◌, List, codes, Option, Some, None}
use Rattle.std.specs.Bool.{nat_eq}
use Rattle.std.specs.Cmp.Lexicographic.{pointwise}
use Rattle.gen_asked.specs.declared.jobs.Job.{Job}
use Rattle.gen_asked.specs.declared.jobs.Job.TheVariants as jobs
use Rattle.gen_program.specs.declared.sources.Source.{Source}
use Rattle.gen_program.specs.declared.sources.Source.TheVariants.{Standard, Named}

-- the name of the file that an input is; None for standard input
abbrev pub name_of : Source → Option (List ℕ)
name_of Standard = None
name_of (Named name) = Some name.now

-- the file that a word names; None for a minus, which stands for standard input
abbrev pub named_by : List ℕ → Option (List ℕ)
named_by word = if pointwise nat_eq word (codes "-") then None else Some word

-- whether a job writes bytes, and no text
abbrev pub writes_bytes : Job → Bool
writes_bytes (jobs.Run n) = true
writes_bytes (jobs.Campaign n) = true
writes_bytes (jobs.Accuse g asked) = true
writes_bytes (jobs.AccuseReceipts g asked) = true
writes_bytes (jobs.Receipt g asked) = true
writes_bytes (jobs.Header version) = true
writes_bytes job = false
