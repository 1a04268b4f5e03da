use Rattle.std.proofs.Common.{◌≡◌, map, take}
use Rattle.sm_embed.specs.Systems.{read_file}
use Rattle.sm_embed.proofs.Files.{taken_file}
use Rattle.sm_embed.proofs.systems.files_of.Given as goal

abbrev pub invariant-loop-file : goal.invariant-loop-file
invariant-loop-file l = map read_file l.read.items ≡ map taken_file (take l.file-index l.files)
