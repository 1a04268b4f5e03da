use Rattle.std.proofs.Common.{◌∙◌, List, map, ap}
use Rattle.std.proofs.lemmas.List.{take_all}
use Rattle.sm_embed.specs.declared.systems.SmRoots.{SmRoots}
use Rattle.sm_embed.proofs.Files.{same_files, taken_file}
use Rattle.sm_embed.proofs.systems.files_of.Goals as goal

pub returns : goal.returns
returns c =
    c.loop-file.invariant
    ∙ ap (λ (fs : List SmRoots). map taken_file fs) (take_all c.loop-file.file-index _ c.loop-file-test.false)
    ∙ same_files c.args.files.now c.requires
