use Rattle.std.proofs.Common.{◌∙◌, ap}
use Rattle.gen_system.specs.Systems.{RunSystem, system_id_of}
use Rattle.gen_enrolling.proofs.Gathered.{given}
use Rattle.gen_enrolling.proofs.gathering.admission_of_files.Goals as goal

pub returns : goal.returns
returns c =
    given c.args.run c.args.system.now c.args.files.now _ _ _ _ _ _ c.in_ok-system.ensures c.in_ok-set.ensures.value c.in_ok-opened.ensures.value c.in_ok-admission.ensures c.in_ok-write_admission.ensures
    (c.in_ok-id.ensures ∙ ap (λ (s : RunSystem). system_id_of s) c.system-2.ensures.value)
