-- The bytes of a bundle of given parts.
use Rattle.std.specs.Prelude.{ℕ, List, Result, Ok}
use Rattle.gen_types.specs.Reading.{◌>>=◌}
use Rattle.gen_net.specs.Header.{RunHeader}
use Rattle.gen_log.specs.Writing.{LogBytes}
use Rattle.gen_audit.specs.declared.bundle_fault.BundleFault.{BundleFault}
use Rattle.gen_audit.specs.BundleMaking.{bundle_with}
use Rattle.gen_audit.specs.BundleSpelling.{bundle_spelling}

-- the bytes of the bundle of these parts, or the first rule of a bundle that the parts break
abbrev pub bundle_bytes : RunHeader → List ℕ → List (List ℕ) → List LogBytes → Result (List ℕ) BundleFault
bundle_bytes h faulty walks logs = bundle_with h faulty walks logs >>= (λ b. Ok (bundle_spelling b))
