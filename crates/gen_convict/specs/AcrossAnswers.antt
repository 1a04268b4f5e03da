-- What answers two texts of two runs: the text of the run that the log isn't of, or two headers with one
-- hash.
use Rattle.std.specs.Prelude.{ℕ, ◌≡◌, ◌≢◌, ◌⊎◌}
use Rattle.gen_net.specs.Header.{RunHeader, IsHeader, run_id_of}
use Rattle.gen_log.specs.Log.{RunLog}
use Rattle.gen_convict.specs.declared.run_texts.RunText.{RunText}
use Rattle.gen_convict.specs.Across.{IsOfOtherRun}
use Rattle.gen_ots.specs.Colliding.{AreColliding}
use Rattle.gen_convict.specs.Refuting.{Refutation, Forged, Collision, run_id_text, RunIdsCollide}

-- the answer is one of the two texts, of the run that the log isn't of, or what is hashed for one run id of
-- both headers
abbrev pub IsAnswerAcross : ℕ → RunText → RunText → RunLog → Refutation → Type 0
IsAnswerAcross general x y own (Forged text) =
    IsOfOtherRun general x own text ⊎ IsOfOtherRun general y own text
IsAnswerAcross general x y own (Collision a b) = RunIdsCollide x.header y.header a b

-- if two different headers have one run id, the bytes that are hashed for it collide
abbrev pub HeadersCollide : Type 0
HeadersCollide =
    (h k : RunHeader) → IsHeader h → IsHeader k → h ≢ k → run_id_of h ≡ run_id_of k
    → AreColliding (run_id_text h) (run_id_text k)
