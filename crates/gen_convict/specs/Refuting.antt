-- What answers a claim against a general that kept a follower's log: a text that the log doesn't have, or two
-- texts of the claim and of that log with one hash.
use Rattle.std.specs.Prelude.{ℕ, ◌≡◌, ◌≢◌, ◌⊎◌, List, ◌∷◌}
use Rattle.gen_types.specs.Spelled.{Spells}
use Rattle.gen_ots.specs.Colliding.{AreColliding}
use Rattle.gen_net.specs.Departs.{IsFollowersLog}
use Rattle.gen_net.specs.Header.{RunHeader, IsHeader, header_spelling, run_id_of, run_id_prefix}
use Rattle.gen_log.specs.Links.{head_over, HeadVerifies}
use Rattle.gen_log.specs.Log.{RunLog, IsLog, log_spelling}
use Rattle.gen_log.specs.Signing.{HasSign}
use Rattle.gen_local.specs.declared.texts.SignedText.{SignedText}
use Rattle.gen_local.specs.declared.texts.Text.{Text}
use Rattle.gen_local.specs.declared.texts.Text.TheVariants.{OfStatement, OfHead}
use Rattle.gen_local.specs.Erased.{erased}
use Rattle.gen_local.specs.SignedTexts.{stated, head_in}
use Rattle.gen_convict.specs.Accused.{TextVerifies, command}
use Rattle.gen_convict.specs.Across.{IsOfOtherRun}
use Rattle.gen_convict.specs.Contradictions.{Claim, TwoTexts, TwoOrders, MissingFromLog, DepartingLog, AcrossRuns}
use Rattle.gen_convict.specs.LinkTexts.{LogsCollide}

-- a log of this run that the general could have kept by following, whose head verifies
pub record IsOwnLog (h : RunHeader) (general : ℕ) (own : RunLog) : Type 0 where
  pub reads : IsLog h own
  pub of_run : own.run_id ≡ run_id_of h
  pub followed : IsFollowersLog h.network general (erased own.entries)
  pub sealed : HeadVerifies h general own

-- the log has the text: a statement as a SIGN, or a head as the log's own head
abbrev pub HasText : RunHeader → ℕ → RunLog → Text → Type 0
HasText h general log (OfStatement statement) = HasSign log statement
HasText h general log (OfHead head) = head ≡ head_over h general log.entries

-- the text is the head of the log that the bytes are, with its signature
abbrev pub IsHeadIn : RunHeader → ℕ → List ℕ → SignedText → Type 0
IsHeadIn h general bytes text =
    (log : RunLog) × Spells (IsLog h) log_spelling bytes log × (text ≡ head_in h general log)

-- the text is one of the claim's texts, of the run of this header
abbrev pub IsTextIn : RunHeader → ℕ → Claim → SignedText → Type 0
IsTextIn h accused (TwoTexts first second) text = (text ≡ first) ⊎ (text ≡ second)
IsTextIn h accused (TwoOrders v a w b) text = (text ≡ command v a) ⊎ (text ≡ command w b)
IsTextIn h accused (MissingFromLog bytes s signature) text =
    (text ≡ stated s.order s.path accused signature) ⊎ IsHeadIn h accused bytes text
IsTextIn h accused (DepartingLog bytes p) text = IsHeadIn h accused bytes text
IsTextIn h accused (AcrossRuns x y) text = (text ≡ x.text)

-- an answer to a claim: a text, or two strings of bytes
pub data Refutation : Type 0 where
  Forged : (text : SignedText) → Refutation
  Collision : (a b : List ℕ) → Refutation

-- the text is one of the claim's, it verifies as the accused's, and the accused's own log doesn't have it
pub record IsForged (h : RunHeader) (accused : ℕ) (claim : Claim) (own : RunLog) (text : SignedText)
    : Type 0 where
  pub inside : IsTextIn h accused claim text
  pub verifies : TextVerifies h accused text
  pub absent : HasText h accused own text.text → ⊥

-- the text is forged; if the claim is of two runs, the text is that of the run that the accused's own log
-- isn't of
abbrev pub IsForgedIn : RunHeader → ℕ → Claim → RunLog → SignedText → Type 0
IsForgedIn h accused (TwoTexts x y) own text = IsForged h accused (TwoTexts x y) own text
IsForgedIn h accused (TwoOrders v a w b) own text = IsForged h accused (TwoOrders v a w b) own text
IsForgedIn h accused (MissingFromLog bytes s signature) own text =
    IsForged h accused (MissingFromLog bytes s signature) own text
IsForgedIn h accused (DepartingLog bytes p) own text = IsForged h accused (DepartingLog bytes p) own text
IsForgedIn h accused (AcrossRuns x y) own text =
    IsOfOtherRun accused x own text ⊎ IsOfOtherRun accused y own text

-- the bytes that are hashed for a run id: the prefix and the header's spelling
abbrev pub run_id_text : RunHeader → List ℕ
run_id_text h = run_id_prefix ∷ header_spelling h

-- two headers are not the same and have one run id, and the strings are what is hashed for it, which collides
pub record RunIdsCollide (h k : RunHeader) (a b : List ℕ) : Type 0 where
  pub differ : h ≢ k
  pub ids : run_id_of h ≡ run_id_of k
  pub first : a ≡ run_id_text h
  pub second : b ≡ run_id_text k
  pub collide : AreColliding a b

-- The strings are texts of the claim that collide: of links of its log and of the own log, or of the run ids
-- of its two headers. A claim that has neither a log nor two headers has no such texts.
abbrev pub IsCollisionIn : RunHeader → ℕ → Claim → RunLog → List ℕ → List ℕ → Type 0
IsCollisionIn h accused (TwoTexts x y) own a b = ⊥
IsCollisionIn h accused (TwoOrders v c w d) own a b = ⊥
IsCollisionIn h accused (MissingFromLog bytes s signature) own a b = LogsCollide h accused own bytes a b
IsCollisionIn h accused (DepartingLog bytes p) own a b = LogsCollide h accused own bytes a b
IsCollisionIn h accused (AcrossRuns x y) own a b = RunIdsCollide x.header y.header a b

-- the answer refutes the claim: a text of it is forged, or two texts of it collide
abbrev pub IsRefutation : RunHeader → ℕ → Claim → RunLog → Refutation → Type 0
IsRefutation h accused claim own (Forged text) = IsForgedIn h accused claim own text
IsRefutation h accused claim own (Collision a b) = IsCollisionIn h accused claim own a b

-- the claim is of two runs, and the log is of the run that isn't the evidence's
abbrev pub IsOwnLogOfOther : ℕ → Claim → RunLog → Type 0
IsOwnLogOfOther accused (TwoTexts x y) own = ⊥
IsOwnLogOfOther accused (TwoOrders v a w b) own = ⊥
IsOwnLogOfOther accused (MissingFromLog bytes s signature) own = ⊥
IsOwnLogOfOther accused (DepartingLog bytes p) own = ⊥
IsOwnLogOfOther accused (AcrossRuns x y) own = IsOwnLog y.header accused own

-- the log is of the run of the evidence, or, if the claim is of two runs, of the other run
abbrev pub IsOwnLogFor : RunHeader → ℕ → Claim → RunLog → Type 0
IsOwnLogFor h accused claim own = IsOwnLog h accused own ⊎ IsOwnLogOfOther accused claim own

-- the headers in a claim are lawful
abbrev pub HasHeaders : Claim → Type 0
HasHeaders (TwoTexts x y) = Unit {0}
HasHeaders (TwoOrders v a w b) = Unit {0}
HasHeaders (MissingFromLog bytes s signature) = Unit {0}
HasHeaders (DepartingLog bytes p) = Unit {0}
HasHeaders (AcrossRuns x y) = IsHeader x.header × IsHeader y.header
