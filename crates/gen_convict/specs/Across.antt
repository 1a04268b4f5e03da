-- What convicts a general across two runs: two different texts of the general under one leaf of one tree.
use Rattle.std.specs.Prelude.{ℕ, ◌≡◌, ◌≢◌, ◌⊎◌, List, map}
use Rattle.std.specs.List.{flat_map}
use Rattle.gen_net.specs.declared.version.Version.TheVariants.{Two}
use Rattle.gen_net.specs.Header.{RunHeader, run_id_of}
use Rattle.gen_log.specs.Log.{RunLog}
use Rattle.gen_log.specs.Writing.{LogBytes}
use Rattle.gen_chain.specs.Leaves.{leaf_of_order, leaf_of_head}
use Rattle.gen_local.specs.declared.texts.SignedText.{SignedText}
use Rattle.gen_local.specs.declared.texts.Text.{Text}
use Rattle.gen_local.specs.declared.texts.Text.TheVariants.{OfStatement, OfHead}
use Rattle.gen_convict.specs.declared.run_texts.RunText.{RunText}
use Rattle.gen_convict.specs.Accused.{TextVerifies}
use Rattle.gen_convict.specs.Exhibits.{texts_of}
use Rattle.gen_convict.specs.Firsts.{IsFirstPair}

-- two runs with different headers use the same leaves of the same trees: both have version 2 and one slot, as
-- many generals and the same roots
pub record ShareLeaves (h k : RunHeader) : Type 0 where
  pub slot : ℕ
  pub one : h.version ≡ Two slot
  pub other : k.version ≡ Two slot
  pub generals : h.network.generals ≡ k.network.generals
  pub roots : h.roots ≡ k.roots
  pub unequal : h ≢ k

-- two statements of one order, or two heads
abbrev pub AreOfOneKind : Text → Text → Type 0
AreOfOneKind (OfStatement s) (OfStatement t) = s.order ≡ t.order
AreOfOneKind (OfHead s) (OfHead t) = Unit {0}
AreOfOneKind (OfStatement s) (OfHead t) = ⊥
AreOfOneKind (OfHead s) (OfStatement t) = ⊥

-- two texts of two such runs that have one subject, so stand under one leaf, and differ: texts under unequal
-- run ids do differ
pub record AreRivals (x y : RunText) : Type 0 where
  pub runs : ShareLeaves x.header y.header
  pub kind : AreOfOneKind x.text.text y.text.text
  pub different : (run_id_of x.header ≢ run_id_of y.header) ⊎ (x.text.text ≢ y.text.text)

-- two rivals that both verify as the general's, each under its own header
pub record AreAcross (general : ℕ) (x y : RunText) : Type 0 where
  pub one : TextVerifies x.header general x.text
  pub other : TextVerifies y.header general y.text
  pub rivals : AreRivals x y

-- two texts of the general that contradict each other across runs, the first of the run of this header
pub record IsAcrossFrom (h : RunHeader) (general : ℕ) (x y : RunText) : Type 0 where
  pub of_first : x.header ≡ h
  pub across : AreAcross general x y

-- the text is this text of a run, it verifies as the general's, and the general's own log has another run id:
-- a log has no text of another run
pub record IsOfOtherRun (general : ℕ) (x : RunText) (own : RunLog) (text : SignedText) : Type 0 where
  pub is : text ≡ x.text
  pub verifies : TextVerifies x.header general text
  pub other : own.run_id ≢ run_id_of x.header

-- the leaf under which a text is signed
abbrev pub leaf_of : RunHeader → Text → ℕ
leaf_of h (OfStatement s) = leaf_of_order h s.order
leaf_of h (OfHead t) = leaf_of_head h

-- ---- exhibits of several runs

-- the exhibits of a run, with its header
pub record ShownRun : Type 0 where
  pub header : RunHeader
  pub exhibits : List LogBytes

abbrev pub of_run : RunHeader → SignedText → RunText
of_run h t = record { header = h; text = t }

-- the texts of a general that verify, run by run
unfoldable pub texts_across : List ShownRun → ℕ → List RunText
texts_across runs general =
    flat_map (λ r. map (of_run r.header) (texts_of r.header r.exhibits general)) runs

-- the first pair of the general's texts that are rivals
abbrev pub IsFirstAcross : List ShownRun → ℕ → RunText → RunText → Type 0
IsFirstAcross runs general x y = IsFirstPair AreRivals (texts_across runs general) x y
