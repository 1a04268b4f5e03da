-- Two admissions of one system id that admit two headers for one run, and what they show.
use Rattle.std.specs.Prelude.{ℕ, ◌≡◌, ◌≢◌, ◌<◌, ◌⊎◌, List}
use Rattle.gen_ots.specs.Colliding.{AreColliding}
use Rattle.gen_identity.specs.Colliding.{Way, AreMeetingTexts, way_of}
use Rattle.gen_net.specs.Header.{RunHeader}
use Rattle.gen_system.specs.Admissions.{SetAdmission, IsAdmission, opening_in, root_in}
use Rattle.gen_system.specs.Admitting.{Admits, HoldsOf}
use Rattle.gen_system.specs.Systems.{id_text, identity_in}

-- under one id, the first admits a header for the run, and the second another one
pub record AdmitTwo (run : ℕ) (a b : SetAdmission) : Type 0 where
  pub id : List ℕ
  pub header : RunHeader
  pub other : RunHeader
  pub first : Admits id run header a
  pub second : Admits id run other b
  pub differ : header ≢ other

-- a node's identity, which is the same in both, was opened to two roots of one set
pub record OpenedTwice (a b : SetAdmission) (node : ℕ) : Type 0 where
  pub below : node < a.system.header.network.generals
  pub identity : identity_in a.system node ≡ identity_in b.system node
  pub set : a.set ≡ b.set
  pub first : HoldsOf a node
  pub second : HoldsOf b node
  pub differ : root_in a node ≢ root_in b node

-- Two headers for one run under one id show two texts of that id, or a node that opened its identity to two
-- roots of one set.
abbrev pub TwoHeadersTell : Type 0
TwoHeadersTell =
    (run : ℕ) (a b : SetAdmission) → IsAdmission a → IsAdmission b → AdmitTwo run a b
    → AreColliding (id_text a.system) (id_text b.system) ⊎ ((node : ℕ) × OpenedTwice a b node)

-- ---- which texts they are

-- the way of a node's opening from its root to its identity
abbrev pub way_in : SetAdmission → ℕ → Way
way_in a node = way_of a.set (root_in a node) (opening_in a node)

-- x and y are the texts of both system ids, which differ and have one hash
pub record AreIdTexts (a b : SetAdmission) (x y : List ℕ) : Type 0 where
  pub first : x ≡ id_text a.system
  pub second : y ≡ id_text b.system
  pub colliding : AreColliding x y

-- x and y are the texts that a node's openings of two roots hash where they first meet
pub record AreTextsOfNode (a b : SetAdmission) (node : ℕ) (x y : List ℕ) : Type 0 where
  pub opened : OpenedTwice a b node
  pub texts : AreMeetingTexts (way_in a node) (way_in b node) x y

-- two texts that two headers for one run show
abbrev pub AreTextsOfHeaders : SetAdmission → SetAdmission → List ℕ → List ℕ → Type 0
AreTextsOfHeaders a b x y = AreIdTexts a b x y ⊎ ((node : ℕ) × AreTextsOfNode a b node x y)
