-- Laws of where a list of entries departs from every log that a general could keep.
use Rattle.std.specs.Prelude.{ℕ, ◌≡◌, ◌<◌, ◌↔◌, List, [], ◌∷◌, ◌++◌, length}
use Rattle.gen_net.specs.Network.{Network, IsNetwork}
use Rattle.gen_net.specs.Log.{LogEntry, Decided}
use Rattle.gen_net.specs.Departs.{Begins, DepartsAt, IsFollowersLog}
use Rattle.gen_local.specs.Following.{MayFollow, GoesOn}

-- entries begin a log of g if and only if each may follow those before it
abbrev pub BegunByStep : Type 0
BegunByStep =
    (net : Network) (g : ℕ) → IsNetwork net → g < net.generals → (entries : List LogEntry)
    → Begins net g entries ↔ GoesOn net g entries

-- the empty list begins a log, and one more entry goes on if and only if it may follow
abbrev pub BegunByNone : Type 0
BegunByNone = (net : Network) (g : ℕ) → IsNetwork net → g < net.generals → Begins net g []

abbrev pub BegunByOneMore : Type 0
BegunByOneMore =
    (net : Network) (g : ℕ) → IsNetwork net → g < net.generals → (before : List LogEntry) (e : LogEntry)
    → Begins net g (before ++ e ∷ []) ↔ (Begins net g before × MayFollow net g before e)

-- the entries before index p begin a log, and the entry at p may not follow them
pub record FirstRefused (net : Network) (g : ℕ) (entries : List LogEntry) (p : ℕ) : Type 0 where
  pub before : List LogEntry
  pub entry : LogEntry
  pub after : List LogEntry
  pub split : entries ≡ before ++ entry ∷ after
  pub index : length before ≡ p
  pub begun : Begins net g before
  pub refused : MayFollow net g before entry → ⊥

-- a list departs at the first entry that may not follow
abbrev pub DepartsAtFirst : Type 0
DepartsAtFirst =
    (net : Network) (g : ℕ) → IsNetwork net → g < net.generals → (entries : List LogEntry) (p : ℕ)
    → DepartsAt net g entries p ↔ FirstRefused net g entries p

-- the last of the entries is DECIDE
abbrev pub EndsDecided : List LogEntry → Type 0
EndsDecided entries =
    (before : List LogEntry) × (orders : List ℕ) × (order : ℕ)
    × (entries ≡ before ++ Decided orders order ∷ [])

-- a list is a whole log that g could keep if and only if it begins one and ends with DECIDE
abbrev pub WholeLogs : Type 0
WholeLogs =
    (net : Network) (g : ℕ) → IsNetwork net → g < net.generals → (entries : List LogEntry)
    → IsFollowersLog net g entries ↔ (Begins net g entries × EndsDecided entries)
