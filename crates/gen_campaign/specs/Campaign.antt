-- What is shown of a campaign: the bundles of its runs, or a bundle that stands alone.
use Rattle.std.specs.Prelude.{ℕ, ◌≡◌, ◌≢◌, ◌≤◌, ◌&&◌, nat_le, Bool, true, false, List, [], ◌∷◌, length, All, AllPairs}
use Rattle.gen_net.specs.declared.version.Version.{Version}
use Rattle.gen_net.specs.declared.version.Version.TheVariants.{One, Two}
use Rattle.gen_net.specs.Header.{RunHeader, slot_of}
use Rattle.gen_audit.specs.Bundle.{Bundle, IsBundle}

-- what a contract sees of what is shown: whether it is a bundle that stands alone, and the bundles
pub record CampaignBundle : Type 0 where
  pub alone : Bool
  pub bundles : List Bundle

-- the least and the greatest number of runs of a campaign
abbrev pub fewest_runs : ℕ
fewest_runs = 1

abbrev pub most_runs : ℕ
most_runs = 4

-- a campaign may have this many runs
abbrev pub is_run_count : ℕ → Bool
is_run_count count = nat_le fewest_runs count && nat_le count most_runs

-- A run with the header h may stand behind a run with the header before. Both have the same number of
-- generals and the same roots, the slot is not less, and the headers differ.
pub record Joins (before h : RunHeader) : Type 0 where
  pub generals : before.network.generals ≡ h.network.generals
  pub roots : before.roots ≡ h.roots
  pub slot : slot_of before ≤ slot_of h
  pub other : before ≢ h

-- the run of the bundle b may stand behind the run of the bundle before
abbrev pub JoinsRun : Bundle → Bundle → Type 0
JoinsRun before b = Joins before.header b.header

-- the version is 2, in which a tree of keys serves several runs
abbrev pub IsSecond : Version → Type 0
IsSecond One = ⊥
IsSecond (Two slot) = Unit {0}

-- the bundle of a run: one of version 2
pub record IsRunBundle (b : Bundle) : Type 0 where
  pub bundle : IsBundle b
  pub second : IsSecond b.header.version

-- the bundles of 1 to 4 runs, each of which may stand behind each run before it
pub record AreRuns (bundles : List Bundle) : Type 0 where
  pub some : fewest_runs ≤ length bundles
  pub few : length bundles ≤ most_runs
  pub each : All IsRunBundle bundles
  pub joined : AllPairs JoinsRun bundles

-- one bundle, of either version
abbrev pub IsAlone : List Bundle → Type 0
IsAlone (b ∷ []) = IsBundle b
IsAlone bundles = ⊥

-- what holds of the bundles in either form: alone, or of runs
abbrev pub AreShown : Bool → List Bundle → Type 0
AreShown true bundles = IsAlone bundles
AreShown false bundles = AreRuns bundles

abbrev pub IsCampaign : CampaignBundle → Type 0
IsCampaign c = AreShown c.alone c.bundles
