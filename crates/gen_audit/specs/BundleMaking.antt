-- Which parts make a bundle, and which rule other parts break first.
use Rattle.std.specs.Prelude.{ℕ, ◌^◌, Bool, ◌&&◌, List, length, Result, Ok, nat_lt, nat_le}
use Rattle.std.specs.List.{list_all}
use Rattle.gen_types.specs.Reading.{◌>>=◌, check}
use Rattle.gen_net.specs.Edges.{goes_before}
use Rattle.gen_net.specs.Header.{RunHeader}
use Rattle.gen_net.specs.NetworkOf.{is_within}
use Rattle.gen_log.specs.Writing.{LogBytes}
use Rattle.gen_audit.specs.declared.bundle_fault.BundleFault.{BundleFault}
use Rattle.gen_audit.specs.declared.bundle_fault.BundleFault.TheVariants as faults
use Rattle.gen_audit.specs.Behind.{check_behind}
use Rattle.gen_audit.specs.Bundle.{Bundle}
use Rattle.gen_audit.specs.BundleParts.{most_walks, fewest_in_walk, most_in_walk, most_exhibits, ends_of}

-- all are below n
abbrev pub are_below : ℕ → List ℕ → Bool
are_below n numbers = list_all (λ v. nat_lt v n) numbers

-- a walk may have this many generals
abbrev pub is_walk_length : ℕ → Bool
is_walk_length count = is_within fewest_in_walk most_in_walk count

-- the pair before the ends of the first walk
abbrev pub no_ends : ℕ × ℕ
no_ends = (0, 0)

-- the first general of a walk is less than its last, and this pair comes after the ends of the walk before
abbrev pub may_follow : ℕ × ℕ → List ℕ → Bool
may_follow before walk = nat_lt (ends_of walk).0 (ends_of walk).1 && goes_before before (ends_of walk)

-- the check of one walk after the ends of the walk before, and the check of all walks
unfoldable pub walk_check : ℕ → ℕ × ℕ → List ℕ → Result (Unit {0}) BundleFault
walk_check n before walk = do
  size ← check (is_walk_length (length walk)) faults.WalkCount
  known ← check (are_below n walk) faults.BadWalk
  check (may_follow before walk) faults.BadWalk

unfoldable pub walks_check : ℕ → List (List ℕ) → Result (Unit {0}) BundleFault
walks_check n walks = do
  few ← check (nat_le (length walks) most_walks) faults.WalkCount
  check_behind (walk_check n) ends_of no_ends walks

-- the check of one exhibit after the general of the exhibit before, and the check of all exhibits
abbrev pub shown_general : LogBytes → ℕ
shown_general x = x.general

unfoldable pub exhibit_check : ℕ → ℕ → LogBytes → Result (Unit {0}) BundleFault
exhibit_check n before x = do
  known ← check (nat_lt x.general n) faults.BadExhibit
  ordered ← check (nat_le before x.general) faults.OutOfOrder
  check (nat_lt (length x.bytes) (2 ^ 32)) faults.LongLog

unfoldable pub exhibits_check : ℕ → List LogBytes → Result (Unit {0}) BundleFault
exhibits_check n exhibits = do
  few ← check (nat_le (length exhibits) most_exhibits) faults.BadExhibit
  check_behind (exhibit_check n) shown_general 0 exhibits

-- the bundle of these parts, or the first rule that they break
unfoldable pub bundle_with : RunHeader → List ℕ → List (List ℕ) → List LogBytes → Result Bundle BundleFault
bundle_with h faulty walks exhibits = do
  members ← check (are_below h.network.generals faulty) faults.FaultyRange
  led ← walks_check h.network.generals walks
  shown ← exhibits_check h.network.generals exhibits
  Ok (record { header = h; faulty = faulty; walks = walks; exhibits = exhibits })
