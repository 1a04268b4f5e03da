-- How many runs a campaign may have, as the test says.
use Rattle.std.proofs.Common.{◌≡◌, ℕ, ◌≤◌, true, nat_le, refl}
use Rattle.std.proofs.lemmas.Bool.{leb-true, le-leb}
use Rattle.gen_types.proofs.Decimals.{both}
use Rattle.gen_campaign.specs.Campaign.{fewest_runs, most_runs, is_run_count}

pub count_known : (n : ℕ) → is_run_count n ≡ true → (fewest_runs ≤ n) × (n ≤ most_runs)
count_known n e = let p = both (nat_le fewest_runs n) (nat_le n most_runs) e in (leb-true fewest_runs n p.0, leb-true n most_runs p.1)

pub count_fits : (n : ℕ) → fewest_runs ≤ n → n ≤ most_runs → is_run_count n ≡ true
count_fits n some few = rw (le-leb fewest_runs n some, le-leb n most_runs few) refl
