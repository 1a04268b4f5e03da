-- Nodes and generals where nodes propose in turns: each is the other's way back.
use Rattle.std.proofs.Common.{◌≡◌, ℕ, ◌+◌, ◌-◌, ◌<◌, ◌%◌, refl, sym, ap, ◌∙◌, arith}
use Rattle.std.proofs.Math.Nat.{add-mod_right, add-mod-mod, mod-add-mod, mod-eq_of_lt}
use Rattle.std.proofs.lemmas.Nat.{mod_below}
use Rattle.gen_system.specs.declared.proposers.Proposer.{Proposer}
use Rattle.gen_system.specs.declared.proposers.Proposer.TheVariants.{First, Turns}
use Rattle.gen_system.specs.Runs.{general_by, node_by}

-- n more are once round
once_round : (n v total : ℕ) → v < n → total ≡ v + n → total % n ≡ v
once_round n v total below is = ap (λ (t : ℕ). t % n) is ∙ add-mod_right v n ∙ mod-eq_of_lt below

pub node_back : (n run v : ℕ) → v < n → (run + (v + (n - run % n)) % n) % n ≡ v
node_back n run v below =
    let first : run % n < n = mod_below run n (omega arith) in
    let whole : run % n + (v + (n - run % n)) ≡ v + n = omega arith in
    sym (mod-add-mod run n ((v + (n - run % n)) % n))
    ∙ add-mod-mod (run % n) (v + (n - run % n)) n
    ∙ once_round n v (run % n + (v + (n - run % n))) below whole

pub general_back : (n run g : ℕ) → g < n → ((run + g) % n + (n - run % n)) % n ≡ g
general_back n run g below =
    let first : run % n < n = mod_below run n (omega arith) in
    let whole : (run % n + g) + (n - run % n) ≡ g + n = omega arith in
    ap (λ (t : ℕ). (t + (n - run % n)) % n) (sym (mod-add-mod run n g))
    ∙ mod-add-mod (run % n + g) n (n - run % n)
    ∙ once_round n g ((run % n + g) + (n - run % n)) below whole

-- the run's number may be cut down first
pub node_cut : (n run g : ℕ) → (run % n + g) % n ≡ (run + g) % n
node_cut n run g = mod-add-mod run n g

-- ---- with either proposer

pub general_again : (p : Proposer) (n run g : ℕ) → g < n → general_by p n run (node_by p n run g) ≡ g
general_again First n run g below = refl
general_again Turns n run g below = general_back n run g below

pub node_again : (p : Proposer) (n run v : ℕ) → v < n → node_by p n run (general_by p n run v) ≡ v
node_again First n run v below = refl
node_again Turns n run v below = node_back n run v below

pub general_below : (p : Proposer) (n run v : ℕ) → v < n → general_by p n run v < n
general_below First n run v below = below
general_below Turns n run v below = mod_below _ n (omega (arith, below))
