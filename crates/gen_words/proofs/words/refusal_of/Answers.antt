use Rattle.std.proofs.Common.{rules, ◌≡◌, ◌&&◌, Bool, true, false, refl, option_map, if◌then◌else◌}
use Rattle.gen_words.specs.Jobs.{number_between}
use Rattle.gen_words.specs.Tool.{is_missing, takes_capacity, takes_faulty, takes_general, takes_runs, takes_slot, takes_workers}
use Rattle.gen_words.specs.declared.words.WordsFault.TheVariants.{NoCommand, BadCapacity, BadWorkers, BadGeneral, BadSlot, BadRun, BadFaulty}
use Rattle.gen_words.proofs.words.refusal_of.Goals as goal

-- the fourth test, the fifth, the sixth, or none
slot_alone : (a b c s d e : Bool) → a ≡ false → b ≡ false → c ≡ false → s ≡ true → BadSlot ≡ (if a then BadCapacity else if b then BadWorkers else if c then BadGeneral else if s then BadSlot else if d then BadRun else if e then BadFaulty else NoCommand)
slot_alone a b c s d e p q r t = rw (p, q, r, t) refl

runs_alone : (a b c s d e : Bool) → a ≡ false → b ≡ false → c ≡ false → s ≡ false → d ≡ true → BadRun ≡ (if a then BadCapacity else if b then BadWorkers else if c then BadGeneral else if s then BadSlot else if d then BadRun else if e then BadFaulty else NoCommand)
runs_alone a b c s d e p q r t u = rw (p, q, r, t, u) refl

faulty_alone : (a b c s d e : Bool) → a ≡ false → b ≡ false → c ≡ false → s ≡ false → d ≡ false → e ≡ true → BadFaulty ≡ (if a then BadCapacity else if b then BadWorkers else if c then BadGeneral else if s then BadSlot else if d then BadRun else if e then BadFaulty else NoCommand)
faulty_alone a b c s d e p q r t u v = rw (p, q, r, t, u, v) refl

nothing_lacks : (a b c s d e : Bool) → a ≡ false → b ≡ false → c ≡ false → s ≡ false → d ≡ false → e ≡ false → NoCommand ≡ (if a then BadCapacity else if b then BadWorkers else if c then BadGeneral else if s then BadSlot else if d then BadRun else if e then BadFaulty else NoCommand)
nothing_lacks a b c s d e p q r t u v = rw (p, q, r, t, u, v) refl

pub returns-then-lacks_slot : goal.returns-then-lacks_slot
returns-then-lacks_slot c =
    let capacity : (takes_capacity c.args.name.now && is_missing (number_between 1 16 (option_map (λ t. t.now) c.args.capacity))) ≡ false = search rules in
    let workers : (takes_workers c.args.name.now && is_missing (number_between 1 16 (option_map (λ t. t.now) c.args.workers))) ≡ false = search rules in
    let general : (takes_general c.args.name.now && is_missing (number_between 0 15 (option_map (λ t. t.now) c.args.general))) ≡ false = search rules in
    let slot : (takes_slot c.args.name.now && is_missing c.args.choices.now.version) ≡ true = search rules in
    slot_alone _ _ _ _ _ _ capacity workers general slot

pub returns-then-lacks_runs : goal.returns-then-lacks_runs
returns-then-lacks_runs c =
    let capacity : (takes_capacity c.args.name.now && is_missing (number_between 1 16 (option_map (λ t. t.now) c.args.capacity))) ≡ false = search rules in
    let workers : (takes_workers c.args.name.now && is_missing (number_between 1 16 (option_map (λ t. t.now) c.args.workers))) ≡ false = search rules in
    let general : (takes_general c.args.name.now && is_missing (number_between 0 15 (option_map (λ t. t.now) c.args.general))) ≡ false = search rules in
    let slot : (takes_slot c.args.name.now && is_missing c.args.choices.now.version) ≡ false = search rules in
    let runs : (takes_runs c.args.name.now && is_missing c.args.choices.now.runs) ≡ true = search rules in
    runs_alone _ _ _ _ _ _ capacity workers general slot runs

pub returns-then-is_none-4 : goal.returns-then-is_none-4
returns-then-is_none-4 c =
    let capacity : (takes_capacity c.args.name.now && is_missing (number_between 1 16 (option_map (λ t. t.now) c.args.capacity))) ≡ false = search rules in
    let workers : (takes_workers c.args.name.now && is_missing (number_between 1 16 (option_map (λ t. t.now) c.args.workers))) ≡ false = search rules in
    let general : (takes_general c.args.name.now && is_missing (number_between 0 15 (option_map (λ t. t.now) c.args.general))) ≡ false = search rules in
    let slot : (takes_slot c.args.name.now && is_missing c.args.choices.now.version) ≡ false = search rules in
    let runs : (takes_runs c.args.name.now && is_missing c.args.choices.now.runs) ≡ false = search rules in
    let faulty : (takes_faulty c.args.name.now && is_missing c.args.choices.now.faulty) ≡ true = search rules in
    faulty_alone _ _ _ _ _ _ capacity workers general slot runs faulty

pub returns-else-matches-4 : goal.returns-else-matches-4
returns-else-matches-4 c =
    let capacity : (takes_capacity c.args.name.now && is_missing (number_between 1 16 (option_map (λ t. t.now) c.args.capacity))) ≡ false = search rules in
    let workers : (takes_workers c.args.name.now && is_missing (number_between 1 16 (option_map (λ t. t.now) c.args.workers))) ≡ false = search rules in
    let general : (takes_general c.args.name.now && is_missing (number_between 0 15 (option_map (λ t. t.now) c.args.general))) ≡ false = search rules in
    let slot : (takes_slot c.args.name.now && is_missing c.args.choices.now.version) ≡ false = search rules in
    let runs : (takes_runs c.args.name.now && is_missing c.args.choices.now.runs) ≡ false = search rules in
    let faulty : (takes_faulty c.args.name.now && is_missing c.args.choices.now.faulty) ≡ false = search rules in
    nothing_lacks _ _ _ _ _ _ capacity workers general slot runs faulty
