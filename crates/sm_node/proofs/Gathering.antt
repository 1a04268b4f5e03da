-- Logs that stand one after another in bytes, taken off one by one.
use Rattle.std.proofs.Common.{◌≡◌, ◌<◌, ◌≤◌, ℕ, Bool, true, List, [], ◌∷◌, ◌++◌, drop, if◌then◌else◌, refl, sym, ap, ◌∙◌}
use Rattle.std.proofs.lemmas.Bool.{le-leb, lt-ltb}
use Rattle.std.proofs.lemmas.List.{append_assoc, append-nil}
use Rattle.std.specs.Option.{option_map}
use Rattle.std.specs.Prelude.{Option, Some, None, length, ◌==◌}
use Rattle.gen_log.specs.Writing.{LogBytes}
use Rattle.sm_node.specs.declared.bundles.SmLog.{SmLog}
use Rattle.sm_node.specs.Bundles.{is_in_front, log_in_front, logs_in}

-- behind logs that are had
abbrev pub behind : List LogBytes → Option (List LogBytes) → Option (List LogBytes)
behind had others = option_map (λ xs. had ++ xs) others

pub none_had : (others : Option (List LogBytes)) → behind [] others ≡ others
none_had None = refl
none_had (Some xs) = refl

one_more : (had : List LogBytes) (x : LogBytes) (others : Option (List LogBytes)) → behind (had ++ x ∷ []) others ≡ behind had (option_map (λ xs. x ∷ xs) others)
one_more had x None = refl
one_more had x (Some xs) = ap Some (append_assoc had (x ∷ []) xs)

-- a log more is had
pub taken_off : (had : List LogBytes) (log : SmLog) (logs : List SmLog) (bytes : List ℕ) → log.general < 16 → log.bytes ≤ length bytes
    → behind (had ++ log_in_front log bytes ∷ []) (logs_in logs (drop log.bytes bytes)) ≡ behind had (logs_in (log ∷ logs) bytes)
taken_off had log logs bytes known fits =
    let is : is_in_front log bytes ≡ true = rw (lt-ltb log.general 16 known, le-leb log.bytes (length bytes) fits) refl in
    let others : Option (List LogBytes) = logs_in logs (drop log.bytes bytes) in
    one_more had (log_in_front log bytes) others
    ∙ ap (λ (yes : Bool). behind had (if yes then option_map (λ xs. log_in_front log bytes ∷ xs) others else None)) (sym is)

-- all are had
pub all_had : (had : List LogBytes) (bytes : List ℕ) → (length bytes == 0) ≡ true → behind had (logs_in [] bytes) ≡ Some had
all_had had bytes is = ap (λ (yes : Bool). behind had (if yes then Some [] else None)) is ∙ ap Some (append-nil had)
