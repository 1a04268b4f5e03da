-- The header that a text gives is the one that it spells, if each general has a root of its own.
use Rattle.std.proofs.Common.{◌≡◌, ℕ, List, Option, None, Some, Result, Ok, Err, refl, sym, ap, ◌∙◌}
use Rattle.gen_types.specs.Reading.{◌>>=◌, map_fault}
use Rattle.gen_net.specs.declared.version.Version.{Version}
use Rattle.gen_net.specs.Header.{RunHeader}
use Rattle.gen_plan.specs.EqualRoots.{HasOwnRoots, equal_roots, first_pair}
use Rattle.gen_plan.proofs.Pairs.{none_first}
use Rattle.gen_plan.proofs.Sharing.{no_pairs}
use Rattle.gen_text.specs.declared.fault.ScenarioFault.{ScenarioFault}
use Rattle.gen_prepare.specs.declared.header_fault.HeaderTextFault.{HeaderTextFault}
use Rattle.gen_prepare.specs.declared.header_fault.HeaderTextFault.TheVariants.{Text}
use Rattle.gen_prepare.specs.HeaderTextReading.{header_of_text, header_given, unless_shared}

-- what is given was not refused for its roots
record Given (read : Result RunHeader ScenarioFault) (h : RunHeader) : Type 0 where
  read_is : read ≡ Ok h
  own : first_pair (equal_roots h) ≡ None

unless_cases : (k h : RunHeader) (first : Option (ℕ × ℕ)) → unless_shared k first ≡ Ok h → (k ≡ h) × (first ≡ None)
unless_cases k h None e = (cc, refl)
unless_cases k h (Some pair) e = absurd cc

read_cases : (read : Result RunHeader ScenarioFault) (h : RunHeader) → (map_fault Text read >>= (λ k. unless_shared k (first_pair (equal_roots k)))) ≡ Ok h → Given read h
read_cases (Ok k) h e =
    let p = unless_cases k h (first_pair (equal_roots k)) e in
    record { read_is = ap Ok p.0; own = ap (λ g. first_pair (equal_roots g)) (sym p.0) ∙ p.1 }
read_cases (Err f) h e = absurd cc

pub given_spelled : (version : Version) (text : List ℕ) (h : RunHeader) → header_given version text ≡ Ok h → header_of_text version text ≡ Ok h
unfolding header_given
given_spelled version text h e = (read_cases (header_of_text version text) h e).read_is

pub given_own : (version : Version) (text : List ℕ) (h : RunHeader) → header_given version text ≡ Ok h → HasOwnRoots h
unfolding header_given
given_own version text h e = (no_pairs h).0 (none_first (equal_roots h) (read_cases (header_of_text version text) h e).own)

pub given_again : (version : Version) (text : List ℕ) (h : RunHeader) → header_of_text version text ≡ Ok h → HasOwnRoots h → header_given version text ≡ Ok h
unfolding header_given first_pair
given_again version text h e own =
    let none : first_pair (equal_roots h) ≡ None = ap first_pair ((no_pairs h).1 own) in
    rw (e, none) refl
