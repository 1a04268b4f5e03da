-- Whether two networks, and two headers, are the same, as tests.
use Rattle.std.specs.Prelude.{ℕ, Bool, true, false, ◌&&◌, ◌==◌, List}
use Rattle.std.specs.Bool.{nat_eq}
use Rattle.std.specs.Cmp.Lexicographic.{pointwise}
use Rattle.gen_types.specs.ChoiceOf.{choice_number}
use Rattle.gen_net.specs.declared.version.Version.{Version}
use Rattle.gen_net.specs.declared.version.Version.TheVariants.{One, Two}
use Rattle.gen_net.specs.Header.{RunHeader}
use Rattle.gen_net.specs.Network.{Network}

abbrev pub same_version : Version → Version → Bool
same_version One One = true
same_version One (Two b) = false
same_version (Two a) One = false
same_version (Two a) (Two b) = a == b

abbrev pub same_pair : ℕ × ℕ → ℕ × ℕ → Bool
same_pair e f = e.0 == f.0 && e.1 == f.1

-- the numbers of generals, traitors and orders, and the diameter
abbrev pub same_numbers : Network → Network → Bool
same_numbers m n =
    m.generals == n.generals
    && (m.traitors == n.traitors && (m.diameter == n.diameter && m.orders == n.orders))

unfoldable pub same_network : Network → Network → Bool
same_network m n =
    same_numbers m n
    && (choice_number m.choice == choice_number n.choice && pointwise same_pair m.edges n.edges)

abbrev pub same_roots : List (List ℕ) → List (List ℕ) → Bool
same_roots xs ys = pointwise (pointwise nat_eq) xs ys

unfoldable pub same_header : RunHeader → RunHeader → Bool
same_header h k =
    same_version h.version k.version && (same_network h.network k.network && same_roots h.roots k.roots)
