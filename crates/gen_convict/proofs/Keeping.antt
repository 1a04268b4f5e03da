-- Whose log it is that a follower kept.
use Rattle.std.proofs.Common.{◌≡◌, ℕ, Option, Some, None, Bool, true, false, List, ◌∷◌, Contains, refl, sym, ap, subst, ◌∙◌}
use Rattle.std.specs.Option.{is_some}
use Rattle.gen_types.proofs.Lists.{Contains_here}
use Rattle.gen_net.specs.Network.{Network}
use Rattle.gen_net.specs.Run.{Run}
use Rattle.gen_net.specs.Follows.{Conduct, Commands, Relays}
use Rattle.gen_net.specs.Log.{Started, IsEntry}
use Rattle.gen_net.specs.Departs.{IsFollowersLog}
use Rattle.gen_log.specs.declared.entries.Entry.{Entry}
use Rattle.gen_log.specs.declared.entries.Entry.TheVariants.{Start}
use Rattle.gen_log.specs.Log.{BeginsWithStart, BeginsWithStartOf}
use Rattle.gen_local.specs.Erased.{erased}

named : (net : Network) (run : Run) (g : ℕ) (c : Conduct) (general : ℕ) (own : Option ℕ) → IsEntry net run g c (Started general own) → general ≡ g
named net run g (Commands order) general own is = is.0
named net run g (Relays pick) general own is = is.0

-- START names the general who kept it
pub starts_as : (net : Network) (g : ℕ) (entries : List Entry) → BeginsWithStart entries → IsFollowersLog net g (erased entries) → BeginsWithStartOf g entries
starts_as net g entries starts kept =
    let general = starts.0 in
    let own = starts.1.0 in
    let more = starts.1.1 in
    let front : Contains (erased entries) (Started general own) = subst (λ (es : List Entry). Contains (erased es) (Started general own)) (sym starts.1.2) (Contains_here (Started general own) (erased more)) in
    let is : general ≡ g = named net kept.run g kept.conduct general own ((kept.keeps.entries (Started general own)).0 front) in
    (own, more, starts.1.2 ∙ ap (λ (x : ℕ). Start x own ∷ more) is)

pub is_none : {X : Type 0} (answer : Option X) (b : Bool) → b ≡ is_some answer → b ≡ false → answer ≡ None
is_none None b e f = refl
is_none (Some x) b e f = absurd cc

pub not_some : {X : Type 0} (answer : Option X) (b : Bool) → answer ≡ None → b ≡ is_some answer → b ≡ true → ⊥
not_some None b none e t = let no : false ≡ true = sym e ∙ t in absurd cc
not_some (Some x) b none e t = absurd cc
