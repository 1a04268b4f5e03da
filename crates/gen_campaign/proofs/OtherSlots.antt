-- Runs that each have a slot of their own convict nobody across them.
use Rattle.std.proofs.Common.{◌≡◌, List, [], ◌∷◌, ◌++◌, map, Contains, AllPairs, refl, sym, ap, ◌∙◌, arith}
use Rattle.std.proofs.lemmas.List.Elements.{All-contains}
use Rattle.gen_types.specs.Members.{Contains_here}
use Rattle.gen_types.proofs.Lists.{AllPairs_head, AllPairs_tail, Contains-middle}
use Rattle.gen_net.specs.Version.{slot_in}
use Rattle.gen_net.specs.Header.{RunHeader, slot_of}
use Rattle.gen_convict.specs.Across.{ShareLeaves}
use Rattle.gen_convict.specs.AcrossLaws.{FirstOfTwoRuns}
use Rattle.gen_audit.specs.Bundle.{Bundle}
use Rattle.gen_campaign.specs.Campaign.{IsAlone}
use Rattle.gen_campaign.specs.Judged.{HaveOtherSlots, OtherSlotsConvictNobody, shown_bundles}

apart_from : {X : Type 0} (R : X → X → Type 0) (front : List X) (one : X) (rest : List X) (other : X) → AllPairs R (front ++ one ∷ rest) → Contains rest other → R one other
apart_from R [] one rest other up k = All-contains (R one) rest other (AllPairs_head R one rest up) k
apart_from R (x ∷ front) one rest other up k = apart_from R front one rest other (AllPairs_tail R x (front ++ one ∷ rest) up) k

one_slot : (h k : RunHeader) → ShareLeaves h k → slot_of h ≡ slot_of k
one_slot h k share = ap slot_in share.one ∙ sym (ap slot_in share.other)

pub nobody_across : FirstOfTwoRuns → OtherSlotsConvictNobody
nobody_across law runs [] apart are = refl
nobody_across law runs (x ∷ more) apart are =
    let f = (are.first x (Contains_here x more)).1 in
    let p = f.3 in
    let two = law runs x.accused f.0 f.1 p in
    let there : AllPairs HaveOtherSlots (two.front ++ two.one ∷ (two.between ++ two.other ∷ two.back)) = rw two.split at apart in
    let unequal = apart_from HaveOtherSlots two.front two.one (two.between ++ two.other ∷ two.back) two.other there (Contains-middle two.between two.other two.back) in
    absurd (unequal (sym (ap slot_of two.first) ∙ one_slot f.0.header f.1.header p.holds.runs ∙ ap slot_of two.second))

-- a bundle alone is one run
pub alone_apart : (bundles : List Bundle) → IsAlone bundles → AllPairs HaveOtherSlots (shown_bundles bundles)
alone_apart [] is = absurd is
alone_apart (b ∷ []) is = λ i j d l m. absurd (omega (arith, l, m))
alone_apart (b ∷ c ∷ more) is = absurd is

-- where no accusation is told there is no evidence
pub none_told : {X Y : Type 0} (f : X → Y) (xs : List X) → map f xs ≡ [] → xs ≡ []
none_told f [] e = refl
none_told f (x ∷ xs) e = absurd cc
