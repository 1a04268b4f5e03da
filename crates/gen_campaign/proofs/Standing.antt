-- Scenarios that stand one behind another in a campaign, as the tests say it.
use Rattle.std.proofs.Common.{◌≡◌, ltb, eqb, eqb-true, eq-eqb, Bool, true, List, [], ◌∷◌, ◌++◌, Contains, All, AllPairs, sym, subst, append_assoc, arith, inl, inr}
use Rattle.std.specs.List.{list_all}
use Rattle.std.specs.Str.{bytes_eq}
use Rattle.std.proofs.lemmas.Bool.{ltb-true, lt-ltb}
use Rattle.std.proofs.lemmas.List.{append-nil}
use Rattle.std.proofs.lemmas.List.Elements.{All-nil, All-cons, All-head, All-tail, All-contains}
use Rattle.std.proofs.lemmas.List.Sums.{AllPass-from_list_all, list_all-from_AllPass}
use Rattle.std.proofs.lemmas.Slice.Eq.{bytes_eq-Decides}
use Rattle.gen_types.proofs.Lists.{All_of, Contains_cases, Contains_nil, Contains-middle, AllPairs_head, AllPairs_tail, AllPairs-append}
use Rattle.gen_net.specs.Version.{slot_in}
use Rattle.gen_scenario.specs.Scenario.{Scenario}
use Rattle.gen_campaign.specs.CampaignText.{MayPrecede, HasSlot}
use Rattle.gen_campaign.specs.CampaignTextReading.{has_generals_of, has_seed_of, comes_after}

-- it may stand behind all of these
abbrev pub Behind : List Scenario → Scenario → Type 0
Behind before s = (k : Scenario) → Contains before k → MayPrecede k s

each : (p : Scenario → Bool) (before : List Scenario) (k : Scenario) → list_all p before ≡ true → Contains before k → p k ≡ true
each p before k e at = All-contains (λ (x : Scenario). p x ≡ true) before k (AllPass-from_list_all p before e) at

all : (p : Scenario → Bool) (before : List Scenario) → ((k : Scenario) → Contains before k → p k ≡ true) → list_all p before ≡ true
all p before h = list_all-from_AllPass p before (All_of (λ (x : Scenario). p x ≡ true) before h)

pub behind_gives : (before : List Scenario) (s : Scenario) → has_generals_of before s.net.generals ≡ true → has_seed_of before s.master ≡ true → comes_after before (slot_in s.version) ≡ true → Behind before s
behind_gives before s generals seed slot k at = record {
  generals = eqb-true k.net.generals s.net.generals (each (λ (x : Scenario). eqb x.net.generals s.net.generals) before k generals at);
  seed = (bytes_eq-Decides k.master s.master).0 (each (λ (x : Scenario). bytes_eq x.master s.master) before k seed at);
  slot = ltb-true (slot_in k.version) (slot_in s.version) (each (λ (x : Scenario). ltb (slot_in x.version) (slot_in s.version)) before k slot at);
}

pub generals_told : (before : List Scenario) (s : Scenario) → Behind before s → has_generals_of before s.net.generals ≡ true
generals_told before s behind = all (λ (x : Scenario). eqb x.net.generals s.net.generals) before (λ k at. eq-eqb k.net.generals s.net.generals (behind k at).generals)

pub seed_told : (before : List Scenario) (s : Scenario) → Behind before s → has_seed_of before s.master ≡ true
seed_told before s behind = all (λ (x : Scenario). bytes_eq x.master s.master) before (λ k at. (bytes_eq-Decides k.master s.master).1 (behind k at).seed)

pub slot_told : (before : List Scenario) (s : Scenario) → Behind before s → comes_after before (slot_in s.version) ≡ true
slot_told before s behind = all (λ (x : Scenario). ltb (slot_in x.version) (slot_in s.version)) before (λ k at. lt-ltb (slot_in k.version) (slot_in s.version) (behind k at).slot)

-- ---- scenarios that stand behind one another

abbrev pub Stand : List Scenario → List Scenario → Type 0
Stand before [] = Unit {0}
Stand before (x ∷ xs) = HasSlot x × Behind before x × Stand (before ++ x ∷ []) xs

pub stand_each : (before xs : List Scenario) → Stand before xs → All HasSlot xs
stand_each before [] s = All-nil HasSlot
stand_each before (x ∷ xs) s = All-cons HasSlot x xs s.0 (stand_each (before ++ x ∷ []) xs s.2)

alone_in : (x z : Scenario) → Contains (x ∷ []) z → x ≡ z
alone_in x z at = elim (Contains_cases x z [] at) [ inl same ↦ same | inr none ↦ absurd (Contains_nil z none) ]

pub stand_ordered : (before xs : List Scenario) → AllPairs MayPrecede before → Stand before xs → AllPairs MayPrecede (before ++ xs)
stand_ordered before [] up s = subst (AllPairs MayPrecede) (sym (append-nil before)) up
stand_ordered before (x ∷ xs) up s =
    let one : AllPairs MayPrecede (x ∷ []) = λ i j d l m. absurd (omega (arith, l, m)) in
    let more : AllPairs MayPrecede (before ++ x ∷ []) = AllPairs-append MayPrecede before (x ∷ []) up one (λ y z k l. subst (λ (w : Scenario). MayPrecede y w) (alone_in x z l) (s.1 y k)) in
    subst (AllPairs MayPrecede) (append_assoc before (x ∷ []) xs) (stand_ordered (before ++ x ∷ []) xs more s.2)

between : (before : List Scenario) (x : Scenario) (xs : List Scenario) → AllPairs MayPrecede (before ++ x ∷ xs) → Behind before x
between [] x xs up k at = absurd (Contains_nil k at)
between (b ∷ before) x xs up k at = elim (Contains_cases b k before at) [
  | inl same ↦ subst (λ (y : Scenario). MayPrecede y x) same (All-contains (MayPrecede b) (before ++ x ∷ xs) x (AllPairs_head MayPrecede b (before ++ x ∷ xs) up) (Contains-middle before x xs))
  | inr later ↦ between before x xs (AllPairs_tail MayPrecede b (before ++ x ∷ xs) up) k later
]

pub stand_told : (before xs : List Scenario) → All HasSlot xs → AllPairs MayPrecede (before ++ xs) → Stand before xs
stand_told before [] slots up = tt
stand_told before (x ∷ xs) slots up = (
  All-head HasSlot x xs slots,
  between before x xs up,
  stand_told (before ++ x ∷ []) xs (All-tail HasSlot x xs slots) (subst (AllPairs MayPrecede) (sym (append_assoc before (x ∷ []) xs)) up),
)
