-- What the tests of campaigns say.
use Rattle.std.proofs.Common.{◌≡◌, ◌<◌, ◌≤◌, ◌+◌, ℕ, inl, inr, Bool, true, false, ◌&&◌, eqb, eqb-true, List, [], ◌∷◌, Contains, length, refl, sym, ap, subst, ◌∙◌, arith, Result, Ok}
use Rattle.std.specs.Prelude.{if◌then◌else◌, nat_lt}
use Rattle.std.specs.Bool.{nat_eq}
use Rattle.std.specs.Cmp.Lexicographic.{pointwise}
use Rattle.std.specs.List.{list_all}
use Rattle.std.proofs.lemmas.Bool.{lt-ltb, le-ltb, ltb-true, ltb-false}
use Rattle.std.proofs.lemmas.Slice.Eq.{bytes_eq-Decides}
use Rattle.gen_types.proofs.Decimals.{both}
use Rattle.gen_types.proofs.Lists.{Contains_cases, Contains_nil, bool_cases}
use Rattle.gen_types.specs.Reading.{◌>>=◌, check}
use Rattle.gen_types.specs.declared.heights.TreeHeight.TheVariants.{Six}
use Rattle.gen_net.specs.declared.version.Version.{Version}
use Rattle.gen_net.specs.declared.version.Version.TheVariants.{One, Two}
use Rattle.gen_net.specs.Version.{height_in, slot_in}
use Rattle.gen_convict.specs.SharedLeaves.{is_two}
use Rattle.gen_scenario.specs.Scenario.{Scenario}
use Rattle.gen_campaign.specs.Campaign.{is_run_count}
use Rattle.gen_campaign.specs.Series.{are_alike, ascend_from, campaign_of, is_like}
use Rattle.gen_campaign.specs.declared.series_fault.SeriesFault.{SeriesFault}
use Rattle.gen_campaign.specs.declared.series_fault.SeriesFault.TheVariants.{RunCount, Unlike, SlotOrder}

-- ---- slots

pub low_slot : (least : ℕ) (s : Scenario) (others runs : List Scenario) → runs ≡ s ∷ others → slot_in s.version < least → ascend_from least runs ≡ false
unfolding ascend_from
low_slot least s others runs e low =
    let t : nat_lt (slot_in s.version) least ≡ true = lt-ltb (slot_in s.version) least low in
    let step : ascend_from least (s ∷ others) ≡ false = rw t refl in
    ap (ascend_from least) e ∙ step

pub next_slot : (least : ℕ) (s : Scenario) (others runs : List Scenario) → runs ≡ s ∷ others → least ≤ slot_in s.version → ascend_from least runs ≡ ascend_from (slot_in s.version + 1) others
unfolding ascend_from
next_slot least s others runs e high =
    let t : nat_lt (slot_in s.version) least ≡ false = le-ltb (slot_in s.version) least high in
    let step : ascend_from least (s ∷ others) ≡ ascend_from (slot_in s.version + 1) others = rw t refl in
    ap (ascend_from least) e ∙ step

pub no_slots : (least : ℕ) (runs : List Scenario) → runs ≡ [] → true ≡ ascend_from least runs
unfolding ascend_from
no_slots least runs e = sym (ap (ascend_from least) e)

pub slots_kept : (least : ℕ) (s : Scenario) (others runs : List Scenario) → runs ≡ s ∷ others → ascend_from least runs ≡ true → (least ≤ slot_in s.version) × (ascend_from (slot_in s.version + 1) others ≡ true)
slots_kept least s others runs e up = elim (bool_cases (nat_lt (slot_in s.version) least)) [
  | inl t ↦ let low = low_slot least s others runs e (ltb-true (slot_in s.version) least t) in let no : true ≡ false = sym up ∙ low in absurd cc
  | inr f ↦
      let high : least ≤ slot_in s.version = omega (arith, ltb-false (slot_in s.version) least f) in
      (high, sym (next_slot least s others runs e high) ∙ up)
]

-- ---- alike

height_two : (v : Version) → is_two v ≡ true → height_in v ≡ Six
height_two One e = absurd cc
height_two (Two slot) e = refl

pub record AreLike (first s : Scenario) : Type 0 where
  pub height : height_in s.version ≡ Six
  pub generals : s.net.generals ≡ first.net.generals
  pub master : s.master ≡ first.master

pub like_parts : (first s : Scenario) → is_like first s ≡ true → AreLike first s
like_parts first s e =
    let a = both (is_two s.version) (eqb s.net.generals first.net.generals && pointwise nat_eq s.master first.master) e in
    let b = both (eqb s.net.generals first.net.generals) (pointwise nat_eq s.master first.master) a.1 in
    record {
      height = height_two s.version a.0;
      generals = eqb-true s.net.generals first.net.generals b.0;
      master = (bytes_eq-Decides s.master first.master).0 b.1;
    }

pub alike_first : (runs : List Scenario) (first : Scenario) (others : List Scenario) → runs ≡ first ∷ others → are_alike runs ≡ list_all (is_like first) runs
alike_first runs first others e = subst (λ (xs : List Scenario). are_alike xs ≡ list_all (is_like first) xs) (sym e) refl

pub like_head : (first s : Scenario) (others runs : List Scenario) → runs ≡ s ∷ others → list_all (is_like first) runs ≡ true → (is_like first s ≡ true) × (list_all (is_like first) others ≡ true)
like_head first s others runs e all = both (is_like first s) (list_all (is_like first) others) (sym (ap (list_all (is_like first)) e) ∙ all)

pub like_each : (first : Scenario) (runs : List Scenario) (s : Scenario) → list_all (is_like first) runs ≡ true → Contains runs s → is_like first s ≡ true
like_each first [] s all h = absurd (Contains_nil s h)
like_each first (r ∷ runs) s all h =
    let two = both (is_like first r) (list_all (is_like first) runs) all in
    elim (Contains_cases r s runs h) [
      | inl e ↦ subst (λ (x : Scenario). is_like first x ≡ true) e two.0
      | inr there ↦ like_each first runs s two.1 there
    ]

-- ---- the campaign

abbrev tested : Bool → Bool → Bool → List Scenario → Result (List Scenario) SeriesFault
tested a b c runs = do
  few ← check a RunCount
  alike ← check b Unlike
  apart ← check c SlotOrder
  Ok runs

passed : (a b c : Bool) (runs xs : List Scenario) → tested a b c runs ≡ Ok xs → (b ≡ true) × (c ≡ true)
passed false b c runs xs e = absurd cc
passed true false c runs xs e = absurd cc
passed true true false runs xs e = absurd cc
passed true true true runs xs e = (refl, refl)

pub campaign_parts : (runs xs : List Scenario) → campaign_of runs ≡ Ok xs → (are_alike runs ≡ true) × (ascend_from 0 runs ≡ true)
campaign_parts runs xs e = passed (is_run_count (length runs)) (are_alike runs) (ascend_from 0 runs) runs xs e
