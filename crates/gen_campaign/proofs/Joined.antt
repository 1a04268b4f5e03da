-- Whether runs belong to one campaign, as the test says.
use Rattle.std.proofs.Common.{◌≡◌, Bool, true, false, not, ◌&&◌, eqb, eqb-true, eq-eqb, nat_le, List, Contains, refl}
use Rattle.std.specs.Bool.{Decides}
use Rattle.std.proofs.lemmas.Bool.{leb-true, le-leb}
use Rattle.std.proofs.lemmas.List.Elements.{All-contains}
use Rattle.std.proofs.lemmas.List.Sums.{AllPass-from_list_all, list_all-from_AllPass}
use Rattle.gen_types.proofs.Decimals.{both}
use Rattle.gen_types.proofs.Lists.{All_of}
use Rattle.gen_net.specs.Header.{RunHeader, slot_of}
use Rattle.gen_net.specs.SameHeaders.{same_roots, same_header}
use Rattle.gen_net.specs.SameHeaderLaws.{roots_decide, header_decides}
use Rattle.gen_audit.specs.Bundle.{Bundle}
use Rattle.gen_campaign.specs.Campaign.{Joins, JoinsRun}
use Rattle.gen_campaign.specs.CampaignReading.{has_keys_of, joins, may_join}

and_so : (a b : Bool) → a ≡ true → b ≡ true → (a && b) ≡ true
and_so true b e f = f
and_so false b e f = absurd cc

not_both : (b : Bool) → not b ≡ true → b ≡ true → ⊥
not_both true e f = absurd cc
not_both false e f = absurd cc

not_so : (b : Bool) → (b ≡ true → ⊥) → not b ≡ true
not_so true never = absurd (never refl)
not_so false _ = refl

joins_gives : (before h : RunHeader) → joins before h ≡ true → Joins before h
joins_gives before h e =
    let p = both (has_keys_of before h) (nat_le (slot_of before) (slot_of h) && not (same_header before h)) e in
    let q = both (eqb before.network.generals h.network.generals) (same_roots before.roots h.roots) p.0 in
    let r = both (nat_le (slot_of before) (slot_of h)) (not (same_header before h)) p.1 in
    record {
      generals = eqb-true before.network.generals h.network.generals q.0;
      roots = (roots_decide before.roots h.roots).0 q.1;
      slot = leb-true (slot_of before) (slot_of h) r.0;
      other = λ same. not_both (same_header before h) r.1 ((header_decides before h).1 same);
    }

joins_told : (before h : RunHeader) → Joins before h → joins before h ≡ true
joins_told before h is =
    let keys = and_so (eqb before.network.generals h.network.generals) (same_roots before.roots h.roots) (eq-eqb before.network.generals h.network.generals is.generals) ((roots_decide before.roots h.roots).1 is.roots) in
    let other = not_so (same_header before h) (λ same. is.other ((header_decides before h).0 same)) in
    and_so (has_keys_of before h) (nat_le (slot_of before) (slot_of h) && not (same_header before h)) keys
    (and_so (nat_le (slot_of before) (slot_of h)) (not (same_header before h)) (le-leb (slot_of before) (slot_of h) is.slot) other)

pub joins_decide : (before h : RunHeader) → Decides (joins before h) (Joins before h)
joins_decide before h = (joins_gives before h, joins_told before h)

-- a run may stand behind all of these
abbrev pub Behind : List Bundle → Bundle → Type 0
Behind before b = (k : Bundle) → Contains before k → JoinsRun k b

pub behind_gives : (before : List Bundle) (b : Bundle) → may_join before b.header ≡ true → Behind before b
behind_gives before b e k at =
    joins_gives k.header b.header (All-contains (λ (x : Bundle). joins x.header b.header ≡ true) before k (AllPass-from_list_all (λ (x : Bundle). joins x.header b.header) before e) at)

pub behind_told : (before : List Bundle) (b : Bundle) → Behind before b → may_join before b.header ≡ true
behind_told before b are =
    list_all-from_AllPass (λ (x : Bundle). joins x.header b.header) before (All_of (λ (x : Bundle). joins x.header b.header ≡ true) before (λ k at. joins_told k.header b.header (are k at)))
