-- What the test of runs that use the same leaves tells.
use Rattle.std.proofs.Common.{◌≡◌, ℕ, Bool, true, false, not, ◌&&◌, eqb, eqb-true, eq-eqb, refl, sym, ap, subst}
use Rattle.gen_net.specs.declared.version.Version.{Version}
use Rattle.gen_net.specs.declared.version.Version.TheVariants.{One, Two}
use Rattle.gen_net.specs.Header.{RunHeader}
use Rattle.gen_net.specs.SameHeaders.{same_roots, same_header}
use Rattle.gen_net.specs.SameHeaderLaws.{roots_decide, header_decides}
use Rattle.gen_chain.proofs.TestedChains.{both, and_so}
use Rattle.gen_convict.specs.Across.{ShareLeaves}
use Rattle.gen_convict.specs.AcrossLaws.{TestsSharing}
use Rattle.gen_convict.specs.SharedLeaves.{is_one_slot, share_leaves}

pub not_true : (b : Bool) → not b ≡ true → b ≡ true → ⊥
not_true true e t = absurd cc
not_true false e t = absurd cc

pub so_not : (b : Bool) → (b ≡ true → ⊥) → not b ≡ true
so_not true none = absurd (none refl)
so_not false none = refl

pub twice_not : (b : Bool) → not b ≡ false → b ≡ true
twice_not true e = refl
twice_not false e = absurd cc

slot_gives : (v w : Version) → is_one_slot v w ≡ true → (slot : ℕ) × (v ≡ Two slot) × (w ≡ Two slot)
slot_gives One w e = absurd cc
slot_gives (Two a) One e = absurd cc
slot_gives (Two a) (Two b) e = (a, refl, ap Two (sym (eqb-true a b e)))

slot_told : (slot : ℕ) → is_one_slot (Two slot) (Two slot) ≡ true
slot_told slot = eq-eqb slot slot refl

sharing_gives : (h k : RunHeader) → share_leaves h k ≡ true → ShareLeaves h k
unfolding share_leaves
sharing_gives h k e =
    let p = both (is_one_slot h.version k.version) (eqb h.network.generals k.network.generals && (same_roots h.roots k.roots && not (same_header h k))) e in
    let q = both (eqb h.network.generals k.network.generals) (same_roots h.roots k.roots && not (same_header h k)) p.1 in
    let r = both (same_roots h.roots k.roots) (not (same_header h k)) q.1 in
    let s = slot_gives h.version k.version p.0 in
    record {
      slot = s.0;
      one = s.1;
      other = s.2;
      generals = eqb-true h.network.generals k.network.generals q.0;
      roots = (roots_decide h.roots k.roots).0 r.0;
      unequal = λ same. not_true (same_header h k) r.1 ((header_decides h k).1 same);
    }

sharing_told : (h k : RunHeader) → ShareLeaves h k → share_leaves h k ≡ true
unfolding share_leaves
sharing_told h k s =
    let slot : is_one_slot h.version k.version ≡ true
    = subst (λ (v : Version). is_one_slot v k.version ≡ true) (sym s.one) (subst (λ (w : Version). is_one_slot (Two s.slot) w ≡ true) (sym s.other) (slot_told s.slot)) in
    and_so (is_one_slot h.version k.version) (eqb h.network.generals k.network.generals && (same_roots h.roots k.roots && not (same_header h k))) slot
    (and_so (eqb h.network.generals k.network.generals) (same_roots h.roots k.roots && not (same_header h k)) (eq-eqb h.network.generals k.network.generals s.generals)
    (and_so (same_roots h.roots k.roots) (not (same_header h k)) ((roots_decide h.roots k.roots).1 s.roots) (so_not (same_header h k) (λ e. s.unequal ((header_decides h k).0 e)))))

pub tests_sharing : TestsSharing
tests_sharing h k = (sharing_gives h k, sharing_told h k)
