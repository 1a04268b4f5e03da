-- The neighbours of a general, cut before one of them.
use Rattle.std.proofs.Common.{◌≡◌, ℕ, zero, suc, ◌+◌, ◌-◌, ◌<◌, List, [], ◌∷◌, ◌++◌, length, Contains, true, false, Bool, refl, sym, ap, ◌∙◌, arith}
use Rattle.std.specs.List.{range_with_len, list_any}
use Rattle.std.proofs.lemmas.List.{append-nil}
use Rattle.std.proofs.lemmas.List.Elements.{filter-append}
use Rattle.gen_types.specs.Members.{filter_range_has}
use Rattle.gen_net.specs.Edges.{joins}
use Rattle.gen_net.specs.Network.{Network}
use Rattle.gen_scenario.specs.SignedWorld.{neighbours_of}
use Rattle.gen_scenario.specs.SignedWorld.{near_of}
use Rattle.gen_general.proofs.Worlds.{near_more, near_out, near_in}

range_cut : (a k m : ℕ) → range_with_len a (k + m) ≡ range_with_len a k ++ range_with_len (a + k) m
range_cut a zero m = let e : 0 + m ≡ m = omega arith in let f : a + 0 ≡ a = omega arith in ap (range_with_len a) e ∙ ap (λ b. range_with_len b m) (sym f)
range_cut a (suc k) m =
    let e : suc k + m ≡ suc (k + m) = omega arith in
    let f : (a + 1) + k ≡ a + suc k = omega arith in
    ap (range_with_len a) e ∙ ap (λ r. a ∷ r) (range_cut (a + 1) k m) ∙ ap (λ b. a ∷ (range_with_len (a + 1) k ++ range_with_len b m)) f

-- the neighbours before one of them, and those behind
pub record NearCut (net : Network) (g h : ℕ) : Type 0 where
  pub back : List ℕ
  pub cut : neighbours_of net g ≡ near_of net g (range_with_len 0 h) ++ h ∷ back
  pub below : (x : ℕ) → Contains (near_of net g (range_with_len 0 h)) x → x < h
  pub above : (x : ℕ) → Contains back x → h < x

pub near_cut : (net : Network) (g h : ℕ) → list_any (joins g h) net.edges ≡ true → h < net.generals → NearCut net g h
near_cut net g h near known =
    let p : ℕ → Bool = λ x. list_any (joins g x) net.edges in
    let rest = net.generals - (h + 1) in
    let count : net.generals ≡ h + suc rest = omega (arith, known) in
    let first : 0 + h ≡ h = omega arith in
    let here : near_of net g (h ∷ range_with_len (h + 1) rest) ≡ h ∷ near_of net g (range_with_len (h + 1) rest) = rw near refl in
    record {
      back = near_of net g (range_with_len (h + 1) rest);
      cut = ap (λ n. near_of net g (range_with_len 0 n)) count
          ∙ ap (near_of net g) (range_cut 0 h (suc rest) ∙ ap (λ a. range_with_len 0 h ++ range_with_len a (suc rest)) first)
          ∙ filter-append p (range_with_len 0 h) (h ∷ range_with_len (h + 1) rest)
          ∙ ap (λ (xs : List ℕ). near_of net g (range_with_len 0 h) ++ xs) here;
      below = λ x m. omega (arith, (filter_range_has p 0 h x m).1);
      above = λ x m. omega (arith, (filter_range_has p (h + 1) rest x m).0);
    }

-- behind a neighbour the index is one more, and behind another general the same
pub index_behind : (net : Network) (g h : ℕ) → list_any (joins g h) net.edges ≡ true → length (near_of net g (range_with_len 0 h)) + 1 ≡ length (near_of net g (range_with_len 0 (h + 1)))
index_behind net g h near =
    let front = near_of net g (range_with_len 0 h) in
    let more : front ++ h ∷ [] ≡ near_of net g (range_with_len 0 (h + 1)) = sym (ap (λ (xs : List ℕ). front ++ xs) (near_in net g h near)) ∙ near_more net g h in
    sym (long front h) ∙ ap length more
  where
    long : (xs : List ℕ) (x : ℕ) → length (xs ++ x ∷ []) ≡ length xs + 1
    long [] x = omega arith
    long (y ∷ xs) x = let r = long xs x in omega (arith, r)

pub index_kept : (net : Network) (g h : ℕ) → list_any (joins g h) net.edges ≡ false → length (near_of net g (range_with_len 0 h)) ≡ length (near_of net g (range_with_len 0 (h + 1)))
index_kept net g h far =
    let front = near_of net g (range_with_len 0 h) in
    ap length (sym (append-nil front) ∙ sym (ap (λ (xs : List ℕ). front ++ xs) (near_out net g h far)) ∙ near_more net g h)
