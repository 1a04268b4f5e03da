-- How the passes stand when a general ends.
use Rattle.std.proofs.Common.{◌≡◌, ℕ, zero, suc, inl, List, [], ◌∷◌, refl, ap, ◌∙◌, arith, length}
use Rattle.std.specs.List.{AllZip, All}
use Rattle.gen_edge.specs.declared.passes.PutPass.{PutPass}
use Rattle.gen_edge.specs.declared.passes.TakePass.{TakePass}
use Rattle.gen_edge.specs.declared.rule.PassView.{PassView}
use Rattle.gen_net.specs.Network.{Network}
use Rattle.gen_scenario.specs.Scenario.{Scenario}
use Rattle.gen_scenario.specs.SignedWorld.{neighbours_of}
use Rattle.gen_threads.specs.declared.edges.Edges.{Edges}
use Rattle.gen_threads.specs.Edges.{ArePassesIn, ArePassesOf, HaveCarried, HasPut, HasTakenBy, IsPutOn, IsTakeBy}
use Rattle.gen_threads.specs.Turns.{AreOver, AreOverUntil, IsPutOver, IsTakeOver, index_of_next}
use Rattle.gen_threads.proofs.Zips.{zip_weaker}

pub carried_passes : (edges : Edges) (s : Scenario) (n g : ℕ) (ps : List PutPass) (ts : List TakePass) → HaveCarried edges s n g ps ts → ArePassesOf edges s g ps ts
carried_passes edges s n g ps ts is = record {
  putting = zip_weaker (HasPut edges s n g) (IsPutOn edges g) (neighbours_of s.net g) ps (λ a p m h. h.on) is.putting;
  taking = zip_weaker (HasTakenBy edges s n g) (IsTakeBy edges g) (neighbours_of s.net g) ts (λ a p m h. h.on) is.taking;
}

zip_long : {A B : Type 0} (R : A → B → Type 0) (xs : List A) (ys : List B) → AllZip R xs ys → length ys ≡ length xs
zip_long R [] [] h = refl
zip_long R [] (y ∷ ys) h = absurd h
zip_long R (x ∷ xs) [] h = absurd h
zip_long R (x ∷ xs) (y ∷ ys) h = let r = zip_long R xs ys h.1 in omega (arith, r)

-- what holds of each pair holds of each second
zip_all : {A B : Type 0} (R : A → B → Type 0) (Q : B → Type 0) → ((x : A) (y : B) → R x y → Q y) → (xs : List A) (ys : List B) → AllZip R xs ys → All Q ys
zip_all R Q f [] [] h k d low = absurd (omega arith)
zip_all R Q f [] (y ∷ ys) h k d low = absurd h
zip_all R Q f (x ∷ xs) [] h k d low = absurd h
zip_all R Q f (x ∷ xs) (y ∷ ys) h zero d low = f x y h.0
zip_all R Q f (x ∷ xs) (y ∷ ys) h (suc k) d low = zip_all R Q f xs ys h.1 k d (omega arith)

-- by frames of all rounds an edge is over
pub carried_over : (edges : Edges) (s : Scenario) (n g : ℕ) (ps : List PutPass) (ts : List TakePass) → HaveCarried edges s n g ps ts → AreOver n ps ts
carried_over edges s n g ps ts is = record {
  putting = zip_all (HasPut edges s n g) (IsPutOver n) (λ a p h. let e = ap (λ (v : PassView). v.put) h.view in inl (omega (arith, e))) (neighbours_of s.net g) ps is.putting;
  taking = zip_all (HasTakenBy edges s n g) (IsTakeOver n) (λ a p h. let e = ap (λ (v : PassView). v.taken) h.view in inl (omega (arith, e))) (neighbours_of s.net g) ts is.taking;
}

-- and where all neighbours were looked at
pub all_over : (edges : Edges) (net : Network) (g r n index : ℕ) (ps : List PutPass) (ts : List TakePass) → ArePassesIn edges net g ps ts → n ≡ net.generals → index ≡ index_of_next net g n → AreOverUntil r index ps ts → AreOver r ps ts
all_over edges net g r n index ps ts are stop here over =
    let a = zip_long (IsPutOn edges g) (neighbours_of net g) ps are.putting in
    let b = zip_long (IsTakeBy edges g) (neighbours_of net g) ts are.taking in
    let whole : index ≡ length (neighbours_of net g) = here ∙ ap (index_of_next net g) stop in
    record {
      putting = λ k d low. over.putting k d (omega (arith, low, a, whole));
      taking = λ k d low. over.taking k d (omega (arith, low, b, whole));
    }
