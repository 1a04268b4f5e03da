-- The loop over the lines of roots, and the header that they make.
use Rattle.std.proofs.Common.{◌≡◌, ℕ, zero, suc, ◌+◌, ◌-◌, ◌<◌, ◌≤◌, true, eqb, leb, rules, List, [], ◌∷◌, ◌++◌, length, Result, Ok, Err, refl, sym, ap, ◌∙◌, append_assoc, arith}
use Rattle.std.specs.Result.{IsOk}
use Rattle.std.proofs.lemmas.Bool.{eq-eqb, le-leb}
use Rattle.std.proofs.lemmas.List.{append-nil}
use Rattle.gen_types.specs.declared.reading.ReadError.{ReadError}
use Rattle.gen_types.specs.declared.reading.ReadError.TheVariants as errors
use Rattle.gen_types.specs.Reading.{◌>>=◌, Fails}
use Rattle.gen_types.proofs.Steps.{after, at_end}
use Rattle.gen_net.specs.declared.fault.HeaderFault.{HeaderFault}
use Rattle.gen_net.specs.declared.version.Version.{Version}
use Rattle.gen_net.specs.Header.{RunHeader, header_with}
use Rattle.gen_net.specs.Network.{Network}
use Rattle.gen_net.specs.Version.{greatest_slot, slot_in}
use Rattle.gen_text.specs.declared.fault.ScenarioFault.{ScenarioFault}
use Rattle.gen_text.specs.Cursor.{Cursor}
use Rattle.gen_text.proofs.Stepping.{done}
use Rattle.gen_prepare.specs.HeaderTextReading.{root_at, roots_at}

-- what was read before, and what is still read
abbrev pub with_front : List (List ℕ) → Result (List (List ℕ) × Cursor) ScenarioFault → Result (List (List ℕ) × Cursor) ScenarioFault
with_front front read = read >>= λ x. Ok (front ++ x.0, x.1)

regroup : (front : List (List ℕ)) (root : List ℕ) (read : Result (List (List ℕ) × Cursor) ScenarioFault) → with_front front (read >>= λ x. Ok (root ∷ x.0, x.1)) ≡ with_front (front ++ root ∷ []) read
regroup front root (Ok x) = ap (λ (rs : List (List ℕ)). Ok (rs, x.1)) (sym (append_assoc front (root ∷ []) x.0))
regroup front root (Err f) = refl

pub goes_on : (front : List (List ℕ)) (count i : ℕ) (c : Cursor) (root : List ℕ) (rest : Cursor) (total : Result (List (List ℕ) × Cursor) ScenarioFault) → i < count → root_at c ≡ Ok (root, rest)
    → with_front front (roots_at (count - i) c) ≡ total → with_front (front ++ root ∷ []) (roots_at (count - (i + 1)) rest) ≡ total
unfolding roots_at
goes_on front count i c root rest total lt h so_far =
    let k : count - i ≡ suc (count - (i + 1)) = omega arith in
    let one : with_front front (roots_at (count - i) c) ≡ with_front (front ++ root ∷ []) (roots_at (count - (i + 1)) rest) = rw (k, h) (regroup front root (roots_at (count - (i + 1)) rest)) in
    sym one ∙ so_far

pub ends : (e : ReadError ScenarioFault) (front : List (List ℕ)) (count i : ℕ) (c : Cursor) (total : Result (List (List ℕ) × Cursor) ScenarioFault) → i < count → Fails e (root_at c)
    → with_front front (roots_at (count - i) c) ≡ total → Fails e total
unfolding roots_at
ends errors.Memory front count i c total lt h so_far = tt
ends (errors.Fault f) front count i c total lt h so_far =
    let k : count - i ≡ suc (count - (i + 1)) = omega arith in
    let one : with_front front (roots_at (count - i) c) ≡ Err f = rw (k, h) refl in
    sym so_far ∙ one

pub is_done : (front : List (List ℕ)) (count i : ℕ) (c : Cursor) (total : Result (List (List ℕ) × Cursor) ScenarioFault) → count ≤ i → with_front front (roots_at (count - i) c) ≡ total → total ≡ Ok (front, c)
unfolding roots_at
is_done front count i c total le so_far =
    let k : count - i ≡ 0 = omega arith in
    let one : with_front front (roots_at (count - i) c) ≡ Ok (front, c) = rw k (ap (λ (rs : List (List ℕ)). Ok (rs, c)) (append-nil front)) in
    sym so_far ∙ one

-- there are as many roots as are asked for
pub counted : (n : ℕ) (c : Cursor) (x : List (List ℕ) × Cursor) → roots_at n c ≡ Ok x → length x.0 ≡ n
unfolding roots_at
counted zero c x e = at_end {F = ScenarioFault} (λ (y : List (List ℕ) × Cursor). length y.0 ≡ 0) ([], c) x e refl
counted (suc n) c x e =
    after (root_at c) (λ root. roots_at n root.1 >>= λ others. done (root.0 ∷ others.0, others.1)) x e (λ root r0 e0.
    after (roots_at n root.1) (λ others. done (root.0 ∷ others.0, others.1)) x e0 (λ others r1 e1.
    at_end {F = ScenarioFault} (λ (y : List (List ℕ) × Cursor). length y.0 ≡ suc n) (root.0 ∷ others.0, others.1) x e1 (ap suc (counted n root.1 others r1))))

-- as many roots as generals, and a slot that there is, make a header
pub header_made : (version : Version) (net : Network) (roots : List (List ℕ)) (made : Result RunHeader HeaderFault) → length roots ≡ net.generals → slot_in version ≤ greatest_slot → made ≡ header_with version net roots → IsOk made
header_made version net roots made many known e =
    let one_each : eqb (length roots) net.generals ≡ true = eq-eqb (length roots) net.generals many in
    let slot : leb (slot_in version) greatest_slot ≡ true = le-leb (slot_in version) greatest_slot known in
    rw (e, one_each, slot) (search rules)
