-- The lines of the seed and of the slot that are read are spelled so.
use Rattle.std.proofs.Common.{◌≡◌, ℕ, ◌*◌, ◌≤◌, Bool, true, false, cond, leb, List, [], ◌∷◌, length, codes, Option, Some, None, Result, Ok, Err, refl, sym, ap, ◌∙◌, arith}
use Rattle.std.specs.Str.{bytes_eq}
use Rattle.std.specs.Fmt.{decimal}
use Rattle.std.proofs.lemmas.Bool.{leb-true}
use Rattle.std.proofs.lemmas.Slice.Eq.{bytes_eq-Decides}
use Rattle.hex.specs.Hex.{decode_sized}
use Rattle.hex.specs.declared.error.FromHexError.{FromHexError}
use Rattle.hex.proofs.HexLemmas.{decode_sized-ok, decode_sized-twice}
use Rattle.gen_types.specs.Reading.{◌>>=◌, check}
use Rattle.gen_types.proofs.Steps.{after, after_check, at_end}
use Rattle.gen_net.specs.Version.{slot_in, greatest_slot}
use Rattle.gen_script.specs.Digits.{SpellsBytes}
use Rattle.gen_script.proofs.Hexes.{decoded_found}
use Rattle.gen_text.specs.declared.fault.LineFault.TheVariants.{SlotRange}
use Rattle.gen_text.specs.declared.fault.ScenarioFault.{ScenarioFault}
use Rattle.gen_text.specs.Fields.{line_of, said}
use Rattle.gen_text.specs.Cursor.{Cursor, Line}
use Rattle.gen_text.specs.LineReading.{fault_at, number_in}
use Rattle.gen_text.specs.CursorReading.{next_line}
use Rattle.gen_text.specs.KeysReading.{known_seed, seed_in, slot_in as slot_line, behind, seed_at, slot_at, version_with}
use Rattle.gen_text.proofs.Stepping.{done}
use Rattle.gen_text.proofs.FoundLines.{LineOf, line_found, first_is, digits_found}

-- a line that may be absent: where it is read, what it was
chosen : {A P : Type 0} (b : Bool) (r : Result (Option A) ScenarioFault) (x : A) → cond b r (Ok None) ≡ Ok (Some x) → (b ≡ true → r ≡ Ok (Some x) → P) → P
chosen true r x h k = k refl h
chosen false r x h k = absurd cc

two : (w x u v : List ℕ) → w ≡ u → x ≡ v → (w ∷ x ∷ []) ≡ (u ∷ v ∷ [])
two w x u v p q = cc

-- ---- the seed

record SeedOf (fs : List (List ℕ)) (master : List ℕ) : Type 0 where
  digits : List ℕ
  fields_are : fs ≡ codes "seed" ∷ digits ∷ []
  width : length digits ≡ 64
  spelled : SpellsBytes digits master

known : (k : ℕ) (r : Result (List ℕ) FromHexError) (seed : List ℕ) → known_seed k r ≡ Ok seed → r ≡ Ok seed
known k (Err d) seed e = absurd cc
known k (Ok s) seed e = cc

abbrev some_seed : List ℕ → Result (Option (List ℕ)) ScenarioFault
some_seed seed = Ok (Some seed)

seed_made : (k : ℕ) (w digits seed : List ℕ) → w ≡ codes "seed" → known_seed k (decode_sized digits 32) ≡ Ok seed → SeedOf (w ∷ digits ∷ []) seed
seed_made k w digits seed word e =
    let read = known k (decode_sized digits 32) seed e in
    let width : length digits ≡ 2 * 32 = decode_sized-ok digits 32 seed read in
    record { digits = digits; fields_are = two w digits (codes "seed") digits word refl; width = width; spelled = decoded_found digits seed (sym (decode_sized-twice digits 32 width) ∙ read) }

seed_in_found : (k : ℕ) (fs : List (List ℕ)) (seed : List ℕ) → seed_in k fs ≡ Ok (Some seed) → SeedOf fs seed
unfolding seed_in
seed_in_found k [] seed e = absurd cc
seed_in_found k (w ∷ []) seed e = absurd cc
seed_in_found k (w ∷ x ∷ []) seed e =
    chosen (bytes_eq w (codes "seed")) (known_seed k (decode_sized x 32) >>= some_seed) seed e (λ word e0.
    after (known_seed k (decode_sized x 32)) some_seed (Some seed) e0 (λ s r0 e1.
    let same : s ≡ seed = cc in
    seed_made k w x seed ((bytes_eq-Decides w (codes "seed")).0 word) (r0 ∙ ap (λ (y : List ℕ). Ok y) same)))
seed_in_found k (w ∷ x ∷ y ∷ more) seed e = absurd cc

-- the cursor behind the seed, where there is one
abbrev pub SeedAt : Cursor → Option (List ℕ) × Cursor → Type 0
SeedAt c (None, after) = after ≡ c
SeedAt c (Some master, after) = (digits : List ℕ) × (c.parts ≡ line_of (codes "seed" ∷ digits ∷ []) ∷ after.parts) × (length digits ≡ 64) × SpellsBytes digits master

seed_behind : (c : Cursor) (l : Line × Cursor) (seed : Option (List ℕ)) → LineOf c l → seed_in l.0.number l.0.fields ≡ Ok seed → SeedAt c (behind seed c l.1)
seed_behind c l None f e = refl
seed_behind c l (Some seed) f e =
    let s = seed_in_found l.0.number l.0.fields seed e in
    (s.digits, first_is c l _ f s.fields_are, s.width, s.spelled)

pub seed_found : (c : Cursor) (x : Option (List ℕ) × Cursor) → seed_at c ≡ Ok x → SeedAt c x
unfolding seed_at
seed_found c x e =
    after (next_line c) (λ l. seed_in l.0.number l.0.fields >>= λ seed. done (behind seed c l.1)) x e (λ l r0 e0.
    after (seed_in l.0.number l.0.fields) (λ seed. done (behind seed c l.1)) x e0 (λ seed r1 e1.
    at_end {F = ScenarioFault} (SeedAt c) (behind seed c l.1) x e1 (seed_behind c l seed (line_found c l r0) r1)))

-- ---- the slot

record SlotOf (fs : List (List ℕ)) (slot : ℕ) : Type 0 where
  fields_are : fs ≡ said (codes "slot") slot
  known : slot ≤ greatest_slot

abbrev some_slot : ℕ → Result (Option ℕ) ScenarioFault
some_slot slot = Ok (Some slot)

slot_in_found : (k : ℕ) (fs : List (List ℕ)) (slot : ℕ) → slot_line k fs ≡ Ok (Some slot) → SlotOf fs slot
unfolding slot_line
slot_in_found k [] slot e = absurd cc
slot_in_found k (w ∷ []) slot e = absurd cc
slot_in_found k (w ∷ x ∷ []) slot e =
    chosen (bytes_eq w (codes "slot")) (number_in k x >>= λ u. check (leb u greatest_slot) (fault_at SlotRange k) >>= λ known. some_slot u) slot e (λ word e0.
    after (number_in k x) (λ u. check (leb u greatest_slot) (fault_at SlotRange k) >>= λ known. some_slot u) (Some slot) e0 (λ u r0 e1.
    after_check (leb u greatest_slot) (fault_at SlotRange k) (λ known. some_slot u) (Some slot) e1 (λ below e2.
    let same : u ≡ slot = cc in
    let d = digits_found k u x r0 in
    rw (← same) (record { fields_are = two w x (codes "slot") (decimal u) ((bytes_eq-Decides w (codes "slot")).0 word) d.0; known = leb-true _ _ below }))))
slot_in_found k (w ∷ x ∷ y ∷ more) slot e = absurd cc

-- the cursor behind the slot, where there is one
abbrev pub SlotAt : Cursor → Option ℕ × Cursor → Type 0
SlotAt c (None, after) = after ≡ c
SlotAt c (Some slot, after) = (c.parts ≡ line_of (said (codes "slot") slot) ∷ after.parts) × (slot ≤ greatest_slot)

slot_behind : (c : Cursor) (l : Line × Cursor) (slot : Option ℕ) → LineOf c l → slot_line l.0.number l.0.fields ≡ Ok slot → SlotAt c (behind slot c l.1)
slot_behind c l None f e = refl
slot_behind c l (Some slot) f e =
    let s = slot_in_found l.0.number l.0.fields slot e in
    (first_is c l _ f s.fields_are, s.known)

pub slot_found : (c : Cursor) (x : Option ℕ × Cursor) → slot_at c ≡ Ok x → SlotAt c x
unfolding slot_at
slot_found c x e =
    after (next_line c) (λ l. slot_line l.0.number l.0.fields >>= λ slot. done (behind slot c l.1)) x e (λ l r0 e0.
    after (slot_line l.0.number l.0.fields) (λ slot. done (behind slot c l.1)) x e0 (λ slot r1 e1.
    at_end {F = ScenarioFault} (SlotAt c) (behind slot c l.1) x e1 (slot_behind c l slot (line_found c l r0) r1)))

pub slot_known : (c after : Cursor) (slot : Option ℕ) → SlotAt c (slot, after) → slot_in (version_with slot) ≤ greatest_slot
slot_known c after None h = omega arith
slot_known c after (Some slot) h = h.1
