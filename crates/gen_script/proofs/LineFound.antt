-- A line that is read is spelled so.
use Rattle.std.proofs.Common.{◌≡◌, ◌≢◌, ℕ, ◌<◌, Bool, true, false, cond, ◌&&◌, ltb, leb, List, [], ◌∷◌, codes, Result, Ok, Err, refl, sym, ap}
use Rattle.std.specs.List.{list_any}
use Rattle.std.specs.Str.{bytes_eq}
use Rattle.std.specs.Fmt.{decimal}
use Rattle.std.proofs.lemmas.Bool.{ltb-true, leb-true}
use Rattle.std.proofs.lemmas.List.Splits.{join_with_byte-slice_split}
use Rattle.std.proofs.lemmas.Slice.Eq.{bytes_eq-Decides}
use Rattle.hex.specs.declared.error.FromHexError.{FromHexError}
use Rattle.hex.specs.Hex.{decode_of}
use Rattle.gen_types.specs.Reading.{◌>>=◌, check}
use Rattle.gen_types.specs.Texts.{fields}
use Rattle.gen_types.proofs.Steps.{after, after_check, at_end}
use Rattle.gen_types.proofs.Decimals.{both}
use Rattle.gen_net.specs.Network.{Network, rounds, AreNeighbours}
use Rattle.gen_net.specs.Edges.{joins}
use Rattle.gen_script.specs.declared.fault.ScriptFault.{ScriptFault}
use Rattle.gen_script.specs.declared.fault.ScriptFault.TheVariants.{Shape, BadRound, NoNeighbour, BadOrder}
use Rattle.gen_script.specs.declared.lines.ScriptLine.{ScriptLine}
use Rattle.gen_script.specs.declared.lines.ScriptLine.TheVariants.{Make, Pass, Bend, Raw, Hide, TwoHeads}
use Rattle.gen_script.specs.declared.path_fields.PathKind.TheVariants.{Whole, Added}
use Rattle.gen_script.specs.FieldReading.{number_in, round_in, neighbour_in, order_in, some_bytes, parcel_in}
use Rattle.gen_script.specs.PathReading.{path_in}
use Rattle.gen_script.specs.LineReading.{make_in, pass_in, bend_in, raw_in, hide_in, line_in, script_line_of}
use Rattle.gen_script.specs.Digits.{SpellsBytes}
use Rattle.gen_script.specs.Line.{HasFields, IsRound, IsScriptLine, SpellsLine}
use Rattle.gen_script.proofs.Hexes.{decoded_found}
use Rattle.gen_script.proofs.Joining.{joined_found}
use Rattle.gen_script.proofs.PathTexts.{done, digits_found, path_found}

-- ---- fields

abbrev RoundOf : Network → ℕ → List ℕ → ℕ → Type 0
RoundOf net first digits r = (digits ≡ decimal r) × IsRound net first r

round_found : (net : Network) (first : ℕ) (digits : List ℕ) (r : ℕ) → round_in net first digits ≡ Ok r → RoundOf net first digits r
unfolding round_in
round_found net first digits r e =
    after (number_in digits) (λ n. check (leb first n && leb n (rounds net)) BadRound >>= λ known. done n) r e (λ n r0 e0.
    after_check (leb first n && leb n (rounds net)) BadRound (λ known. done n) r e0 (λ in_range e1.
    let h = both _ _ in_range in
    at_end {F = ScriptFault} (RoundOf net first digits) n r e1 ((digits_found digits n r0).0, (leb-true _ _ h.0, leb-true _ _ h.1))))

abbrev NeighbourOf : Network → ℕ → List ℕ → ℕ → Type 0
NeighbourOf net me digits g = (digits ≡ decimal g) × AreNeighbours net me g

neighbour_found : (net : Network) (me : ℕ) (digits : List ℕ) (g : ℕ) → neighbour_in net me digits ≡ Ok g → NeighbourOf net me digits g
unfolding neighbour_in
neighbour_found net me digits g e =
    after (number_in digits) (λ h. check (list_any (joins me h) net.edges) NoNeighbour >>= λ near. done h) g e (λ h r0 e0.
    after_check (list_any (joins me h) net.edges) NoNeighbour (λ near. done h) g e0 (λ near e1.
    at_end {F = ScriptFault} (NeighbourOf net me digits) h g e1 ((digits_found digits h r0).0, joined_found me h net.edges near)))

abbrev OrderOf : Network → List ℕ → ℕ → Type 0
OrderOf net digits v = (digits ≡ decimal v) × (v < net.orders)

order_found : (net : Network) (digits : List ℕ) (v : ℕ) → order_in net digits ≡ Ok v → OrderOf net digits v
unfolding order_in
order_found net digits v e =
    after (number_in digits) (λ w. check (ltb w net.orders) BadOrder >>= λ known. done w) v e (λ w r0 e0.
    after_check (ltb w net.orders) BadOrder (λ known. done w) v e0 (λ known e1.
    at_end {F = ScriptFault} (OrderOf net digits) w v e1 ((digits_found digits w r0).0, ltb-true _ _ known)))

abbrev decoded : List ℕ → Result (List ℕ) FromHexError
decoded bytes = Ok bytes

bytes_found : (r : Result (List ℕ) FromHexError) (bytes : List ℕ) → some_bytes r ≡ Ok bytes → (r ≡ Ok bytes) × (bytes ≢ [])
bytes_found (Err d) bytes e = absurd cc
bytes_found (Ok []) bytes e = absurd cc
bytes_found (Ok (b ∷ more)) bytes e = at_end {F = ScriptFault} (λ (y : List ℕ). (decoded (b ∷ more) ≡ decoded y) × (y ≢ [])) (b ∷ more) bytes e (refl, λ none. cc)

parcel_found : (digits bytes : List ℕ) → parcel_in digits ≡ Ok bytes → SpellsBytes digits bytes × (bytes ≢ [])
parcel_found digits bytes e = let h = bytes_found (decode_of digits) bytes e in (decoded_found digits bytes h.0, h.1)

-- ---- lines

abbrev pub Says : Network → ℕ → List (List ℕ) → ScriptLine → Type 0
Says net me fs said = HasFields fs said × IsScriptLine net me said

four : (w x a a' b b' c c' : List ℕ) → w ≡ x → a ≡ a' → b ≡ b' → c ≡ c' → (w ∷ a ∷ b ∷ c ∷ []) ≡ (x ∷ a' ∷ b' ∷ c' ∷ [])
four w x a a' b b' c c' p q r s = cc

five : (w x a a' b b' c c' d d' : List ℕ) → w ≡ x → a ≡ a' → b ≡ b' → c ≡ c' → d ≡ d' → (w ∷ a ∷ b ∷ c ∷ d ∷ []) ≡ (x ∷ a' ∷ b' ∷ c' ∷ d' ∷ [])
five w x a a' b b' c c' d d' p q r s t = cc

six : (w x a a' b b' c c' d d' e e' : List ℕ) → w ≡ x → a ≡ a' → b ≡ b' → c ≡ c' → d ≡ d' → e ≡ e' → (w ∷ a ∷ b ∷ c ∷ d ∷ e ∷ []) ≡ (x ∷ a' ∷ b' ∷ c' ∷ d' ∷ e' ∷ [])
six w x a a' b b' c c' d d' e e' p q r s t u = cc

make_found : (net : Network) (me : ℕ) (w a b c d : List ℕ) (said : ScriptLine) → w ≡ codes "make" → make_in net me a b c d ≡ Ok said → Says net me (w ∷ a ∷ b ∷ c ∷ d ∷ []) said
unfolding make_in
make_found net me w a b c d said word e =
    after (round_in net 1 a) (λ r. neighbour_in net me b >>= λ h. order_in net c >>= λ v. path_in net me Whole r d >>= λ p. done (Make r h v p)) said e (λ r r0 e0.
    after (neighbour_in net me b) (λ h. order_in net c >>= λ v. path_in net me Whole r d >>= λ p. done (Make r h v p)) said e0 (λ h r1 e1.
    after (order_in net c) (λ v. path_in net me Whole r d >>= λ p. done (Make r h v p)) said e1 (λ v r2 e2.
    after (path_in net me Whole r d) (λ p. done (Make r h v p)) said e2 (λ p r3 e3.
    let round = round_found net 1 a r r0 in
    let to = neighbour_found net me b h r1 in
    let order = order_found net c v r2 in
    let path = path_found net me Whole r d p r3 in
    at_end {F = ScriptFault} (Says net me (w ∷ a ∷ b ∷ c ∷ d ∷ [])) (Make r h v p) said e3
    (five w _ a _ b _ c _ d _ word round.0 to.0 order.0 path.text_is, (round.1, to.1, order.1, path.leads, path.suits.0, path.suits.1))))))

pass_found : (net : Network) (me : ℕ) (w a b c d f : List ℕ) (said : ScriptLine) → w ≡ codes "pass" → pass_in net me a b c d f ≡ Ok said → Says net me (w ∷ a ∷ b ∷ c ∷ d ∷ f ∷ []) said
unfolding pass_in
pass_found net me w a b c d f said word e =
    after (round_in net 1 a) (λ r. neighbour_in net me b >>= λ h. neighbour_in net me c >>= λ k. order_in net d >>= λ v. path_in net me Added r f >>= λ p. done (Pass r h k v p)) said e (λ r r0 e0.
    after (neighbour_in net me b) (λ h. neighbour_in net me c >>= λ k. order_in net d >>= λ v. path_in net me Added r f >>= λ p. done (Pass r h k v p)) said e0 (λ h r1 e1.
    after (neighbour_in net me c) (λ k. order_in net d >>= λ v. path_in net me Added r f >>= λ p. done (Pass r h k v p)) said e1 (λ k r2 e2.
    after (order_in net d) (λ v. path_in net me Added r f >>= λ p. done (Pass r h k v p)) said e2 (λ v r3 e3.
    after (path_in net me Added r f) (λ p. done (Pass r h k v p)) said e3 (λ p r4 e4.
    let round = round_found net 1 a r r0 in
    let to = neighbour_found net me b h r1 in
    let from = neighbour_found net me c k r2 in
    let order = order_found net d v r3 in
    let path = path_found net me Added r f p r4 in
    at_end {F = ScriptFault} (Says net me (w ∷ a ∷ b ∷ c ∷ d ∷ f ∷ [])) (Pass r h k v p) said e4
    (six w _ a _ b _ c _ d _ f _ word round.0 to.0 from.0 order.0 path.text_is, (round.1, to.1, from.1, order.1, path.leads, path.suits.0, path.suits.1)))))))

bend_found : (net : Network) (me : ℕ) (w a b c d : List ℕ) (said : ScriptLine) → w ≡ codes "bend" → bend_in net me a b c d ≡ Ok said → Says net me (w ∷ a ∷ b ∷ c ∷ d ∷ []) said
unfolding bend_in
bend_found net me w a b c d said word e =
    after (round_in net 2 a) (λ r. neighbour_in net me b >>= λ h. neighbour_in net me c >>= λ k. order_in net d >>= λ v. done (Bend r h k v)) said e (λ r r0 e0.
    after (neighbour_in net me b) (λ h. neighbour_in net me c >>= λ k. order_in net d >>= λ v. done (Bend r h k v)) said e0 (λ h r1 e1.
    after (neighbour_in net me c) (λ k. order_in net d >>= λ v. done (Bend r h k v)) said e1 (λ k r2 e2.
    after (order_in net d) (λ v. done (Bend r h k v)) said e2 (λ v r3 e3.
    let round = round_found net 2 a r r0 in
    let to = neighbour_found net me b h r1 in
    let from = neighbour_found net me c k r2 in
    let order = order_found net d v r3 in
    at_end {F = ScriptFault} (Says net me (w ∷ a ∷ b ∷ c ∷ d ∷ [])) (Bend r h k v) said e3
    (five w _ a _ b _ c _ d _ word round.0 to.0 from.0 order.0, (round.1, to.1, from.1, order.1))))))

raw_found : (net : Network) (me : ℕ) (w a b c : List ℕ) (said : ScriptLine) → w ≡ codes "raw" → raw_in net me a b c ≡ Ok said → Says net me (w ∷ a ∷ b ∷ c ∷ []) said
unfolding raw_in
raw_found net me w a b c said word e =
    after (round_in net 1 a) (λ r. neighbour_in net me b >>= λ h. parcel_in c >>= λ p. done (Raw r h p)) said e (λ r r0 e0.
    after (neighbour_in net me b) (λ h. parcel_in c >>= λ p. done (Raw r h p)) said e0 (λ h r1 e1.
    after (parcel_in c) (λ p. done (Raw r h p)) said e1 (λ p r2 e2.
    let round = round_found net 1 a r r0 in
    let to = neighbour_found net me b h r1 in
    let parcel = parcel_found c p r2 in
    at_end {F = ScriptFault} (Says net me (w ∷ a ∷ b ∷ c ∷ [])) (Raw r h p) said e2
    ((c, four w _ a _ b _ c c word round.0 to.0 refl, parcel.0), (round.1, to.1, parcel.1)))))

hide_found : (net : Network) (me : ℕ) (w a b c : List ℕ) (said : ScriptLine) → w ≡ codes "hide" → hide_in net me a b c ≡ Ok said → Says net me (w ∷ a ∷ b ∷ c ∷ []) said
unfolding hide_in
hide_found net me w a b c said word e =
    after (round_in net 1 a) (λ r. neighbour_in net me b >>= λ k. order_in net c >>= λ v. done (Hide r k v)) said e (λ r r0 e0.
    after (neighbour_in net me b) (λ k. order_in net c >>= λ v. done (Hide r k v)) said e0 (λ k r1 e1.
    after (order_in net c) (λ v. done (Hide r k v)) said e1 (λ v r2 e2.
    let round = round_found net 1 a r r0 in
    let from = neighbour_found net me b k r1 in
    let order = order_found net c v r2 in
    at_end {F = ScriptFault} (Says net me (w ∷ a ∷ b ∷ c ∷ [])) (Hide r k v) said e2
    (four w _ a _ b _ c _ word round.0 from.0 order.0, (round.1, from.1, order.1)))))

-- ---- words

-- an if that reads on where its test holds, and else does the other
chosen : {P : Type 0} (w word : List ℕ) (r other : Result ScriptLine ScriptFault) (y : ScriptLine) → cond (bytes_eq w word) r other ≡ Ok y → (w ≡ word → r ≡ Ok y → P) → (other ≡ Ok y → P) → P
chosen {P} w word r other y e then_so else_so = by_test (bytes_eq w word) (bytes_eq-Decides w word).0 e
  where
    by_test : (b : Bool) → (b ≡ true → w ≡ word) → cond b r other ≡ Ok y → P
    by_test true is h = then_so (is refl) h
    by_test false is h = else_so h

refused : {P : Type 0} (y : ScriptLine) → (let r : Result ScriptLine ScriptFault = Err Shape in r ≡ Ok y) → P
refused y e = absurd cc

line_found : (net : Network) (me : ℕ) (fs : List (List ℕ)) (said : ScriptLine) → line_in net me fs ≡ Ok said → Says net me fs said
unfolding line_in
line_found net me [] said e = refused said e
line_found net me (w ∷ []) said e =
    chosen w (codes "twohead") (done TwoHeads) (Err Shape) said e (λ word h. at_end {F = ScriptFault} (Says net me (w ∷ [])) TwoHeads said h (ap (λ (v : List ℕ). v ∷ []) word, tt)) (refused said)
line_found net me (w ∷ a ∷ []) said e = refused said e
line_found net me (w ∷ a ∷ b ∷ []) said e = refused said e
line_found net me (w ∷ a ∷ b ∷ c ∷ []) said e =
    chosen w (codes "raw") (raw_in net me a b c) _ said e (raw_found net me w a b c said)
    (λ e0. chosen w (codes "hide") (hide_in net me a b c) (Err Shape) said e0 (hide_found net me w a b c said) (refused said))
line_found net me (w ∷ a ∷ b ∷ c ∷ d ∷ []) said e =
    chosen w (codes "make") (make_in net me a b c d) _ said e (make_found net me w a b c d said)
    (λ e0. chosen w (codes "bend") (bend_in net me a b c d) (Err Shape) said e0 (bend_found net me w a b c d said) (refused said))
line_found net me (w ∷ a ∷ b ∷ c ∷ d ∷ f ∷ []) said e =
    chosen w (codes "pass") (pass_in net me a b c d f) (Err Shape) said e (pass_found net me w a b c d f said) (refused said)
line_found net me (w ∷ a ∷ b ∷ c ∷ d ∷ f ∷ g ∷ more) said e = refused said e

pub script_line_found : (net : Network) (me : ℕ) (line : List ℕ) (said : ScriptLine) → script_line_of net me line ≡ Ok said → SpellsLine net me line said
script_line_found net me line said e =
    let h = line_found net me (fields line) said e in
    record { parts = fields line; line_is = sym (join_with_byte-slice_split 32 line); fields = h.0; lawful = h.1 }
