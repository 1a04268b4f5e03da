-- Fields of which no script line is made.
use Rattle.std.proofs.Common.{◌≡◌, ◌≢◌, ℕ, false, List, [], ◌∷◌, length, map, get_or, codes, Err, refl, sym, ap, ◌∙◌, arith}
use Rattle.std.specs.Str.{bytes_eq}
use Rattle.gen_net.specs.Network.{Network}
use Rattle.gen_script.specs.declared.fault.ScriptFault.TheVariants.{Shape}
use Rattle.gen_script.specs.LineReading.{line_in}

-- other numbers of fields than those of script lines
pub other_many : {X : Type 0} (view : X → List ℕ) (net : Network) (me : ℕ) (fs : List X) → length fs ≢ 1 → length fs ≢ 4 → length fs ≢ 5 → length fs ≢ 6 → line_in net me (map view fs) ≡ Err Shape
unfolding line_in
other_many view net me [] p q r s = refl
other_many view net me (w ∷ []) p q r s = absurd (p refl)
other_many view net me (w ∷ a ∷ []) p q r s = refl
other_many view net me (w ∷ a ∷ b ∷ []) p q r s = refl
other_many view net me (w ∷ a ∷ b ∷ c ∷ []) p q r s = absurd (q refl)
other_many view net me (w ∷ a ∷ b ∷ c ∷ d ∷ []) p q r s = absurd (r refl)
other_many view net me (w ∷ a ∷ b ∷ c ∷ d ∷ e ∷ []) p q r s = absurd (s refl)
other_many view net me (w ∷ a ∷ b ∷ c ∷ d ∷ e ∷ f ∷ more) p q r s = refl

-- ---- the word is another

differs : (w s word : List ℕ) → s ≡ word → false ≡ bytes_eq w s → bytes_eq w word ≡ false
differs w s word is other = ap (bytes_eq w) (sym is) ∙ sym other

pub other_of_1 : {X : Type 0} (view : X → List ℕ) (net : Network) (me : ℕ) (fs : List X) (d : X) → length fs ≡ 1 → (p1 : List ℕ) → p1 ≡ codes "twohead" → false ≡ bytes_eq (view (get_or fs 0 d)) p1 → line_in net me (map view fs) ≡ Err Shape
unfolding line_in
other_of_1 view net me [] d e s is p = absurd (omega arith)
other_of_1 view net me (w ∷ []) d e s is p = rw (differs (view w) s (codes "twohead") is p) refl
other_of_1 view net me (w ∷ a ∷ more) d e s is p = absurd (omega arith)

pub other_of_4 : {X : Type 0} (view : X → List ℕ) (net : Network) (me : ℕ) (fs : List X) (d : X) → length fs ≡ 4 → (p1 : List ℕ) → p1 ≡ codes "raw" → false ≡ bytes_eq (view (get_or fs 0 d)) p1 → (p2 : List ℕ) → p2 ≡ codes "hide" → false ≡ bytes_eq (view (get_or fs 0 d)) p2 → line_in net me (map view fs) ≡ Err Shape
unfolding line_in
other_of_4 view net me (w ∷ a ∷ b ∷ c ∷ []) d e s is p t also q = rw (differs (view w) s (codes "raw") is p, differs (view w) t (codes "hide") also q) refl
other_of_4 view net me [] d e s is p t also q = absurd (omega arith)
other_of_4 view net me (w ∷ []) d e s is p t also q = absurd (omega arith)
other_of_4 view net me (w ∷ a ∷ []) d e s is p t also q = absurd (omega arith)
other_of_4 view net me (w ∷ a ∷ b ∷ []) d e s is p t also q = absurd (omega arith)
other_of_4 view net me (w ∷ a ∷ b ∷ c ∷ x ∷ more) d e s is p t also q = absurd (omega arith)

pub other_of_5 : {X : Type 0} (view : X → List ℕ) (net : Network) (me : ℕ) (fs : List X) (d : X) → length fs ≡ 5 → (p1 : List ℕ) → p1 ≡ codes "make" → false ≡ bytes_eq (view (get_or fs 0 d)) p1 → (p2 : List ℕ) → p2 ≡ codes "bend" → false ≡ bytes_eq (view (get_or fs 0 d)) p2 → line_in net me (map view fs) ≡ Err Shape
unfolding line_in
other_of_5 view net me (w ∷ a ∷ b ∷ c ∷ f ∷ []) d e s is p t also q = rw (differs (view w) s (codes "make") is p, differs (view w) t (codes "bend") also q) refl
other_of_5 view net me [] d e s is p t also q = absurd (omega arith)
other_of_5 view net me (w ∷ []) d e s is p t also q = absurd (omega arith)
other_of_5 view net me (w ∷ a ∷ []) d e s is p t also q = absurd (omega arith)
other_of_5 view net me (w ∷ a ∷ b ∷ []) d e s is p t also q = absurd (omega arith)
other_of_5 view net me (w ∷ a ∷ b ∷ c ∷ []) d e s is p t also q = absurd (omega arith)
other_of_5 view net me (w ∷ a ∷ b ∷ c ∷ f ∷ x ∷ more) d e s is p t also q = absurd (omega arith)

pub other_of_6 : {X : Type 0} (view : X → List ℕ) (net : Network) (me : ℕ) (fs : List X) (d : X) → length fs ≡ 6 → (p1 : List ℕ) → p1 ≡ codes "pass" → false ≡ bytes_eq (view (get_or fs 0 d)) p1 → line_in net me (map view fs) ≡ Err Shape
unfolding line_in
other_of_6 view net me (w ∷ a ∷ b ∷ c ∷ f ∷ g ∷ []) d e s is p = rw (differs (view w) s (codes "pass") is p) refl
other_of_6 view net me [] d e s is p = absurd (omega arith)
other_of_6 view net me (w ∷ []) d e s is p = absurd (omega arith)
other_of_6 view net me (w ∷ a ∷ []) d e s is p = absurd (omega arith)
other_of_6 view net me (w ∷ a ∷ b ∷ []) d e s is p = absurd (omega arith)
other_of_6 view net me (w ∷ a ∷ b ∷ c ∷ []) d e s is p = absurd (omega arith)
other_of_6 view net me (w ∷ a ∷ b ∷ c ∷ f ∷ []) d e s is p = absurd (omega arith)
other_of_6 view net me (w ∷ a ∷ b ∷ c ∷ f ∷ g ∷ x ∷ more) d e s is p = absurd (omega arith)
