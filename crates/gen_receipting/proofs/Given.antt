-- Which receipts exhibits give.
use Rattle.std.proofs.Common.{◌≡◌, ◌<◌, ◌+◌, ℕ, true, false, List, ◌∷◌, ◌++◌, length, take, drop, get_or, Contains, refl, sym, subst, ap, ◌∙◌}
use Rattle.std.specs.Prelude.{All, Bool, IfNone, IfSome, Option, Some, None, Result, Ok, Err}
use Rattle.std.specs.Option.{is_some}
use Rattle.std.proofs.lemmas.List.{take_more, take-append-drop, drop_more}
use Rattle.std.proofs.lemmas.List.Elements.{All-push, All-contains, Contains-get_or}
use Rattle.gen_types.specs.Ascending.{IsListOf}
use Rattle.gen_net.specs.Header.{RunHeader}
use Rattle.gen_log.specs.Log.{RunLog}
use Rattle.gen_log.specs.LogReading.{log_of}
use Rattle.gen_log.specs.Writing.{LogBytes}
use Rattle.gen_log.specs.declared.fault.LogFault.{LogFault}
use Rattle.gen_audit.specs.BundleParts.{IsExhibit}
use Rattle.gen_receipt.specs.declared.receipts.Receipt.{Receipt}
use Rattle.gen_receipt.specs.Convicting.{IsConvicted}
use Rattle.gen_receipt.specs.Laws.{OneReceipt}
use Rattle.gen_receipt.specs.ReceiptSpelling.{receipt_spelling}
use Rattle.gen_receipt.specs.Receipts.{AreReceipts, IsReceiptOf, IsReceiptOfBytes, ReceiptHolds}
use Rattle.gen_receipting.specs.Giving.{GivesFirst, GivesNone, GivesReceipt}

-- ---- one exhibit

-- an exhibit of another general gives no receipt of this one
pub of_another : (h : RunHeader) (g : ℕ) (x : LogBytes) → (x.general ≡ g → ⊥) → GivesNone h g x
of_another h g x other r gives = other gives.whose

abbrev read : RunLog → Result RunLog LogFault
read log = Ok log

one_log : (a b : RunLog) → read a ≡ read b → a ≡ b
one_log a b e = cc

not_fault : (r : Result RunLog LogFault) (log : RunLog) (fault : LogFault) → r ≡ Ok log → r ≡ Err fault → ⊥
not_fault r log fault e f = absurd cc

-- bytes give one receipt
one_receipt : OneReceipt → (h : RunHeader) (g : ℕ) (bytes : List ℕ) (r s : Receipt) → IsReceiptOfBytes h g bytes r → IsReceiptOfBytes h g bytes s → r ≡ s
one_receipt law h g bytes r s x y =
    let same : x.0 ≡ y.0 = one_log x.0 y.0 (sym x.1 ∙ y.1) in
    law h g y.0 r s (subst (λ (log : RunLog). IsReceiptOf h g log r) same x.2) y.2

-- if the receipt of an exhibit fails, the exhibit gives none
pub failing : OneReceipt → (h : RunHeader) (g : ℕ) (x : LogBytes) (r : Receipt) → IsReceiptOfBytes h g x.bytes r → (ReceiptHolds h r → ⊥) → GivesNone h g x
failing law h g x r made fails s gives = fails (subst (ReceiptHolds h) (one_receipt law h g x.bytes s r gives.of_bytes made) gives.holds)

-- an exhibit that reads as no log gives none
pub unreadable : (h : RunHeader) (g : ℕ) (x : LogBytes) (fault : LogFault) → log_of h x.bytes ≡ Err fault → GivesNone h g x
unreadable h g x fault is s gives = not_fault (log_of h x.bytes) gives.of_bytes.0 fault gives.of_bytes.1 is

-- ---- several

-- the general of each exhibit is one of the network
pub known_there : (n : ℕ) (xs : List LogBytes) (k : ℕ) (x : LogBytes) → All (IsExhibit n) xs → k < length xs → x ≡ get_or xs k x → x.general < n
known_there n xs k x all lt is = (All-contains (IsExhibit n) xs x all (subst (Contains xs) (sym is) (Contains-get_or xs k x lt))).known

-- the receipt of the exhibit in a place is the first that any gives
pub first_there : (h : RunHeader) (xs : List LogBytes) (k : ℕ) (x : LogBytes) (g : ℕ) (r : Receipt) (text : List ℕ) → k < length xs → x ≡ get_or xs k x
    → All (GivesNone h g) (take k xs) → GivesReceipt h g x r → text ≡ receipt_spelling h r → GivesFirst h xs g text false
first_there h xs k x g r text lt is none gives spelled =
    let split : xs ≡ take k xs ++ x ∷ drop (k + 1) xs = sym (take-append-drop k xs) ∙ ap (λ (ys : List LogBytes). take k xs ++ ys) (drop_more xs k x lt ∙ ap (λ (y : LogBytes). y ∷ drop (k + 1) xs) (sym is)) in
    (take k xs, x, drop (k + 1) xs, r, split, none, gives, spelled)

-- or it gives none, and so do all up to it
pub none_there : (h : RunHeader) (xs : List LogBytes) (k : ℕ) (x : LogBytes) (g : ℕ) → k < length xs → x ≡ get_or xs k x
    → All (GivesNone h g) (take k xs) → GivesNone h g x → All (GivesNone h g) (take (k + 1) xs)
none_there h xs k x g lt is none here =
    subst (λ (ys : List LogBytes). All (GivesNone h g) ys) (sym (take_more xs k x lt))
    (All-push (GivesNone h g) (take k xs) (get_or xs k x) none (subst (GivesNone h g) is here))

-- ---- what is found

-- what is said of a value that is there
pub of_some : {A : Type 0} (P : A → Type 0) (o : Option A) (x : A) → o ≡ Some x → IfSome o P → P x
of_some P None x e h = absurd cc
of_some P (Some y) x e h = let same : y ≡ x = cc in subst P same h

-- what is said where no value is there
pub of_none : {A : Type 0} (P : Type 0) (o : Option A) → ((x : A) → o ≡ Some x → ⊥) → IfNone o P → P
of_none P None never h = h
of_none P (Some x) never h = absurd (never x refl)

-- the same by a test
pub if_some : {A : Type 0} (P : Type 0) (o : Option A) (b : Bool) → b ≡ is_some o → b ≡ true → IfSome o (λ _. P) → P
if_some P None b is e h = absurd cc
if_some P (Some x) b is e h = h

pub if_none : {A : Type 0} (P : Type 0) (o : Option A) (b : Bool) → b ≡ is_some o → b ≡ false → IfNone o P → P
if_none P None b is e h = h
if_none P (Some x) b is e h = absurd cc

-- ---- who is convicted

-- a general that receipts convict is one of the network
pub all_convicted : (h : RunHeader) (rs : List Receipt) (generals : List ℕ) (n : ℕ) → AreReceipts h rs → n ≡ h.network.generals → IsListOf generals (λ g. (g < n) × IsConvicted h rs g) → IsListOf generals (IsConvicted h rs)
all_convicted h rs generals n are whole listed = record {
  ascending = listed.ascending;
  members = λ g. (
    (λ i. ((listed.members g).0 i).1),
    (λ p. (listed.members g).1 (subst (λ k. g < k) (sym whole) (subst (λ k. k < h.network.generals) p.first_holds.0 (are p.first p.first_given).general), p)),
  );
}
