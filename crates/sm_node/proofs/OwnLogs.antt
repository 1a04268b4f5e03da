-- The log of a node that has ended, which gives a receipt that holds.
use Rattle.std.proofs.Common.{◌≡◌, ℕ, List, Result, Ok, Err, Vec, Global, refl, sym, ap, subst, ◌∙◌}
use Rattle.std.specs.Prelude.{IfOk}
use Rattle.gen_types.proofs.Steps.{ok_is}
use Rattle.gen_net.specs.Header.{RunHeader}
use Rattle.gen_log.specs.declared.fault.LogFault.{LogFault}
use Rattle.gen_log.specs.Links.{HeadVerifies}
use Rattle.gen_log.specs.Log.{RunLog, IsLog, log_spelling}
use Rattle.gen_log.specs.LogReading.{log_of}
use Rattle.gen_log.specs.Writing.{LogBytes}
use Rattle.gen_general.specs.Recording.{IsSealed, Recorder, log_kept, log_written}
use Rattle.gen_node.specs.Node.{header_at}
use Rattle.gen_receipt.specs.declared.receipts.Receipt.{Receipt}
use Rattle.gen_receipt.specs.Laws.{ReceiptsAreComplete}
use Rattle.gen_receipt.specs.ReceiptSpelling.{receipt_spelling}
use Rattle.gen_receipt.specs.Receipts.{IsReceiptOfBytes, ReceiptHolds}
use Rattle.sm_node.specs.EndedNode.{IsOwnReceipt, IsSealedLog}

-- lawful logs of the run are read again
abbrev ReadsAgain : RunHeader → Type 0
ReadsAgain h = (l : RunLog) → IsLog h l → log_of h (log_spelling l) ≡ Ok l

read : (h : RunHeader) (log : LogBytes) (sealed : IsSealedLog h log) → ReadsAgain h → log_of h log.bytes ≡ Ok sealed.0
read h log sealed again = ap (log_of h) sealed.1 ∙ again sealed.0 sealed.2.0

not_both : {X F : Type 0} (x : X) (f : F) → Ok x ≡ Err f → ⊥
not_both x f e = absurd cc

pub has_no_fault : (h : RunHeader) (log : LogBytes) (given : List ℕ) (f : LogFault) → IsSealedLog h log → ReadsAgain h → given ≡ log.bytes → log_of h given ≡ Err f → ⊥
has_no_fault h log given f sealed again same fault = not_both sealed.0 f (sym (ap (log_of h) same ∙ read h log sealed again) ∙ fault)

own_receipt : (h : RunHeader) (log : LogBytes) (given : List ℕ) (g : ℕ) (r : Receipt) (text : List ℕ) → IsSealedLog h log → ReadsAgain h → ReceiptsAreComplete → given ≡ log.bytes → g ≡ log.general → IsReceiptOfBytes h g given r → text ≡ receipt_spelling h r → IsOwnReceipt h log text
own_receipt h log given g r text sealed again complete same whose of_bytes spelled =
    let of_general : IsReceiptOfBytes h log.general given r = subst (λ (x : ℕ). IsReceiptOfBytes h x given r) whose of_bytes in
    let of_log : IsReceiptOfBytes h log.general log.bytes r = subst (λ (x : List ℕ). IsReceiptOfBytes h log.general x r) same of_general in
    let one : of_log.0 ≡ sealed.0 = ok_is {F = LogFault} of_log.0 sealed.0 (sym of_log.1 ∙ read h log sealed again) in
    let verifies : HeadVerifies h log.general of_log.0 = subst (HeadVerifies h log.general) (sym one) sealed.2.1 in
    let holds : ReceiptHolds h r = (complete h log.general of_log.0 r of_log.2).0.1 verifies in
    (r, of_log, holds, spelled)

-- the same of the text that a call answers
pub own_receipts : {E : Type 0} (h : RunHeader) (log : LogBytes) (given : List ℕ) (g : ℕ) (r : Receipt) (answer : Result (Vec ℕ Global) E) → IsSealedLog h log → ReadsAgain h → ReceiptsAreComplete → given ≡ log.bytes → g ≡ log.general → IsReceiptOfBytes h g given r → IfOk answer (λ text. text.items ≡ receipt_spelling h r) → IfOk answer (λ text. IsOwnReceipt h log text.items)
own_receipts h log given g r (Ok text) sealed again complete same whose of_bytes spelled = own_receipt h log given g r text.items sealed again complete same whose of_bytes spelled
own_receipts h log given g r (Err e) sealed again complete same whose of_bytes spelled = tt

-- the log of a node that has ended is sealed
pub sealed_node : (r : Recorder) (h : RunHeader) (log : LogBytes) → h ≡ header_at r → log ≡ log_written r → IsSealed (header_at r) r.standing.known.me (log_kept r) → IsSealedLog h log
sealed_node r h log run same sealed =
    let plain : IsSealedLog (header_at r) (log_written r) = (log_kept r, refl, sealed) in
    subst (λ (x : RunHeader). IsSealedLog x log) (sym run) (subst (IsSealedLog (header_at r)) (sym same) plain)
