-- The last text of a receipt is bytes where its link is.
use Rattle.std.proofs.Common.{◌<◌, ◌≤◌, ℕ, [], ◌∷◌, ◌++◌, sym, subst, arith}
use Rattle.std.proofs.lemmas.List.Elements.{All-nil}
use Rattle.gen_types.specs.Bits.{bits_of}
use Rattle.gen_log.specs.Fields.{AreBelow, set_spelling}
use Rattle.gen_log.specs.Kinds.{decide_kind}
use Rattle.gen_log.specs.Links.{first_link}
use Rattle.gen_convict.proofs.TextBytes.{more, both, number_bytes, first_bytes, behind_bytes}
use Rattle.gen_receipt.specs.Laws.{LastTextsAreBytes, AnswersAreBytes}
use Rattle.gen_receipt.proofs.Ended.{fits}

last : (order : ℕ) → order < 256 → AreBelow 256 (order ∷ [])
last order below = more order [] below (All-nil (λ v. v < 256))

pub last_texts : LastTextsAreBytes
last_texts h r ok is link =
    let few : h.network.orders ≤ 15 = ok.network.ranges.few_orders in
    let low : r.order < h.network.orders = is.decide.1 in
    let order = last r.order (omega (arith, few, low)) in
    let decision = both (set_spelling r.orders) (r.order ∷ []) (number_bytes 2 (bits_of r.orders)) order in
    let entry = more decide_kind (set_spelling r.orders ++ r.order ∷ []) (omega arith) decision in
    more 33 (r.link ++ (decide_kind ∷ (set_spelling r.orders ++ r.order ∷ []))) (omega arith) (both r.link (decide_kind ∷ (set_spelling r.orders ++ r.order ∷ [])) link entry)

pub answers : AnswersAreBytes
answers h r own a b ok is kept link c =
    let is_given = fits h r.general own c.given is.general kept c.of_log in
    let over = behind_bytes (first_link h r.general) c.of_log.before (first_bytes h r.general) in (
      subst (AreBelow 256) (sym c.first) (last_texts h r ok is link),
      subst (AreBelow 256) (sym c.second) (last_texts h c.given ok is_given (subst (AreBelow 256) (sym c.of_log.link) over)),
    )
