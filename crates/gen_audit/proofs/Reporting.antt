-- Reports, one after another.
use Rattle.std.proofs.Common.{◌≡◌, ℕ, suc, ◌+◌, ◌<◌, List, [], ◌∷◌, ◌++◌, length, take, drop, map, refl, sym, ap, subst, ◌∙◌, arith, append_assoc}
use Rattle.std.proofs.lemmas.List.{map-append}
use Rattle.std.proofs.lemmas.List.Elements.{All-append}
use Rattle.gen_net.specs.Header.{RunHeader}
use Rattle.gen_local.specs.Report.{LocalReport, IsReport, AreReportsOf}
use Rattle.gen_log.specs.Writing.{LogBytes}
use Rattle.gen_local.proofs.Grouped.{one_report_more}
use Rattle.gen_audit.specs.Loops.Dealing.{dealt, Each}
use Rattle.gen_audit.specs.declared.hands.Hand.{Hand}
use Rattle.gen_audit.specs.Loops.Hands.{AreHands}
use Rattle.gen_audit.proofs.Dealt.{each_more, each_shifts}

-- the reports of some exhibits and those of others
pub both_reports : (h : RunHeader) (xs ys : List LogBytes) (rs ss : List LocalReport) → AreReportsOf h xs rs → AreReportsOf h ys ss → AreReportsOf h (xs ++ ys) (rs ++ ss)
both_reports h xs ys rs ss one two = record {
  exhibits = map-append (λ (r : LocalReport). r.exhibit) rs ss ∙ (ap (λ (zs : List LogBytes). zs ++ map (λ (r : LocalReport). r.exhibit) ss) one.exhibits ∙ ap (λ (zs : List LogBytes). xs ++ zs) two.exhibits);
  header = All-append (λ (r : LocalReport). r.header ≡ h) rs ss one.header two.header;
  each = All-append IsReport rs ss one.each two.each;
}

-- there is a report of the first exhibit
pub has_one : (h : RunHeader) (x : LogBytes) (xs : List LogBytes) (rs : List LocalReport) → AreReportsOf h (x ∷ xs) rs → 0 < length rs
has_one h x xs [] are = let e : [] ≡ x ∷ xs = are.exhibits in absurd (cc)
has_one h x xs (r ∷ rs) are = omega arith

-- the first report is that of the first exhibit, the others are those of the others
pub first_report : (h : RunHeader) (x : LogBytes) (xs : List LogBytes) (r : LocalReport) (rs : List LocalReport) → AreReportsOf h (x ∷ xs) (r ∷ rs) → (before : List LogBytes) (reports : List LocalReport) → AreReportsOf h before reports → AreReportsOf h (before ++ x ∷ []) (reports ++ r ∷ [])
first_report h x xs r rs are before reports done =
    let e : r.exhibit ∷ map (λ s. s.exhibit) rs ≡ x ∷ xs = are.exhibits in
    let same : r.exhibit ≡ x = cc in
    one_report_more h before reports r x done (are.header 0 r (omega arith)) same (are.each 0 r (omega arith))

pub other_reports : (h : RunHeader) (x : LogBytes) (xs : List LogBytes) (r : LocalReport) (rs : List LocalReport) → AreReportsOf h (x ∷ xs) (r ∷ rs) → AreReportsOf h xs rs
other_reports h x xs r rs are =
    let e : r.exhibit ∷ map (λ s. s.exhibit) rs ≡ x ∷ xs = are.exhibits in
    record {
      exhibits = cc;
      header = λ k d low. are.header (suc k) d (omega arith);
      each = λ k d low. are.each (suc k) d (omega arith);
    }

-- ---- hands

module _ (h : RunHeader) (last : ℕ) where
  pub has_next_report : (rest : List LogBytes) (hands others : List Hand) (hand : Hand) → 0 < length rest → AreHands h rest last hands → hands ≡ hand ∷ others → 0 < length hand.reports.items
  has_next_report [] hands others hand low are is = absurd (omega arith)
  has_next_report (x ∷ xs) hands others hand low are is =
      let each = subst (Each (λ k hand. AreReportsOf h (dealt last k (x ∷ xs)) hand.reports.items) 0) is are.each in
      has_one h x (dealt last last xs) hand.reports.items each.0

  pub next_hands : (rest : List LogBytes) (hands others : List Hand) (hand left : Hand) (r : LocalReport) → 0 < length rest → AreHands h rest last hands → hands ≡ hand ∷ others
      → hand.reports.items ≡ r ∷ left.reports.items → AreHands h (drop 1 rest) last (others ++ left ∷ [])
  next_hands [] hands others hand left r low are is cut = absurd (omega arith)
  next_hands (x ∷ xs) hands others hand left r low are is cut =
      let each = subst (Each (λ k hand. AreReportsOf h (dealt last k (x ∷ xs)) hand.reports.items) 0) is are.each in
      let n : length hands ≡ suc (length others) = ap length is in
      let m : last ≡ 0 + length others = (let c = are.count in omega arith) in
      record {
        count = Rattle.std.proofs.lemmas.List.length_push others left ∙ omega arith;
        each = each_more (λ k hand. AreReportsOf h (dealt last k xs) hand.reports.items) 0 last others left m
            (each_shifts (λ k hand. AreReportsOf h (dealt last k (x ∷ xs)) hand.reports.items) (λ k hand. AreReportsOf h (dealt last k xs) hand.reports.items) 0 others (λ j y is. is) each.1)
            (other_reports h x (dealt last last xs) r left.reports.items (subst (AreReportsOf h (x ∷ dealt last last xs)) cut each.0));
      }

  pub next_reports : (rest : List LogBytes) (hands others : List Hand) (hand : Hand) (r : LocalReport) (rs : List LocalReport) → 0 < length rest → AreHands h rest last hands → hands ≡ hand ∷ others
      → hand.reports.items ≡ r ∷ rs → (before : List LogBytes) (reports : List LocalReport) → AreReportsOf h before reports → AreReportsOf h (before ++ take 1 rest) (reports ++ r ∷ [])
  next_reports [] hands others hand r rs low are is cut before reports done = absurd (omega arith)
  next_reports (x ∷ xs) hands others hand r rs low are is cut before reports done =
      let each = subst (Each (λ k hand. AreReportsOf h (dealt last k (x ∷ xs)) hand.reports.items) 0) is are.each in
      first_report h x (dealt last last xs) r rs (subst (AreReportsOf h (x ∷ dealt last last xs)) cut each.0) before reports done

pub cut_one : (xs : List LogBytes) → take 1 xs ++ drop 1 xs ≡ xs
cut_one [] = refl
cut_one (x ∷ xs) = refl

pub put_one : (exhibits before rest others : List LogBytes) → others ≡ drop 1 rest → exhibits ≡ before ++ rest → exhibits ≡ (before ++ take 1 rest) ++ others
put_one exhibits before rest others is all =
    all ∙ (ap (λ xs. before ++ xs) (sym (cut_one rest)) ∙ (sym (append_assoc before (take 1 rest) (drop 1 rest)) ∙ ap (λ xs. (before ++ take 1 rest) ++ xs) (sym is)))
