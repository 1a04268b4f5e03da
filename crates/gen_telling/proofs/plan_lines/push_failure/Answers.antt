use Rattle.std.proofs.Common.{◌≡◌, ◌++◌, ◌∙◌, ℕ, List, ap, append_assoc, codes, string_bytes}
use Rattle.std.specs.Fmt.{decimal}
use Rattle.gen_file.specs.Lists.{listed}
use Rattle.gen_telling.specs.PlanText.{failure_lines, number_words}
use Rattle.gen_telling.proofs.plan_lines.push_failure.Goals as goal

-- what is behind what stood before, with a piece more
more : (old x y said piece : List ℕ) → x ≡ old ++ said → y ≡ x ++ piece → y ≡ old ++ (said ++ piece)
more old x y said piece e f = f ∙ (ap (λ xs. xs ++ piece) e ∙ append_assoc old said piece)

pub returns : goal.returns
returns c = unfold failure_lines in
    let old = string_bytes c.args.out.now in
    let f = c.args.failure.now in
    let first = codes "plan fails\nwithout " in
    let pair = codes "\npair " ++ decimal f.a ++ codes " " ++ decimal f.b ++ codes "\nleast diameter " in
    let least = number_words f.least_diameter in
    let named = codes "\nmost traitors " in
    let most = number_words f.most_traitors in
    let wrote : string_bytes c.write.new.self ≡ string_bytes c.push_members.new.out ++ pair = simp append_assoc c.in_ok-write.ensures.bytes in
    let two = more old _ _ first (listed f.faulty) c.in_ok-push_str.ensures.bytes c.in_ok-push_members.ensures in
    let three = more old _ _ (first ++ listed f.faulty) pair two wrote in
    let four = more old _ _ (first ++ listed f.faulty ++ pair) least three c.in_ok-push_number.ensures in
    let five = more old _ _ (first ++ listed f.faulty ++ pair ++ least) named four c.in_ok-push_str-2.ensures.bytes in
    let six = more old _ _ (first ++ listed f.faulty ++ pair ++ least ++ named) most five c.in_ok-push_number-2.ensures in
    more old _ _ (first ++ listed f.faulty ++ pair ++ least ++ named ++ most) (codes "\n") six c.in_ok-push_str-3.ensures.bytes
