use Rattle.std.proofs.Common.{rules, ◌≡◌, ◌∙◌, ℕ, List, Bor, ap, eqb, filter, length, map, not}
use Rattle.std.proofs.lemmas.Fn.{filter_same}
use Rattle.gen_program.proofs.Names.{texts_kept}
use Rattle.gen_program.proofs.many.names_in.Goals as goal

pub returns : goal.returns
returns c =
    let left : c.retain.new.self.items ≡ filter (λ (x : Bor (List ℕ)). not (eqb (length x.now) 0)) c.in_ok-names.names.items
    = filter_same _ (λ x. not (eqb (length x.now) 0)) _ (λ x b f' k. search rules) _ _ c.retain.ensures.filtered in
    ap (map (λ (x : Bor (List ℕ)). x.now)) left ∙ texts_kept (λ name. not (eqb (length name) 0)) c.in_ok-names.names.items ∙ ap (filter (λ name. not (eqb (length name) 0))) c.in_ok-names.ensures
