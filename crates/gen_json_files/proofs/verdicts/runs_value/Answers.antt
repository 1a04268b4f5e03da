use Rattle.std.proofs.Common.{◌≡◌, ◌∙◌, ◌++◌, List, None, [], ◌∷◌, ap, append_assoc, append-nil, map, sym}
use Rattle.std.proofs.lemmas.List.{map-append, nil_from_length}
use Rattle.serde_json.specs.Data.{Data, array}
use Rattle.serde_json.specs.View.{items_of, view}
use Rattle.serde_json.proofs.Views.{view-Array}
use Rattle.gen_audit.specs.Bundle.{Bundle}
use Rattle.gen_audit.specs.declared.verdicts.Judgement.{Judgement}
use Rattle.gen_json_files.specs.CampaignData.{run_data, runs_data}
use Rattle.gen_json_files.proofs.verdicts.runs_value.Goals as goal

-- the judgement on one run more stands behind those on the runs before
told : {A : Type 0} (seen : A → Data) (old new : List A) (value : A) (b : Bundle) (j : Judgement)
    (runs others : List Bundle) (rest more : List Judgement) (total : List Data)
    → runs ≡ b ∷ others → rest ≡ j ∷ more → seen value ≡ run_data None b j → new ≡ old ++ value ∷ []
    → map seen old ++ runs_data runs rest ≡ total → map seen new ++ runs_data others more ≡ total
told {A} seen old new value b j runs others rest more total bundles judgements here items before =
    ap (λ (xs : List A). map seen xs ++ runs_data others more) items
    ∙ ap (λ (ds : List Data). ds ++ runs_data others more) (map-append seen old (value ∷ []))
    ∙ append_assoc (map seen old) (seen value ∷ []) (runs_data others more)
    ∙ ap (λ (d : Data). map seen old ++ (d ∷ runs_data others more)) here
    ∙ ap (λ (js : List Judgement). map seen old ++ runs_data (b ∷ others) js) (sym judgements)
    ∙ ap (λ (bs : List Bundle). map seen old ++ runs_data bs rest) (sym bundles)
    ∙ before

-- where no run is left, all are told
all_told : {A : Type 0} (seen : A → Data) (list : List A) (runs : List Bundle) (rest : List Judgement) (total : List Data)
    → runs ≡ [] → map seen list ++ runs_data runs rest ≡ total
    → array (items_of (map seen list)) ≡ array (items_of total)
all_told seen list runs rest total none before =
    ap (λ (ds : List Data). array (items_of ds))
    (sym (append-nil (map seen list)) ∙ ap (λ (bs : List Bundle). map seen list ++ runs_data bs rest) (sym none) ∙ before)

pub runs-preserved : goal.runs-preserved
runs-preserved c =
    let b = c.in-Some.bundle.now in
    let j = c.in-Some-split_first.judgement.now in
    let here : view c.in_ok-value.value ≡ run_data None b j = c.in_ok-value.ensures in
    told view c.runs.list.items c.push.new.list.items c.in_ok-value.value b j
    c.runs.runs.now c.in-Some.others.now c.runs.rest.now c.in-Some-split_first.more.now _
    c.in-Some.ensures.cases.0 c.in-Some-split_first.ensures.cases.0 here c.in_ok-push.ensures.ok c.runs.invariant

pub returns : goal.returns
returns c = view-Array c.runs.list ∙ all_told view c.runs.list.items c.runs.runs.now c.runs.rest.now _ (nil_from_length _ c.in_default.ensures.cases) c.runs.invariant
