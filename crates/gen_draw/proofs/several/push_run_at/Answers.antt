use Rattle.std.proofs.Common.{◌≡◌, ◌++◌, ◌∙◌, ℕ, List, Result, OnOk, ap, string_bytes}
use Rattle.gen_net.specs.Header.{RunHeader}
use Rattle.gen_draw.specs.Grid.{height_of, width_of}
use Rattle.gen_draw.specs.Picture.{grid_of}
use Rattle.gen_draw.specs.Several.{grid_in, run_at, run_opening}
use Rattle.gen_draw.specs.Shapes.{opening_of}
use Rattle.gen_draw.proofs.Chains.{behind, ended}
use Rattle.gen_draw.proofs.several.push_run_at.Goals as goal

-- a part behind an opening of some size
sized : {E : Type 0} (r : Result (Unit {0}) E) (old front part last one two three new : List ℕ) (w h width height : ℕ) → w ≡ width → h ≡ height
    → one ≡ old ++ front → two ≡ one ++ opening_of w h → three ≡ two ++ part → OnOk r (new ≡ three ++ last)
    → OnOk r (new ≡ old ++ (front ++ (opening_of width height ++ (part ++ last))))
sized r old front part last one two three new w h width height wide high first second third fourth =
    rw (← wide, ← high)
    (behind r old front one (opening_of w h ++ (part ++ last)) new first
    (behind r one (opening_of w h) two (part ++ last) new second (behind r two part three last new third fourth)))

pub returns : goal.returns
unfolding run_at run_opening
returns c =
    let grid : c.grid_of-grid.result ≡ grid_in c.args.bundle.now = c.grid_of-grid.ensures ∙ ap grid_of (c.net.ensures.value ∙ ap (λ (h : RunHeader). h.network) c.header.ensures.value) in
    sized _ (string_bytes c.args.out.now) _ _ _ _ _ _ _ _ _ _ _ (c.width.ensures ∙ ap width_of grid) (c.height.ensures.value ∙ ap height_of grid)
    c.in_ok-write.ensures.bytes c.in_ok-push_opening.ensures c.in_ok-push_run_part.ensures (ended _ _ _ _ c.push_str.ensures.bytes)
