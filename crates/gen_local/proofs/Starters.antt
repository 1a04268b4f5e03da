-- The general whom START names is of the network, and a log ends with DECIDE.
use Rattle.std.proofs.Common.{◌≡◌, ℕ, ◌<◌, ◌↔◌, IsTrue, Bool, List, [], ◌∷◌, Option, Some, None, map, sym, ap, ◌∙◌, subst}
use Rattle.std.specs.Bool.{nat_eq}
use Rattle.std.proofs.lemmas.Bool.{eqb-true, eq-eqb}
use Rattle.std.specs.List.{AllByRecursion}
use Rattle.std.proofs.lemmas.List.{map-append}
use Rattle.gen_net.specs.Header.{RunHeader}
use Rattle.gen_net.specs.Network.{IsNetwork}
use Rattle.gen_net.specs.Departs.{Begins, IsFollowersLog}
use Rattle.gen_log.specs.Entry.{erase, IsEntryOf}
use Rattle.gen_log.specs.Log.{RunLog, IsLog, BeginsWithStartOf}
use Rattle.gen_log.specs.declared.entries.Entry.{Entry}
use Rattle.gen_log.specs.declared.entries.Entry.TheVariants.{Start, Decide}
use Rattle.gen_local.specs.FollowingLaws.{EndsDecided}
use Rattle.gen_local.proofs.Whole.{whole_logs}
use Rattle.gen_local.specs.Erased.{erased}

pub start_known : (h : RunHeader) (log : RunLog) (general : ℕ) → IsLog h log → BeginsWithStartOf general log.entries → general < h.network.generals
start_known h log general ok s = (subst (AllByRecursion (IsEntryOf h)) s.2 ok.entries).0.0

pub one_start : (entries : List Entry) (a b : ℕ) → BeginsWithStartOf a entries → BeginsWithStartOf b entries → a ≡ b
one_start entries a b s t = let q : Start a s.0 ∷ s.1 ≡ Start b t.0 ∷ t.1 = sym s.2 ∙ t.2 in cc

ends_decided : (h : RunHeader) (log : RunLog) → IsLog h log → EndsDecided (erased log.entries)
ends_decided h log ok =
    let l = ok.last in
    (erased l.0, l.1, l.2, ap (λ es. map erase es) l.3 ∙ map-append erase l.0 (Decide l.1 l.2 ∷ []))

pub begins_whole : (h : RunHeader) (log : RunLog) (general : ℕ) → IsNetwork h.network → IsLog h log → BeginsWithStartOf general log.entries → Begins h.network general (erased log.entries) ↔ IsFollowersLog h.network general (erased log.entries)
begins_whole h log general ok is_log s =
    let w = whole_logs h.network general ok (start_known h log general is_log s) (erased log.entries) in
    ((λ b. w.1 (b, ends_decided h log is_log)), (λ f. (w.0 f).0))

-- whether START names a general, told by whom it names
pub told_start : (first general : ℕ) (told : Bool) (entries : List Entry) → told ≡ nat_eq first general → BeginsWithStartOf first entries → IsTrue told ↔ BeginsWithStartOf general entries
told_start first general told entries e mine = (
  λ t. subst (λ (g : ℕ). BeginsWithStartOf g entries) (eqb-true first general (sym e ∙ t)) mine,
  λ s. e ∙ eq-eqb first general (one_start entries first general mine s),
)

pub no_start : (general : ℕ) (r : Option ℕ) (entries : List Entry) → r ≡ None → ((g : ℕ) → (r ≡ Some g) ↔ BeginsWithStartOf g entries) → BeginsWithStartOf general entries → ⊥
no_start general r entries none told s = let q : r ≡ Some general = (told general).1 s in cc
