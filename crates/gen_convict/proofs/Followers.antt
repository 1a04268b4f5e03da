-- What a follower's log has: one statement of each order, and no entry at which it departs.
use Rattle.std.proofs.Common.{◌≡◌, ℕ, ◌+◌, List, drop, refl, sym, subst, ◌∙◌}
use Rattle.std.proofs.lemmas.List.{take-append-drop}
use Rattle.gen_net.specs.Network.{Network}
use Rattle.gen_net.specs.Run.{Run}
use Rattle.gen_net.specs.Follows.{Conduct, Commands, Relays, Follows}
use Rattle.gen_net.specs.Log.{Signed, IsEntry}
use Rattle.gen_net.specs.Departs.{IsFollowersLog}
use Rattle.gen_convict.specs.Laws.{OneStatementOfEach, OneOrderOfCommander, NowhereDeparts}

same_path : (net : Network) (run : Run) (g : ℕ) (c : Conduct) (v : ℕ) (p q : List ℕ) → IsEntry net run g c (Signed v p) → IsEntry net run g c (Signed v q) → p ≡ q
same_path net run g (Commands own) v p q h k = h.1 ∙ sym k.1
same_path net run g (Relays pick) v p q h k = h.3 ∙ sym k.3

pub one_statement : OneStatementOfEach
one_statement net g entries l v p q h k =
    same_path net l.run g l.conduct v p q ((l.keeps.entries (Signed v p)).0 h) ((l.keeps.entries (Signed v q)).0 k)

same_order : (net : Network) (run : Run) (c : Conduct) → Follows net run 0 c → (v w : ℕ) (p q : List ℕ) → IsEntry net run 0 c (Signed v p) → IsEntry net run 0 c (Signed w q) → v ≡ w
same_order net run (Commands own) f v w p q h k = h.0 ∙ sym k.0
same_order net run (Relays pick) f v w p q h k = absurd (f.0 refl)

pub one_order : OneOrderOfCommander
one_order net entries l v w p q h k =
    same_order net l.run l.conduct l.follows v w p q ((l.keeps.entries (Signed v p)).0 h) ((l.keeps.entries (Signed w q)).0 k)

pub nowhere : NowhereDeparts
nowhere net g entries p l d =
    d.2 (drop (p + 1) entries, subst (IsFollowersLog net g) (sym (take-append-drop (p + 1) entries)) l)
