use Rattle.std.proofs.Common.{rules, ◌≡◌, ◌∙◌, subst, take, IfOk}
use Rattle.gen_general.specs.Loops.Roles.{role_frame}
use Rattle.gen_general.specs.Participant.{sends}
use Rattle.gen_general.proofs.IfOks.{if_ok}
use Rattle.gen_general.proofs.Standing.{role_frames}
use Rattle.gen_general.proofs.participants.Participant.frame_for.Goals as goal

pub returns-in-Loyal : goal.returns-in-Loyal
returns-in-Loyal c =
    let i = c.self.inside in
    let made = role_frames i.part i.heard.items (take i.begun i.heard.items) i.round c.args.to i.role c.self.invariant.standing.acts in
    let here : IfOk c.frame_of_chains.result (λ frame. frame.items ≡ role_frame i.role c.args.to) = search rules in
    if_ok _ _ c.frame_of_chains.result (λ frame e. subst (λ p. frame.items ≡ sends p c.args.to) c.self.view_is (e ∙ made)) here

pub returns-in-Scripted : goal.returns-in-Scripted
returns-in-Scripted c =
    let i = c.self.inside in
    let made = role_frames i.part i.heard.items (take i.begun i.heard.items) i.round c.args.to i.role c.self.invariant.standing.acts in
    let here : IfOk c.planned_frame.result (λ frame. frame.items ≡ role_frame i.role c.args.to) = search rules in
    if_ok _ _ c.planned_frame.result (λ frame e. subst (λ p. frame.items ≡ sends p c.args.to) c.self.view_is (e ∙ made)) here
