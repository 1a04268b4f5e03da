use Rattle.std.proofs.Common.{◌≡◌, ◌↔◌, refl, sym, subst, Some, None}
use Rattle.gen_net.specs.Departs.{DepartsAt, IsFollowersLog}
use Rattle.gen_net.specs.Network.{IsNetwork}
use Rattle.gen_log.specs.Log.{BeginsWithStartOf}
use Rattle.gen_local.specs.Erased.{erased}
use Rattle.gen_local.proofs.Starters.{start_known, begins_whole, one_start, no_start}
use Rattle.gen_local.proofs.departing.departs.Goals as goal

pub departs_from-requires : goal.departs_from-requires
departs_from-requires c =
    let mine : BeginsWithStartOf c.in-Some.general c.args.log.now.entries = subst (BeginsWithStartOf c.in-Some.general) c.entries.ensures ((c.in-Some.ensures c.in-Some.general).0 refl) in
    rw c.net-net.ensures.value (start_known c.args.header.now c.args.log.now c.in-Some.general c.requires mine)

pub returns-in-Some-clause-departs : goal.returns-in-Some-clause-departs
returns-in-Some-clause-departs c =
    let mine : BeginsWithStartOf c.in-Some.general c.args.log.now.entries = subst (BeginsWithStartOf c.in-Some.general) c.entries.ensures ((c.in-Some.ensures c.in-Some.general).0 refl) in
    let told = rw (c.net-net.ensures.value, c.entries-in-Some.ensures) at c.departs_from.ensures.departs in
    λ general s p. subst (λ g. (c.departs_from.result ≡ Some p) ↔ DepartsAt c.args.header.now.network g (erased c.args.log.now.entries) p) (one_start c.args.log.now.entries c.in-Some.general general mine s) (told p)

pub returns-in-Some-clause-follows : goal.returns-in-Some-clause-follows
returns-in-Some-clause-follows c =
    let mine : BeginsWithStartOf c.in-Some.general c.args.log.now.entries = subst (BeginsWithStartOf c.in-Some.general) c.entries.ensures ((c.in-Some.ensures c.in-Some.general).0 refl) in
    let told = rw (c.net-net.ensures.value, c.entries-in-Some.ensures) at c.departs_from.ensures.begins in
    let ok : IsNetwork c.args.header.now.network = rw c.net-net.ensures.value at c.generals-generals.ensures.network in
    let whole = begins_whole c.args.header.now c.args.log.now c.in-Some.general ok c.requires mine in
    λ general s. subst (λ g. (c.departs_from.result ≡ None) ↔ IsFollowersLog c.args.header.now.network g (erased c.args.log.now.entries)) (one_start c.args.log.now.entries c.in-Some.general general mine s) ((λ r. whole.0 (told.0 r)), (λ f. told.1 (whole.1 f)))

pub returns-in-None-clause-departs : goal.returns-in-None-clause-departs
returns-in-None-clause-departs c = λ general s p. absurd (no_start general c.starter.result c.entries.result.now c.in-None.is c.starter.ensures (subst (BeginsWithStartOf general) (sym c.entries.ensures) s))

pub returns-in-None-clause-follows : goal.returns-in-None-clause-follows
returns-in-None-clause-follows c = λ general s. absurd (no_start general c.starter.result c.entries.result.now c.in-None.is c.starter.ensures (subst (BeginsWithStartOf general) (sym c.entries.ensures) s))
