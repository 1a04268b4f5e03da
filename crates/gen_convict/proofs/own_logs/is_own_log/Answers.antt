use Rattle.std.proofs.Common.{◌≡◌, None}
use Rattle.gen_convict.proofs.Keeping.{starts_as, is_none, not_some}
use Rattle.gen_convict.proofs.own_logs.is_own_log.Goals as goal

pub returns-then-is_some : goal.returns-then-is_some
returns-then-is_some c = (
  (λ t. absurd cc),
  (λ own.
      let starts = starts_as c.args.header.now.network c.args.general c.args.log.now.entries c.requires.log.first own.followed in
      let none : c.departs.result ≡ None = (c.departs.ensures.follows c.args.general starts).1 own.followed in
      absurd (not_some c.departs.result c.is_some.result none c.is_some.ensures c.if-is_some.true)),
)

pub returns : goal.returns
returns c = (
  (λ t.
      let sealed = c.is_sealed_by.ensures.0 t in
      let none = is_none c.departs.result c.is_some.result c.is_some.ensures c.if-is_some.false in
      record {
        reads = c.requires.log;
        of_run = sealed.0.of_run;
        followed = (c.departs.ensures.follows c.args.general sealed.0.starts).0 none;
        sealed = sealed.1;
      }),
  (λ own.
      let starts = starts_as c.args.header.now.network c.args.general c.args.log.now.entries c.requires.log.first own.followed in
      c.is_sealed_by.ensures.1 (record { of_run = own.of_run; starts = starts }, own.sealed)),
)
