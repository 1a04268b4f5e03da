-- The headline's claims a and b, for logs of which some may be missing.
use Rattle.std.proofs.Common.{◌≡◌, ℕ, inl, inr, List, [], length, Contains, Option, Some, None, refl, sym, ap, subst}
use Rattle.gen_types.proofs.Lists.{Contains_nil}
use Rattle.gen_net.specs.Network.{Network, IsLoyal}
use Rattle.gen_net.specs.Log.{LogEntry, Sent, Received, Keeps}
use Rattle.gen_net.specs.Departs.{IsFollowersLog}
use Rattle.gen_match.specs.Matching.{Logs, HasLog, Logged, IsOneSided, DerivesFromLogs}
use Rattle.gen_audit.specs.Explained.{NothingFound, IsExplained, NothingFoundExplains, ExplainedFindsNothing}
use Rattle.gen_audit.proofs.Fit.{RunExists, LogDerivation, LogsFit, run_exists, logs_of_run}
use Rattle.gen_audit.proofs.Deciding.{has_sent, has_received, is_derivable}

-- the entries of a log that may be missing
abbrev pub entries_of : Option (List LogEntry) → List LogEntry
entries_of (Some log) = log
entries_of None = []

-- the entries of each general
abbrev pub filled : Logs → ℕ → List LogEntry
filled logs g = entries_of (logs g)

pub filled_is : (logs : Logs) (g : ℕ) (log : List LogEntry) → logs g ≡ Some log → filled logs g ≡ log
filled_is logs g log e = ap entries_of e

pub logged_filled : (logs : Logs) (g : ℕ) (e : LogEntry) → Logged logs g e → Contains (filled logs g) e
logged_filled logs g e h = subst (λ log. Contains log e) (sym (filled_is logs g h.0 h.1)) h.2

pub filled_logged : (logs : Logs) (g : ℕ) (e : LogEntry) → HasLog logs g → Contains (filled logs g) e → Logged logs g e
filled_logged logs g e has h = (has.0, has.1, subst (λ log. Contains log e) (filled_is logs g has.0 has.1) h)

-- a log that has an entry is there
in_option : (o : Option (List LogEntry)) (e : LogEntry) → Contains (entries_of o) e → (log : List LogEntry) × (o ≡ Some log) × Contains log e
in_option (Some log) e h = (log, refl, h)
in_option None e h = absurd (Contains_nil e h)

pub logged_of : (logs : Logs) (g : ℕ) (e : LogEntry) → Contains (filled logs g) e → Logged logs g e
logged_of logs g e h = in_option (logs g) e h

to_logs : (net : Network) (faulty : List ℕ) (logs : Logs) (v : ℕ) (path : List ℕ) → LogDerivation net faulty (filled logs) v path → DerivesFromLogs net faulty logs v path
to_logs net faulty logs v path d = record {
  front = d.front;
  last = d.last;
  after = d.after;
  parts = d.parts;
  last_loyal = d.last_loyal;
  nobody_after = d.nobody_after;
  from = d.from;
  to = d.to;
  source = d.source;
  from_rest = d.from_rest;
  to_faulty = d.to_faulty;
  sent = logged_of logs d.from (Sent d.to v d.source) d.sent;
  earlier = d.earlier;
  begun = d.begun;
}

module _ (net : Network) (faulty : List ℕ) (logs : Logs) where
  module _ (found : NothingFound net faulty logs) where
    has : (g : ℕ) → IsLoyal net faulty g → HasLog logs g
    has g loyal = let l = found.each g loyal in (l.0, l.1)

    not_lost : (a b v : ℕ) (path : List ℕ) → IsLoyal net faulty a → IsLoyal net faulty b → IsOneSided logs a b v path → ⊥
    not_lost a b v path la lb one = found.matched a b (length path) v (record { from_rest = la; from_log = has a la; to_rest = lb; to_log = has b lb; path = path; round = refl; one_sided = one })

    fit : LogsFit net faulty (filled logs)
    fit = record {
      each = λ g loyal. let l = found.each g loyal in subst (IsFollowersLog net g) (sym (filled_is logs g l.0 l.1)) l.2;
      edges = λ a b v path la lb. (
        (λ h. elim (has_received (filled logs b) a v path) [
          | inl r ↦ r
          | inr none ↦ absurd (not_lost a b v path la lb (inl (logged_of logs a (Sent b v path) h, λ r. none (logged_filled logs b (Received a v path) r))))
        ]),
        (λ h. elim (has_sent (filled logs a) b v path) [
          | inl s ↦ s
          | inr none ↦ absurd (not_lost a b v path la lb (inr (logged_of logs b (Received a v path) h, λ s. none (logged_filled logs a (Sent b v path) s))))
        ]),
      );
      derived = λ a b v path fa lb h. elim (is_derivable net faulty (filled logs) v path) [
        | inl d ↦ d
        | inr none ↦ absurd (found.derivable a b (length path) v (record {
          from_faulty = fa;
          to_rest = lb;
          path = path;
          round = refl;
          received = logged_of logs b (Received a v path) h;
          not_derivable = λ d. none (elim d [ inl nobody ↦ inl nobody | inr r ↦ inr (from_logs r) ]);
        }))
      ];
    }
      where
        from_logs : {v : ℕ} {path : List ℕ} → DerivesFromLogs net faulty logs v path → LogDerivation net faulty (filled logs) v path
        from_logs {v} d = record {
          front = d.front;
          last = d.last;
          after = d.after;
          parts = d.parts;
          last_loyal = d.last_loyal;
          nobody_after = d.nobody_after;
          from = d.from;
          to = d.to;
          source = d.source;
          from_rest = d.from_rest;
          to_faulty = d.to_faulty;
          sent = logged_filled logs d.from (Sent d.to v d.source) d.sent;
          earlier = d.earlier;
          begun = d.begun;
        }

    explained : IsExplained net faulty logs
    explained =
        let r = run_exists net faulty (filled logs) fit in
        record {
          run = r.run;
          conducts = r.conducts;
          signed = r.signed;
          keeps = λ g loyal. let l = has g loyal in (l.0, l.1, subst (λ log. Keeps net r.run g (r.conducts g) log) (filled_is logs g l.0 l.1) (r.keeps g loyal));
        }

  module _ (explained : IsExplained net faulty logs) where
    exists : RunExists net faulty (filled logs)
    exists = record {
      run = explained.run;
      conducts = explained.conducts;
      signed = explained.signed;
      keeps = λ g loyal. let l = explained.keeps g loyal in subst (λ log. Keeps net explained.run g (explained.conducts g) log) (sym (filled_is logs g l.0 l.1)) l.2;
    }

    fits : LogsFit net faulty (filled logs)
    fits = logs_of_run net faulty (filled logs) exists

    nothing : NothingFound net faulty logs
    nothing = record {
      each = λ g loyal. let l = explained.keeps g loyal in (l.0, l.1, subst (IsFollowersLog net g) (filled_is logs g l.0 l.1) (fits.each g loyal));
      matched = λ a b l v u. elim u.one_sided [
        | inl s ↦ s.1 (filled_logged logs b (Received a v u.path) u.to_log ((fits.edges a b v u.path u.from_rest u.to_rest).0 (logged_filled logs a (Sent b v u.path) s.0)))
        | inr r ↦ r.1 (filled_logged logs a (Sent b v u.path) u.from_log ((fits.edges a b v u.path u.from_rest u.to_rest).1 (logged_filled logs b (Received a v u.path) r.0)))
      ];
      derivable = λ a b l v u. u.not_derivable (elim (fits.derived a b v u.path u.from_faulty u.to_rest (logged_filled logs b (Received a v u.path) u.received)) [
        | inl nobody ↦ inl nobody
        | inr d ↦ inr (to_logs net faulty logs v u.path d)
      ]);
    }

pub nothing_found_explains : NothingFoundExplains
nothing_found_explains net faulty logs found = explained net faulty logs found

pub explained_finds_nothing : ExplainedFindsNothing
explained_finds_nothing net faulty logs e = nothing net faulty logs e
