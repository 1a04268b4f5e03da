-- Two worlds agree round by round.
use Rattle.std.proofs.Common.{◌≡◌, ℕ, zero, suc, ◌+◌, ◌<◌, ◌≤◌, ◌↔◌, inl, inr, List, length, Contains, refl, arith}
use Rattle.std.proofs.lemmas.Bool.{cases_eq}
use Rattle.std.proofs.lemmas.List.Elements.{All-contains, Contains-push}
use Rattle.gen_net.specs.Network.{Network}
use Rattle.gen_net.specs.declared.message.Message.{Message}
use Rattle.gen_net.specs.Run.{Run, IsWellFormed, IsRun, Arrives, Adds}
use Rattle.gen_core.specs.Seeing.{IsFromLeast}
use Rattle.gen_scenario.specs.World.{IsRelay, RelaysLeast, IsWorld, OneWorld}

-- the same messages of the first rounds
abbrev pub SameTo : Run → Run → ℕ → Type 0
SameTo run other n = (t : Message) → length t.path ≤ n → Contains run t ↔ Contains other t

pub turned : (run other : Run) (n : ℕ) → SameTo run other n → SameTo other run n
turned run other n same t le = ((same t le).1, (same t le).0)

pub arrives_over : (run other : Run) (n : ℕ) → SameTo run other n → (g l : ℕ) (t : Message) → l ≤ n → Arrives run g l t → Arrives other g l t
arrives_over run other n same g l t le came = let short : length t.path ≤ n = omega (arith, came.0.1) in (((same t short).0 came.0.0, came.0.1), came.1)

pub adds_over : (run other : Run) (n : ℕ) → SameTo run other n → (g l v : ℕ) → l ≤ n → Adds run g l v → Adds other g l v
adds_over run other n same g l v le adds = record {
  arrives = (adds.arrives.0, arrives_over run other n same g l adds.arrives.0 le adds.arrives.1, adds.arrives.2);
  new = λ k lt h. adds.new k lt (h.0, arrives_over other run n (turned run other n same) g k h.0 (omega arith) h.1, h.2);
}

pub least_over : (run other : Run) (n : ℕ) → SameTo run other n → (g l v : ℕ) (path : List ℕ) → l ≤ n → IsFromLeast run g l v path → IsFromLeast other g l v path
least_over run other n same g l v path le least = record {
  from = least.from;
  arrives = arrives_over run other n same g l (record { from = least.from; to = g; order = v; path = path }) le least.arrives;
  least = λ t came e. least.least t (arrives_over other run n (turned run other n same) g l t le came) e;
}

pub relay_over : (net : Network) (run other : Run) (n : ℕ) → SameTo run other n → (g l : ℕ) (t : Message) → l ≤ n → IsRelay net run g l t → IsRelay net other g l t
relay_over net run other n same g l t le relay = record {
  picked = relay.picked;
  added = adds_over run other n same g l t.order le relay.added;
  least = least_over run other n same g l t.order relay.picked le relay.least;
  longer = relay.longer;
  neighbour = relay.neighbour;
  outside = relay.outside;
}

-- a message of the next round is in the other world too
next_over : (net : Network) (order : ℕ) (run other : Run) → IsWorld net order run → IsWorld net order other → (n : ℕ) → SameTo run other n → (t : Message) → length t.path ≤ n + 1 → Contains run t → Contains other t
next_over net order run other w o n same t le h = elim (cases_eq t.from 0) [
  | inl e ↦ (o.commander.sends t e).1 ((w.commander.sends t e).0 h)
  | inr ne ↦
      let m : IsWellFormed net t = w.run_of_net.messages t h in
      let known : t.from < net.generals = All-contains (λ g. g < net.generals) t.path t.from m.chain.generals_known (rw m.signer.1 (Contains-push m.signer.0 t.from)) in
      let mine : RelaysLeast net run t.from = w.lieutenants t.from known ne in
      let theirs : RelaysLeast net other t.from = o.lieutenants t.from known ne in
      elim (cases_eq (length t.path) (n + 1)) [
        | inr shorter ↦ (same t (omega arith)).0 h
        | inl last ↦ elim (cases_eq n 0) [
          | inl e ↦ let one : length t.path ≡ 1 = omega arith in absurd (mine.silent t (h, one) refl)
          | inr some ↦
              let relay : IsRelay net run t.from n t = (mine.sends n t (omega arith) (omega (arith, m.in_time)) refl).0 (h, last) in
              ((theirs.sends n t (omega arith) (omega (arith, m.in_time)) refl).1 (relay_over net run other n same t.from n t (omega arith) relay)).0
        ]
      ]
]

-- a path isn't empty
length_pos : (net : Network) (run : Run) → IsRun net run → (t : Message) → Contains run t → 0 < length t.path
length_pos net run ok t h =
    let from = ((ok.messages t h).chain).from_commander in
    rw from.1 (omega arith)

same_to : (net : Network) (order : ℕ) (run other : Run) → IsWorld net order run → IsWorld net order other → (n : ℕ) → SameTo run other n
same_to net order run other w o zero = λ t le. (
  (λ h. absurd (omega (arith, length_pos net run w.run_of_net t h))),
  (λ h. absurd (omega (arith, length_pos net other o.run_of_net t h))),
)
same_to net order run other w o (suc n) =
    let same : SameTo run other n = same_to net order run other w o n in
    λ t le. (
      (λ h. next_over net order run other w o n same t (omega arith) h),
      (λ h. next_over net order other run o w n (turned run other n same) t (omega arith) h),
    )

pub one_world_shown : OneWorld
one_world_shown = λ net order run other w o t. same_to net order run other w o (length t.path) t (omega arith)
