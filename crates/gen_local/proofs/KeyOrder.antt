-- The numbers of places ascend as the places do.
use Rattle.std.proofs.Common.{◌≡◌, ℕ, ◌+◌, ◌*◌, ◌<◌, inl, inr, List, [], ◌∷◌, refl, sym, ap, ◌∙◌, arith}
use Rattle.gen_net.specs.Network.{Network}
use Rattle.gen_net.specs.Log.{LogEntry, Started, Signed, Sent, Received, Decided, place, Precedes}
use Rattle.gen_core.proofs.OrderedLists.{Precedes-total}
use Rattle.gen_local.specs.Keys.{key, IsSmall}

pub precedes_less : (net : Network) (x y : LogEntry) → IsSmall x → IsSmall y → Precedes (place net x) (place net y) → key net x < key net y
precedes_less net (Started a o) (Started b p) s t (inl h) = absurd (omega (arith, h))
precedes_less net (Started a o) (Started b p) s t (inr h) = absurd h.1
precedes_less net (Started a o) (Signed v p) s t h = omega arith
precedes_less net (Started a o) (Sent w v p) s t h = omega arith
precedes_less net (Started a o) (Received w v p) s t h = omega arith
precedes_less net (Started a o) (Decided vs v) s t h = omega arith
precedes_less net (Signed v p) (Started b o) s t (inl h) = absurd (omega (arith, h))
precedes_less net (Signed v p) (Started b o) s t (inr h) = absurd h.1
precedes_less net (Signed v p) (Signed w q) s t (inl h) = omega (arith, h, s)
precedes_less net (Signed v p) (Signed w q) s t (inr (e, inl h)) = absurd (omega (arith, h))
precedes_less net (Signed v p) (Signed w q) s t (inr (e, inr (f, inl h))) = omega (arith, h, e)
precedes_less net (Signed v p) (Signed w q) s t (inr (e, inr (f, inr h))) = absurd h.1
precedes_less net (Signed v p) (Sent b w q) s t (inl h) = omega (arith, h, s)
precedes_less net (Signed v p) (Sent b w q) s t (inr h) = omega (arith, h.0, s)
precedes_less net (Signed v p) (Received b w q) s t (inl h) = omega (arith, h, s)
precedes_less net (Signed v p) (Received b w q) s t (inr h) = omega (arith, h.0, s)
precedes_less net (Signed v p) (Decided vs w) s t (inl h) = omega (arith, h, s)
precedes_less net (Signed v p) (Decided vs w) s t (inr h) = absurd h.1
precedes_less net (Sent a v p) (Started b o) s t (inl h) = absurd (omega (arith, h))
precedes_less net (Sent a v p) (Started b o) s t (inr h) = absurd h.1
precedes_less net (Sent a v p) (Signed w q) s t (inl h) = omega (arith, h, s.0, s.1)
precedes_less net (Sent a v p) (Signed w q) s t (inr (e, inl h)) = absurd (omega (arith, h))
precedes_less net (Sent a v p) (Signed w q) s t (inr (e, inr h)) = absurd (omega (arith, h.0))
precedes_less net (Sent a v p) (Sent b w q) s t (inl h) = omega (arith, h, s.0, s.1)
precedes_less net (Sent a v p) (Sent b w q) s t (inr (e, inl h)) = absurd (omega (arith, h))
precedes_less net (Sent a v p) (Sent b w q) s t (inr (e, inr (f, inl h))) = omega (arith, h, e, s.1)
precedes_less net (Sent a v p) (Sent b w q) s t (inr (e, inr (f, inr (i, inl h)))) = omega (arith, h, e, i)
precedes_less net (Sent a v p) (Sent b w q) s t (inr (e, inr (f, inr (i, inr h)))) = absurd h.1
precedes_less net (Sent a v p) (Received b w q) s t (inl h) = omega (arith, h, s.0, s.1)
precedes_less net (Sent a v p) (Received b w q) s t (inr h) = omega (arith, h.0, s.0, s.1)
precedes_less net (Sent a v p) (Decided vs w) s t (inl h) = omega (arith, h, s.0, s.1)
precedes_less net (Sent a v p) (Decided vs w) s t (inr h) = absurd h.1
precedes_less net (Received a v p) (Started b o) s t (inl h) = absurd (omega (arith, h))
precedes_less net (Received a v p) (Started b o) s t (inr h) = absurd h.1
precedes_less net (Received a v p) (Signed w q) s t (inl h) = omega (arith, h, s.0, s.1)
precedes_less net (Received a v p) (Signed w q) s t (inr (e, inl h)) = absurd (omega (arith, h))
precedes_less net (Received a v p) (Signed w q) s t (inr (e, inr h)) = absurd (omega (arith, h.0))
precedes_less net (Received a v p) (Sent b w q) s t (inl h) = omega (arith, h, s.0, s.1)
precedes_less net (Received a v p) (Sent b w q) s t (inr (e, inl h)) = absurd (omega (arith, h))
precedes_less net (Received a v p) (Sent b w q) s t (inr (e, inr h)) = absurd (omega (arith, h.0))
precedes_less net (Received a v p) (Received b w q) s t (inl h) = omega (arith, h, s.0, s.1)
precedes_less net (Received a v p) (Received b w q) s t (inr (e, inl h)) = absurd (omega (arith, h))
precedes_less net (Received a v p) (Received b w q) s t (inr (e, inr (f, inl h))) = omega (arith, h, e, s.1)
precedes_less net (Received a v p) (Received b w q) s t (inr (e, inr (f, inr (i, inl h)))) = omega (arith, h, e, i)
precedes_less net (Received a v p) (Received b w q) s t (inr (e, inr (f, inr (i, inr h)))) = absurd h.1
precedes_less net (Received a v p) (Decided vs w) s t (inl h) = omega (arith, h, s.0, s.1)
precedes_less net (Received a v p) (Decided vs w) s t (inr h) = absurd h.1
precedes_less net (Decided us u) (Started b o) s t (inl h) = absurd (omega (arith, h))
precedes_less net (Decided us u) (Started b o) s t (inr h) = absurd h.1
precedes_less net (Decided us u) (Signed w q) s t (inl h) = omega (arith, h)
precedes_less net (Decided us u) (Signed w q) s t (inr h) = omega (arith, h.0)
precedes_less net (Decided us u) (Sent b w q) s t (inl h) = omega (arith, h)
precedes_less net (Decided us u) (Sent b w q) s t (inr h) = omega (arith, h.0)
precedes_less net (Decided us u) (Received b w q) s t (inl h) = omega (arith, h)
precedes_less net (Decided us u) (Received b w q) s t (inr h) = omega (arith, h.0)
precedes_less net (Decided us u) (Decided vs w) s t (inl h) = absurd (omega (arith, h))
precedes_less net (Decided us u) (Decided vs w) s t (inr h) = absurd h.1

-- the number of a place
place_key : List ℕ → ℕ
place_key [] = 0
place_key (a ∷ []) = a * 1024
place_key (a ∷ k ∷ []) = a * 1024
place_key (a ∷ k ∷ c ∷ []) = a * 1024 + 256 + c * 16
place_key (a ∷ k ∷ c ∷ d ∷ more) = a * 1024 + (k + 1) * 256 + c * 16 + d

key_is : (net : Network) (x : LogEntry) → key net x ≡ place_key (place net x)
unfolding place_key
key_is net (Started a o) = refl
key_is net (Signed v p) = refl
key_is net (Sent a v p) = refl
key_is net (Received a v p) = refl
key_is net (Decided vs v) = refl

pub less_precedes : (net : Network) (x y : LogEntry) → IsSmall x → IsSmall y → key net x < key net y → Precedes (place net x) (place net y)
less_precedes net x y s t less = elim (Precedes-total (place net x) (place net y)) [
  | inl same ↦ let q : key net x ≡ key net y = key_is net x ∙ ap place_key same ∙ sym (key_is net y) in absurd (omega arith)
  | inr (inl h) ↦ h
  | inr (inr h) ↦ let r : key net y < key net x = precedes_less net y x t s h in absurd (omega arith)
]
