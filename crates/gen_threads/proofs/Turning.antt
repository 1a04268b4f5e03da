-- A general goes from neighbour to neighbour.
use Rattle.std.proofs.Common.{◌≡◌, ℕ, ◌+◌, ◌<◌, ◌⊎◌, inl, inr, true, false, List, [], ◌∷◌, ◌++◌, Contains, refl, sym, ap, subst, ◌∙◌, arith}
use Rattle.std.specs.List.{range_with_len, list_any, AllZip}
use Rattle.std.proofs.lemmas.Bool.{cases_lt, cases_eq}
use Rattle.std.proofs.lemmas.List.{append-nil}
use Rattle.gen_types.specs.Members.{filter_range_has}
use Rattle.gen_edge.specs.declared.passes.PutPass.{PutPass}
use Rattle.gen_edge.specs.declared.passes.TakePass.{TakePass}
use Rattle.gen_net.specs.Edges.{joins}
use Rattle.gen_net.specs.Network.{Network}
use Rattle.gen_scenario.specs.Scenario.{Scenario, IsScenario}
use Rattle.gen_scenario.specs.SignedWorld.{frame_at, neighbours_of}
use Rattle.gen_general.specs.Recording.{Recorder, StandBefore, send_act, hear_act, with_sends, with_recvs}
use Rattle.gen_general.specs.Participant.{sends}
use Rattle.gen_general.specs.DrivenRecords.{HasSent, HasHeard, RecordsAfter}
use Rattle.gen_scenario.specs.SignedWorld.{near_of}
use Rattle.gen_general.proofs.LogPlaces.{may_send, may_hear}
use Rattle.gen_general.proofs.Recorders.{sent_far, sent_near, hears_from, round_ends}
use Rattle.gen_scenario.proofs.Stepping.{frame_after}
use Rattle.gen_general.proofs.Worlds.{near_more, near_out, near_in, sends_frames}
use Rattle.gen_threads.specs.declared.edges.Edges.{Edges}
use Rattle.gen_threads.specs.Edges.{HasPut, HasTakenBy, IsPutOn, IsTakeBy}
use Rattle.gen_threads.specs.Turns.{HasPutUntil, HasTakenUntil, IsPutting, IsTaking}
use Rattle.gen_threads.proofs.Carrying.{put_others, taken_others}
use Rattle.gen_threads.proofs.Nears.{index_behind, index_kept}
use Rattle.gen_threads.proofs.Passing.{carried_above, carried_below}
use Rattle.gen_threads.proofs.Zips.{zip_weaker}

-- a general who is no neighbour is none of the neighbours
apart : (net : Network) (g h a : ℕ) → list_any (joins g h) net.edges ≡ false → Contains (neighbours_of net g) a → (a < h) ⊎ (h < a)
apart net g h a far m = elim (cases_lt a h) [
  | inl low ↦ inl low
  | inr high ↦ elim (cases_eq a h) [
    | inl e ↦
        let near = (filter_range_has (λ x. list_any (joins g x) net.edges) 0 net.generals a m).2 in
        let both : true ≡ false = sym near ∙ ap (λ x. list_any (joins g x) net.edges) e ∙ far in
        absurd cc
    | inr ne ↦ inr (omega (arith, high, ne))
  ]
]

known_below : (net : Network) (g a : ℕ) → Contains (neighbours_of net g) a → a < net.generals
known_below net g a m = omega (arith, (filter_range_has (λ x. list_any (joins g x) net.edges) 0 net.generals a m).1)

near_below : (net : Network) (g h a : ℕ) → Contains (near_of net g (range_with_len 0 h)) a → a < h
near_below net g h a m = omega (arith, (filter_range_has (λ x. list_any (joins g x) net.edges) 0 h a m).1)

module _ (edges : Edges) (s : Scenario) (k g : ℕ) where
  -- ---- putting

  pub puts_on : (n : ℕ) (ps : List PutPass) → AllZip (HasPutUntil edges s k n g) (neighbours_of s.net g) ps → AllZip (IsPutOn edges g) (neighbours_of s.net g) ps
  puts_on n ps = zip_weaker (HasPutUntil edges s k n g) (IsPutOn edges g) (neighbours_of s.net g) ps (λ a p m h. h.on)

  pub puts_begin : (ps : List PutPass) → AllZip (HasPut edges s k g) (neighbours_of s.net g) ps → AllZip (HasPutUntil edges s k 0 g) (neighbours_of s.net g) ps
  puts_begin ps = zip_weaker (HasPut edges s k g) (HasPutUntil edges s k 0 g) (neighbours_of s.net g) ps (λ a p m h. subst (λ n. HasPut edges s n g a p) (sym (carried_above k 0 a (omega arith))) h)

  pub puts_end : (n : ℕ) (ps : List PutPass) → n ≡ s.net.generals → AllZip (HasPutUntil edges s k n g) (neighbours_of s.net g) ps → AllZip (HasPut edges s (k + 1) g) (neighbours_of s.net g) ps
  puts_end n ps stop = zip_weaker (HasPutUntil edges s k n g) (HasPut edges s (k + 1) g) (neighbours_of s.net g) ps
      (λ a p m h. subst (λ i. HasPut edges s i g a p) (carried_below k n a (omega (arith, stop, known_below s.net g a m))) h)

  pub putting_first : (r : Recorder) (ps : List PutPass) → HasSent s k g [] r → AllZip (HasPut edges s k g) (neighbours_of s.net g) ps → IsPutting edges s k g 0 0 r ps
  putting_first r ps sent all = record { sent = sent; here = refl; passes = puts_begin ps all }

  pub putting_far : (h index : ℕ) (r : Recorder) (ps : List PutPass) → list_any (joins g h) s.net.edges ≡ false → IsPutting edges s k g h index r ps → IsPutting edges s k g (h + 1) index r ps
  putting_far h index r ps far is = record {
    sent = sent_far s k g h r far is.sent;
    here = is.here ∙ index_kept s.net g h far;
    passes = zip_weaker (HasPutUntil edges s k h g) (HasPutUntil edges s k (h + 1) g) (neighbours_of s.net g) ps (λ a p m has. put_others edges s k g h a p (apart s.net g h a far m) has) is.passes;
  }

  pub putting_near : (h index : ℕ) (r q : Recorder) (ps qs : List PutPass) → list_any (joins g h) s.net.edges ≡ true → IsPutting edges s k g h index r ps → q ≡ with_sends r h
      → AllZip (HasPutUntil edges s k (h + 1) g) (neighbours_of s.net g) qs → IsPutting edges s k g (h + 1) (index + 1) q qs
  putting_near h index r q ps qs near is made all = record {
    sent = sent_near s k g h r q near is.sent made;
    here = ap (λ n. n + 1) is.here ∙ index_behind s.net g h near;
    passes = all;
  }

  pub putting_next : (h index : ℕ) (r : Recorder) (ps : List PutPass) → IsScenario s → g < s.net.generals → IsPutting edges s k g h index r ps → StandBefore r.standing.known.header.network r.written (send_act r.standing.round h)
  putting_next h index r ps ok known is = may_send s ok k g h known (near_of s.net g (range_with_len 0 h)) (near_below s.net g h) r is.sent

  pub putting_frame : (h index : ℕ) (r : Recorder) (ps : List PutPass) (frame : List (List ℕ)) → IsPutting edges s k g h index r ps → frame ≡ sends r.standing h → frame ≡ frame_at s (k + 1) g h
  putting_frame h index r ps frame is e = e ∙ sends_frames s k g h r.standing is.sent.standing ∙ sym (frame_after s k g h)

  -- ---- taking

  pub takes_on : (n : ℕ) (ps : List TakePass) → AllZip (HasTakenUntil edges s k n g) (neighbours_of s.net g) ps → AllZip (IsTakeBy edges g) (neighbours_of s.net g) ps
  takes_on n ps = zip_weaker (HasTakenUntil edges s k n g) (IsTakeBy edges g) (neighbours_of s.net g) ps (λ a p m h. h.on)

  pub takes_begin : (ps : List TakePass) → AllZip (HasTakenBy edges s k g) (neighbours_of s.net g) ps → AllZip (HasTakenUntil edges s k 0 g) (neighbours_of s.net g) ps
  takes_begin ps = zip_weaker (HasTakenBy edges s k g) (HasTakenUntil edges s k 0 g) (neighbours_of s.net g) ps (λ a p m h. subst (λ n. HasTakenBy edges s n g a p) (sym (carried_above k 0 a (omega arith))) h)

  pub takes_end : (n : ℕ) (ps : List TakePass) → n ≡ s.net.generals → AllZip (HasTakenUntil edges s k n g) (neighbours_of s.net g) ps → AllZip (HasTakenBy edges s (k + 1) g) (neighbours_of s.net g) ps
  takes_end n ps stop = zip_weaker (HasTakenUntil edges s k n g) (HasTakenBy edges s (k + 1) g) (neighbours_of s.net g) ps
      (λ a p m h. subst (λ i. HasTakenBy edges s i g a p) (carried_below k n a (omega (arith, stop, known_below s.net g a m))) h)

  pub taking_first : (r : Recorder) (ps : List TakePass) → HasHeard s k g [] r → AllZip (HasTakenBy edges s k g) (neighbours_of s.net g) ps → IsTaking edges s k g 0 0 r ps
  taking_first r ps heard all = record { heard = heard; here = refl; passes = takes_begin ps all }

  heard_far : (h : ℕ) (r : Recorder) → list_any (joins g h) s.net.edges ≡ false → HasHeard s k g (near_of s.net g (range_with_len 0 h)) r → HasHeard s k g (near_of s.net g (range_with_len 0 (h + 1))) r
  heard_far h r far is =
      let front = near_of s.net g (range_with_len 0 h) in
      let same : front ≡ near_of s.net g (range_with_len 0 (h + 1)) = sym (append-nil front) ∙ sym (ap (λ (xs : List ℕ). front ++ xs) (near_out s.net g h far)) ∙ near_more s.net g h in
      subst (λ (xs : List ℕ). HasHeard s k g xs r) same is

  pub taking_far : (h index : ℕ) (r : Recorder) (ps : List TakePass) → list_any (joins g h) s.net.edges ≡ false → IsTaking edges s k g h index r ps → IsTaking edges s k g (h + 1) index r ps
  taking_far h index r ps far is = record {
    heard = heard_far h r far is.heard;
    here = is.here ∙ index_kept s.net g h far;
    passes = zip_weaker (HasTakenUntil edges s k h g) (HasTakenUntil edges s k (h + 1) g) (neighbours_of s.net g) ps (λ a p m has. taken_others edges s k g h a p (apart s.net g h a far m) has) is.passes;
  }

  pub taking_near : (h index : ℕ) (r q : Recorder) (ps qs : List TakePass) (frame : List (List ℕ)) → list_any (joins g h) s.net.edges ≡ true → IsTaking edges s k g h index r ps → frame ≡ frame_at s (k + 1) h g → q ≡ with_recvs r h frame
      → AllZip (HasTakenUntil edges s k (h + 1) g) (neighbours_of s.net g) qs → IsTaking edges s k g (h + 1) (index + 1) q qs
  taking_near h index r q ps qs frame near is framed made all =
      let front = near_of s.net g (range_with_len 0 h) in
      let same : front ++ near_of s.net g (h ∷ []) ≡ near_of s.net g (range_with_len 0 (h + 1)) = near_more s.net g h in
      let one : front ++ h ∷ [] ≡ front ++ near_of s.net g (h ∷ []) = ap (λ (xs : List ℕ). front ++ xs) (sym (near_in s.net g h near)) in
      record {
        heard = subst (λ (xs : List ℕ). HasHeard s k g xs q) (one ∙ same) (hears_from s k g h front r q frame is.heard framed made);
        here = ap (λ n. n + 1) is.here ∙ index_behind s.net g h near;
        passes = all;
      }

  pub taking_next : (h index : ℕ) (r : Recorder) (ps : List TakePass) → IsScenario s → g < s.net.generals → IsTaking edges s k g h index r ps → StandBefore r.standing.known.header.network r.written (hear_act r.standing.round h)
  taking_next h index r ps ok known is = may_hear s ok k g h known (near_of s.net g (range_with_len 0 h)) (near_below s.net g h) r is.heard

  pub taking_last : (n index : ℕ) (r : Recorder) (ps : List TakePass) → n ≡ s.net.generals → IsTaking edges s k g n index r ps → RecordsAfter s (k + 1) g r
  taking_last n index r ps stop is = round_ends s k g r (subst (λ m. HasHeard s k g (near_of s.net g (range_with_len 0 m)) r) stop is.heard)
