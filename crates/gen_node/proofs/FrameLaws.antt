-- The laws of reading a frame.
use Rattle.std.proofs.Common.{◌≡◌, ℕ, ◌^◌, ◌<◌, List, [], ◌∷◌, ◌++◌, length, Ok, refl, sym, ap, subst, ◌∙◌, append_assoc, eqb, arith}
use Rattle.std.specs.List.{flat_map}
use Rattle.std.specs.Int.{w16, w32, to_be_bytes}
use Rattle.std.proofs.lemmas.Bool.{eqb-true}
use Rattle.std.proofs.lemmas.List.{append-nil}
use Rattle.gen_types.specs.Reading.{◌>>=◌, check}
use Rattle.gen_types.specs.Bytes.{byte_at, bytes_at, number_at, many_at}
use Rattle.gen_types.specs.Spelled.{Spells, StandsInFront}
use Rattle.gen_types.proofs.ByteFields.{IsBytes, Takes, Takes-then, byte_takes, bytes_takes, bytes_again, number_takes, number_again, wide16, wide32}
use Rattle.gen_types.proofs.ManyFields.{Reads, many_take, many_again}
use Rattle.gen_types.proofs.Steps.{after, after_check, at_end}
use Rattle.gen_log.specs.Log.{run_id_length}
use Rattle.gen_node.specs.declared.frames.FrameFront.{FrameFront}
use Rattle.gen_node.specs.declared.frames.FrameHead.{FrameHead}
use Rattle.gen_node.specs.declared.frame_fault.FrameFault.{FrameFault}
use Rattle.gen_node.specs.declared.frame_fault.FrameFault.TheVariants as faults
use Rattle.gen_node.specs.Frame.{WireFrame, IsFront, IsHead, IsParcel, IsFrame, frame_mark, front_spelling, head_spelling, head_of, parcel_spelling, frame_spelling}
use Rattle.gen_node.specs.FrameReading.{run_at, front_at, head_at, head_in, parcel_at, frame_at, whole_frame}

-- ---- the mark and the run id

abbrev mark_bytes : List ℕ
mark_bytes = to_be_bytes w32 frame_mark

record RunTaken (bytes : List ℕ) (x : List ℕ × List ℕ) : Type 0 where
  taken : Takes bytes (mark_bytes ++ x.0) x.1
  wide : length x.0 ≡ run_id_length

run_takes : (bytes : List ℕ) (x : List ℕ × List ℕ) → IsBytes bytes → run_at bytes ≡ Ok x → RunTaken bytes x
unfolding run_at
run_takes bytes x fits e =
    after (number_at faults.Truncated w32 bytes) (λ mark. check (eqb mark.0 frame_mark) faults.UnknownMark >>= λ known. bytes_at faults.Truncated run_id_length mark.1) x e (λ mark r0 e0.
    after_check (eqb mark.0 frame_mark) faults.UnknownMark (λ known. bytes_at faults.Truncated run_id_length mark.1) x e0 (λ known e1.
    let t0 = number_takes faults.Truncated w32 (2 ^ 32) wide32 bytes mark.0 mark.1 fits r0 in
    let t1 = bytes_takes faults.Truncated run_id_length mark.1 x.0 x.1 t0.0.rest_fits e1 in
    let named : Takes bytes mark_bytes mark.1 = subst (λ (m : ℕ). Takes bytes (to_be_bytes w32 m) mark.1) (eqb-true _ _ known) t0.0 in
    record { taken = Takes-then bytes mark_bytes mark.1 x.0 x.1 named t1.0; wide = t1.1 }))

run_again : (run rest : List ℕ) → length run ≡ run_id_length → run_at (mark_bytes ++ (run ++ rest)) ≡ Ok (run, rest)
unfolding run_at
run_again run rest wide =
    rw (number_again faults.Truncated w32 (2 ^ 32) wide32 frame_mark (run ++ rest) (omega arith), bytes_again faults.Truncated run_id_length run rest wide) refl

-- ---- the front

abbrev FrontTaken : List ℕ → FrameFront × List ℕ → Type 0
FrontTaken bytes x = Takes bytes (front_spelling x.0) x.1 × IsFront x.0

front_takes : (bytes : List ℕ) (x : FrameFront × List ℕ) → IsBytes bytes → front_at bytes ≡ Ok x → FrontTaken bytes x
unfolding front_at
front_takes bytes x fits e =
    after (run_at bytes) (λ run. byte_at faults.Truncated run.1 >>= λ round. byte_at faults.Truncated round.1 >>= λ from. byte_at faults.Truncated from.1 >>= λ to. Ok (record { run_id = run.0; round = round.0; from = from.0; to = to.0 }, to.1)) x e (λ run r0 e0.
    after (byte_at faults.Truncated run.1) (λ round. byte_at faults.Truncated round.1 >>= λ from. byte_at faults.Truncated from.1 >>= λ to. Ok (record { run_id = run.0; round = round.0; from = from.0; to = to.0 }, to.1)) x e0 (λ round r1 e1.
    after (byte_at faults.Truncated round.1) (λ from. byte_at faults.Truncated from.1 >>= λ to. Ok (record { run_id = run.0; round = round.0; from = from.0; to = to.0 }, to.1)) x e1 (λ from r2 e2.
    after (byte_at faults.Truncated from.1) (λ to. Ok (record { run_id = run.0; round = round.0; from = from.0; to = to.0 }, to.1)) x e2 (λ to r3 e3.
    let t0 = run_takes bytes run fits r0 in
    let t1 = byte_takes faults.Truncated run.1 round.0 round.1 t0.taken.rest_fits r1 in
    let t2 = byte_takes faults.Truncated round.1 from.0 from.1 t1.0.rest_fits r2 in
    let t3 = byte_takes faults.Truncated from.1 to.0 to.1 t2.0.rest_fits r3 in
    let t23 = Takes-then round.1 (from.0 ∷ []) from.1 (to.0 ∷ []) to.1 t2.0 t3.0 in
    let t123 = Takes-then run.1 (round.0 ∷ []) round.1 (from.0 ∷ to.0 ∷ []) to.1 t1.0 t23 in
    let all = Takes-then bytes (mark_bytes ++ run.0) run.1 (round.0 ∷ from.0 ∷ to.0 ∷ []) to.1 t0.taken t123 in
    let regrouped : (mark_bytes ++ run.0) ++ (round.0 ∷ from.0 ∷ to.0 ∷ []) ≡ mark_bytes ++ (run.0 ++ (round.0 ∷ from.0 ∷ to.0 ∷ [])) = append_assoc mark_bytes run.0 (round.0 ∷ from.0 ∷ to.0 ∷ []) in
    let text : Takes bytes (mark_bytes ++ (run.0 ++ (round.0 ∷ from.0 ∷ to.0 ∷ []))) to.1 = subst (λ (t : List ℕ). Takes bytes t to.1) regrouped all in
    at_end {F = FrameFault} (FrontTaken bytes) (record { run_id = run.0; round = round.0; from = from.0; to = to.0 }, to.1) x e3 (text, record { run_id = t0.wide; round = t1.1; from = t2.1; to = t3.1 })))))

front_again : (f : FrameFront) (rest : List ℕ) → IsFront f → front_at (front_spelling f ++ rest) ≡ Ok (f, rest)
unfolding front_at
front_again f rest is =
    let ends : List ℕ = f.round ∷ f.from ∷ f.to ∷ [] in
    let regrouped : front_spelling f ++ rest ≡ mark_bytes ++ (f.run_id ++ (ends ++ rest)) = append_assoc mark_bytes (f.run_id ++ ends) rest ∙ ap (λ (t : List ℕ). mark_bytes ++ t) (append_assoc f.run_id ends rest) in
    ap front_at regrouped ∙ rw (run_again f.run_id (ends ++ rest) is.run_id) refl

-- ---- the head

abbrev HeadTaken : List ℕ → FrameHead × List ℕ → Type 0
HeadTaken bytes x = Takes bytes (head_spelling x.0) x.1 × IsHead x.0

head_takes : (bytes : List ℕ) (x : FrameHead × List ℕ) → IsBytes bytes → head_at bytes ≡ Ok x → HeadTaken bytes x
unfolding head_at
head_takes bytes x fits e =
    after (front_at bytes) (λ front. number_at faults.Truncated w16 front.1 >>= λ count. Ok (record { front = front.0; parcel_count = count.0 }, count.1)) x e (λ front r0 e0.
    after (number_at faults.Truncated w16 front.1) (λ count. Ok (record { front = front.0; parcel_count = count.0 }, count.1)) x e0 (λ count r1 e1.
    let t0 = front_takes bytes front fits r0 in
    let t1 = number_takes faults.Truncated w16 (2 ^ 16) wide16 front.1 count.0 count.1 t0.0.rest_fits r1 in
    let all = Takes-then bytes (front_spelling front.0) front.1 (to_be_bytes w16 count.0) count.1 t0.0 t1.0 in
    at_end {F = FrameFault} (HeadTaken bytes) (record { front = front.0; parcel_count = count.0 }, count.1) x e1 (all, record { front = t0.1; few = t1.1 })))

head_again : (h : FrameHead) (rest : List ℕ) → IsHead h → head_at (head_spelling h ++ rest) ≡ Ok (h, rest)
unfolding head_at
head_again h rest is =
    let count : List ℕ = to_be_bytes w16 h.parcel_count in
    let regrouped : head_spelling h ++ rest ≡ front_spelling h.front ++ (count ++ rest) = append_assoc (front_spelling h.front) count rest in
    ap head_at regrouped ∙ rw (front_again h.front (count ++ rest) is.front, number_again faults.Truncated w16 (2 ^ 16) wide16 h.parcel_count rest is.few) refl

heads_read : Reads head_at head_spelling IsHead
heads_read = record { takes = head_takes; again = head_again }

pub head_found : (bytes : List ℕ) (h : FrameHead) → IsBytes bytes → head_in bytes ≡ Ok h → StandsInFront IsHead head_spelling bytes h
head_found bytes h fits e =
    after (head_at bytes) (λ head. Ok head.0) h e (λ head r0 e0.
    let t = heads_read.takes bytes head fits r0 in
    at_end {F = FrameFault} (StandsInFront IsHead head_spelling bytes) head.0 h e0 (record { fits = t.1; rest = head.1; parts = t.0.parts }))

pub head_only : (bytes : List ℕ) (h : FrameHead) → StandsInFront IsHead head_spelling bytes h → head_in bytes ≡ Ok h
head_only bytes h stands =
    let read : head_at bytes ≡ Ok (h, stands.rest) = ap head_at stands.parts ∙ heads_read.again h stands.rest stands.fits in
    rw read refl

-- ---- parcels

abbrev ParcelTaken : List ℕ → List ℕ × List ℕ → Type 0
ParcelTaken bytes x = Takes bytes (parcel_spelling x.0) x.1 × IsParcel x.0

parcel_takes : (bytes : List ℕ) (x : List ℕ × List ℕ) → IsBytes bytes → parcel_at bytes ≡ Ok x → ParcelTaken bytes x
unfolding parcel_at
parcel_takes bytes x fits e =
    after (number_at faults.Truncated w32 bytes) (λ size. bytes_at faults.Truncated size.0 size.1) x e (λ size r0 e0.
    let t0 = number_takes faults.Truncated w32 (2 ^ 32) wide32 bytes size.0 size.1 fits r0 in
    let t1 = bytes_takes faults.Truncated size.0 size.1 x.0 x.1 t0.0.rest_fits e0 in
    let all = Takes-then bytes (to_be_bytes w32 size.0) size.1 x.0 x.1 t0.0 t1.0 in
    (subst (λ (n : ℕ). Takes bytes (to_be_bytes w32 n ++ x.0) x.1) (sym t1.1) all, subst (λ (n : ℕ). n < 2 ^ 32) (sym t1.1) t0.1))

parcel_again : (parcel rest : List ℕ) → IsParcel parcel → parcel_at (parcel_spelling parcel ++ rest) ≡ Ok (parcel, rest)
unfolding parcel_at
parcel_again parcel rest short =
    let regrouped : parcel_spelling parcel ++ rest ≡ to_be_bytes w32 (length parcel) ++ (parcel ++ rest) = append_assoc (to_be_bytes w32 (length parcel)) parcel rest in
    ap parcel_at regrouped ∙ rw (number_again faults.Truncated w32 (2 ^ 32) wide32 (length parcel) (parcel ++ rest) short, bytes_again faults.Truncated (length parcel) parcel rest refl) refl

pub parcels_read : Reads parcel_at parcel_spelling IsParcel
parcels_read = record { takes = parcel_takes; again = parcel_again }

-- ---- frames

abbrev FrameTaken : List ℕ → WireFrame × List ℕ → Type 0
FrameTaken bytes x = Takes bytes (frame_spelling x.0) x.1 × IsFrame x.0

frame_takes : (bytes : List ℕ) (x : WireFrame × List ℕ) → IsBytes bytes → frame_at bytes ≡ Ok x → FrameTaken bytes x
unfolding frame_at
frame_takes bytes x fits e =
    after (head_at bytes) (λ head. many_at parcel_at head.0.parcel_count head.1 >>= λ parcels. Ok (record { front = head.0.front; parcels = parcels.0 }, parcels.1)) x e (λ head r0 e0.
    after (many_at parcel_at head.0.parcel_count head.1) (λ parcels. Ok (record { front = head.0.front; parcels = parcels.0 }, parcels.1)) x e0 (λ parcels r1 e1.
    let t0 = head_takes bytes head fits r0 in
    let t1 = many_take parcel_at parcel_spelling IsParcel parcels_read head.0.parcel_count head.1 parcels t0.0.rest_fits r1 in
    let all = Takes-then bytes (head_spelling head.0) head.1 (flat_map parcel_spelling parcels.0) parcels.1 t0.0 t1.0 in
    let text : Takes bytes (head_spelling (record { front = head.0.front; parcel_count = length parcels.0 }) ++ flat_map parcel_spelling parcels.0) parcels.1 = subst (λ (n : ℕ). Takes bytes (head_spelling (record { front = head.0.front; parcel_count = n }) ++ flat_map parcel_spelling parcels.0) parcels.1) (sym t1.1) all in
    let few : length parcels.0 < 2 ^ 16 = subst (λ (n : ℕ). n < 2 ^ 16) (sym t1.1) t0.1.few in
    at_end {F = FrameFault} (FrameTaken bytes) (record { front = head.0.front; parcels = parcels.0 }, parcels.1) x e1 (text, record { front = t0.1.front; few = few; short = t1.2 })))

frame_again : (f : WireFrame) (rest : List ℕ) → IsFrame f → frame_at (frame_spelling f ++ rest) ≡ Ok (f, rest)
unfolding frame_at
frame_again f rest is =
    let parcels : List ℕ = flat_map parcel_spelling f.parcels in
    let regrouped : frame_spelling f ++ rest ≡ head_spelling (head_of f) ++ (parcels ++ rest) = append_assoc (head_spelling (head_of f)) parcels rest in
    ap frame_at regrouped ∙ rw (head_again (head_of f) (parcels ++ rest) (record { front = is.front; few = is.few }), many_again parcel_at parcel_spelling IsParcel parcels_read f.parcels rest is.short) refl

pub frames_read : Reads frame_at frame_spelling IsFrame
frames_read = record { takes = frame_takes; again = frame_again }

-- ---- the whole

nil_by : (xs : List ℕ) → length xs ≡ 0 → xs ≡ []
nil_by [] e = refl
nil_by (x ∷ xs) e = absurd (omega (arith, e))

pub frame_found : (bytes : List ℕ) (f : WireFrame) → IsBytes bytes → whole_frame bytes ≡ Ok f → Spells IsFrame frame_spelling bytes f
unfolding whole_frame
frame_found bytes f fits e =
    after (frame_at bytes) (λ frame. check (eqb (length frame.1) 0) faults.LeftOver >>= λ all. Ok frame.0) f e (λ frame r0 e0.
    after_check (eqb (length frame.1) 0) faults.LeftOver (λ all. Ok frame.0) f e0 (λ all e1.
    let t = frames_read.takes bytes frame fits r0 in
    let none : frame.1 ≡ [] = nil_by frame.1 (eqb-true _ _ all) in
    let whole : bytes ≡ frame_spelling frame.0 = t.0.parts ∙ ap (λ (r : List ℕ). frame_spelling frame.0 ++ r) none ∙ append-nil (frame_spelling frame.0) in
    at_end {F = FrameFault} (Spells IsFrame frame_spelling bytes) frame.0 f e1 (record { fits = t.1; spelled = whole })))

pub frame_only : (bytes : List ℕ) (f : WireFrame) → Spells IsFrame frame_spelling bytes f → whole_frame bytes ≡ Ok f
unfolding whole_frame
frame_only bytes f spells =
    let read : frame_at bytes ≡ Ok (f, []) = ap frame_at (spells.spelled ∙ sym (append-nil (frame_spelling f))) ∙ frames_read.again f [] spells.fits in
    rw read refl

-- the head of a frame that all the bytes are
pub head_of_frame : (bytes : List ℕ) (f : WireFrame) → Spells IsFrame frame_spelling bytes f → head_in bytes ≡ Ok (head_of f)
head_of_frame bytes f spells = head_only bytes (head_of f) (record {
  fits = record { front = spells.fits.front; few = spells.fits.few };
  rest = flat_map parcel_spelling f.parcels;
  parts = spells.spelled;
})
