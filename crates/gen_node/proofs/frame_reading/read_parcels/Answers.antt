use Rattle.std.proofs.Common.{◌≡◌, ℕ, List, Ok, refl}
use Rattle.std.specs.Int.{w32}
use Rattle.std.proofs.lemmas.Result.{err_from_is_err_and}
use Rattle.gen_types.specs.declared.reading.ReadError.{ReadError}
use Rattle.gen_types.specs.declared.reading.ReadError.TheVariants as errors
use Rattle.gen_types.specs.Reading.{Fails}
use Rattle.gen_types.specs.Bytes.{bytes_at, number_at}
use Rattle.gen_types.proofs.ManyFields.{goes_on, ends, is_done}
use Rattle.gen_node.specs.declared.frame_fault.FrameFault.{FrameFault}
use Rattle.gen_node.specs.declared.frame_fault.FrameFault.TheVariants.{Truncated}
use Rattle.gen_node.specs.FrameReading.{parcel_at}
use Rattle.gen_node.proofs.frame_reading.read_parcels.Goals as goal

fails_size : (bytes : List ℕ) (e : ReadError FrameFault) → Fails e (number_at Truncated w32 bytes) → Fails e (parcel_at bytes)
unfolding parcel_at
fails_size bytes errors.Memory h = tt
fails_size bytes (errors.Fault f) h = rw h refl

fails_parcel : (bytes : List ℕ) (size : ℕ) (after : List ℕ) (e : ReadError FrameFault) → number_at {F = FrameFault} Truncated w32 bytes ≡ Ok (size, after) → Fails e (bytes_at Truncated size after) → Fails e (parcel_at bytes)
unfolding parcel_at
fails_parcel bytes size after errors.Memory s h = tt
fails_parcel bytes size after (errors.Fault f) s h = rw (s, h) refl

is_parcel : (bytes : List ℕ) (size : ℕ) (after parcel others : List ℕ) → number_at {F = FrameFault} Truncated w32 bytes ≡ Ok (size, after) → bytes_at {F = FrameFault} Truncated size after ≡ Ok (parcel, others) → parcel_at bytes ≡ Ok (parcel, others)
unfolding parcel_at
is_parcel bytes size after parcel others s h = rw (s, h) refl

pub returns-in_err-size : goal.returns-in_err-size
returns-in_err-size c =
    let p = err_from_is_err_and c.from_residual.result c.from_residual.ensures.1 in
    let failed : Fails c.in_err-size.field-0.0 (parcel_at c.loop.rest.now) = fails_size _ _ c.in_err-size.ensures.exact in
    rw (p.1, p.2) (ends parcel_at c.in_err-size.field-0.0 c.loop.parcels.items c.args.count c.loop.counter c.loop.rest.now _ c.loop-test.true failed c.loop.invariant)

pub returns-in_err-parcel : goal.returns-in_err-parcel
returns-in_err-parcel c =
    let p = err_from_is_err_and c.from_residual-in_err-parcel.result c.from_residual-in_err-parcel.ensures.1 in
    let failed : Fails c.in_err-parcel.field-0.0 (parcel_at c.loop.rest.now) = fails_parcel _ _ _ _ c.in_ok-size.ensures.exact c.in_err-parcel.ensures.exact in
    rw (p.1, p.2) (ends parcel_at c.in_err-parcel.field-0.0 c.loop.parcels.items c.args.count c.loop.counter c.loop.rest.now _ c.loop-test.true failed c.loop.invariant)

pub loop-preserved : goal.loop-preserved
loop-preserved c =
    rw (c.in_ok-push.ensures.items, c.new.ensures, c.in_ok-from_slice.ensures.items) (goes_on parcel_at c.loop.parcels.items c.args.count c.loop.counter c.loop.rest.now c.in_ok-parcel.parcel.now c.in_ok-parcel.after.now _ c.loop-test.true (is_parcel _ _ _ _ _ c.in_ok-size.ensures.exact c.in_ok-parcel.ensures.exact) c.loop.invariant)

pub returns : goal.returns
returns c = is_done parcel_at c.loop.parcels.items c.args.count c.loop.counter c.loop.rest.now _ c.loop-test.false c.loop.invariant
