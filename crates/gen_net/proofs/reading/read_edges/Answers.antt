use Rattle.std.proofs.Common.{◌≡◌, ℕ, List, Ok, refl}
use Rattle.std.proofs.lemmas.Result.{err_from_is_err_and}
use Rattle.gen_types.specs.declared.reading.ReadError.{ReadError}
use Rattle.gen_types.specs.declared.reading.ReadError.TheVariants as errors
use Rattle.gen_types.specs.Reading.{Fails}
use Rattle.gen_types.specs.Bytes.{byte_at}
use Rattle.gen_types.proofs.ManyFields.{goes_on, ends, is_done}
use Rattle.gen_net.specs.declared.fault.HeaderFault.{HeaderFault}
use Rattle.gen_net.specs.declared.fault.HeaderFault.TheVariants.{Truncated}
use Rattle.gen_net.specs.NetworkReading.{edge_at, edges_at}
use Rattle.gen_net.proofs.reading.read_edges.Goals as goal

fails_low : (bytes : List ℕ) (e : ReadError HeaderFault) → Fails e (byte_at Truncated bytes) → Fails e (edge_at bytes)
unfolding edge_at
fails_low bytes errors.Memory h = tt
fails_low bytes (errors.Fault f) h = rw h refl

fails_high : (bytes : List ℕ) (low : ℕ) (after : List ℕ) (e : ReadError HeaderFault) → byte_at {F = HeaderFault} Truncated bytes ≡ Ok (low, after) → Fails e (byte_at Truncated after) → Fails e (edge_at bytes)
unfolding edge_at
fails_high bytes low after errors.Memory l h = tt
fails_high bytes low after (errors.Fault f) l h = rw (l, h) refl

is_edge : (bytes : List ℕ) (low : ℕ) (after : List ℕ) (high : ℕ) (others : List ℕ) → byte_at {F = HeaderFault} Truncated bytes ≡ Ok (low, after) → byte_at {F = HeaderFault} Truncated after ≡ Ok (high, others) → edge_at bytes ≡ Ok ((low, high), others)
unfolding edge_at
is_edge bytes low after high others l h = rw (l, h) refl

pub returns-in_err-low : goal.returns-in_err-low
unfolding edges_at
returns-in_err-low c =
    let counted : byte_at {F = HeaderFault} Truncated c.args.bytes.now ≡ Ok (c.in_ok-count.count, _) = c.in_ok-count.ensures.exact in
    let p = err_from_is_err_and c.from_residual-in_err-low.result c.from_residual-in_err-low.ensures.1 in
    let failed : Fails c.in_err-low.field-0.0 (edge_at c.loop.rest.now) = fails_low _ _ c.in_err-low.ensures.exact in
    rw (counted, p.1, p.2) (ends edge_at c.in_err-low.field-0.0 c.loop.edges.items c.in_ok-count.count c.loop.counter c.loop.rest.now _ c.loop-test.true failed c.loop.invariant)

pub returns-in_err-high : goal.returns-in_err-high
unfolding edges_at
returns-in_err-high c =
    let counted : byte_at {F = HeaderFault} Truncated c.args.bytes.now ≡ Ok (c.in_ok-count.count, _) = c.in_ok-count.ensures.exact in
    let p = err_from_is_err_and c.from_residual-in_err-high.result c.from_residual-in_err-high.ensures.1 in
    let failed : Fails c.in_err-high.field-0.0 (edge_at c.loop.rest.now) = fails_high _ _ _ _ c.in_ok-low.ensures.exact c.in_err-high.ensures.exact in
    rw (counted, p.1, p.2) (ends edge_at c.in_err-high.field-0.0 c.loop.edges.items c.in_ok-count.count c.loop.counter c.loop.rest.now _ c.loop-test.true failed c.loop.invariant)

pub loop-preserved : goal.loop-preserved
loop-preserved c =
    rw c.in_ok-push.ensures.items (goes_on edge_at c.loop.edges.items c.in_ok-count.count c.loop.counter c.loop.rest.now (c.in_ok-low.low, c.in_ok-high.high) c.in_ok-high.after.now _ c.loop-test.true (is_edge _ _ _ _ _ c.in_ok-low.ensures.exact c.in_ok-high.ensures.exact) c.loop.invariant)

pub returns : goal.returns
unfolding edges_at
returns c =
    let counted : byte_at {F = HeaderFault} Truncated c.args.bytes.now ≡ Ok (c.in_ok-count.count, _) = c.in_ok-count.ensures.exact in
    rw counted (is_done edge_at c.loop.edges.items c.in_ok-count.count c.loop.counter c.loop.rest.now _ c.loop-test.false c.loop.invariant)
