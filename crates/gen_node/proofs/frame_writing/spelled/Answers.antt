use Rattle.std.proofs.Common.{◌≡◌, ◌+◌, ◌∙◌, ◌++◌, ◌∷◌, [], List, ℕ, take, sym, ap, subst, append_assoc, length}
use Rattle.std.specs.List.{flat_map}
use Rattle.std.specs.Int.{w16, w32, to_be_bytes}
use Rattle.std.proofs.lemmas.List.{take_all, take_more}
use Rattle.gen_node.specs.Frame.{frame_mark, front_spelling, parcel_spelling}
use Rattle.gen_node.proofs.Fitting.{is_frame}
use Rattle.gen_node.proofs.Growing.{grown}
use Rattle.gen_node.proofs.frame_writing.spelled.Goals as goal

pub parcels-preserved : goal.parcels-preserved
parcels-preserved c =
    let i = c.parcels.parcel-index in
    let xs = c.args.parcels.now in
    let x = c.parcel-item.result in
    let front = c.extend_from_slice-4.new.self.items in
    let whole : take i xs ++ x ∷ [] ≡ take (i + 1) xs = ap (λ (y : List ℕ). take i xs ++ y ∷ []) c.parcel-item.is ∙ sym (take_more xs i x c.parcels-test.true) in
    record {
      items = subst (λ (ys : List (List ℕ)). c.put_parcel.new.out.items ≡ front ++ flat_map parcel_spelling ys) whole (grown parcel_spelling front c.parcels.out.items c.put_parcel.new.out.items (take i xs) x c.parcels.invariant.items c.in_ok-put_parcel.ensures);
    }

pub returns-clause-ok : goal.returns-clause-ok
returns-clause-ok c =
    let front = c.args.front.now in
    let parcels = c.args.parcels.now in
    let begun : c.extend_from_slice-3.new.self.items ≡ front_spelling front =
    rw (c.in_ok-extend_from_slice-3.ensures.items, c.in_ok-extend_from_slice-2.ensures.items, c.in_ok-extend_from_slice.ensures.items, c.new-out.ensures.items, c.to_be_bytes.ensures) (append_assoc (to_be_bytes w32 frame_mark) front.run_id (front.round ∷ front.from ∷ front.to ∷ [])) in
    let tried = rw c.unwrap-count.ensures at c.try_from.ensures in
    let count : c.to_be_bytes-2.result ≡ to_be_bytes w16 (length parcels) = c.to_be_bytes-2.ensures ∙ ap (to_be_bytes w16) tried.1 in
    let counted : c.extend_from_slice-4.new.self.items ≡ front_spelling front ++ to_be_bytes w16 (length parcels) = rw (begun, count) at c.in_ok-extend_from_slice-4.ensures.items in
    let put : c.parcels.out.items ≡ c.extend_from_slice-4.new.self.items ++ flat_map parcel_spelling parcels =
    subst (λ (ps : List (List ℕ)). c.parcels.out.items ≡ c.extend_from_slice-4.new.self.items ++ flat_map parcel_spelling ps) (take_all c.parcels.parcel-index parcels c.parcels-test.false) c.parcels.invariant.items in
    let all : c.parcels.out.items ≡ (front_spelling front ++ to_be_bytes w16 (length parcels)) ++ flat_map parcel_spelling parcels = rw counted at put in
    record {
      fits = is_frame front parcels c.parts_fit.ensures c.requires.few c.requires.short;
      spelled = all;
    }
