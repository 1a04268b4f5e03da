-- What a signature tells that its holder did not make.
use Rattle.std.proofs.Common.{◌≡◌, ◌<◌, inl, inr, ℕ, ◌+◌, ◌-◌, ◌*◌, ◌++◌, List, length, drop, sym, ◌∙◌, arith}
use Rattle.std.proofs.lemmas.List.{append_cancel_left, length-drop, length-take-le}
use Rattle.sha2.proofs.Facts256.{length-sha256}
use Rattle.gen_lmots.specs.declared.places.KeyPlace.{KeyPlace}
use Rattle.gen_lmots.specs.Chains.{message_hash}
use Rattle.gen_lmots.specs.Keys.{public_key}
use Rattle.gen_lmots.specs.Signatures.{candidate, key_led}
use Rattle.gen_lmots.specs.Strings.{d_mesg, front, hash_length, ots_length, u16str}
use Rattle.gen_lms.specs.Heights.{leaves_of, levels_of}
use Rattle.gen_lms.specs.Laws.{ForgedMessageGivesAway, ForgeryGivesAway, LeafHasOneKey, OtherHashGivesAway, hash_signed, message_text, randomizer_in, values_in}
use Rattle.gen_lms.specs.Rings.{place_of, tree_path}
use Rattle.gen_lms.specs.Signatures.{number_in, one_time_in, path_in}
use Rattle.gen_lms.specs.Tree.{leaf, path_at}
use Rattle.gen_lms.proofs.Hashes.{each_byte, hash_bytes}
use Rattle.gen_lms.proofs.Joining.{leaves_meet, paths_meet, right_of}
use Rattle.gen_lms.proofs.Leading.{leads-up, length-tree_path}
use Rattle.gen_lms.proofs.Meeting.{gives_away, same_or_not}

one_path : (path : List ℕ) (levels : ℕ) → length path ≡ hash_length * levels → (i : ℕ) → i < levels → length (path_at path i) ≡ 32
one_path path levels len i h =
    let behind : length (drop (hash_length * i) path) ≡ length path - hash_length * i = length-drop (hash_length * i) path in
    length-take-le 32 (drop (hash_length * i) path) (omega (arith, behind, len))

pub leaf_has_one_key : LeafHasOneKey
leaf_has_one_key identifier height q key path other behind lp lb same =
    let r = leaves_of height + q in
    let levels = levels_of height in
    elim (paths_meet identifier r (leaf identifier r key) path (leaf identifier r other) behind levels (length-sha256 _) (length-sha256 _) (one_path path levels lp) (one_path behind levels lb) same) [
      | inl e ↦ leaves_meet identifier r key other e
      | inr collide ↦ inr collide
    ]

pub other_hash_gives_away : OtherHashGivesAway
other_hash_gives_away seed place signed q values hs hq differ lv same =
    gives_away seed signed q values place hq.0 hs.0 (each_byte q hq.0 hq.1) (each_byte signed hs.0 hs.1) differ lv same

-- the key that a signature stands for, by its values
key_of_values : (identifier message signature key : List ℕ) → candidate (record { identifier = identifier; number = number_in signature }) (one_time_in signature) message ≡ key
    → key_led (record { identifier = identifier; number = number_in signature }) (hash_signed identifier message signature) (values_in signature) ≡ key
unfolding candidate
key_of_values identifier message signature key e = e

pub forgery_gives_away : ForgeryGivesAway
forgery_gives_away tree message signature signed v hs differ =
    let q = number_in signature in
    let key = public_key tree.seed (place_of tree q) in
    let theirs = candidate (place_of tree q) (one_time_in signature) message in
    let path = path_in signature in
    let levels = levels_of tree.height in
    let first : length (drop 4 signature) ≡ length signature - 4 = length-drop 4 signature in
    let second : length (drop ots_length (drop 4 signature)) ≡ length (drop 4 signature) - ots_length = length-drop ots_length (drop 4 signature) in
    let third : length path ≡ length (drop ots_length (drop 4 signature)) - 4 = length-drop 4 (drop ots_length (drop 4 signature)) in
    let lp : length path ≡ hash_length * levels = omega (arith, first, second, third, v.whole) in
    let one : length (one_time_in signature) ≡ ots_length = length-take-le ots_length (drop 4 signature) (omega (arith, first, v.whole)) in
    let fourth : length (drop 4 (one_time_in signature)) ≡ length (one_time_in signature) - 4 = length-drop 4 (one_time_in signature) in
    let fifth : length (values_in signature) ≡ length (drop 4 (one_time_in signature)) - 32 = length-drop 32 (drop 4 (one_time_in signature)) in
    let lv : length (values_in signature) ≡ 2144 = omega (arith, one, fourth, fifth) in
    elim (leaf_has_one_key tree.identifier tree.height q theirs path key (tree_path tree q) lp (length-tree_path tree q v.below) (v.leads ∙ sym (leads-up tree q v.below))) [
      | inr collide ↦ inl collide
      | inl same ↦ inr (other_hash_gives_away tree.seed (place_of tree q) signed (hash_signed tree.identifier message signature) (values_in signature)
          hs (length-sha256 _, hash_bytes _) differ lv (key_of_values tree.identifier message signature key same))
    ]

message_texts_tell : (place : KeyPlace) (randomizer message other own : List ℕ) → length randomizer ≡ 32 → length other ≡ 32
    → message_text place randomizer message ≡ message_text place other own → message ≡ own
message_texts_tell place randomizer message other own lr lo same =
    right_of randomizer message other own lr lo
    (append_cancel_left (u16str d_mesg) (randomizer ++ message) (other ++ own)
    (append_cancel_left (front place) (u16str d_mesg ++ (randomizer ++ message)) (u16str d_mesg ++ (other ++ own)) same))

pub forged_message_gives_away : ForgedMessageGivesAway
forged_message_gives_away tree message signature randomizer own v lr differ =
    let place = place_of tree (number_in signature) in
    let first : length (drop 4 signature) ≡ length signature - 4 = length-drop 4 signature in
    let one : length (one_time_in signature) ≡ ots_length = length-take-le ots_length (drop 4 signature) (omega (arith, first, v.whole)) in
    let fourth : length (drop 4 (one_time_in signature)) ≡ length (one_time_in signature) - 4 = length-drop 4 (one_time_in signature) in
    let wide : length (randomizer_in signature) ≡ 32 = length-take-le 32 (drop 4 (one_time_in signature)) (omega (arith, one, fourth)) in
    elim (same_or_not (hash_signed tree.identifier message signature) (message_hash place randomizer own)) [
      | inl same ↦ inl ((λ e. differ (message_texts_tell place (randomizer_in signature) message randomizer own wide lr e)), same)
      | inr apart ↦ inr (forgery_gives_away tree message signature (message_hash place randomizer own) v (length-sha256 _, hash_bytes _) apart)
    ]
