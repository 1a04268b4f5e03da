-- Who sends the frames of a round, and who hears them.
use Rattle.std.proofs.Common.{◌≡◌, ◌<◌, ◌+◌, ℕ, List, [], ◌∷◌, ◌++◌, map, filter, take, length, get_or, Contains, AllPairs, refl, sym, ap, subst, ◌∙◌, eqb, true, false, arith}
use Rattle.std.specs.List.{range_with_len, list_any}
use Rattle.std.proofs.lemmas.Bool.{eqb-true, eq-eqb}
use Rattle.std.proofs.lemmas.List.{append-nil, map-append, take_more, get_or-take, get_or_default, length-take-le}
use Rattle.std.proofs.lemmas.List.Elements.{filter-append}
use Rattle.std.proofs.lemmas.List.Kept.{AllPairs-filter}
use Rattle.gen_types.specs.Members.{range_ascending, filter_range_has}
use Rattle.gen_types.proofs.Lists.{ascending_one, Contains_mapped, Contains_flat_mapped, Contains_filtered, Contains_range, Contains_in_range}
use Rattle.gen_net.specs.Network.{IsNetwork}
use Rattle.gen_net.specs.Edges.{joins}
use Rattle.gen_scenario.specs.Scenario.{Scenario}
use Rattle.gen_scenario.specs.SignedWorld.{neighbours_of}
use Rattle.gen_scenario.specs.Rows.{FrameRow, row_at, rows_by, rows_in}
use Rattle.gen_general.specs.DrivenRecords.{senders_to}
use Rattle.gen_scenario.proofs.Having.{in_mapped, in_flat, in_filtered}
use Rattle.gen_scenario.proofs.HeardBy.{turned, near_has, near_gives, neighbours_ascend}
use Rattle.gen_scenario.proofs.Sorting.{pairs_flat, pairs_map, pairs_with}

-- of two frames to one general that of the lesser sender stands first
abbrev pub InTurn : FrameRow → FrameRow → Type 0
InTurn x y = x.to ≡ y.to → x.from < y.from

pub rows_in_turn : (s : Scenario) (round : ℕ) → AllPairs InTurn (rows_in s round)
unfolding rows_in
rows_in_turn s round =
    pairs_flat (λ v w. v < w) InTurn (rows_by s round) (range_with_len 0 s.net.generals) (range_ascending 0 s.net.generals)
    (λ from h. pairs_map InTurn (row_at s round from) (neighbours_of s.net from) (pairs_with (λ v w. v < w) (λ a b. InTurn (row_at s round from a) (row_at s round from b)) (neighbours_of s.net from) (neighbours_ascend s.net from) (λ a b ha hb less same. absurd (omega (arith, less, same)))))
    (λ v w x y less hx hy same.
    let a = Contains_mapped (row_at s round v) (neighbours_of s.net v) x hx in
    let b = Contains_mapped (row_at s round w) (neighbours_of s.net w) y hy in
    let ex : v ≡ x.from = ap (λ (r : FrameRow). r.from) a.2 in
    let ey : w ≡ y.from = ap (λ (r : FrameRow). r.from) b.2 in
    omega (arith, less, ex, ey))

-- it is a frame of the round, to a neighbour
pub record IsFrame (s : Scenario) (round : ℕ) (x : FrameRow) : Type 0 where
  pub from_known : x.from < s.net.generals
  pub to_known : x.to < s.net.generals
  pub near : Contains (neighbours_of s.net x.from) x.to
  pub is : x ≡ row_at s round x.from x.to

pub frame_has : (s : Scenario) (round : ℕ) (x : FrameRow) → Contains (rows_in s round) x → IsFrame s round x
unfolding rows_in
frame_has s round x h =
    let r = Contains_flat_mapped (rows_by s round) (range_with_len 0 s.net.generals) x h in
    let a = Contains_mapped (row_at s round r.0) (neighbours_of s.net r.0) x r.2 in
    let there : IsFrame s round (row_at s round r.0 a.0) = record {
      from_known = omega (arith, (Contains_range 0 s.net.generals r.0 r.1).1);
      to_known = omega (arith, (filter_range_has (λ y. list_any (joins r.0 y) s.net.edges) 0 s.net.generals a.0 a.1).1);
      near = a.1;
      is = refl;
    } in
    subst (IsFrame s round) a.2 there

pub frame_gives : (s : Scenario) (round from to : ℕ) → from < s.net.generals → Contains (neighbours_of s.net from) to → Contains (rows_in s round) (row_at s round from to)
unfolding rows_in
frame_gives s round from to low near =
    in_flat (rows_by s round) (range_with_len 0 s.net.generals) from (row_at s round from to) (Contains_in_range 0 s.net.generals from (omega arith) (omega arith))
    (in_mapped (row_at s round from) (neighbours_of s.net from) to near)

-- ---- who sends to a general

pub record IsSenderTo (g : ℕ) (rows : List FrameRow) (v : ℕ) : Type 0 where
  pub row : FrameRow
  pub there : Contains rows row
  pub to_is : row.to ≡ g
  pub from_is : row.from ≡ v

pub sender_has : (g : ℕ) (rows : List FrameRow) (v : ℕ) → Contains (senders_to g rows) v → IsSenderTo g rows v
sender_has g rows v h =
    let m = Contains_mapped (λ (row : FrameRow). row.from) (filter (λ (row : FrameRow). eqb row.to g) rows) v h in
    let f = Contains_filtered (λ (row : FrameRow). eqb row.to g) rows m.0 m.1 in
    record { row = m.0; there = f.0; to_is = eqb-true _ _ f.1; from_is = m.2 }

sender_gives : (g : ℕ) (rows : List FrameRow) (x : FrameRow) → Contains rows x → x.to ≡ g → Contains (senders_to g rows) x.from
sender_gives g rows x h e = in_mapped (λ (row : FrameRow). row.from) (filter (λ (row : FrameRow). eqb row.to g) rows) x (in_filtered (λ (row : FrameRow). eqb row.to g) rows x h (eq-eqb x.to g e))

senders_ascend : (s : Scenario) (round g : ℕ) → AllPairs (λ v w. v < w) (senders_to g (rows_in s round))
senders_ascend s round g =
    let to_g : List FrameRow = filter (λ (row : FrameRow). eqb row.to g) (rows_in s round) in
    pairs_map (λ v w. v < w) (λ (row : FrameRow). row.from) to_g
    (pairs_with InTurn (λ x y. x.from < y.from) to_g (AllPairs-filter InTurn (λ (row : FrameRow). eqb row.to g) (rows_in s round) (rows_in_turn s round)) (λ x y hx hy turn.
    let ex : x.to ≡ g = eqb-true _ _ (Contains_filtered (λ (row : FrameRow). eqb row.to g) (rows_in s round) x hx).1 in
    let ey : y.to ≡ g = eqb-true _ _ (Contains_filtered (λ (row : FrameRow). eqb row.to g) (rows_in s round) y hy).1 in
    turn (ex ∙ sym ey)))

-- to each general his neighbours send
pub all_senders : (s : Scenario) → IsNetwork s.net → (round g : ℕ) → senders_to g (rows_in s round) ≡ neighbours_of s.net g
all_senders s ok round g =
    ascending_one (senders_to g (rows_in s round)) (neighbours_of s.net g) (senders_ascend s round g) (neighbours_ascend s.net g)
    (λ v h.
    let x = sender_has g (rows_in s round) v h in
    let near : Contains (neighbours_of s.net x.row.from) g = subst (λ to. Contains (neighbours_of s.net x.row.from) to) x.to_is (frame_has s round x.row x.there).near in
    subst (λ w. Contains (neighbours_of s.net g) w) x.from_is (near_gives s.net ok g x.row.from (turned s.net x.row.from g (near_has s.net x.row.from g near))))
    (λ v h.
    let low : v < s.net.generals = omega (arith, (filter_range_has (λ y. list_any (joins g y) s.net.edges) 0 s.net.generals v h).1) in
    sender_gives g (rows_in s round) (row_at s round v g) (frame_gives s round v g low (near_gives s.net ok v g (turned s.net g v (near_has s.net g v h)))) refl)

-- ---- frame by frame

senders_more : (g : ℕ) (xs ys : List FrameRow) → senders_to g (xs ++ ys) ≡ senders_to g xs ++ senders_to g ys
senders_more g xs ys = ap (map (λ (row : FrameRow). row.from)) (filter-append (λ (row : FrameRow). eqb row.to g) xs ys) ∙ map-append (λ (row : FrameRow). row.from) (filter (λ (row : FrameRow). eqb row.to g) xs) (filter (λ (row : FrameRow). eqb row.to g) ys)

one_to : (g : ℕ) (x : FrameRow) → eqb x.to g ≡ true → senders_to g (x ∷ []) ≡ x.from ∷ []
one_to g x e = rw e refl

one_past : (g : ℕ) (x : FrameRow) → eqb x.to g ≡ false → senders_to g (x ∷ []) ≡ []
one_past g x e = rw e refl

pub senders_here : (g i : ℕ) (rows : List FrameRow) (d : FrameRow) → i < length rows → eqb (get_or rows i d).to g ≡ true → senders_to g (take (i + 1) rows) ≡ senders_to g (take i rows) ++ (get_or rows i d).from ∷ []
senders_here g i rows d within e =
    ap (senders_to g) (take_more rows i d within) ∙ senders_more g (take i rows) (get_or rows i d ∷ []) ∙ ap (λ (xs : List ℕ). senders_to g (take i rows) ++ xs) (one_to g (get_or rows i d) e)

pub senders_past : (g i : ℕ) (rows : List FrameRow) (d : FrameRow) → i < length rows → eqb (get_or rows i d).to g ≡ false → senders_to g (take (i + 1) rows) ≡ senders_to g (take i rows)
senders_past g i rows d within e =
    ap (senders_to g) (take_more rows i d within) ∙ senders_more g (take i rows) (get_or rows i d ∷ []) ∙ ap (λ (xs : List ℕ). senders_to g (take i rows) ++ xs) (one_past g (get_or rows i d) e) ∙ append-nil (senders_to g (take i rows))

-- those who sent to him before stand before the sender
pub senders_before : (i : ℕ) (rows : List FrameRow) (d : FrameRow) → AllPairs InTurn rows → i < length rows → (v : ℕ) → Contains (senders_to (get_or rows i d).to (take i rows)) v → v < (get_or rows i d).from
senders_before i rows d turn within v h =
    let x = sender_has (get_or rows i d).to (take i rows) v h in
    let a = x.there.0 in
    let short : length (take i rows) ≡ i = length-take-le i rows (omega (arith, within)) in
    let low : a < i = omega (arith, x.there.1, short) in
    let read : get_or rows a d ≡ x.row = sym (get_or-take i rows a d low) ∙ get_or_default (take i rows) a d x.row x.there.1 ∙ x.there.2 in
    let less : (get_or rows a d).from < (get_or rows i d).from = turn a i d low within (ap (λ (r : FrameRow). r.to) read ∙ x.to_is) in
    subst (λ w. w < (get_or rows i d).from) (ap (λ (r : FrameRow). r.from) read ∙ x.from_is) less
