-- The acts of a general, round by round: where he stands after some of them, and what is counted before it.
use Rattle.std.proofs.Common.{◌≡◌, ℕ, zero, suc, ◌+◌, ◌<◌, ◌≤◌, ◌⊎◌, inl, inr, cond, ◌==◌, List, [], ◌∷◌, ◌++◌, length, map, take, Contains, AllPairs, count_by, slice_get, Some, refl, sym, ap, subst, ◌∙◌, arith, append_assoc}
use Rattle.gen_async.specs.declared.acts.Act.{Act}
use Rattle.gen_async.specs.declared.acts.Act.TheVariants.{Puts, Takes}
use Rattle.gen_async.specs.Acts.{acts_of_round, acts_of_rounds, is_put_to, is_take_from}
use Rattle.gen_types.proofs.Lists.{Contains-middle}
use Rattle.std.proofs.lemmas.List.{take_all}
use Rattle.gen_async.proofs.Lists.{count_cons, count_append, times, times_once, times_here, times_front, cut_at, get_joined, cut_joined, cut_mapped}

puts_in_puts : (x l : ℕ) (near : List ℕ) → count_by (is_put_to x) (map (Puts l) near) ≡ times x near
puts_in_puts x l [] = refl
puts_in_puts x l (y ∷ near) = count_cons (is_put_to x) (Puts l y) (map (Puts l) near) ∙ ap (λ n. cond (y == x) 1 0 + n) (puts_in_puts x l near) ∙ sym (count_cons (λ z. z == x) y near)

puts_in_takes : (x l : ℕ) (near : List ℕ) → count_by (is_put_to x) (map (Takes l) near) ≡ 0
puts_in_takes x l [] = refl
puts_in_takes x l (y ∷ near) = omega (arith, count_cons (is_put_to x) (Takes l y) (map (Takes l) near), puts_in_takes x l near)

takes_in_takes : (x l : ℕ) (near : List ℕ) → count_by (is_take_from x) (map (Takes l) near) ≡ times x near
takes_in_takes x l [] = refl
takes_in_takes x l (y ∷ near) = count_cons (is_take_from x) (Takes l y) (map (Takes l) near) ∙ ap (λ n. cond (y == x) 1 0 + n) (takes_in_takes x l near) ∙ sym (count_cons (λ z. z == x) y near)

takes_in_puts : (x l : ℕ) (near : List ℕ) → count_by (is_take_from x) (map (Puts l) near) ≡ 0
takes_in_puts x l [] = refl
takes_in_puts x l (y ∷ near) = omega (arith, count_cons (is_take_from x) (Puts l y) (map (Puts l) near), takes_in_puts x l near)

puts_in_round : (x l : ℕ) (near : List ℕ) → count_by (is_put_to x) (acts_of_round near l) ≡ times x near
puts_in_round x l near = omega (arith, count_append (is_put_to x) (map (Puts l) near) (map (Takes l) near), puts_in_puts x l near, puts_in_takes x l near)

takes_in_round : (x l : ℕ) (near : List ℕ) → count_by (is_take_from x) (acts_of_round near l) ≡ times x near
takes_in_round x l near = omega (arith, count_append (is_take_from x) (map (Puts l) near) (map (Takes l) near), takes_in_puts x l near, takes_in_takes x l near)

-- each round has one put to x and one take from x
pub puts_in_rounds : (x : ℕ) (near : List ℕ) → times x near ≡ 1 → (count l : ℕ) → count_by (is_put_to x) (acts_of_rounds near l count) ≡ count
puts_in_rounds x near once zero l = refl
puts_in_rounds x near once (suc count) l = omega (arith, count_append (is_put_to x) (acts_of_round near l) (acts_of_rounds near (l + 1) count), puts_in_round x l near, puts_in_rounds x near once count (l + 1))

pub takes_in_rounds : (x : ℕ) (near : List ℕ) → times x near ≡ 1 → (count l : ℕ) → count_by (is_take_from x) (acts_of_rounds near l count) ≡ count
takes_in_rounds x near once zero l = refl
takes_in_rounds x near once (suc count) l = omega (arith, count_append (is_take_from x) (acts_of_round near l) (acts_of_rounds near (l + 1) count), takes_in_round x l near, takes_in_rounds x near once count (l + 1))

-- after some of his acts: so many whole rounds are behind it, and of its own round what stands before it
pub record Stands (near : List ℕ) (l count p : ℕ) (act : Act) : Type 0 where
  pub gone : ℕ
  pub in_time : gone < count
  pub before : List Act
  pub later : List Act
  pub cut : acts_of_round near (l + gone) ≡ before ++ act ∷ later
  pub behind : take p (acts_of_rounds near l count) ≡ acts_of_rounds near l gone ++ before

pub stands : (near : List ℕ) (count l p : ℕ) (act : Act) → slice_get (acts_of_rounds near l count) p ≡ Some act → Stands near l count p act
stands near zero l p act e = absurd (cc)
stands near (suc count) l p act e = elim (get_joined (acts_of_round near l) (acts_of_rounds near (l + 1) count) p) [
  | inl h ↦
      let c = cut_at (acts_of_round near l) p act (sym h.0 ∙ e) in
      let same : l + 0 ≡ l = omega arith in
      record {
        gone = 0;
        in_time = omega arith;
        before = take p (acts_of_round near l);
        later = c.0;
        cut = ap (acts_of_round near) same ∙ c.1;
        behind = h.1;
      }
  | inr h ↦
      let r = stands near count (l + 1) h.0 act (sym h.1 ∙ e) in
      let same : l + suc r.gone ≡ (l + 1) + r.gone = omega arith in
      record {
        gone = suc r.gone;
        in_time = omega (arith, r.in_time);
        before = r.before;
        later = r.later;
        cut = ap (acts_of_round near) same ∙ r.cut;
        behind = h.2 ∙ ap (λ zs. acts_of_round near l ++ zs) r.behind ∙ sym (append_assoc (acts_of_round near l) (acts_of_rounds near (l + 1) r.gone) r.before);
      }
]

-- within a round an act is a put with the puts to lesser neighbours before it, or a take with all puts and the takes from lesser ones
pub record StandsAtPut (near : List ℕ) (l : ℕ) (act : Act) (before : List Act) : Type 0 where
  pub front : List ℕ
  pub here : ℕ
  pub back : List ℕ
  pub near_is : near ≡ front ++ here ∷ back
  pub act_is : act ≡ Puts l here
  pub before_is : before ≡ map (Puts l) front

pub record StandsAtTake (near : List ℕ) (l : ℕ) (act : Act) (before : List Act) : Type 0 where
  pub front : List ℕ
  pub here : ℕ
  pub back : List ℕ
  pub near_is : near ≡ front ++ here ∷ back
  pub act_is : act ≡ Takes l here
  pub before_is : before ≡ map (Puts l) near ++ map (Takes l) front

pub in_round : (near : List ℕ) (l : ℕ) (before : List Act) (act : Act) (later : List Act) → acts_of_round near l ≡ before ++ act ∷ later → StandsAtPut near l act before ⊎ StandsAtTake near l act before
in_round near l before act later e = elim (cut_joined (map (Puts l) near) (map (Takes l) near) before act later e) [
  | inl h ↦
      let c = cut_mapped (Puts l) near before act h.0 h.1 in
      inl (record { front = c.0; here = c.1; back = c.2; near_is = c.3; act_is = c.5; before_is = c.4 })
  | inr h ↦
      let c = cut_mapped (Takes l) near h.0 act later h.2 in
      inr (record { front = c.0; here = c.1; back = c.2; near_is = c.3; act_is = c.5; before_is = h.1 ∙ ap (λ zs. map (Puts l) near ++ zs) c.4 })
]

-- what is counted before a put of round l to h, and before a take of round l from h
pub record BeforePut (near : List ℕ) (count p l h : ℕ) : Type 0 where
  pub joined : Contains near h
  pub first : 1 ≤ l
  pub last : l ≤ count
  pub here : count_by (is_put_to h) (take p (acts_of_rounds near 1 count)) + 1 ≡ l
  pub puts : (x : ℕ) → Contains near x → (l ≤ count_by (is_put_to x) (take p (acts_of_rounds near 1 count)) + 1) × (count_by (is_put_to x) (take p (acts_of_rounds near 1 count)) ≤ l)
  pub takes : (x : ℕ) → Contains near x → count_by (is_take_from x) (take p (acts_of_rounds near 1 count)) + 1 ≡ l

pub record BeforeTake (near : List ℕ) (count p l h : ℕ) : Type 0 where
  pub joined : Contains near h
  pub first : 1 ≤ l
  pub last : l ≤ count
  pub here : count_by (is_take_from h) (take p (acts_of_rounds near 1 count)) + 1 ≡ l
  pub takes : (x : ℕ) → Contains near x → (l ≤ count_by (is_take_from x) (take p (acts_of_rounds near 1 count)) + 1) × (count_by (is_take_from x) (take p (acts_of_rounds near 1 count)) ≤ l)
  pub puts : (x : ℕ) → Contains near x → count_by (is_put_to x) (take p (acts_of_rounds near 1 count)) ≡ l

module _ (near : List ℕ) (up : AllPairs (λ a b. a < b) near) (count p : ℕ) where
  counted_puts : (act : Act) (s : Stands near 1 count p act) (x : ℕ) → Contains near x → count_by (is_put_to x) (take p (acts_of_rounds near 1 count)) ≡ s.gone + count_by (is_put_to x) s.before
  counted_puts act s x h =
      ap (count_by (is_put_to x)) s.behind
      ∙ count_append (is_put_to x) (acts_of_rounds near 1 s.gone) s.before
      ∙ ap (λ n. n + count_by (is_put_to x) s.before) (puts_in_rounds x near (times_once x near up h) s.gone 1)

  counted_takes : (act : Act) (s : Stands near 1 count p act) (x : ℕ) → Contains near x → count_by (is_take_from x) (take p (acts_of_rounds near 1 count)) ≡ s.gone + count_by (is_take_from x) s.before
  counted_takes act s x h =
      ap (count_by (is_take_from x)) s.behind
      ∙ count_append (is_take_from x) (acts_of_rounds near 1 s.gone) s.before
      ∙ ap (λ n. n + count_by (is_take_from x) s.before) (takes_in_rounds x near (times_once x near up h) s.gone 1)

  -- a neighbour at a cut of the list of neighbours stands there, and not before
  here_in : (front : List ℕ) (here : ℕ) (back : List ℕ) → near ≡ front ++ here ∷ back → Contains near here
  here_in front here back e = subst (λ zs. Contains zs here) (sym e) (Contains-middle front here back)

  none_before : (front : List ℕ) (here : ℕ) (back : List ℕ) → near ≡ front ++ here ∷ back → times here front ≡ 0
  none_before front here back e =
      let once : times here near ≡ 1 = times_once here near up (here_in front here back e) in
      let all : times here near ≡ times here front + (1 + times here back) = ap (times here) e ∙ times_here here front back in
      omega arith

  few_before : (front : List ℕ) (here : ℕ) (back : List ℕ) → near ≡ front ++ here ∷ back → (x : ℕ) → Contains near x → times x front ≤ 1
  few_before front here back e x h =
      let once : times x near ≡ 1 = times_once x near up h in
      let part : times x front ≤ times x (front ++ here ∷ back) = times_front x front (here ∷ back) in
      let all : times x near ≡ times x (front ++ here ∷ back) = ap (times x) e in
      omega arith

  pub before_put : (l h : ℕ) → slice_get (acts_of_rounds near 1 count) p ≡ Some (Puts l h) → BeforePut near count p l h
  before_put l h e =
      let s = stands near count 1 p (Puts l h) e in
      elim (in_round near (1 + s.gone) s.before (Puts l h) s.later s.cut) [
        | inr t ↦ let q : Puts l h ≡ Takes (1 + s.gone) t.here = t.act_is in absurd (cc)
        | inl t ↦
            let q : Puts l h ≡ Puts (1 + s.gone) t.here = t.act_is in
            let round : l ≡ 1 + s.gone = cc in
            let whom : h ≡ t.here = cc in
            let puts_front = λ (x : ℕ). ap (count_by (is_put_to x)) t.before_is ∙ puts_in_puts x (1 + s.gone) t.front in
            let takes_front = λ (x : ℕ). ap (count_by (is_take_from x)) t.before_is ∙ takes_in_puts x (1 + s.gone) t.front in
            let member : Contains near h = subst (λ z. Contains near z) (sym whom) (here_in t.front t.here t.back t.near_is) in
            let zero_here : times h t.front ≡ 0 = ap (λ z. times z t.front) whom ∙ none_before t.front t.here t.back t.near_is in
            record {
              joined = member;
              first = omega arith;
              last = omega (arith, s.in_time);
              here = omega (arith, counted_puts (Puts l h) s h member, puts_front h, zero_here);
              puts = λ x k. (omega (arith, counted_puts (Puts l h) s x k), omega (arith, counted_puts (Puts l h) s x k, puts_front x, few_before t.front t.here t.back t.near_is x k));
              takes = λ x k. omega (arith, counted_takes (Puts l h) s x k, takes_front x);
            }
      ]

  pub before_take : (l h : ℕ) → slice_get (acts_of_rounds near 1 count) p ≡ Some (Takes l h) → BeforeTake near count p l h
  before_take l h e =
      let s = stands near count 1 p (Takes l h) e in
      elim (in_round near (1 + s.gone) s.before (Takes l h) s.later s.cut) [
        | inl t ↦ let q : Takes l h ≡ Puts (1 + s.gone) t.here = t.act_is in absurd (cc)
        | inr t ↦
            let q : Takes l h ≡ Takes (1 + s.gone) t.here = t.act_is in
            let round : l ≡ 1 + s.gone = cc in
            let whom : h ≡ t.here = cc in
            let puts_front = λ (x : ℕ). ap (count_by (is_put_to x)) t.before_is ∙ count_append (is_put_to x) (map (Puts (1 + s.gone)) near) (map (Takes (1 + s.gone)) t.front) in
            let takes_front = λ (x : ℕ). ap (count_by (is_take_from x)) t.before_is ∙ count_append (is_take_from x) (map (Puts (1 + s.gone)) near) (map (Takes (1 + s.gone)) t.front) in
            let member : Contains near h = subst (λ z. Contains near z) (sym whom) (here_in t.front t.here t.back t.near_is) in
            let zero_here : times h t.front ≡ 0 = ap (λ z. times z t.front) whom ∙ none_before t.front t.here t.back t.near_is in
            record {
              joined = member;
              first = omega arith;
              last = omega (arith, s.in_time);
              here = omega (arith, counted_takes (Takes l h) s h member, takes_front h, takes_in_puts h (1 + s.gone) near, takes_in_takes h (1 + s.gone) t.front, zero_here);
              takes = λ x k. (omega (arith, counted_takes (Takes l h) s x k), omega (arith, counted_takes (Takes l h) s x k, takes_front x, takes_in_puts x (1 + s.gone) near, takes_in_takes x (1 + s.gone) t.front, few_before t.front t.here t.back t.near_is x k));
              puts = λ x k. omega (arith, counted_puts (Takes l h) s x k, puts_front x, puts_in_puts x (1 + s.gone) near, puts_in_takes x (1 + s.gone) t.front, times_once x near up k);
            }
      ]

  pub at_end : length (acts_of_rounds near 1 count) ≤ p → (x : ℕ) → Contains near x → (count_by (is_put_to x) (take p (acts_of_rounds near 1 count)) ≡ count) × (count_by (is_take_from x) (take p (acts_of_rounds near 1 count)) ≡ count)
  at_end past x h =
      let all : take p (acts_of_rounds near 1 count) ≡ acts_of_rounds near 1 count = take_all p (acts_of_rounds near 1 count) past in
      (ap (count_by (is_put_to x)) all ∙ puts_in_rounds x near (times_once x near up h) count 1, ap (count_by (is_take_from x)) all ∙ takes_in_rounds x near (times_once x near up h) count 1)
