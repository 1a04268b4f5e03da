-- One round of the search, place by place.
use Rattle.std.proofs.Common.{◌≡◌, ◌≢◌, ℕ, ◌+◌, ◌<◌, ◌≤◌, inl, inr, Bool, true, List, length, refl, sym, ◌∙◌, arith, get_or, get_or-set_other, get_or-set_same, subst}
use Rattle.std.proofs.Math.ListN.{set}
use Rattle.std.specs.Bool.{OnTrue, OnFalse}
use Rattle.std.proofs.lemmas.Bool.{cases_eq}
use Rattle.gen_walks.specs.Levels.{level}
use Rattle.gen_walks.specs.Loops.Search.{IsNextLevel}

pub record Kept (near : ℕ → ℕ → Type 0) (lev : ℕ → ℕ) (k v : ℕ) (next : List ℕ) (changed : Bool) : Type 0 where
  pub done : (w : ℕ) → w < v → IsNextLevel near lev k w (level next w)
  pub left : (w : ℕ) → v ≤ w → level next w ≡ lev w
  pub yes : OnTrue changed ((w : ℕ) × (w < 16) × (lev w ≡ 255) × (level next w ≢ 255))
  pub no : OnFalse changed ((w : ℕ) → w < 16 → level next w ≡ lev w)

module _ (near : ℕ → ℕ → Type 0) (lev : ℕ → ℕ) (k v x : ℕ) (next : List ℕ) (low : k < 254) (in' : v < 16) (long : length next ≡ 16) (is : IsNextLevel near lev k v x) where
  here : get_or (set next v x) v 255 ≡ x
  here = let lt : v < length next = omega arith in rw get_or-set_same refl

  there : (w : ℕ) → w ≢ v → get_or (set next v x) w 255 ≡ get_or next w 255
  there w ne = rw get_or-set_other refl

  fresh : x ≢ lev v → (lev v ≡ 255) × (x ≢ 255)
  fresh ne = elim is [
    | inl (a, b) ↦ absurd (ne b)
    | inr (inl (a, b, c)) ↦ (a, λ e. omega arith)
    | inr (inr (a, b, c)) ↦ absurd (ne (b ∙ sym a))
  ]

  pub taken : (changed : Bool) → Kept near lev k v next changed → x ≢ lev v → Kept near lev k (v + 1) (set next v x) true
  taken changed so ne = let f = fresh ne in record {
    done = λ w l. elim (cases_eq w v) [
      | inl e ↦ rw (e, here) is
      | inr n ↦ rw (there w n) (so.done w (omega arith))
    ];
    left = λ w l. let n : w ≢ v = omega arith in there w n ∙ so.left w (omega arith);
    yes = (v, in', f.0, rw here f.1);
    no = tt;
  }

  pub passed : (changed : Bool) → Kept near lev k v next changed → x ≡ lev v → Kept near lev k (v + 1) next changed
  passed changed so e = record {
    done = λ w l. elim (cases_eq w v) [
      | inl q ↦ let g : IsNextLevel near lev k v (get_or next v 255) = subst (λ y. IsNextLevel near lev k v y) (e ∙ sym (so.left v (omega arith))) is in rw q g
      | inr n ↦ so.done w (omega arith)
    ];
    left = λ w l. so.left w (omega arith);
    yes = so.yes;
    no = so.no;
  }
