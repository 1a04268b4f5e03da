-- The first entry that a report names as unsigned is the first whose signatures don't all verify.
use Rattle.std.proofs.Common.{◌≡◌, ℕ, suc, ◌+◌, Bool, true, false, not, cond, inl, inr, List, [], ◌∷◌, ◌++◌, length, Option, Some, refl, sym, ap, ◌∙◌, subst, arith}
use Rattle.std.specs.List.{AllByRecursion}
use Rattle.gen_types.specs.Members.{bool_cases}
use Rattle.gen_net.specs.Header.{RunHeader}
use Rattle.gen_log.specs.declared.entries.Entry.{Entry}
use Rattle.gen_log.specs.Entry.{IsEntryOf}
use Rattle.gen_log.specs.Verifying.{EntryVerifies}
use Rattle.gen_local.specs.FoundLog.{is_signed, first_unsigned}
use Rattle.gen_local.proofs.GoodLogs.{entry_verifies, entry_signed}
use Rattle.gen_audit.specs.Findings.{FailsAt}

-- one step of the search
here_or_later : (t : Bool) (n : ℕ) (rest : Option ℕ) (p : ℕ) → t ≡ true → cond (not t) (Some n) rest ≡ Some p → rest ≡ Some p
here_or_later true n rest p e h = h
here_or_later false n rest p e h = absurd cc

is_here : (t : Bool) (n : ℕ) (rest : Option ℕ) (p : ℕ) → t ≡ false → cond (not t) (Some n) rest ≡ Some p → p ≡ n
is_here true n rest p e h = absurd cc
is_here false n rest p e h = let same : n ≡ p = cc in sym same

later : (t : Bool) (n : ℕ) (rest : Option ℕ) → t ≡ true → cond (not t) (Some n) rest ≡ rest
later true n rest e = refl
later false n rest e = absurd cc

here : (t : Bool) (n : ℕ) (rest : Option ℕ) → t ≡ false → cond (not t) (Some n) rest ≡ Some n
here true n rest e = absurd cc
here false n rest e = refl

pub unsigned_fails : (h : RunHeader) (n : ℕ) (entries : List Entry) (p : ℕ) → AllByRecursion (IsEntryOf h) entries → first_unsigned h n entries ≡ Some p → (k : ℕ) × (p ≡ n + k) × FailsAt h entries k
unsigned_fails h n [] p ok e = absurd cc
unsigned_fails h n (x ∷ entries) p ok e = elim (bool_cases (is_signed h x)) [
  | inl t ↦
      let r = unsigned_fails h (n + 1) entries p ok.1 (here_or_later (is_signed h x) n (first_unsigned h (n + 1) entries) p t e) in
      let index : p ≡ n + suc r.0 = omega (arith, r.1) in (
        suc r.0,
        index,
        record {
          before = x ∷ r.2.before;
          entry = r.2.entry;
          behind = r.2.behind;
          parts = ap (λ es. x ∷ es) r.2.parts;
          index = ap suc r.2.index;
          verified = (entry_verifies h x ok.0 t, r.2.verified);
          fails = r.2.fails;
        },
      )
  | inr f ↦
      let index : p ≡ n + 0 = omega (arith, is_here (is_signed h x) n (first_unsigned h (n + 1) entries) p f e) in (
        0,
        index,
        record {
          before = [];
          entry = x;
          behind = entries;
          parts = refl;
          index = refl;
          verified = tt;
          fails = λ v. let t : true ≡ false = sym (entry_signed h x v) ∙ f in cc;
        },
      )
]

found_behind : (h : RunHeader) (n : ℕ) (before behind : List Entry) (e : Entry) → IsEntryOf h e → AllByRecursion (EntryVerifies h) before → (EntryVerifies h e → ⊥) → first_unsigned h n (before ++ e ∷ behind) ≡ Some (n + length before)
found_behind h n [] behind e ok good fails =
    let unsigned : is_signed h e ≡ false = elim (bool_cases (is_signed h e)) [ inl t ↦ absurd (fails (entry_verifies h e ok t)) | inr f ↦ f ] in
    let index : n ≡ n + 0 = omega arith in
    here (is_signed h e) n (first_unsigned h (n + 1) behind) unsigned ∙ ap Some index
found_behind h n (x ∷ before) behind e ok good fails =
    let index : n + 1 + length before ≡ n + suc (length before) = omega arith in
    later (is_signed h x) n (first_unsigned h (n + 1) (before ++ e ∷ behind)) (entry_signed h x good.0)
    ∙ found_behind h (n + 1) before behind e ok good.1 fails ∙ ap Some index

entry_of : (h : RunHeader) (before behind : List Entry) (e : Entry) → AllByRecursion (IsEntryOf h) (before ++ e ∷ behind) → IsEntryOf h e
entry_of h [] behind e all = all.0
entry_of h (x ∷ before) behind e all = entry_of h before behind e all.1

pub fails_unsigned : (h : RunHeader) (entries : List Entry) (p : ℕ) → AllByRecursion (IsEntryOf h) entries → FailsAt h entries p → first_unsigned h 0 entries ≡ Some p
fails_unsigned h entries p ok f =
    let known = entry_of h f.before f.behind f.entry (subst (AllByRecursion (IsEntryOf h)) f.parts ok) in
    let index : 0 + length f.before ≡ p = omega (arith, f.index) in
    ap (first_unsigned h 0) f.parts ∙ found_behind h 0 f.before f.behind f.entry known f.verified f.fails ∙ ap Some index
