-- What is found against single logs is what the reports of the exhibits say.
use Rattle.std.proofs.Common.{◌≡◌, ℕ, Bool, true, false, inl, inr, List, [], ◌∷◌, ◌++◌, Contains, Option, Some, None, Result, Ok, Err, refl, sym, ap, ◌∙◌, subst, arith}
use Rattle.std.specs.Bool.{nat_eq}
use Rattle.std.proofs.lemmas.Bool.{eqb-true, eq-eqb}
use Rattle.std.proofs.lemmas.List.Elements.{Contains-append_left, Contains-append_right, Contains-append_cases}
use Rattle.gen_types.proofs.Lists.{Contains_here, Contains_cases, Contains_nil, Contains_filtered, Contains_mapped}
use Rattle.gen_net.specs.Header.{RunHeader}
use Rattle.gen_net.specs.Departs.{DepartsAt}
use Rattle.gen_chain.proofs.TestedChains.{under_has, under_gives}
use Rattle.gen_log.specs.declared.fault.LogFault.{LogFault}
use Rattle.gen_log.specs.Links.{HeadVerifies}
use Rattle.gen_log.specs.Log.{RunLog}
use Rattle.gen_log.specs.LogReading.{log_of}
use Rattle.gen_log.specs.Verifying.{SaysItIsOf}
use Rattle.gen_local.specs.declared.reading.Reading.{Reading}
use Rattle.gen_local.specs.declared.reading.Reading.TheVariants as readings
use Rattle.gen_local.specs.Erased.{erased}
use Rattle.gen_local.specs.FoundLog.{FoundLog, IsFound}
use Rattle.gen_local.specs.Report.{LocalReport, IsReading}
use Rattle.gen_log.specs.Writing.{LogBytes}
use Rattle.gen_scenario.proofs.Having.{in_filtered, in_mapped}
use Rattle.gen_match.specs.declared.finding.Finding.{Finding}
use Rattle.gen_match.specs.declared.finding.Finding.TheVariants.{Missing, Several, Unreadable, Foreign, Unsigned, Unsealed, Departs, Unmatched, Underivable, Unjoined, Nobody}
use Rattle.gen_audit.specs.Bundle.{Bundle, IsOfRest, exhibits_of}
use Rattle.gen_audit.specs.Findings.{FailsAt, IsFinding}
use Rattle.gen_audit.specs.Telling.{AreReports}
use Rattle.gen_audit.specs.LocalFindings.{unsigned_at, unless_sealed, departs_at, finds, IsLocal, IsReported, ReportsFindLocal}
use Rattle.gen_audit.proofs.FirstUnsigned.{unsigned_fails, fails_unsigned}

-- ---- one exhibit

-- this is found of what was read as a log of g
abbrev IsOne : RunHeader → ℕ → Result RunLog LogFault → Finding → Type 0
IsOne h g read (Unreadable k fault) = (k ≡ g) × (read ≡ Err fault)
IsOne h g read (Foreign k) = (k ≡ g) × ((log : RunLog) × (read ≡ Ok log) × (SaysItIsOf h g log → ⊥))
IsOne h g read (Unsigned k p) = (k ≡ g) × ((log : RunLog) × (read ≡ Ok log) × SaysItIsOf h g log × FailsAt h log.entries p)
IsOne h g read (Unsealed k) = (k ≡ g) × ((log : RunLog) × (read ≡ Ok log) × SaysItIsOf h g log × (HeadVerifies h g log → ⊥))
IsOne h g read (Departs k p) = (k ≡ g) × ((log : RunLog) × (read ≡ Ok log) × SaysItIsOf h g log × DepartsAt h.network g (erased log.entries) p)
IsOne h g read (Missing k) = ⊥
IsOne h g read (Several k) = ⊥
IsOne h g read (Unmatched a c l v) = ⊥
IsOne h g read (Underivable a c l v) = ⊥
IsOne h g read (Unjoined a c) = ⊥
IsOne h g read Nobody = ⊥

in_unsigned : (g : ℕ) (o : Option ℕ) (f : Finding) → Contains (unsigned_at g o) f → (p : ℕ) × (o ≡ Some p) × (f ≡ Unsigned g p)
in_unsigned g None f h = absurd (Contains_nil f h)
in_unsigned g (Some p) f h = elim (Contains_cases (Unsigned g p) f [] h) [ inl e ↦ (p, refl, sym e) | inr none ↦ absurd (Contains_nil f none) ]

in_unsealed : (g : ℕ) (t : Bool) (f : Finding) → Contains (unless_sealed g t) f → (t ≡ false) × (f ≡ Unsealed g)
in_unsealed g true f h = absurd (Contains_nil f h)
in_unsealed g false f h = elim (Contains_cases (Unsealed g) f [] h) [ inl e ↦ (refl, sym e) | inr none ↦ absurd (Contains_nil f none) ]

in_departs : (g : ℕ) (o : Option ℕ) (f : Finding) → Contains (departs_at g o) f → (p : ℕ) × (o ≡ Some p) × (f ≡ Departs g p)
in_departs g None f h = absurd (Contains_nil f h)
in_departs g (Some p) f h = elim (Contains_cases (Departs g p) f [] h) [ inl e ↦ (p, refl, sym e) | inr none ↦ absurd (Contains_nil f none) ]

module _ (h : RunHeader) (g : ℕ) where
  head_fails : (found : FoundLog) → IsFound h g found → found.sealed ≡ false → HeadVerifies h g found.log → ⊥
  head_fails found is e v = let t : true ≡ false = sym (under_gives _ _ _ _ _ v) ∙ sym is.sealed ∙ e in cc

  own_told : (found : FoundLog) → IsFound h g found → (f : Finding) → Contains (finds g (readings.Own found)) f → IsOne h g (Ok found.log) f
  own_told found is f c = elim (Contains-append_cases (unsigned_at g found.unsigned) (unless_sealed g found.sealed ++ departs_at g found.departure) f c) [
    | inl u ↦
        let r = in_unsigned g found.unsigned f u in
        let fails = unsigned_fails h 0 found.log.entries r.0 is.fits_run.entries (sym is.unsigned ∙ r.1) in
        let index : fails.0 ≡ r.0 = omega (arith, fails.1) in
        subst (IsOne h g (Ok found.log)) (sym r.2) (refl, (found.log, refl, is.says, subst (FailsAt h found.log.entries) index fails.2))
    | inr more ↦ elim (Contains-append_cases (unless_sealed g found.sealed) (departs_at g found.departure) f more) [
      | inl s ↦ let r = in_unsealed g found.sealed f s in subst (IsOne h g (Ok found.log)) (sym r.1) (refl, (found.log, refl, is.says, head_fails found is r.0))
      | inr d ↦ let r = in_departs g found.departure f d in subst (IsOne h g (Ok found.log)) (sym r.2) (refl, (found.log, refl, is.says, (is.departs r.0).0 r.1))
    ]
  ]

  told : (read : Result RunLog LogFault) (reading : Reading) → IsReading h g read reading → (f : Finding) → Contains (finds g reading) f → IsOne h g read f
  told (Err fault) reading is f c =
      let q : Contains (Unreadable g fault ∷ []) f = subst (λ r. Contains (finds g r) f) is c in
      elim (Contains_cases (Unreadable g fault) f [] q) [ inl e ↦ subst (IsOne h g (Err fault)) e (refl, refl) | inr none ↦ absurd (Contains_nil f none) ]
  told (Ok log) (readings.Unreadable fault) is f c = absurd is
  told (Ok log) readings.Foreign is f c =
      elim (Contains_cases (Foreign g) f [] c) [ inl e ↦ subst (IsOne h g (Ok log)) e (refl, (log, refl, is)) | inr none ↦ absurd (Contains_nil f none) ]
  told (Ok log) (readings.Own found) is f c = subst (λ l. IsOne h g (Ok l) f) is.0 (own_told found is.1 f c)

  -- ---- and back

  foreign_in : (log : RunLog) (reading : Reading) → IsReading h g (Ok log) reading → (SaysItIsOf h g log → ⊥) → Contains (finds g reading) (Foreign g)
  foreign_in log (readings.Unreadable fault) is other = absurd is
  foreign_in log readings.Foreign is other = Contains_here (Foreign g) []
  foreign_in log (readings.Own found) is other = absurd (other (subst (λ l. SaysItIsOf h g l) is.0 is.1.says))

  own_of : (log : RunLog) (reading : Reading) → IsReading h g (Ok log) reading → SaysItIsOf h g log → (found : FoundLog) × (reading ≡ readings.Own found) × (found.log ≡ log) × IsFound h g found
  own_of log (readings.Unreadable fault) is says = absurd is
  own_of log readings.Foreign is says = absurd (is says)
  own_of log (readings.Own found) is says = (found, refl, is.0, is.1)

  unsealed_in : (t : Bool) → (t ≡ true → ⊥) → Contains (unless_sealed g t) (Unsealed g)
  unsealed_in true none = absurd (none refl)
  unsealed_in false none = Contains_here (Unsealed g) []

  reported : (read : Result RunLog LogFault) (reading : Reading) → IsReading h g read reading → (f : Finding) → IsOne h g read f → Contains (finds g reading) f
  reported read reading is (Unreadable k fault) one =
      let e : reading ≡ readings.Unreadable fault = subst (λ r. IsReading h g r reading) one.1 is in
      subst (λ x. Contains (finds g reading) (Unreadable x fault)) (sym one.0) (subst (λ r. Contains (finds g r) (Unreadable g fault)) (sym e) (Contains_here (Unreadable g fault) []))
  reported read reading is (Foreign k) one =
      subst (λ x. Contains (finds g reading) (Foreign x)) (sym one.0) (foreign_in one.1.0 reading (subst (λ r. IsReading h g r reading) one.1.1 is) one.1.2)
  reported read reading is (Unsigned k p) one =
      let own = own_of one.1.0 reading (subst (λ r. IsReading h g r reading) one.1.1 is) one.1.2 in
      let fails = subst (λ (l : RunLog). FailsAt h l.entries p) (sym own.2) one.1.3 in
      let at : own.0.unsigned ≡ Some p = own.3.unsigned ∙ fails_unsigned h own.0.log.entries p own.3.fits_run.entries fails in
      let here : Contains (unsigned_at g own.0.unsigned) (Unsigned g p) = subst (λ o. Contains (unsigned_at g o) (Unsigned g p)) (sym at) (Contains_here (Unsigned g p) []) in
      let all = Contains-append_left (unsigned_at g own.0.unsigned) (unless_sealed g own.0.sealed ++ departs_at g own.0.departure) (Unsigned g p) here in
      subst (λ x. Contains (finds g reading) (Unsigned x p)) (sym one.0) (subst (λ r. Contains (finds g r) (Unsigned g p)) (sym own.1) all)
  reported read reading is (Unsealed k) one =
      let own = own_of one.1.0 reading (subst (λ r. IsReading h g r reading) one.1.1 is) one.1.2 in
      let here : Contains (unless_sealed g own.0.sealed) (Unsealed g) = unsealed_in own.0.sealed (λ t. one.1.3 (subst (λ (l : RunLog). HeadVerifies h g l) own.2 (under_has _ _ _ _ _ (sym own.3.sealed ∙ t)))) in
      let more = Contains-append_left (unless_sealed g own.0.sealed) (departs_at g own.0.departure) (Unsealed g) here in
      let all = Contains-append_right (unsigned_at g own.0.unsigned) (unless_sealed g own.0.sealed ++ departs_at g own.0.departure) (Unsealed g) more in
      subst (λ x. Contains (finds g reading) (Unsealed x)) (sym one.0) (subst (λ r. Contains (finds g r) (Unsealed g)) (sym own.1) all)
  reported read reading is (Departs k p) one =
      let own = own_of one.1.0 reading (subst (λ r. IsReading h g r reading) one.1.1 is) one.1.2 in
      let departs = subst (λ (l : RunLog). DepartsAt h.network g (erased l.entries) p) (sym own.2) one.1.3 in
      let at : own.0.departure ≡ Some p = (own.3.departs p).1 departs in
      let here : Contains (departs_at g own.0.departure) (Departs g p) = subst (λ o. Contains (departs_at g o) (Departs g p)) (sym at) (Contains_here (Departs g p) []) in
      let more = Contains-append_right (unless_sealed g own.0.sealed) (departs_at g own.0.departure) (Departs g p) here in
      let all = Contains-append_right (unsigned_at g own.0.unsigned) (unless_sealed g own.0.sealed ++ departs_at g own.0.departure) (Departs g p) more in
      subst (λ x. Contains (finds g reading) (Departs x p)) (sym one.0) (subst (λ r. Contains (finds g r) (Departs g p)) (sym own.1) all)
  reported read reading is (Missing k) one = absurd one
  reported read reading is (Several k) one = absurd one
  reported read reading is (Unmatched a c l v) one = absurd one
  reported read reading is (Underivable a c l v) one = absurd one
  reported read reading is (Unjoined a c) one = absurd one
  reported read reading is Nobody one = absurd one

-- ---- the bundle

module _ (b : Bundle) where
  -- it is found of an exhibit of one of the rest
  abbrev IsOfExhibit : Finding → Type 0
  IsOfExhibit f = (g : ℕ) × IsOfRest b g × ((x : LogBytes) × Contains (exhibits_of b.exhibits g) x × IsOne b.header g (log_of b.header x.bytes) f)

  of_exhibit : (f : Finding) → IsLocal f → IsFinding b f → IsOfExhibit f
  of_exhibit (Unreadable g fault) l f = (g, f.0, (f.1.0, f.1.1, (refl, f.1.2)))
  of_exhibit (Foreign g) l f = (g, f.1.of_rest, (f.1.exhibit, f.1.his, (refl, (f.0, f.1.reads, f.2))))
  of_exhibit (Unsigned g p) l f = (g, f.1.shows.of_rest, (f.1.shows.exhibit, f.1.shows.his, (refl, (f.0, f.1.shows.reads, f.1.says, f.2))))
  of_exhibit (Unsealed g) l f = (g, f.1.shows.of_rest, (f.1.shows.exhibit, f.1.shows.his, (refl, (f.0, f.1.shows.reads, f.1.says, f.2))))
  of_exhibit (Departs g p) l f = (g, f.1.shows.of_rest, (f.1.shows.exhibit, f.1.shows.his, (refl, (f.0, f.1.shows.reads, f.1.says, f.2))))
  of_exhibit (Missing g) l f = absurd l
  of_exhibit (Several g) l f = absurd l
  of_exhibit (Unmatched a c k v) l f = absurd l
  of_exhibit (Underivable a c k v) l f = absurd l
  of_exhibit (Unjoined a c) l f = absurd l
  of_exhibit Nobody l f = absurd l

  from_exhibit : (f : Finding) (g : ℕ) → IsOfRest b g → (x : LogBytes) → Contains (exhibits_of b.exhibits g) x → IsOne b.header g (log_of b.header x.bytes) f → IsFinding b f
  from_exhibit (Unreadable k fault) g of_rest x his one = subst (λ n. IsFinding b (Unreadable n fault)) (sym one.0) (of_rest, (x, his, one.1))
  from_exhibit (Foreign k) g of_rest x his one = subst (λ n. IsFinding b (Foreign n)) (sym one.0) (one.1.0, record { of_rest = of_rest; exhibit = x; his = his; reads = one.1.1 }, one.1.2)
  from_exhibit (Unsigned k p) g of_rest x his one = subst (λ n. IsFinding b (Unsigned n p)) (sym one.0) (one.1.0, record { shows = record { of_rest = of_rest; exhibit = x; his = his; reads = one.1.1 }; says = one.1.2 }, one.1.3)
  from_exhibit (Unsealed k) g of_rest x his one = subst (λ n. IsFinding b (Unsealed n)) (sym one.0) (one.1.0, record { shows = record { of_rest = of_rest; exhibit = x; his = his; reads = one.1.1 }; says = one.1.2 }, one.1.3)
  from_exhibit (Departs k p) g of_rest x his one = subst (λ n. IsFinding b (Departs n p)) (sym one.0) (one.1.0, record { shows = record { of_rest = of_rest; exhibit = x; his = his; reads = one.1.1 }; says = one.1.2 }, one.1.3)
  from_exhibit (Missing k) g of_rest x his one = absurd one
  from_exhibit (Several k) g of_rest x his one = absurd one
  from_exhibit (Unmatched a c l v) g of_rest x his one = absurd one
  from_exhibit (Underivable a c l v) g of_rest x his one = absurd one
  from_exhibit (Unjoined a c) g of_rest x his one = absurd one
  from_exhibit Nobody g of_rest x his one = absurd one

  module _ (reports : List LocalReport) (are : AreReports b reports) where
    -- what a report of the bundle reads, under the bundle's header
    reads : (r : LocalReport) → Contains reports r → IsReading b.header r.exhibit.general (log_of b.header r.exhibit.bytes) r.reading
    reads r h =
        let is : IsReading r.header r.exhibit.general (log_of r.header r.exhibit.bytes) r.reading = are.each r h in
        subst (λ x. IsReading x r.exhibit.general (log_of x r.exhibit.bytes) r.reading) (are.header r h) is

    forth : (f : Finding) → IsOfExhibit f → IsReported b reports f
    forth f (g, of_rest, (x, his, one)) =
        let k = Contains_filtered (λ (y : LogBytes). nat_eq y.general g) b.exhibits x his in
        let general : x.general ≡ g = eqb-true x.general g k.1 in
        let m = Contains_mapped (λ (r : LocalReport). r.exhibit) reports x (subst (λ xs. Contains xs x) (sym are.exhibits) k.0) in
        let whose : g ≡ m.0.exhibit.general = sym general ∙ ap (λ (y : LogBytes). y.general) (sym m.2) in
        let mine : IsOne b.header m.0.exhibit.general (log_of b.header m.0.exhibit.bytes) f = subst (λ n. IsOne b.header n (log_of b.header m.0.exhibit.bytes) f) whose (subst (λ (y : LogBytes). IsOne b.header g (log_of b.header y.bytes) f) (sym m.2) one) in
        (m.0, m.1, subst (IsOfRest b) whose of_rest, reported b.header m.0.exhibit.general (log_of b.header m.0.exhibit.bytes) m.0.reading (reads m.0 m.1) f mine)

    pub back : (f : Finding) → IsReported b reports f → IsFinding b f
    back f (r, h, of_rest, c) =
        let inside : Contains b.exhibits r.exhibit = subst (λ xs. Contains xs r.exhibit) are.exhibits (in_mapped (λ (s : LocalReport). s.exhibit) reports r h) in
        let his = in_filtered (λ (y : LogBytes). nat_eq y.general r.exhibit.general) b.exhibits r.exhibit inside (eq-eqb r.exhibit.general r.exhibit.general refl) in
        from_exhibit f r.exhibit.general of_rest r.exhibit his (told b.header r.exhibit.general (log_of b.header r.exhibit.bytes) r.reading (reads r h) f c)

pub reports_find_local : ReportsFindLocal
reports_find_local b reports are f l = ((λ k. forth b reports are f (of_exhibit b f l k)), (λ r. back b reports are f r))
