-- The logs that a history files at a place.
use Rattle.std.specs.Prelude.{ℕ, ◌≡◌, ◌<◌, ◌==◌, if◌then◌else◌, List, [], ◌∷◌, length, All, Contains, Some, IfSome, slice_index_or}
use Rattle.gen_log.specs.Writing.{LogBytes}
use Rattle.gen_local.specs.Report.{IsReport}
use Rattle.gen_desk.specs.declared.rows.Row.{Row}
use Rattle.gen_desk.specs.History.{Event, Filing, row_at}
use Rattle.gen_desk.specs.Histories.{History}
use Rattle.gen_desk.specs.Tokens.{Placed}

-- the logs that a list of events files at a place, in their order
abbrev pub filings : ℕ → List Event → List LogBytes
filings p [] = []
filings p (Filing q shown ∷ es) = if q == p then shown ∷ filings p es else filings p es
filings p (e ∷ es) = filings p es

-- the history has the receipt's filing, once, and no other at its place
abbrev pub HasOnce : History → Placed → Type 0
HasOnce h receipt = filings receipt.place h.events ≡ receipt.shown ∷ []

-- the history lacks the receipt's filing
abbrev pub Lacks : History → Placed → Type 0
Lacks h receipt = Contains (filings receipt.place h.events) receipt.shown → ⊥

-- i is the index of the first receipt whose filing the history lacks
pub record IsFirstStrange (h : History) (receipts : List Placed) (i : ℕ) : Type 0 where
  pub within : i < length receipts
  pub strange : (d : Placed) → Lacks h (slice_index_or receipts i d)
  pub before : (k : ℕ) (d : Placed) → k < i → HasOnce h (slice_index_or receipts k d)

-- the report at a place, if there is one, is of what is filed there, and is the definition's
abbrev pub IsReportedAt : Row → Type 0
IsReportedAt row = IfSome row.report (λ report. (row.filed ≡ Some report.exhibit) × IsReport report)

-- in the rows, the receipt's log is filed at its place
abbrev pub IsOfRows : List Row → Placed → Type 0
IsOfRows rows receipt = (row_at rows receipt.place).filed ≡ Some receipt.shown

-- in the rows, each receipt's log is filed at its place
abbrev pub AreFiledAt : List Row → List Placed → Type 0
AreFiledAt rows receipts = All (IsOfRows rows) receipts

-- i is the index of the first receipt whose log is not filed at its place
pub record IsFirstUnfiled (rows : List Row) (receipts : List Placed) (i : ℕ) : Type 0 where
  pub within : i < length receipts
  pub unfiled : (d : Placed) → IsOfRows rows (slice_index_or receipts i d) → ⊥
  pub before : (k : ℕ) (d : Placed) → k < i → IsOfRows rows (slice_index_or receipts k d)
