-- What is hashed for links and run ids is bytes where what it is made of is.
use Rattle.std.proofs.Common.{◌≡◌, ◌<◌, ◌^◌, ◌/◌, ℕ, zero, suc, List, [], ◌∷◌, ◌++◌, length, sym, subst, arith}
use Rattle.std.specs.Int.{byte_at, bytes_high_first, to_be_bytes, w32, w64}
use Rattle.std.specs.List.{flat_map}
use Rattle.std.specs.Prelude.{slice_index}
use Rattle.std.proofs.lemmas.List.Concat.{flat_map-append}
use Rattle.std.proofs.lemmas.List.Elements.{All-append, All-nil}
use Rattle.std.proofs.lemmas.Nat.{mod_below}
use Rattle.sha2.specs.Sha256.{sha256, digest_bytes}
use Rattle.gen_net.specs.Header.{RunHeader, header_spelling}
use Rattle.gen_log.specs.declared.entries.Entry.{Entry}
use Rattle.gen_log.specs.Entry.{entry_spelling}
use Rattle.gen_log.specs.Fields.{AreBelow}
use Rattle.gen_log.specs.Links.{first_link, link_behind, next_link}
use Rattle.gen_log.specs.Log.{RunLog, log_spelling}
use Rattle.gen_convict.specs.Contradictions.{TwoTexts, TwoOrders, MissingFromLog, DepartingLog, AcrossRuns}
use Rattle.gen_convict.specs.LinkTexts.{LogsCollide}
use Rattle.gen_convict.specs.Refuting.{RunIdsCollide}
use Rattle.gen_convict.specs.Laws.{LinkTextsAreBytes, AnswersAreBytes}

-- ---- lists of bytes

abbrev Bytes : List ℕ → Type 0
Bytes bytes = AreBelow 256 bytes

pub more : (b : ℕ) (bytes : List ℕ) → b < 256 → Bytes bytes → Bytes (b ∷ bytes)
more b bytes below are zero d in_range = below
more b bytes below are (suc i) d in_range = are i d (omega (arith, in_range))

pub both : (xs ys : List ℕ) → Bytes xs → Bytes ys → Bytes (xs ++ ys)
both xs ys = All-append (λ v. v < 256) xs ys

tail : (b : ℕ) (bytes : List ℕ) → Bytes (b ∷ bytes) → Bytes bytes
tail b bytes are i d in_range = are (suc i) d (omega (arith, in_range))

pub front : (xs ys : List ℕ) → Bytes (xs ++ ys) → Bytes xs
front [] ys are = All-nil (λ v. v < 256)
front (x ∷ xs) ys are = more x xs (are 0 0 (omega arith)) (front xs ys (tail x (xs ++ ys) are))

pub back : (xs ys : List ℕ) → Bytes (xs ++ ys) → Bytes ys
back [] ys are = are
back (x ∷ xs) ys are = back xs ys (tail x (xs ++ ys) are)

-- ---- hashes

one_byte : (k n : ℕ) → byte_at k n < 256
one_byte zero n = mod_below n 256 (omega arith)
one_byte (suc k) n = mod_below (n / 256 ^ suc k) 256 (omega arith)

pub number_bytes : (k n : ℕ) → Bytes (bytes_high_first k n)
number_bytes zero n = All-nil (λ v. v < 256)
number_bytes (suc k) n = more (byte_at k n) (bytes_high_first k n) (one_byte k n) (number_bytes k n)

words_bytes : (h : List ℕ) (n : ℕ) → Bytes (digest_bytes h n)
unfolding digest_bytes
words_bytes h zero = All-nil (λ v. v < 256)
words_bytes h (suc n) = both (digest_bytes h n) (to_be_bytes w32 (slice_index h n)) (words_bytes h n) (number_bytes 4 (slice_index h n))

pub hash_bytes : (text : List ℕ) → Bytes (sha256 text)
unfolding sha256
hash_bytes text = words_bytes _ 8

-- ---- links

pub behind_bytes : (link : List ℕ) (es : List Entry) → Bytes link → Bytes (link_behind link es)
unfolding link_behind
behind_bytes link [] are = are
behind_bytes link (e ∷ es) are = behind_bytes (next_link link e) es (hash_bytes _)

pub first_bytes : (h : RunHeader) (g : ℕ) → Bytes (first_link h g)
unfolding first_link
first_bytes h g = hash_bytes _

entry_in : (before behind : List Entry) (e : Entry) → Bytes (flat_map entry_spelling (before ++ e ∷ behind)) → Bytes (entry_spelling e)
entry_in before behind e are =
    let parts : flat_map entry_spelling (before ++ e ∷ behind) ≡ flat_map entry_spelling before ++ (entry_spelling e ++ flat_map entry_spelling behind) = flat_map-append entry_spelling before (e ∷ behind) in
    front (entry_spelling e) (flat_map entry_spelling behind) (back (flat_map entry_spelling before) (entry_spelling e ++ flat_map entry_spelling behind) (subst Bytes parts are))

pub link_texts : LinkTextsAreBytes
link_texts link entries place text is_link are at =
    let spelled : Bytes (entry_spelling at.entry) = entry_in at.before at.behind at.entry (subst (λ (es : List Entry). Bytes (flat_map entry_spelling es)) at.parts are) in
    let behind = behind_bytes link at.before is_link in
    subst Bytes (sym at.hashed) (more 33 _ (omega arith) (both (link_behind link at.before) (entry_spelling at.entry) behind spelled))

-- ---- answers

entries_in : (log : RunLog) → Bytes (log_spelling log) → Bytes (flat_map entry_spelling log.entries)
entries_in log are =
    let counted = back log.run_id (to_be_bytes w64 (length log.entries) ++ (flat_map entry_spelling log.entries ++ log.head)) are in
    front (flat_map entry_spelling log.entries) log.head (back (to_be_bytes w64 (length log.entries)) (flat_map entry_spelling log.entries ++ log.head) counted)

by_logs : (h : RunHeader) (g : ℕ) (own : RunLog) (bytes a b : List ℕ) → Bytes bytes → Bytes (log_spelling own) → LogsCollide h g own bytes a b → Bytes a × Bytes b
by_logs h g own bytes a b are own_are c =
    let read = entries_in c.log (subst Bytes c.sealed.reads.spelled are) in
    let first = first_bytes h g in (
      link_texts (first_link h g) c.log.entries c.texts.place a first read c.texts.first,
      link_texts (first_link h g) own.entries c.texts.place b first (entries_in own own_are) c.texts.second,
    )

by_headers : (h k : RunHeader) (a b : List ℕ) → Bytes (header_spelling h) → Bytes (header_spelling k) → RunIdsCollide h k a b → Bytes a × Bytes b
by_headers h k a b is_h is_k c = (
  subst Bytes (sym c.first) (more 49 (header_spelling h) (omega arith) is_h),
  subst Bytes (sym c.second) (more 49 (header_spelling k) (omega arith) is_k),
)

pub answers : AnswersAreBytes
answers h accused (TwoTexts x y) own a b are own_are is = absurd is
answers h accused (TwoOrders v c w d) own a b are own_are is = absurd is
answers h accused (MissingFromLog bytes s signature) own a b are own_are is = by_logs h accused own bytes a b are own_are is
answers h accused (DepartingLog bytes p) own a b are own_are is = by_logs h accused own bytes a b are own_are is
answers h accused (AcrossRuns x y) own a b are own_are is = by_headers x.header y.header a b are.0 are.1 is
