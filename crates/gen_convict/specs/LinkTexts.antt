-- What is hashed for the links of a log, and where two logs have different texts with one hash.
use Rattle.std.specs.Prelude.{ℕ, ◌≡◌, ◌<◌, List, ◌∷◌, ◌++◌, length}
use Rattle.gen_ots.specs.Colliding.{AreColliding}
use Rattle.gen_net.specs.Header.{RunHeader}
use Rattle.gen_log.specs.declared.entries.Entry.{Entry}
use Rattle.gen_log.specs.Entry.{entry_spelling}
use Rattle.gen_log.specs.Links.{first_link, link_prefix, link_behind, head_over}
use Rattle.gen_log.specs.Log.{RunLog}
use Rattle.gen_convict.specs.Contradictions.{IsSealedLogOf}

-- the bytes that are hashed for the link after an entry
abbrev pub link_text : List ℕ → Entry → List ℕ
link_text link e = link_prefix ∷ (link ++ entry_spelling e)

-- the text is what is hashed for the link after one of the entries, the one at this place (from 0), where
-- `link` stands before all entries
pub record IsLinkTextAt (link : List ℕ) (entries : List Entry) (place : ℕ) (text : List ℕ) : Type 0 where
  pub before : List Entry
  pub entry : Entry
  pub behind : List Entry
  pub parts : entries ≡ before ++ entry ∷ behind
  pub count : length before ≡ place
  pub hashed : text ≡ link_text (link_behind link before) entry

-- what is hashed for the links after two entries, at this place of two lists, does not collide
abbrev pub AreApartAt : List ℕ → List Entry → List Entry → ℕ → Type 0
AreApartAt link es fs place =
    (c d : List ℕ) → IsLinkTextAt link es place c → IsLinkTextAt link fs place d → AreColliding c d → ⊥

-- The texts are what is hashed for the links after two entries, at one place of two lists, with one link
-- before both lists. The texts differ, and the links after these entries, which are their hashes, are equal.
-- It is the first such place.
pub record LinkTextsCollide (link : List ℕ) (es fs : List Entry) (a b : List ℕ) : Type 0 where
  pub place : ℕ
  pub first : IsLinkTextAt link es place a
  pub second : IsLinkTextAt link fs place b
  pub collide : AreColliding a b
  pub earlier : (before : ℕ) → before < place → AreApartAt link es fs before

-- The bytes are a log that the general sealed, whose head is that of the general's own log. The texts are
-- what is hashed for a link of this log and for one of the own log, at the first place where they collide.
pub record LogsCollide (h : RunHeader) (general : ℕ) (own : RunLog) (bytes a b : List ℕ) : Type 0 where
  pub log : RunLog
  pub sealed : IsSealedLogOf h general bytes log
  pub heads : head_over h general log.entries ≡ head_over h general own.entries
  pub texts : LinkTextsCollide (first_link h general) log.entries own.entries a b
