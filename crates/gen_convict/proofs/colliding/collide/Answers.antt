use Rattle.std.proofs.Common.{◌≡◌, ◌<◌, ◌∙◌, ℕ, Bool, true, false, not, List, inl, inr, length, refl, sym, ap, arith}
use Rattle.std.specs.Bool.{nat_eq}
use Rattle.std.specs.Cmp.Lexicographic.{pointwise, same_text, other_text}
use Rattle.gen_types.proofs.Lists.{bool_cases}
use Rattle.sha2.specs.Sha256.{sha256}
use Rattle.gen_ots.specs.Colliding.{AreColliding}
use Rattle.gen_log.specs.Entry.{IsEntryOf}
use Rattle.gen_convict.proofs.Linked.{same_or_not}
use Rattle.gen_convict.proofs.Meeting.{no_links, link_on, tells_on, text_at, apart_more, is_at, wide}
use Rattle.gen_convict.proofs.colliding.collide.Goals as goal
use Rattle.gen_convict.proofs.colliding.collide.Goals.{else-eq-via-else-eq, else-eq-via-then-eq+else-ne}

same_pairs : (xs ys : List ℕ) → xs ≡ ys → pointwise nat_eq xs ys ≡ true
same_pairs xs ys e = elim (bool_cases (pointwise nat_eq xs ys)) [
  | inl t ↦ t
  | inr f ↦ absurd (other_text xs ys (sym f) e)
]

opposite : {b : Bool} → b ≡ true → b ≡ false → ⊥
opposite t f = let no : true ≡ false = sym t ∙ f in cc

alike : (xs ys : List ℕ) → not (pointwise nat_eq xs ys) ≡ false → xs ≡ ys
alike xs ys e = elim (bool_cases (pointwise nat_eq xs ys)) [
  | inl t ↦ same_text xs ys (sym t)
  | inr f ↦ absurd (opposite (ap not f) e)
]

pub entries-init : goal.entries-init
entries-init c = record {
  left = no_links c.args.first.now;
  right = no_links c.args.first.now;
  tells = λ same. refl;
  apart = λ before below. absurd (omega (arith, below));
  wide_left = c.told-first;
  wide_right = c.told-first;
}

pub entries-preserved : goal.entries-preserved
entries-preserved c =
    let h = c.args.header.now in
    let own = c.args.own.now in
    let other = c.args.other.now in
    let i = c.entries.i in
    let e = c.index-own-i.result in
    let f = c.index-other-i.result in
    let before = c.entries.invariant in
    let left = c.walk_on.new.side in
    let right = c.walk_on-in-entries.new.side in
    let hashed_left = c.in_ok-walk_on.ensures in
    let hashed_right = c.in_ok-walk_on-2.ensures in
    let below : i < length other = omega (arith, c.requires.length, c.entries-test.true) in
    let at_left = text_at c.args.first.now c.entries.left.link left.text.items own i e c.entries-test.true c.index-own-i.is before.left hashed_left.text in
    let at_right = text_at c.args.first.now c.entries.right.link right.text.items other i f below c.index-other-i.is before.right hashed_right.text in
    let links : sha256 left.text.items ≡ sha256 right.text.items → left.link ≡ right.link = λ hash. hashed_left.link ∙ hash ∙ sym hashed_right.link in
    let apart : AreColliding left.text.items right.text.items → ⊥ = λ k. elim c.else-eq.branch [
      | else-eq-via-else-eq w ↦ opposite (same_pairs left.link right.link (links k.1)) (sym c.eq.ensures ∙ w.if-eq.false)
      | else-eq-via-then-eq+else-ne w ↦ k.0 (alike left.text.items right.text.items (sym w.ne.ensures ∙ w.if-ne.false))
    ] in
    record {
      apart = apart_more c.args.first.now own other i left.text.items right.text.items at_left at_right apart before.apart;
      left = link_on c.args.first.now c.entries.left.link left.link left.text.items own i e c.entries-test.true c.index-own-i.is before.left hashed_left.text hashed_left.link;
      right = link_on c.args.first.now c.entries.right.link right.link right.text.items other i f below c.index-other-i.is before.right hashed_right.text hashed_right.link;
      tells = λ same. elim (same_or_not left.text.items right.text.items) [
        | inl texts ↦ tells_on c.links_tell.ensures.text h c.entries.left.link c.entries.right.link left.text.items right.text.items own other i e f c.net-net.ensures.header before.wide_left before.wide_right
            (is_at (IsEntryOf h) own i e c.requires.own c.entries-test.true c.index-own-i.is)
            (is_at (IsEntryOf h) other i f c.requires.other below c.index-other-i.is)
            c.entries-test.true below c.index-own-i.is c.index-other-i.is hashed_left.text hashed_right.text before.tells texts
        | inr differ ↦ elim c.else-eq.branch [
          | else-eq-via-else-eq w ↦ absurd (opposite (same_pairs left.link right.link same) (sym c.eq.ensures ∙ w.if-eq.false))
          | else-eq-via-then-eq+else-ne w ↦ absurd (differ (alike left.text.items right.text.items (sym w.ne.ensures ∙ w.if-ne.false)))
        ]
      ];
      wide_left = wide left.link left.text.items hashed_left.link;
      wide_right = wide right.link right.text.items hashed_right.link;
    }

pub returns-then-ne : goal.returns-then-ne
returns-then-ne c =
    let i = c.entries.i in
    let before = c.entries.invariant in
    let left = c.walk_on.new.side in
    let right = c.walk_on-in-entries.new.side in
    let hashed_left = c.in_ok-walk_on.ensures in
    let hashed_right = c.in_ok-walk_on-2.ensures in
    let below : i < length c.args.other.now = omega (arith, c.requires.length, c.entries-test.true) in
    let links = same_text left.link right.link (sym (sym c.eq.ensures ∙ c.if-eq.true)) in
    record {
      place = i;
      first = text_at c.args.first.now c.entries.left.link left.text.items c.args.own.now i c.index-own-i.result c.entries-test.true c.index-own-i.is before.left hashed_left.text;
      second = text_at c.args.first.now c.entries.right.link right.text.items c.args.other.now i c.index-other-i.result below c.index-other-i.is before.right hashed_right.text;
      collide = (
        λ same. opposite (sym c.ne.ensures ∙ c.if-ne.true) (ap not (same_pairs left.text.items right.text.items same)),
        sym hashed_left.link ∙ links ∙ hashed_right.link,
      );
      earlier = before.apart;
    }
