use Rattle.std.proofs.Common.{◌≡◌, ◌<◌, ℕ, length, take}
use Rattle.gen_log.specs.Links.{link_behind}
use Rattle.gen_convict.specs.LinkTexts.{AreApartAt}
use Rattle.gen_convict.proofs.colliding.collide.Given as goal

abbrev pub invariant-entries : goal.invariant-entries
invariant-entries l = record {
  left : l.left.link ≡ link_behind l.first (take l.i l.own);
  right : l.right.link ≡ link_behind l.first (take l.i l.other);
  tells : l.left.link ≡ l.right.link → take l.i l.own ≡ take l.i l.other;
  apart : (before : ℕ) → before < l.i → AreApartAt l.first l.own l.other before;
  wide_left : length l.left.link ≡ 32;
  wide_right : length l.right.link ≡ 32;
}
