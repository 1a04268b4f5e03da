use Rattle.std.proofs.Common.{take}
use Rattle.std.specs.List.{flat_map}
use Rattle.std.specs.Io.KnownBytes.{Appends}
use Rattle.gen_making.proofs.campaign_text.CampaignText.write_to.Given as goal

abbrev pub invariant-texts : goal.invariant-texts
invariant-texts g l = Appends (g.W.Write.contents l.initial.writer) (g.W.Write.contents l.writer) (flat_map (λ text. text) (take l.text-index l.texts))
