-- What a scenario text says of the network and the commander's order.
use Rattle.std.specs.Prelude.{ℕ}
use Rattle.gen_net.specs.Network.{Network}
use Rattle.gen_text.specs.declared.scenario_text.ScenarioText.{ScenarioText}
use Rattle.gen_text.specs.declared.scenario_text.ScenarioText.TheVariants as texts

-- the network, with a seed or without one
abbrev pub net_of : ScenarioText → Network
net_of (texts.Plain plain) = plain.net
net_of (texts.Signed signed) = signed.net

-- the commander's order
abbrev pub order_of : ScenarioText → ℕ
order_of (texts.Plain plain) = plain.order
order_of (texts.Signed signed) = signed.order
