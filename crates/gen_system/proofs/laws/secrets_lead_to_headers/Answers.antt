use Rattle.gen_system.proofs.FromSecrets.{secrets_lead}
use Rattle.gen_system.proofs.laws.secrets_lead_to_headers.Goals as goal

pub returns : goal.returns
returns c = secrets_lead
