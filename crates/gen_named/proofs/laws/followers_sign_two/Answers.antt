use Rattle.gen_named.proofs.Signing.{followers_sign_two}
use Rattle.gen_named.proofs.laws.followers_sign_two.Goals as goal

pub returns : goal.returns
returns c = followers_sign_two
