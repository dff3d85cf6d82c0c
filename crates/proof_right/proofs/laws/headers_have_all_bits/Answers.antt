use Rattle.proof_right.proofs.HeaderBits.{same_bits}
use Rattle.proof_right.proofs.laws.headers_have_all_bits.Goals as goal

pub returns : goal.returns
returns c = same_bits
