use Rattle.ppp_bap.proofs.BapPacketLemmas.{packet-read}
use Rattle.ppp_bap.proofs.laws.read_again.Goals as goal

pub returns : goal.returns
returns c = packet-read
