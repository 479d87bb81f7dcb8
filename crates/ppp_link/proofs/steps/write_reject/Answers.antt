use Rattle.std.proofs.Common.{ap, ◌∙◌}
use Rattle.ppp_packet.specs.Packet.{packet_octets}
use Rattle.ppp_link.proofs.StepsLemmas.{front-packet}
use Rattle.ppp_link.proofs.steps.write_reject.Goals as goal

pub returns-clause-octets : goal.returns-clause-octets
returns-clause-octets c =
    let written = front-packet _ _ _ _ _ _ c.write_packet.ensures.octets c.write_packet.ensures.size ∙ ap (packet_octets c.number.result c.args.id) (c.as_slice.ensures.value ∙ c.reject_data-data.ensures.octets) in
    rw c.number.ensures at written
