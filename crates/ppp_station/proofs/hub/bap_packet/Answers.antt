use Rattle.std.proofs.Common.{◌∙◌, add-one, ap, sym}
use Rattle.std.specs.Option.{option_map}
use Rattle.ppp_station.proofs.PassLemmas.{packet-here, packet-next}
use Rattle.ppp_station.proofs.hub.bap_packet.Goals as goal

pub returns-in-Some : goal.returns-in-Some
returns-in-Some c =
    sym (packet-here c.args.told.now.entries c.loop-i.i _ c.in-Some.octets.now c.at.ensures (sym c.bap_octets.ensures ∙ ap (option_map (λ octets. octets.now)) c.in-Some.is))
    ∙ c.loop-i.invariant

pub loop-i-preserved : goal.loop-i-preserved
loop-i-preserved c =
    rw add-one (packet-next c.args.told.now.entries c.loop-i.i _ c.at.ensures (sym c.bap_octets.ensures ∙ ap (option_map (λ octets. octets.now)) c.in_default.is) ∙ c.loop-i.invariant)
