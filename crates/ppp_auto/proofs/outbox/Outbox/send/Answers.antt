use Rattle.std.proofs.Common.{◌∙◌, ◌++◌, ap, arith, List, [], ◌∷◌}
use Rattle.ppp_packet.specs.Code.{code_number}
use Rattle.ppp_packet.specs.Packet.{packet_octets}
use Rattle.ppp_auto.specs.Outbox.{Entry, Send}
use Rattle.ppp_auto.proofs.OutboxLemmas.{sent, Sent}
use Rattle.ppp_auto.proofs.outbox.Outbox.send.Goals as goal

told : (c : goal.After-push) → Sent c.self.inside.octets.items c.put_packet.new.octets.items c.self.inside.slots.items c.push.new.self.items (packet_octets (code_number c.args.code) c.args.id c.args.rest.now)
told c =
    sent _ _ _ _ _ _ _ c.put_packet.ensures.octets c.push.ensures.items c.self.invariant.within
    (c.len-start.ensures ∙ c.self.inside.octets.ok.0) (c.len.ensures ∙ c.put_packet.new.octets.ok.0) (omega (arith, c.requires.size))

pub invariant_of-self : goal.invariant_of-self
invariant_of-self c = record {
  within = (told c).within;
  sizes = omega (arith, c.put_packet.ensures.size, c.push.ensures.len);
  room = omega arith;
}

pub returns : goal.returns
returns c = (told c).shown ∙ ap (λ (es : List Entry). es ++ Send (packet_octets (code_number c.args.code) c.args.id c.args.rest.now) ∷ []) c.self.view_is
