use Rattle.std.proofs.Common.{◌∙◌, ◌++◌, ◌∷◌, [], List, ap, arith}
use Rattle.ppp_link.specs.LinkOut.{Entry, Payload}
use Rattle.ppp_link.proofs.LinkOutLemmas.{put-payload, Put}
use Rattle.ppp_link.proofs.link_out.LinkOut.hand_up.Goals as goal

told : (c : goal.After-push) → Put c.self.inside.octets.items c.put_octets.new.octets.items c.self.inside.slots.items c.push.new.self.items (Payload c.args.protocol c.args.octets.now)
told c =
    put-payload _ _ _ _ _ _ _ _ c.put_octets.ensures.items c.push.ensures.items c.self.invariant.within
    (c.len-start.ensures ∙ c.self.inside.octets.ok.0) (c.len.ensures ∙ c.put_octets.new.octets.ok.0) c.requires.size

pub invariant_of-self : goal.invariant_of-self
invariant_of-self c = record {
  within = (told c).within;
  sizes = omega (arith, c.put_octets.ensures.size, c.push.ensures.len, c.requires.size, c.self.invariant.sizes);
  room = omega (arith, c.put_octets.ensures.capacity, c.self.invariant.room);
}

pub returns : goal.returns
returns c = (told c).shown ∙ ap (λ (es : List Entry). es ++ Payload c.args.protocol c.args.octets.now ∷ []) c.self.view_is
