use Rattle.std.proofs.Common.{◌∙◌, ◌++◌, ◌∷◌, [], List, ap, arith, length, map}
use Rattle.ppp_frame.specs.Frame.{enc}
use Rattle.ppp_link.specs.LinkOut.{Entry, Push, slot_seen}
use Rattle.ppp_link.proofs.LinkOutLemmas.{put-push, Put}
use Rattle.ppp_link.proofs.link_out.LinkOut.push_frame.Goals as goal

told : (c : goal.After-push) → Put c.self.inside.octets.items c.put_octets.new.octets.items c.self.inside.slots.items c.push.new.self.items (Push c.octets.result.now)
told c =
    put-push _ _ _ _ _ _ _ c.put_octets.ensures.items c.push.ensures.items c.self.invariant.within
    (c.len-start.ensures ∙ c.self.inside.octets.ok.0) (c.len.ensures ∙ c.put_octets.new.octets.ok.0)
    (omega (arith, ap length c.octets.ensures, c.write_frame.ensures.size))

pub invariant_of-self : goal.invariant_of-self
invariant_of-self c = record {
  within = (told c).within;
  sizes = omega (arith, c.put_octets.ensures.size, c.push.ensures.len, ap length c.octets.ensures, c.write_frame.ensures.size, c.self.invariant.sizes);
  room = omega (arith, c.put_octets.ensures.capacity, c.self.invariant.room);
}

pub returns : goal.returns
returns c =
    let whole = c.octets.ensures ∙ c.write_frame.ensures.frame in
    (told c).shown ∙ (ap (λ xs. map (slot_seen c.self.inside.octets.items) c.self.inside.slots.items ++ Push xs ∷ []) whole
    ∙ ap (λ (es : List Entry). es ++ Push (enc c.args.form c.args.protocol c.args.packet.now) ∷ []) c.self.view_is)
