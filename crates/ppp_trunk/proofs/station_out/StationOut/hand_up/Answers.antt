use Rattle.std.specs.Prelude.{None}
use Rattle.std.proofs.Common.{◌∙◌, ◌+◌, ◌++◌, ◌∷◌, [], length, ap, arith}
use Rattle.ppp_trunk.specs.StationOut.{Out, Got, all_octets}
use Rattle.ppp_trunk.proofs.StationOutLemmas.{put-got, short-snoc, Put}
use Rattle.ppp_trunk.proofs.station_out.StationOut.hand_up.Goals as goal

told : (c : goal.After-put_slot) → Put c.self.inside.octets.items c.put_octets.new.octets.items c.self.inside.slots.items c.put_slot.new.slots.items (Got None c.args.protocol c.args.octets.now)
told c =
    put-got _ _ _ _ _ _ _ _ c.put_octets.ensures.items c.put_slot.ensures.items c.self.invariant.within
    (c.len-start.ensures ∙ c.self.inside.octets.ok.0) (c.len.ensures ∙ c.put_octets.new.octets.ok.0)

pub invariant_of-self : goal.invariant_of-self
invariant_of-self c = record {
  within = (told c).within;
  sizes = omega (arith, c.put_octets.ensures.size, (told c).sizes, c.self.invariant.sizes);
  short = rw (told c).shown (short-snoc _ _ c.self.invariant.short tt);
  room = omega (arith, c.put_octets.ensures.capacity, c.self.invariant.room);
  slots = omega (arith, c.put_slot.ensures.capacity, c.self.invariant.slots);
}

pub returns-clause-out : goal.returns-clause-out
returns-clause-out c =
    ap (λ es. record { entries = es; used = c.self.inside.used }) (told c).shown
    ∙ ap (λ (o : Out). record { entries = o.entries ++ Got None c.args.protocol c.args.octets.now ∷ []; used = o.used }) c.self.view_is

pub returns-clause-octets : goal.returns-clause-octets
returns-clause-octets c = (told c).sizes ∙ ap (λ (o : Out). all_octets o.entries + length c.args.octets.now) c.self.view_is
