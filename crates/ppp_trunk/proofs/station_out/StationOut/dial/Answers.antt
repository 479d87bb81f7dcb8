use Rattle.std.proofs.Common.{ap, arith, refl}
use Rattle.ppp_trunk.specs.StationOut.{Dial, Out, all_octets}
use Rattle.ppp_trunk.specs.declared.station_out.Slot.TheVariants as kept
use Rattle.ppp_trunk.proofs.StationOutLemmas.{put-plain, short-snoc, Put}
use Rattle.ppp_trunk.proofs.station_out.StationOut.dial.Goals as goal

told : (c : goal.After-put_slot) → Put c.self.inside.octets.items c.self.inside.octets.items c.self.inside.slots.items c.put_slot.new.slots.items (Dial c.args.link)
told c = put-plain _ _ _ (kept.Dial c.args.link) _ c.put_slot.ensures.items (λ more. refl) (λ more. tt) refl c.self.invariant.within

pub invariant_of-self : goal.invariant_of-self
invariant_of-self c = record {
  within = (told c).within;
  sizes = omega (arith, (told c).sizes, c.self.invariant.sizes);
  short = rw (told c).shown (short-snoc _ _ c.self.invariant.short tt);
  room = c.self.invariant.room;
  slots = omega (arith, c.put_slot.ensures.capacity, c.self.invariant.slots);
}

pub returns-clause-octets : goal.returns-clause-octets
returns-clause-octets c =
    let same = ap (λ (o : Out). all_octets o.entries) c.self.view_is in
    omega (arith, (told c).sizes, same)
