use Rattle.std.proofs.Common.{ap, ◌∙◌, sym, Some, refl}
use Rattle.ppp_trunk.proofs.StationOutLemmas.{within-at, seen-at}
use Rattle.ppp_trunk.proofs.station_out.lend.Goals as goal

pub lend_slot-requires : goal.lend_slot-requires
lend_slot-requires c = within-at c.args.octets.now c.args.slots.now c.args.i _ _ c.requires.within c.requires.place refl

pub returns : goal.returns
returns c = seen-at c.args.octets.now c.args.slots.now c.args.i _ _ c.requires.place refl ∙ ap (λ e. Some e) (sym c.lend_slot.ensures)
