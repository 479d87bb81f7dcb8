use Rattle.std.proofs.Common.{ap, ◌∙◌, ◌-◌, drop, sym, Some, arith}
use Rattle.std.proofs.lemmas.List.{length-take}
use Rattle.ppp_auto.specs.Outbox.{Send}
use Rattle.ppp_auto.proofs.OutboxLemmas.{within-at, view-at}
use Rattle.ppp_auto.proofs.outbox.lend.Goals as goal

pub part-requires : goal.part-requires
part-requires c =
    let h = within-at c.args.octets.now c.args.slots.now c.args.i _ _ _ c.requires.within c.requires.place c.in-Packet.is in
    record { order = h.0; within = h.1 }

pub returns-in-Packet-clause-entry : goal.returns-in-Packet-clause-entry
returns-in-Packet-clause-entry c = view-at c.args.octets.now c.args.slots.now c.args.i _ _ c.requires.place c.in-Packet.is ∙ ap (λ xs. Some (Send xs)) (sym c.part.ensures)

pub returns-in-Packet-clause-short : goal.returns-in-Packet-clause-short
returns-in-Packet-clause-short c =
    let h = within-at c.args.octets.now c.args.slots.now c.args.i _ _ _ c.requires.within c.requires.place c.in-Packet.is in
    let l = length-take (c.in-Packet.end - c.in-Packet.start) (drop c.in-Packet.start c.args.octets.now) in
    rw c.part.ensures (omega (arith, l, h.2))

pub returns-in-Told-clause-entry : goal.returns-in-Told-clause-entry
returns-in-Told-clause-entry c = view-at c.args.octets.now c.args.slots.now c.args.i _ _ c.requires.place c.in-Told.is
