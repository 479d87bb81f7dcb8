-- What a case wants an outbox to hold, as the outbox has it.
use Rattle.ppp_auto.specs.Outbox as outbox
use Rattle.ppp_auto.specs.Outbox.{Send, Signal}
use Rattle.ppp_cases.specs.declared.entries.Entry.{Entry}
use Rattle.ppp_cases.specs.declared.entries.Entry.TheVariants as wanted

abbrev pub wanted_seen : Entry → outbox.Entry
wanted_seen (wanted.Packet packet) = Send packet.now
wanted_seen (wanted.Signal signal) = Signal signal
