-- An option that a reader lends.
use Rattle.ppp_packet.specs.ConfigOption.{ConfigOption}
use Rattle.ppp_packet.specs.declared.opt_ref.OptRef.{OptRef}

abbrev pub option_seen : OptRef → ConfigOption
option_seen o = record { kind = o.kind; body = o.body.now }
