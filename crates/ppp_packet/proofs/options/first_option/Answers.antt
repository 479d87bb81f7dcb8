use Rattle.ppp_packet.proofs.OptionLemmas.{options_of-part, options_of-refused}
use Rattle.ppp_packet.proofs.options.first_option.Goals as goal

pub returns-then-octets-lt-OPTION_HEADER-clause-none : goal.returns-then-octets-lt-OPTION_HEADER-clause-none
returns-then-octets-lt-OPTION_HEADER-clause-none c = options_of-part c.args.octets.now c.requires c.if-octets-lt-OPTION_HEADER.true

pub returns-then-size-lt-OPTION_HEADER-clause-none : goal.returns-then-size-lt-OPTION_HEADER-clause-none
returns-then-size-lt-OPTION_HEADER-clause-none c =
    options_of-refused c.args.octets.now c.from-size.result c.if-octets-lt-OPTION_HEADER.false c.from-size.ensures c.then-size-lt-OPTION_HEADER.either
