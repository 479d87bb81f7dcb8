use Rattle.std.proofs.Common.{arith}
use Rattle.ppp_frame.proofs.HeaderLemmas.{no_protocol, short_protocol, half_protocol, whole_protocol}
use Rattle.ppp_frame.proofs.header.read_protocol.Goals as goal

pub returns-then-at-octets : goal.returns-then-at-octets
returns-then-at-octets c = no_protocol c.args.pf c.args.octets.now c.args.at (omega arith)

pub returns-then-is_short : goal.returns-then-is_short
returns-then-is_short c =
    (omega arith, short_protocol c.args.pf c.args.octets.now c.args.at (omega arith) c.if-is_short.true)

pub returns-then-at-octets-2 : goal.returns-then-at-octets-2
returns-then-at-octets-2 c = half_protocol c.args.pf c.args.octets.now c.args.at (omega arith) c.if-is_short.false

pub returns : goal.returns
returns c =
    (omega arith, whole_protocol c.args.pf c.args.octets.now c.args.at (omega arith) c.if-is_short.false)
