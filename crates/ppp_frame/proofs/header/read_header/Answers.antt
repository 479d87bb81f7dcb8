use Rattle.std.proofs.Common.{arith}
use Rattle.ppp_frame.proofs.HeaderLemmas.{with_address, without_address, no_address}
use Rattle.ppp_frame.proofs.header.read_header.Goals as goal

pub returns-then-is_whole : goal.returns-then-is_whole
returns-then-is_whole c =
    rw (with_address c.args.ac c.args.pf c.args.octets.now (omega arith) c.if-is_whole.true) c.read_protocol.ensures

pub returns-then-ac : goal.returns-then-ac
returns-then-ac c =
    rw (c.if-ac.true, without_address c.args.pf c.args.octets.now (omega arith) c.if-is_whole.false) c.read_protocol-then-ac.ensures

pub returns-else-ac : goal.returns-else-ac
returns-else-ac c = rw c.if-ac.false (no_address c.args.pf c.args.octets.now c.if-is_whole.false)
