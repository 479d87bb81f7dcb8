use Rattle.std.proofs.Common.{◌+◌, arith, take, length-take}
use Rattle.ppp_cli.specs.declared.input.TheConstants.{MOST_OCTETS}
use Rattle.ppp_cli.proofs.InputLemmas.{takes_more}
use Rattle.ppp_cli.proofs.input.read_input.Goals as goal

pub returns-in_default-clause-taken : goal.returns-in_default-clause-taken
returns-in_default-clause-taken g c =
    let left = g.S.Source.left in
    let text = c.reads.text in
    let got = take c.in-Got.count c.read.new.buf in
    takes_more (MOST_OCTETS + 1) (left c.args.input.now) (left c.reads.input) (left c.read.new.self) text.items got c.reads.invariant.taken c.in-Got.ensures.octets
    (omega (arith, text.ok.0, length-take c.in-Got.count c.read.new.buf, c.read.auto.buf, length-take c.min-most.result c.reads.chunk, c.in-Got.ensures.within.1, c.min-most.ensures, c.len-in-reads.ensures, c.reads.invariant.within))
