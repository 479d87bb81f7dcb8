use Rattle.std.proofs.Common.{length, ap, sym, ◌∙◌, arith}
use Rattle.ppp_frame.proofs.EscapesLemmas.{reads_plain}
use Rattle.ppp_frame.proofs.escapes.unstuff_block.Goals as goal

pub copy_block-requires : goal.copy_block-requires
copy_block-requires c =
    let plain = reads_plain c.args.block.now (sym c.has_escape.ensures ∙ c.if-has_escape.false) in
    let requires = rw c.if-escaped.false at c.requires in
    let size = ap length plain.same in
    omega (arith, requires)

pub returns-clause-end : goal.returns-clause-end
returns-clause-end c =
    let plain = reads_plain c.args.block.now (sym c.has_escape.ensures ∙ c.if-has_escape.false) in
    rw (c.if-escaped.false, plain.same)

pub returns-clause-escaped : goal.returns-clause-escaped
returns-clause-escaped c =
    let plain = reads_plain c.args.block.now (sym c.has_escape.ensures ∙ c.if-has_escape.false) in
    rw (c.if-escaped.false, plain.after)

pub returns-clause-written : goal.returns-clause-written
returns-clause-written c =
    let plain = reads_plain c.args.block.now (sym c.has_escape.ensures ∙ c.if-has_escape.false) in
    rw (c.if-escaped.false, plain.same) c.copy_block.ensures
