use Rattle.std.proofs.Common.{arith}
use Rattle.ppp_mp.proofs.FragmenterLemmas.{cut-last, cut-more, number-after}
use Rattle.ppp_mp.proofs.fragmenter.cut_from.Goals as goal

pub pieces-preserved : goal.pieces-preserved
pieces-preserved c =
    rw (c.push.ensures, c.piece.ensures, c.space_of_form-space.ensures)
    (cut-more c.args.short c.args.class c.args.first c.args.size c.args.packet.now c.pieces.out c.pieces.at c.pieces.number c.requires.count (omega arith) c.pieces.invariant)

pub returns-clause-out : goal.returns-clause-out
returns-clause-out c =
    rw (c.push-2.ensures, c.rest.ensures)
    (cut-last c.args.short c.args.class c.args.first c.args.size c.args.packet.now c.pieces.out c.pieces.at c.pieces.number (omega arith) c.pieces.invariant)

pub returns-clause-number : goal.returns-clause-number
returns-clause-number c =
    rw c.space_of_form-space.ensures
    (number-after c.args.short c.args.class c.args.first c.args.size c.pieces.number c.pieces.out _ c.args.packet.now c.pieces.invariant.number_is
    (cut-last c.args.short c.args.class c.args.first c.args.size c.args.packet.now c.pieces.out c.pieces.at c.pieces.number (omega arith) c.pieces.invariant))
