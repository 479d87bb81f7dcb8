use Rattle.std.proofs.Common.{◌∙◌, add-one, arith, subst, sym}
use Rattle.ppp_trunk.specs.Phases.{IsTrunk}
use Rattle.ppp_station.specs.Brought.{AreBrought}
use Rattle.ppp_station.specs.Steps.{Done, so_far}
use Rattle.ppp_station.proofs.SoundLemmas.{brings-last, brings-next, brought-here, made-here, octets-here, trunk-one}
use Rattle.ppp_station.proofs.hub.Hub.bring.Goals as goal

pub bring_one-requires-clause-brought : goal.bring_one-requires-clause-brought
bring_one-requires-clause-brought g c =
    (brought-here c.args.bundle c.args.word c.args.brought.now c.loop-i.i _ (so_far c.loop-i.self.trunk c.loop-i.self.bap.requests c.loop-i.out.entries) c.at.ensures.entry c.loop-i.invariant.are).0

pub bring_one-requires-clause-few : goal.bring_one-requires-clause-few
bring_one-requires-clause-few g c = omega (arith, made-here c.args.brought.now c.loop-i.i _ c.at.ensures.entry, c.loop-i.invariant.few, c.requires.few)

pub bring_one-requires-clause-room : goal.bring_one-requires-clause-room
bring_one-requires-clause-room g c = omega (arith, octets-here c.args.brought.now c.loop-i.i _ c.at.ensures.entry, c.loop-i.invariant.octets, c.requires.room)

pub loop-i-preserved : goal.loop-i-preserved
loop-i-preserved g c =
    let before = so_far c.loop-i.self.trunk c.loop-i.self.bap.requests c.loop-i.out.entries in
    let here = brought-here c.args.bundle c.args.word c.args.brought.now c.loop-i.i _ before c.at.ensures.entry c.loop-i.invariant.are in
    record {
      trunk = subst (λ (d : Done). IsTrunk d.trunk) (sym c.bring_one.ensures.done) (trunk-one c.args.bundle c.args.word _ before c.loop-i.invariant.trunk here.0);
      are = rw add-one (subst (AreBrought c.args.bundle c.args.word _) (sym c.bring_one.ensures.done) here.1);
      few = rw add-one (omega (arith, made-here c.args.brought.now c.loop-i.i _ c.at.ensures.entry, c.loop-i.invariant.few, c.bring_one.ensures.few));
      octets = rw add-one (omega (arith, octets-here c.args.brought.now c.loop-i.i _ c.at.ensures.entry, c.loop-i.invariant.octets, c.bring_one.ensures.octets));
      left = rw add-one (brings-next c.args.bundle c.args.word c.args.brought.now c.loop-i.i _ before _ _ c.at.ensures.entry c.bring_one.ensures.done c.loop-i.invariant.left);
      terms = c.bring_one.ensures.terms ∙ c.loop-i.invariant.terms;
      policy = c.bring_one.ensures.policy ∙ c.loop-i.invariant.policy;
    }

pub returns-clause-done : goal.returns-clause-done
returns-clause-done g c = brings-last c.args.bundle c.args.word c.args.brought.now c.loop-i.i _ _ (omega (arith, c.loop-i-test.false, c.count-i-end.ensures.count)) c.loop-i.invariant.left
