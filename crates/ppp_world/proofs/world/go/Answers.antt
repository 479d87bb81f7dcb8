use Rattle.std.proofs.Common.{◌+◌, ◌*◌, ◌∙◌, sym}
use Rattle.ppp_world.specs.World.{most_a_step}
use Rattle.ppp_world.proofs.MakesLemmas.{right-moved}
use Rattle.ppp_world.proofs.SoundLemmas.{AreStations, after-moved, agree-kept, sound-done}
use Rattle.ppp_world.proofs.WorldLemmas.{done_as, refused_as}
use Rattle.ppp_world.proofs.world.go.Goals as goal

-- what the step makes of the two ends
pub wider_since-requires-clause-some : goal.wider_since-requires-clause-some
wider_since-requires-clause-some g c =
    let did = c.in-Ok.ensures.done in
    (after-moved did.says (c.args.steps.now + 1) c.args.steps.now c.args.ends.now.ends c.does.new.self.ends c.args.step did.is c.requires.sound c.requires.linked did.short c.before-before.result c.before-before.ensures).0.some

pub wider_since-requires-clause-alike : goal.wider_since-requires-clause-alike
wider_since-requires-clause-alike g c =
    let did = c.in-Ok.ensures.done in
    (after-moved did.says (c.args.steps.now + 1) c.args.steps.now c.args.ends.now.ends c.does.new.self.ends c.args.step did.is c.requires.sound c.requires.linked did.short c.before-before.result c.before-before.ensures).0.alike

pub wider_since-requires-clause-widens : goal.wider_since-requires-clause-widens
wider_since-requires-clause-widens g c =
    let did = c.in-Ok.ensures.done in
    (after-moved did.says (c.args.steps.now + 1) c.args.steps.now c.args.ends.now.ends c.does.new.self.ends c.args.step did.is c.requires.sound c.requires.linked did.short c.before-before.result c.before-before.ensures).1

pub returns-in-Some-clause-done : goal.returns-in-Some-clause-done
returns-in-Some-clause-done g c =
    let did = c.in-Ok.ensures.done in
    refused_as _ did.says c.args.ends.now.ends c.does.new.self.ends c.args.steps.now _ c.args.step did.said did.is c.in-Some.fault (sym c.wider_since.ensures ∙ c.in-Some.is)

pub show-requires-clause-alike : goal.show-requires-clause-alike
show-requires-clause-alike g c =
    let did = c.in-Ok.ensures.done in
    (after-moved did.says (c.args.steps.now + 1) c.args.steps.now c.args.ends.now.ends c.does.new.self.ends c.args.step did.is c.requires.sound c.requires.linked did.short c.before-before.result c.before-before.ensures).0.alike

pub show-requires-clause-agreed : goal.show-requires-clause-agreed
show-requires-clause-agreed g c =
    let did = c.in-Ok.ensures.done in
    agree-kept c.does.new.self.ends (after-moved did.says (c.args.steps.now + 1) c.args.steps.now c.args.ends.now.ends c.does.new.self.ends c.args.step did.is c.requires.sound c.requires.linked did.short c.before-before.result c.before-before.ensures).0

pub returns-clause-done : goal.returns-clause-done
returns-clause-done g c =
    let did = c.in-Ok.ensures.done in
    done_as _ did.says c.args.ends.now.ends c.does.new.self.ends c.args.steps.now _ c.args.step did.said did.is _ c.in-Ok.answer (sym c.wider_since.ensures ∙ c.in_default.is) c.in-Ok.ensures.answer c.in-Ok-show.ensures
    (right-moved did.says c.args.steps.now c.args.ends.now.ends c.args.step c.requires.sound c.requires.linked did.short)

pub returns-clause-sound : goal.returns-clause-sound
returns-clause-sound g c =
    let did = c.in-Ok.ensures.done in
    let are : AreStations c.args.steps.now c.does.new.self.ends = record {
      a = c.in-Ok.ensures.station_a;
      b = c.in-Ok.ensures.station_b;
      counted_a = c.in-Ok.ensures.counted_a (most_a_step * c.args.steps.now) c.requires.sound.counted_a;
      counted_b = c.in-Ok.ensures.counted_b (most_a_step * c.args.steps.now) c.requires.sound.counted_b;
    } in
    sound-done did.says (c.args.steps.now + 1) c.args.steps.now c.args.ends.now.ends c.does.new.self.ends c.args.step did.is c.requires.sound c.requires.linked did.short are (sym c.wider_since.ensures ∙ c.in_default.is)
