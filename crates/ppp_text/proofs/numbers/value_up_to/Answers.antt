use Rattle.std.proofs.Common.{refl, ◌∙◌, ◌<◌, ◌+◌, ◌-◌, ◌*◌, get_or, arith, drop, length-drop}
use Rattle.std.proofs.lemmas.Bool.{le-leb, lt-leb}
use Rattle.std.specs.Str.Parse.{digits_value}
use Rattle.ppp_text.proofs.NumbersLemmas.{value-next, value-least, value-nil}
use Rattle.ppp_text.proofs.numbers.value_up_to.Goals as goal

pub returns-then-value-from-clause-value : goal.returns-then-value-from-clause-value
returns-then-value-from-clause-value c =
    let next = value-next c.loop-digit.value c.loop-digit.digit-index c.args.digits.now c.requires c.loop-digit-test.true in
    let least = value-least (c.loop-digit.value * 10 + (get_or c.args.digits.now c.loop-digit.digit-index 0 - 48)) (drop (c.loop-digit.digit-index + 1) c.args.digits.now) in
    let high : c.args.most < digits_value 10 c.args.digits.now = omega (arith, next, least, c.loop-digit.invariant.same) in
    rw (lt-leb (digits_value 10 c.args.digits.now) c.args.most high) refl

pub loop-digit-preserved : goal.loop-digit-preserved
loop-digit-preserved c =
    let next = value-next c.loop-digit.value c.loop-digit.digit-index c.args.digits.now c.requires c.loop-digit-test.true in
    record {
      same = rw c.from.ensures (c.loop-digit.invariant.same ∙ next);
      within = omega arith;
    }

pub returns-clause-value : goal.returns-clause-value
returns-clause-value c =
    let none = value-nil c.loop-digit.value (drop c.loop-digit.digit-index c.args.digits.now) (omega (arith, length-drop c.loop-digit.digit-index c.args.digits.now)) in
    rw (c.loop-digit.invariant.same, none, le-leb c.loop-digit.value c.args.most c.loop-digit.invariant.within) refl
