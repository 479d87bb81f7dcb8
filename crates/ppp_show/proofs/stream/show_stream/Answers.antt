use Rattle.std.proofs.Common.{◌≡◌, ◌++◌, ◌∙◌, [], sym, ap, arith, Ok, Some}
use Rattle.std.specs.Option.{option_map}
use Rattle.std.proofs.lemmas.Bool.{eqb-true}
use Rattle.ppp_show.specs.HexLine.{octets_of_line}
use Rattle.ppp_show.specs.Stream.{shows}
use Rattle.ppp_show.proofs.HexLineLemmas.{read-start, read-on, read-end}
use Rattle.ppp_show.proofs.stream.show_stream.Goals as goal

pub lines-init : goal.lines-init
lines-init c = record {
  stream = [];
  shown = c.in_ok-shown.ensures;
  read = read-start c.args.text.now;
  counted = omega arith;
}

pub lines-preserved : goal.lines-preserved
lines-preserved c =
    let stream = c.lines.invariant.stream in
    let octets = c.in-Some.octets.items in
    let is : octets_of_line c.split_line.result.0.now ≡ Some octets = sym c.in_ok-octets.ensures ∙ ap (option_map (λ o. o.items)) c.in-Some.is in record {
      stream = stream ++ octets;
      shown = rw c.deref.ensures.value at (c.in_ok-take.ensures stream c.lines.invariant.shown);
      read = read-on c.args.text.now c.lines.rest.now c.split_line.result.0.now c.split_line.result.1.now stream octets c.lines.number c.lines.invariant.read c.split_line.ensures.line.lines is;
      counted = omega (arith, c.split_line.ensures.shorter);
    }

pub returns-clause-ok : goal.returns-clause-ok
returns-clause-ok c =
    let stream = c.lines.invariant.stream in
    let all = read-end c.args.text.now c.lines.rest.now stream c.lines.number c.lines.invariant.read (eqb-true _ _ (sym c.lines-test.ensures)) in
    ap shows all ∙ ap (λ text. Ok text) (sym (c.into_octets.ensures ∙ c.lines.invariant.shown.text))
