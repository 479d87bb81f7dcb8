use Rattle.std.proofs.Common.{◌++◌, ◌∙◌, ap, sym}
use Rattle.ppp_show.specs.Shown.{got_text}
use Rattle.ppp_show.proofs.ShownLemmas.{lends, shown-fed}
use Rattle.ppp_show.proofs.shown.Shown.take_piece.Goals as goal

pub add-requires : goal.add-requires
add-requires c = lends c.args.self.now.deframer c.feed-fed.new.self c.args.octets.now c.feed-fed.result c.feed-fed.ensures.step

pub returns-clause-shown : goal.returns-clause-shown
returns-clause-shown c = λ stream shown.
    let fed = c.feed-fed.ensures in record {
      stands = rw c.in_ok-add.ensures.deframer (fed.stands stream shown.stands);
      reader = rw c.in_ok-add.ensures.deframer (fed.reader ∙ shown.reader);
      text =
          c.in_ok-add.ensures.text ∙ ap (λ text. text ++ got_text c.feed-fed.result.got c.feed-fed.new.self.frame) shown.text
          ∙ sym (shown-fed c.args.self.now.deframer c.feed-fed.new.self stream c.args.octets.now c.feed-fed.result shown.reader (fed.answers stream shown.stands));
    }
