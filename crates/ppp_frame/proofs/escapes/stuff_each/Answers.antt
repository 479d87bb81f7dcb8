use Rattle.std.proofs.Common.{◌≡◌, ◌+◌, ◌<◌, ◌++◌, get_or, take, length-append, arith}
use Rattle.ppp_frame.specs.Escapes.{spelled, stuffed}
use Rattle.ppp_frame.proofs.EscapesLemmas.{length_spelled, stuffed_more, width_by, write_more}
use Rattle.ppp_frame.proofs.escapes.stuff_each.Goals as goal

pub loop-octet-preserved : goal.loop-octet-preserved
loop-octet-preserved c =
    let i = c.loop-octet.octet-index in
    let map = c.args.spelling.now.map in
    let x = get_or c.args.octets.now i 0 in
    let pair = c.pair-pair.result in
    let fits : x < 256 = omega (arith, c.type_inv.octets i) in
    let more : stuffed map (take (i + 1) c.args.octets.now) ≡ stuffed map (take i c.args.octets.now) ++ spelled map x =
    stuffed_more map c.args.octets.now i 0 (omega arith) in
    let long = length_spelled map x pair fits c.pair-pair.ensures in
    let wide = width_by pair in
    record {
      end = rw more (omega (arith, c.width-end.ensures, length-append (stuffed map (take i c.args.octets.now)) (spelled map x)));
      within = omega (arith, c.width-end.ensures, wide);
      written = rw more (
          write_more map x pair _ c.loop-octet.end c.loop-octet.room _ _ (omega arith) fits c.pair-pair.ensures
          c.width-end.ensures c.loop-octet.invariant.written);
    }
