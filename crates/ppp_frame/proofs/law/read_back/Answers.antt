use Rattle.std.proofs.Common.{subst, sym, [], List, ℕ}
use Rattle.ppp_frame.specs.Frame.{Framed, inside}
use Rattle.ppp_frame.proofs.DiscardLemmas.{cause_is_discard, discard_has_cause}
use Rattle.ppp_frame.proofs.FrameLemmas.{answered_framed, framed_answered, framed_once, sent_framed}
use Rattle.ppp_frame.proofs.HeaderLemmas.{headed_read, read_headed}
use Rattle.ppp_frame.proofs.RoundTripLemmas.{takes_sent}
use Rattle.ppp_frame.proofs.StreamLemmas.{pieces_flagless}
use Rattle.ppp_frame.proofs.law.read_back.Goals as goal

pub returns : goal.returns
returns c = record {
  sent = λ form protocol info back other others.
      let piece = inside form protocol info in
      let sent = sent_framed form protocol info back in (
        λ framed. framed_once form.ac form.pf other protocol others info piece framed sent,
        λ same. subst (λ (p : ℕ). Framed form.ac form.pf p others piece) (sym same.0) (
            subst (λ (xs : List ℕ). Framed form.ac form.pf protocol xs piece) (sym same.1) sent),
      );
  answered = λ reader protocol info piece none.
      (answered_framed reader protocol info piece none, framed_answered reader protocol info piece);
  discarded = λ reader piece why.
      (discard_has_cause reader piece why, cause_is_discard reader piece why);
  header = λ ac pf protocol info octets.
      (read_headed ac pf protocol info octets, headed_read ac pf protocol info octets);
  pieces = λ stream. pieces_flagless [] stream tt;
  taken = takes_sent;
}
