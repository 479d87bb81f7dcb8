-- A granted request, and a link that closes under a grant.
use Rattle.std.proofs.Common.{refl, [], ◌∷◌}
use Rattle.ppp_bap.specs.LinkSet.{some_link}
use Rattle.ppp_bap.specs.declared.bap_ask.BapAsk.TheVariants.{Call, Drop}
use Rattle.ppp_pair.specs.Pair.{A, Asked, Asks, B, Granted, Joins, TakesRequest, TakesResponse, at_first, with_link}
use Rattle.ppp_pair.specs.Possibility.{IsOnceClosed, IsOnceGranted}
use Rattle.ppp_pair.specs.Response.{Ack, CallResponse}
use Rattle.ppp_pair.proofs.PastLemmas.{has_here}

pub once_granted : IsOnceGranted
unfolding at_first with_link some_link
once_granted = record {
  events = record { side = A; what = Asks Call } ∷ record { side = B; what = TakesRequest 1 Call Ack } ∷
      record { side = A; what = TakesResponse 1 CallResponse Ack } ∷ [];
  key = record { boots = 0; ordinal = 1 };
  granted = has_here (Granted (record { boots = 0; ordinal = 1 })) (Asked (record { boots = 0; ordinal = 1 }) ∷ []);
}

pub once_closed : IsOnceClosed
unfolding at_first with_link some_link
once_closed = record {
  events = record { side = A; what = Joins 1 } ∷ record { side = A; what = Joins 2 } ∷
      record { side = B; what = Joins 1 } ∷ record { side = B; what = Joins 2 } ∷
      record { side = A; what = Asks (Drop 1) } ∷ record { side = B; what = TakesRequest 1 (Drop 1) Ack } ∷ [];
  ordinal = 1;
  link = 1;
  closes = record { joined = refl; left = refl };
}
