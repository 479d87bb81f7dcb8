-- That requests are granted, and links close under a grant.
use Rattle.std.specs.Prelude.{ℕ, List}
use Rattle.ppp_pair.specs.Close.{Closes}
use Rattle.ppp_pair.specs.Crossing.{HasGranted}
use Rattle.ppp_pair.specs.Pair.{Event, Key, run, start}
use Rattle.ppp_pair.specs.Response.{Ack, DropResponse}

-- some request is granted in some run
pub record IsOnceGranted : Type 0 where
  pub events : List Event
  pub key : Key
  pub granted : HasGranted key (run events start).a.past

-- some link closes under a grant behind some run
pub record IsOnceClosed : Type 0 where
  pub events : List Event
  pub ordinal : ℕ
  pub link : ℕ
  pub closes : Closes (run events start) ordinal DropResponse Ack link
