-- An end's BAP as contracts see it.
use Rattle.ppp_bap.specs.Requests.{Requests}

-- its policy, and the requests that wait
pub record Bap (F : Type 0) : Type 0 where
  pub policy : F
  pub requests : Requests
