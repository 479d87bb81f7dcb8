-- What the entries of a step are about.
use Rattle.std.specs.Prelude.{◌≡◌, ℕ, true, false, Some, ⊤}
use Rattle.ppp_bap.specs.BapOut.{Entry, Send, Mark, CloseLink, Dial}
use Rattle.ppp_bap.specs.BundleView.{has_staying, is_idle, is_joined, leaves_too_few}
use Rattle.ppp_bap.specs.LinkSet.{IsLink}
use Rattle.ppp_bap.specs.Requests.{Requests, asked_of}
use Rattle.ppp_bap.specs.declared.bap_ask.BapAsk.TheVariants.{Drop}
use Rattle.ppp_bap.specs.declared.bundle_view.BundleView.{BundleView}

-- a joined link is promised, and enough others stay
pub record IsPromise (v : BundleView) (l : ℕ) : Type 0 where
  pub joined : is_joined v l ≡ true
  pub stays : leaves_too_few l v ≡ false

-- a link closes that this end asked to drop, where another joined and unmarked link is there
pub record IsClosing (v : BundleView) (q : Requests) (l : ℕ) : Type 0 where
  pub asked : asked_of v.bundle q ≡ Some (Drop l)
  pub link : IsLink l
  pub stays : has_staying l v ≡ true

-- and a link is dialled that is idle
abbrev pub IsDue : BundleView → Requests → Entry → Type 0
IsDue v q (Send octets) = ⊤
IsDue v q (Mark l) = IsPromise v l
IsDue v q (CloseLink l) = IsClosing v q l
IsDue v q (Dial l) = is_idle v l ≡ true
