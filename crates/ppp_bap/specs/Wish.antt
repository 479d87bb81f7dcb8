-- When an end may ask, and what it sends (after RFC 2125).
use Rattle.std.specs.Prelude.{ℕ, ⊤, if◌then◌else◌, not, Option, Some, None, Result, Ok, Err}
use Rattle.ppp_bap.specs.BundleView.{is_joined, leaves_too_few, is_marked, joined_count, peer_number, spare_link, staying_count}
use Rattle.ppp_bap.specs.Requests.{Requests, is_waiting}
use Rattle.ppp_bap.specs.declared.ask_refused.AskRefused.{AskRefused}
use Rattle.ppp_bap.specs.declared.ask_refused.AskRefused.TheVariants.{NotOpen, Waiting, Full, NotJoined, NoNumber, Promised, LastLink}
use Rattle.ppp_bap.specs.declared.bap_ask.BapAsk.{BapAsk}
use Rattle.ppp_bap.specs.declared.bap_ask.BapAsk.TheVariants as ask
use Rattle.ppp_bap.specs.declared.bap_packet.Offer.{Offer}
use Rattle.ppp_bap.specs.declared.bap_packet.Request.{Request}
use Rattle.ppp_bap.specs.declared.bap_packet.Request.TheVariants as asked
use Rattle.ppp_bap.specs.declared.bundle_view.BundleView.{BundleView}

-- what this end offers: an ISDN link of its speed
abbrev pub own_offer : BundleView → Offer
own_offer v = record { speed = v.speed; kind = record { 0 = 1 } }

-- another link is asked for where one is wanted and idle; to be called names it
abbrev pub link_asked : (ℕ → Request) → BundleView → Option ℕ → Result Request AskRefused
link_asked request v None = Err (Full (joined_count v))
link_asked request v (Some l) = Ok (request l)

-- a joined link with a number may be dropped that wasn't promised, where enough others stay
abbrev pub drop_asked : ℕ → BundleView → Option ℕ → Result Request AskRefused
drop_asked l v None = Err (NoNumber l)
drop_asked l v (Some number) =
    if is_marked v l then Err (Promised l)
    else if leaves_too_few l v then Err (LastLink (staying_count l v))
    else Ok (asked.Drop number)

abbrev pub drop_wished : ℕ → BundleView → Result Request AskRefused
drop_wished l v = if is_joined v l then drop_asked l v (peer_number l v) else Err (NotJoined l)

abbrev pub wished : BapAsk → BundleView → Result Request AskRefused
wished ask.Call v = link_asked (λ l. asked.Call (own_offer v)) v (spare_link v)
wished ask.Callback v = link_asked (λ l. asked.Callback (own_offer v) (Some l)) v (spare_link v)
wished (ask.Drop l) v = drop_wished l v

-- What is sent, or the first reason why not.
abbrev pub request_for : BapAsk → BundleView → Requests → Result Request AskRefused
request_for what v q =
    if not v.live then Err NotOpen
    else if is_waiting v.bundle q then Err Waiting
    else wished what v

-- what is answered to one who asks
abbrev pub told : Result Request AskRefused → Result ⊤ AskRefused
told (Ok request) = Ok tt
told (Err why) = Err why
