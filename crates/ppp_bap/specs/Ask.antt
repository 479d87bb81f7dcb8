-- What an end does that is asked for a link, or to drop one.
use Rattle.std.specs.Prelude.{ℕ, Result, Ok, Err}
use Rattle.ppp_bap.specs.Requests.{Requests, first_sent}
use Rattle.ppp_bap.specs.Step.{Step, sends, stays}
use Rattle.ppp_bap.specs.Wish.{request_for}
use Rattle.ppp_bap.specs.declared.ask_refused.AskRefused.{AskRefused}
use Rattle.ppp_bap.specs.declared.bap_ask.BapAsk.{BapAsk}
use Rattle.ppp_bap.specs.declared.bap_packet.Message.TheVariants as message
use Rattle.ppp_bap.specs.declared.bap_packet.Request.{Request}
use Rattle.ppp_bap.specs.declared.bundle_view.BundleView.{BundleView}

-- the request goes out and waits, or nothing happens
abbrev pub asks_by : ℕ → BapAsk → Result Request AskRefused → Requests → Step
asks_by b what (Ok request) q = record { requests = first_sent b what request q; out = sends q.next_id (message.Request request) }
asks_by b what (Err why) q = stays q

abbrev pub asks : BapAsk → BundleView → Requests → Step
asks what v q = asks_by v.bundle what (request_for what v q) q
