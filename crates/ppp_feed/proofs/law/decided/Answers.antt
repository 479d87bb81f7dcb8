use Rattle.std.proofs.Common.{◌≡◌, ℕ, List, sym, ◌∙◌, ap}
use Rattle.ppp_conf.specs.EndConfig.{EndSettings}
use Rattle.ppp_feed.specs.Feed.{IsFeed, feed_text}
use Rattle.ppp_script.specs.declared.feed_event.FeedEvent.{FeedEvent}
use Rattle.ppp_station.specs.Shipped.{allows_up_to}
use Rattle.ppp_station.proofs.OneStationLemmas.{same-begin}
use Rattle.ppp_feed.proofs.law.decided.Goals as goal

one_text : (settings : EndSettings) (events : List FeedEvent) (one other : List ℕ) → IsFeed settings events one → IsFeed settings events other → one ≡ other
one_text settings events one other first second =
    first.text ∙ ap (λ st. feed_text (allows_up_to settings.max_speed) st events) (same-begin settings first.station second.station first.begins second.begins) ∙ sym second.text

pub returns : goal.returns
returns c = record { octets = one_text }
