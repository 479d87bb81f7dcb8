use Rattle.ppp_script.proofs.EventLemmas.{event_of-text, event_of-is}
use Rattle.ppp_script.proofs.FeedEventLemmas.{feed_of-text, feed_of-is}
use Rattle.ppp_script.proofs.law.read_again.Goals as goal

pub returns-clause-event : goal.returns-clause-event
returns-clause-event c = event_of-text

pub returns-clause-line : goal.returns-clause-line
returns-clause-line c = event_of-is

pub returns-clause-feed_event : goal.returns-clause-feed_event
returns-clause-feed_event c = feed_of-text

pub returns-clause-feed_line : goal.returns-clause-feed_line
returns-clause-feed_line c = feed_of-is
