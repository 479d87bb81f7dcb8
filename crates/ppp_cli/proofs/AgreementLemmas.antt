-- In every state of the run that an input is replayed as two Opened ends agree.
use Rattle.std.proofs.Common.{◌≡◌, Bool, true, false, List, ℕ, ap, subst}
use Rattle.std.specs.Prelude.{Option, Some, None, Ok, length, nat_lt}
use Rattle.ppp_cli.specs.Agreement.{AgreesIfReplayed, AgreesInReplay}
use Rattle.ppp_cli.specs.Answer.{Answers, AnswersBy, Replies}
use Rattle.ppp_cli.specs.Reply.{Reply, IsReplyIfSet, IsReplyIfShort, IsReplyToRead, IsReplyToRun, IsReplyToText}
use Rattle.ppp_cli.specs.Status.{IsOfRun}
use Rattle.ppp_cli.specs.declared.command.Command.{Command}
use Rattle.ppp_cli.specs.declared.command.Command.TheVariants.{Replay, Feed, Show}
use Rattle.ppp_cli.specs.declared.input.TheConstants.{MOST_OCTETS}
use Rattle.ppp_cli.specs.declared.status.Status.{Status}
use Rattle.ppp_cli.specs.declared.status.Status.TheVariants.{Ok as Fine, BadWords, ReadFault, TooLong, BadConfig, BadLine, Outstanding, WriteFault, Memory}
use Rattle.ppp_conf.specs.Config.{Settings as Config, config_of}
use Rattle.ppp_script.specs.Event.{event_form}
use Rattle.ppp_script.specs.Script.{events_of}
use Rattle.ppp_script.specs.declared.event.Event.{Event}
use Rattle.ppp_station.proofs.OneStationLemmas.{same-begin}
use Rattle.ppp_station.specs.Station.{Station}
use Rattle.ppp_text.specs.Parts.{settings_in, script_in}
use Rattle.ppp_world.specs.Run.{AgreesInRun}
use Rattle.ppp_world.specs.Says.{shipped}
use Rattle.ppp_world.specs.World.{BothBegin}

-- ---- a run that was reported

-- settings decide the stations that begin by them, and so their run
agrees_in_run : (c : Config) (events : List Event) (reply : Reply) → IsReplyToRun c events reply → (own other : Station) → BothBegin c own other → AgreesInRun (shipped c) own other events
agrees_in_run c events reply is own other begin =
    let did = is.replay in
    subst (λ a. AgreesInRun (shipped c) a other events) (same-begin c.a did.own own did.begin.a begin.a)
    (subst (λ b. AgreesInRun (shipped c) did.own b events) (same-begin c.b did.other other did.begin.b begin.b) did.agreement)

-- ---- a reply whose status is that of a run is one to the run of what was read

of_short : (long : Bool) (text : List ℕ) (c : Config) (events : List Event) (reply : Reply) → config_of (settings_in text) ≡ Ok c → events_of event_form c.links (script_in text) ≡ Ok events →
    IsOfRun reply.status → IsReplyIfShort long Replay text reply → IsReplyToRun c events reply
of_short true text c events reply set read run is = absurd (subst IsOfRun (ap (λ (r : Reply). r.status) is) run)
of_short false text c events reply set read run is =
    subst (λ r. IsReplyToRead event_form IsReplyToRun c r reply) read (subst (λ s. IsReplyIfSet event_form IsReplyToRun s (script_in text) reply) set is)

agrees_in_replay : (text : List ℕ) (old new : Option (List ℕ)) (status : Status) → IsOfRun status → Replies (IsReplyToText Replay text) old new status → AgreesInReplay text
agrees_in_replay text old new status run (reply, is, status_is, puts) c events own other set read begin =
    agrees_in_run c events reply (of_short (nat_lt MOST_OCTETS (length text)) text c events reply set read (subst IsOfRun status_is run) is) own other begin

-- ---- an answer

replied : (ReadFailed : Type 0) (IsReply : Reply → Type 0) (old new : Option (List ℕ)) (status : Status) → IsOfRun status → AnswersBy ReadFailed IsReply old new status → Replies IsReply old new status
replied ReadFailed IsReply old new Fine run answers = answers
replied ReadFailed IsReply old new BadWords run answers = absurd run
replied ReadFailed IsReply old new ReadFault run answers = absurd run
replied ReadFailed IsReply old new TooLong run answers = absurd run
replied ReadFailed IsReply old new BadConfig run answers = absurd run
replied ReadFailed IsReply old new (BadLine line) run answers = absurd run
replied ReadFailed IsReply old new (Outstanding step) run answers = answers
replied ReadFailed IsReply old new WriteFault run answers = absurd run
replied ReadFailed IsReply old new Memory run answers = absurd run

pub agrees_if_replayed : (ReadFailed : Type 0) (command : Option Command) (told old new : Option (List ℕ)) (status : Status) → Answers ReadFailed command told old new status → IsOfRun status → AgreesIfReplayed command told
agrees_if_replayed ReadFailed None told old new status answers run = tt
agrees_if_replayed ReadFailed (Some Feed) told old new status answers run = tt
agrees_if_replayed ReadFailed (Some Show) told old new status answers run = tt
agrees_if_replayed ReadFailed (Some Replay) None old new status answers run = tt
agrees_if_replayed ReadFailed (Some Replay) (Some text) old new status answers run =
    agrees_in_replay text old new status run (replied ReadFailed (IsReplyToText Replay text) old new status run answers)
