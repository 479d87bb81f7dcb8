-- What the program answers and writes where nothing fails.
use Rattle.std.specs.Prelude.{◌≡◌, ℕ, Bool, true, false, nat_lt, List, ◌++◌, length, Option, Some, None, Result, Ok, Err, codes}
use Rattle.std.specs.Fmt.{decimal}
use Rattle.ppp_cli.specs.declared.command.Command.{Command}
use Rattle.ppp_cli.specs.declared.command.Command.TheVariants.{Replay, Feed, Show}
use Rattle.ppp_cli.specs.declared.input.TheConstants.{MOST_OCTETS}
use Rattle.ppp_cli.specs.declared.reply.Reply.{Reply as Reply'}
use Rattle.ppp_cli.specs.declared.status.Status.{Status}
use Rattle.ppp_cli.specs.declared.status.Status.TheVariants.{Ok as Fine, BadConfig, BadWords, TooLong, BadLine, Outstanding}
use Rattle.ppp_conf.specs.Config.{Settings as Config, config_of}
use Rattle.ppp_conf.specs.ConfWhy.{why_name as conf_why_name}
use Rattle.ppp_conf.specs.Refusal.{Refusal as ConfRefusal}
use Rattle.ppp_feed.specs.Feed.{IsFeed}
use Rattle.ppp_script.specs.Event.{event_form}
use Rattle.ppp_script.specs.FeedEvent.{feed_form}
use Rattle.ppp_script.specs.Line.{Form}
use Rattle.ppp_script.specs.LineWhy.{why_name}
use Rattle.ppp_script.specs.Script.{Refusal as Refusal', events_of}
use Rattle.ppp_script.specs.declared.event.Event.{Event}
use Rattle.ppp_script.specs.declared.feed_event.FeedEvent.{FeedEvent}
use Rattle.ppp_script.specs.declared.line_why.LineWhy.{LineWhy}
use Rattle.ppp_script.specs.declared.line_why.LineWhy.TheVariants.{Event as EventWhy}
use Rattle.ppp_show.specs.Stream.{show_of}
use Rattle.ppp_text.specs.Parts.{settings_in, script_in}
use Rattle.ppp_world.specs.Refusal.{refusal_text}
use Rattle.ppp_world.specs.Replay.{IsReplay}
use Rattle.ppp_world.specs.declared.refusal.Refusal.{Refusal}

pub record Reply : Type 0 where
  pub status : Status
  pub octets : List ℕ

-- a reply as the code keeps it
abbrev pub reply_seen : Reply' → Reply
reply_seen reply = record { status = reply.status; octets = reply.octets.items }

abbrev pub says : Status → List ℕ → Reply
says status octets = record { status = status; octets = octets }

-- the lines of refusals, each ended by LF
abbrev pub usage_line : List ℕ
usage_line = codes "usage: pppd replay, feed, show, vectors, soak SEED COUNT, serve TURNS, pair TURNS\n"

abbrev pub read_fault_line : List ℕ
read_fault_line = codes "read fault\n"

abbrev pub too_long_line : List ℕ
too_long_line = codes "too long\n"

-- `line K WHY`
abbrev pub bad_line : ℕ → LineWhy → List ℕ
bad_line line why = codes "line " ++ decimal line ++ codes " " ++ why_name why ++ codes "\n"

abbrev pub reply_to_line : ℕ → LineWhy → Reply
reply_to_line line why = says (BadLine line) (bad_line line why)

-- the line of a step that is refused
abbrev pub refusal_line : Refusal → List ℕ
refusal_line refused = refusal_text refused ++ codes "\n"

-- `config KEY WHY`
abbrev pub bad_config : ConfRefusal → List ℕ
bad_config refused = codes "config " ++ refused.key ++ codes " " ++ conf_why_name refused.why ++ codes "\n"

-- a report, and behind it the line of the step that is refused, if one is
abbrev pub says_with : List ℕ → Option Refusal → Reply
says_with told None = says Fine told
says_with told (Some refused) = says (Outstanding refused.step) (told ++ refusal_line refused)

-- what a capture shows, or its first line that is refused
abbrev pub reply_to_capture : Result (List ℕ) ℕ → Reply
reply_to_capture (Ok octets) = says Fine octets
reply_to_capture (Err line) = reply_to_line line EventWhy

-- ---- inputs of settings and lines

-- what is replied to settings that are refused
abbrev pub Declines : Result Config ConfRefusal → Reply → Type 0
Declines (Ok c) reply = ⊥
Declines (Err refused) reply = reply ≡ says BadConfig (bad_config refused)

-- The settings are looked at first, then the lines in order. The command says of which form these are, and what is replied to
-- them where none is refused.
module _ {E : Type 0} (form : Form E) (IsReplyTo : Config → List E → Reply → Type 0) where
  abbrev pub IsReplyToRead : Config → Result (List E) Refusal' → Reply → Type 0
  IsReplyToRead c (Ok events) reply = IsReplyTo c events reply
  IsReplyToRead c (Err refused) reply = reply ≡ reply_to_line refused.line refused.why

  abbrev pub IsReplyToLines : Config → List ℕ → Reply → Type 0
  IsReplyToLines c lines reply = IsReplyToRead c (events_of form c.links lines) reply

  abbrev pub IsReplyIfSet : Result Config ConfRefusal → List ℕ → Reply → Type 0
  IsReplyIfSet (Ok c) lines reply = IsReplyToLines c lines reply
  IsReplyIfSet (Err refused) lines reply = reply ≡ says BadConfig (bad_config refused)

  abbrev pub IsReplyToInput : List ℕ → Reply → Type 0
  IsReplyToInput text reply = IsReplyIfSet (config_of (settings_in text)) (script_in text) reply

-- the report of the run of events, and the line of the step that is refused, if one is
pub record IsReplyToRun (c : Config) (events : List Event) (reply : Reply) : Type 0 where
  pub octets : List ℕ
  pub refused : Option Refusal
  pub replay : IsReplay c events octets refused
  pub said : reply ≡ says_with octets refused

-- what a station of end a's settings writes of the lines, which happen to it
abbrev pub IsReplyToFeed : Config → List FeedEvent → Reply → Type 0
IsReplyToFeed c events reply = (reply.status ≡ Fine) × IsFeed c.a events reply.octets

-- ---- commands

abbrev pub IsReplyToCommand : Command → List ℕ → Reply → Type 0
IsReplyToCommand Replay text reply = IsReplyToInput event_form IsReplyToRun text reply
IsReplyToCommand Feed text reply = IsReplyToInput feed_form IsReplyToFeed text reply
IsReplyToCommand Show text reply = reply ≡ reply_to_capture (show_of text)

abbrev pub IsReplyIfShort : Bool → Command → List ℕ → Reply → Type 0
IsReplyIfShort true command text reply = reply ≡ says TooLong too_long_line
IsReplyIfShort false command text reply = IsReplyToCommand command text reply

-- the size is looked at first
abbrev pub IsReplyToText : Command → List ℕ → Reply → Type 0
IsReplyToText command text reply = IsReplyIfShort (nat_lt MOST_OCTETS (length text)) command text reply

-- to words that are no command's
abbrev pub IsUsage : Reply → Type 0
IsUsage reply = reply ≡ says BadWords usage_line
