-- Two Opened ends agree in the run that an input is replayed as.
use Rattle.std.specs.Prelude.{◌≡◌, ℕ, List, Option, Some, None, Ok, ⊤}
use Rattle.ppp_cli.specs.declared.command.Command.{Command}
use Rattle.ppp_cli.specs.declared.command.Command.TheVariants.{Replay, Feed, Show}
use Rattle.ppp_conf.specs.Config.{Settings as Config, config_of}
use Rattle.ppp_script.specs.Event.{event_form}
use Rattle.ppp_script.specs.Script.{events_of}
use Rattle.ppp_script.specs.declared.event.Event.{Event}
use Rattle.ppp_station.specs.Station.{Station}
use Rattle.ppp_text.specs.Parts.{settings_in, script_in}
use Rattle.ppp_world.specs.Run.{AgreesInRun}
use Rattle.ppp_world.specs.Says.{shipped}
use Rattle.ppp_world.specs.World.{BothBegin}

-- They do in every state, from the start up to the first step that is refused: of the settings and of the events that the
-- text reads as, and of every two stations that begin by those settings, with the policies that come with the program.
abbrev pub AgreesInReplay : List ℕ → Type 0
AgreesInReplay text =
    (c : Config) (events : List Event) (own other : Station)
    → config_of (settings_in text) ≡ Ok c → events_of event_form c.links (script_in text) ≡ Ok events
    → BothBegin c own other → AgreesInRun (shipped c) own other events

-- so it is of the text that is replayed, where the source tells it
abbrev pub AgreesIfReplayed : Option Command → Option (List ℕ) → Type 0
AgreesIfReplayed None told = ⊤
AgreesIfReplayed (Some Feed) told = ⊤
AgreesIfReplayed (Some Show) told = ⊤
AgreesIfReplayed (Some Replay) None = ⊤
AgreesIfReplayed (Some Replay) (Some text) = AgreesInReplay text
