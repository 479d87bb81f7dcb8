-- What the replay of a script comes to.
use Rattle.std.specs.Prelude.{◌≡◌, ℕ, List, Option, None}
use Rattle.ppp_conf.specs.Config.{Settings as Config}
use Rattle.ppp_station.specs.Station.{Station}
use Rattle.ppp_script.specs.declared.event.Event.{Event}
use Rattle.ppp_world.specs.Run.{AgreesInRun, refusal, report, report_of, run_of}
use Rattle.ppp_world.specs.Says.{shipped}
use Rattle.ppp_world.specs.World.{BothBegin}
use Rattle.ppp_world.specs.declared.refusal.Refusal.{Refusal}

-- This is the report of the run of these events by stations of these settings and the policies that come with the program, up to
-- the first step that is refused, and this that refusal. In every state of that run two Opened ends of a protocol agree.
pub record IsReplay (c : Config) (events : List Event) (octets : List ℕ) (refused : Option Refusal) : Type 0 where
  pub own : Station
  pub other : Station
  pub begin : BothBegin c own other
  pub reported : octets ≡ report_of (shipped c) own other events
  -- where no step is refused, it is the report of the whole run
  pub whole : refused ≡ None → octets ≡ report (run_of (shipped c) own other events)
  pub stopped : refused ≡ refusal (run_of (shipped c) own other events)
  pub agreement : AgreesInRun (shipped c) own other events
