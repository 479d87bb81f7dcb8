-- The replay of a script, event by event.
use Rattle.std.proofs.Common.{◌≡◌, ℕ, ◌+◌, ◌≤◌, Bool, List, [], ◌∷◌, refl, sym, ◌∙◌, ap, subst, arith}
use Rattle.std.specs.Prelude.{Option, Some, None, Result, Ok, Err, IfOk, IsSome}
use Rattle.std.proofs.lemmas.List.Elements.{All-nil}
use Rattle.std.proofs.lemmas.List.Sums.{sum_by-cons}
use Rattle.ppp_conf.specs.Config.{Settings as Config}
use Rattle.ppp_station.proofs.OneStationLemmas.{same-begin}
use Rattle.ppp_bap.specs.declared.call_ask.CallAsk.{CallAsk}
use Rattle.ppp_party.specs.Party.{station_of}
use Rattle.ppp_station.specs.Shipped.{IsShippedAs}
use Rattle.ppp_script.specs.declared.end.End.{End}
use Rattle.ppp_script.specs.declared.end.End.TheVariants.{A, B}
use Rattle.ppp_station.specs.Station.{Station}
use Rattle.ppp_script.specs.Event.{steps_in, steps_in_all}
use Rattle.ppp_script.specs.declared.script.TheConstants.{MOST_STEPS}
use Rattle.ppp_script.specs.declared.event.Event.{Event}
use Rattle.ppp_world.specs.Refusal.{refusal_in}
use Rattle.ppp_world.specs.Run.{Moment, run_from, run_of, place_after, place_begun, moments_of, report, report_of, refusal, before_refusal, AgreeEverywhere, AgreeThroughout}
use Rattle.ppp_world.specs.Replay.{IsReplay}
use Rattle.ppp_world.specs.Says.{Says, by_end, shipped}
use Rattle.ppp_world.specs.World.{BothBegin, Does, IsBegun, World, world_begun, world_after, answer_of, place_of, UnlessMemory}
use Rattle.ppp_world.specs.declared.outstanding.Outstanding.{Outstanding as Outstanding'}
use Rattle.ppp_world.specs.declared.refusal.Refusal.{Refusal}
use Rattle.ppp_world.specs.declared.world_fault.WorldFault.{WorldFault}
use Rattle.ppp_world.specs.declared.world_fault.WorldFault.TheVariants.{Memory, Outstanding}
use Rattle.ppp_world.proofs.RunLemmas.{linked_event, linked_run}
use Rattle.ppp_world.proofs.SoundLemmas.{agree-begun}
use Rattle.ppp_world.proofs.WorldLemmas.{Answer, SoFar, agree-event, agreed-moments, known-event, unless_map, place_all, world_after_all, run_is, becomes, Becomes, halt_of, halted_moments, IsNextAfter, before_refusal-none}

module _ (says : Says) where
  follows : (own other : Station) (events : List Event) → Becomes (world_begun own other) (run_of says own other events) (world_after_all says (world_begun own other) events)
  follows own other events =
      rw (run_is says events (world_begun own other)) (becomes says (run_of says own other events) (world_begun own other) refl (linked_run says (place_begun own other) events))

  halted_all : (w : World) (events : List Event) (fault : WorldFault) → w.halt ≡ Some fault → world_after_all says w events ≡ w
  halted_all w events fault is = run_is says events w ∙ halted_moments w (run_from says (place_of w) events) fault is

  -- what the events that are left come to
  pub record ReplaysOn (own other : Station) (all : List Event) (now : World) (rest : List Event) : Type 0 where
    pub same : world_after_all says (world_begun own other) all ≡ world_after_all says now rest
    pub going : now.halt ≡ None
    pub room : now.steps + steps_in_all rest ≤ MOST_STEPS
    -- that two Opened ends agree in what is left gives that they do in all
    pub agreed : AgreeThroughout (before_refusal (run_from says (place_of now) rest)) → AgreeThroughout (before_refusal (run_of says own other all))

  pub replays_first : (own other : Station) (all : List Event) → steps_in_all all ≤ MOST_STEPS → ReplaysOn own other all (world_begun own other) all
  replays_first own other all few = record { same = refl; going = refl; room = omega arith; agreed = λ all. all }

  going_answer : (o : Option WorldFault) → Ok tt ≡ answer_of o → o ≡ None
  going_answer None is = refl
  going_answer (Some fault) is = absurd (cc)

  done_if : (o : Option WorldFault) {P : Type 0} → o ≡ None → UnlessMemory o P → P
  done_if None is p = p
  done_if (Some fault) is p = absurd (cc)

  refused_if : (o : Option WorldFault) {P : Type 0} (fault : Outstanding') → o ≡ Some (Outstanding fault) → UnlessMemory o P → P
  refused_if None fault is p = absurd (cc)
  refused_if (Some Memory) fault is p = absurd (cc)
  refused_if (Some (Outstanding other)) fault is p = p

  pub replays_room : (own other : Station) (all : List Event) (now : World) (rest more : List Event) (event : Event) → rest ≡ event ∷ more → ReplaysOn own other all now rest → now.steps + steps_in event ≤ MOST_STEPS
  replays_room own other all now rest more event is far = let room = rw is at far.room in omega (arith, room, sum_by-cons steps_in event more)

  -- what an event gives, given what it was given before
  agreed_so_far : (own other : Station) (all : List Event) (now next : World) (rest more : List Event) (event : Event) → rest ≡ event ∷ more →
      UnlessMemory next.halt (next ≡ world_after says now event) → (now.halt ≡ None → UnlessMemory next.halt (AgreeThroughout (before_refusal (moments_of says event (place_of now))))) →
      ReplaysOn own other all now rest → SoFar next.halt (AgreeThroughout (before_refusal (run_from says (place_of next) more))) (AgreeThroughout (before_refusal (run_of says own other all)))
  agreed_so_far own other all now next rest more event is done agreed far =
      at_next next.halt refl done
      (agreed-moments says now next ms (run_from says (place_after (place_of now) ms) more) (AgreeThroughout (before_refusal (run_of says own other all))) far.going (linked_event says event (place_of now)) done (agreed far.going)
      (rw is at far.agreed))
    where
      ms : List Moment
      ms = moments_of says event (place_of now)

      at_next : (o : Option WorldFault) → next.halt ≡ o → UnlessMemory o (next ≡ world_after says now event) →
          SoFar o (AgreeThroughout (before_refusal (run_from says (place_after (place_of now) ms) more))) (AgreeThroughout (before_refusal (run_of says own other all))) →
          SoFar o (AgreeThroughout (before_refusal (run_from says (place_of next) more))) (AgreeThroughout (before_refusal (run_of says own other all)))
      at_next None on did far =
          let at : place_of next ≡ place_after (place_of now) ms = ap place_of did ∙ place_all now ms (sym (ap (λ (w : World). w.halt) did) ∙ on) in rw at far
      at_next (Some Memory) on did far = tt
      at_next (Some (Outstanding why)) on did far = far

  pub replays_next : (own other : Station) (all : List Event) (now next : World) (rest more : List Event) (event : Event) (answer : Result (Unit {0}) WorldFault) → rest ≡ event ∷ more →
      answer ≡ answer_of next.halt → answer ≡ Ok tt → UnlessMemory next.halt (next ≡ world_after says now event) → next.steps ≤ now.steps + steps_in event →
      (now.halt ≡ None → UnlessMemory next.halt (AgreeThroughout (before_refusal (moments_of says event (place_of now))))) →
      ReplaysOn own other all now rest → ReplaysOn own other all next more
  replays_next own other all now next rest more event answer is answers ok done steps agreed far =
      let going = going_answer next.halt (sym ok ∙ answers) in
      let room = rw is at far.room in
      record {
        same = (rw is at far.same) ∙ ap (λ w. world_after_all says w more) (sym (done_if next.halt going done));
        going = going;
        room = omega (arith, room, steps, sum_by-cons steps_in event more);
        agreed = on next.halt going _ _ (agreed_so_far own other all now next rest more event is done agreed far);
      }
    where
      on : (o : Option WorldFault) → o ≡ None → (rest whole : Type 0) → SoFar o rest whole → rest → whole
      on None is rest whole all = all
      on (Some fault) is rest whole all = absurd (cc)

  -- at the end, no step was refused
  no_refusal : (o : Option Refusal) → None ≡ halt_of o → o ≡ None
  no_refusal None is = refl
  no_refusal (Some refused) is = absurd (cc)

  pub replays_all : (own other : Station) (all : List Event) (now : World) → ReplaysOn own other all now [] →
      (now.report ≡ report (before_refusal (run_of says own other all))) × (None ≡ refusal (run_of says own other all)) × (now.report ≡ report (run_of says own other all))
      × AgreeThroughout (before_refusal (run_of says own other all))
  replays_all own other all now far =
      let whole = rw far.same at (follows own other all) in
      let none = no_refusal (refusal (run_of says own other all)) (sym far.going ∙ whole.halt) in
      (whole.report, sym none, whole.report ∙ ap report (before_refusal-none (run_of says own other all) none), far.agreed (All-nil (λ (x : Moment). AgreeEverywhere x.after)))

  -- at a refusal
  halt_answered : (o : Option WorldFault) (fault : WorldFault) → Err fault ≡ answer_of o → o ≡ Some fault
  halt_answered None fault is = absurd (cc)
  halt_answered (Some other) fault is = cc

  the_refusal : (o : Option Refusal) (steps : ℕ) (fault : Outstanding') → Some (Outstanding fault) ≡ halt_of o → IsNextAfter steps o → refusal_in (steps + 1) (Outstanding fault) ≡ o
  the_refusal None steps fault is next = absurd (cc)
  the_refusal (Some r) steps fault is next = same_refusal r.step r.fault next (cc)
    where
      same_refusal : (step : ℕ) (other : Outstanding') → step ≡ steps + 1 → other ≡ fault → refusal_in (steps + 1) (Outstanding fault) ≡ Some (record { step = step; fault = other })
      same_refusal step other same_step same = rw (same_step, same) refl

  replays_refused : (own other : Station) (all : List Event) (now next : World) (rest more : List Event) (event : Event) (fault : Outstanding') → rest ≡ event ∷ more →
      next.halt ≡ Some (Outstanding fault) → UnlessMemory next.halt (next ≡ world_after says now event) → ReplaysOn own other all now rest →
      (next.report ≡ report (before_refusal (run_of says own other all))) × (refusal_in (next.steps + 1) (Outstanding fault) ≡ refusal (run_of says own other all))
  replays_refused own other all now next rest more event fault is why done far =
      let did = refused_if next.halt fault why done in
      let same = (rw is at far.same) ∙ ap (λ w. world_after_all says w more) (sym did) ∙ halted_all next more (Outstanding fault) why in
      let whole = rw same at (follows own other all) in
      (whole.report, the_refusal (refusal (run_of says own other all)) next.steps fault (sym why ∙ whole.halt) whole.next)

  -- however the world refused, what the replay comes to is right, if it comes to something
  pub replays_stopped : (own other : Station) (all : List Event) (now next : World) (rest more : List Event) (event : Event) (answer : Result (Unit {0}) WorldFault) (why : WorldFault) (refused : Option Refusal) → rest ≡ event ∷ more →
      answer ≡ answer_of next.halt → answer ≡ Err why → UnlessMemory next.halt (next ≡ world_after says now event) →
      (now.halt ≡ None → UnlessMemory next.halt (AgreeThroughout (before_refusal (moments_of says event (place_of now))))) →
      ReplaysOn own other all now rest → refused ≡ refusal_in (next.steps + 1) why → IsSome refused →
      (next.report ≡ report (before_refusal (run_of says own other all))) × (refused ≡ refusal (run_of says own other all)) × AgreeThroughout (before_refusal (run_of says own other all))
  replays_stopped own other all now next rest more event answer Memory refused is answers err done agreed far refused_is some = absurd (cc)
  replays_stopped own other all now next rest more event answer (Outstanding fault) refused is answers err done agreed far refused_is some =
      let halted = halt_answered next.halt _ (sym err ∙ answers) in
      let both = replays_refused own other all now next rest more event fault is halted done far in
      (both.0, refused_is ∙ both.1, rw halted at (agreed_so_far own other all now next rest more event is done agreed far))

pub none_is : {X : Type 0} (o : Option X) → IsSome o → o ≡ None → ⊥
none_is None some none = absurd (cc)
none_is (Some x) some none = absurd (cc)

pub if_ok_all : {X E : Type 0} {P Q R S : X → Type 0} (r : Result X E) → IfOk r P → IfOk r Q → IfOk r R → ((x : X) → P x → Q x → R x → S x) → IfOk r S
if_ok_all (Ok x) p q r all = all x p q r
if_ok_all (Err e) p q r all = tt

-- ---- by the settings

-- the same, for some stations that begin by the settings
pub record Replays (c : Config) (all : List Event) (now : World) (rest : List Event) : Type 0 where
  pub own : Station
  pub other : Station
  pub begin : BothBegin c own other
  pub on : ReplaysOn (shipped c) own other all now rest

pub replays-begun : (c : Config) (all : List Event) (w : World) → IsBegun c w → steps_in_all all ≤ MOST_STEPS → Replays c all w all
replays-begun c all w begun few = record {
  own = station_of w.ends.own;
  other = station_of w.ends.other;
  begin = begun.begin;
  on = subst (λ now. ReplaysOn (shipped c) (station_of w.ends.own) (station_of w.ends.other) all now all) (sym begun.is) (replays_first (shipped c) (station_of w.ends.own) (station_of w.ends.other) all few);
}

-- the policies that come with the program answer as the settings have it
pub known-by : (c : Config) (may_a may_b : CallAsk → Bool → Type 0) → IsShippedAs may_a c.a.max_speed → IsShippedAs may_b c.b.max_speed → Answer (by_end may_a may_b) (shipped c)
known-by c may_a may_b a b A question allowed = a question allowed
known-by c may_a may_b a b B question allowed = b question allowed

event-done : (may : End → CallAsk → Bool → Type 0) (c : Config) → Answer may (shipped c) → (event : Event) (now next : World) → UnlessMemory next.halt (Does may event now next) → UnlessMemory next.halt (next ≡ world_after (shipped c) now event)
event-done may c known event now next did = unless_map next.halt did (known-event may (shipped c) known event now next)

event-agrees : (may : End → CallAsk → Bool → Type 0) (c : Config) → Answer may (shipped c) → (event : Event) (now next : World) → UnlessMemory next.halt (Does may event now next) → now.halt ≡ None →
    UnlessMemory next.halt (AgreeThroughout (before_refusal (moments_of (shipped c) event (place_of now))))
event-agrees may c known event now next did going = unless_map next.halt did (agree-event may (shipped c) known event now next going)

pub replays-next : (may : End → CallAsk → Bool → Type 0) (c : Config) → Answer may (shipped c) → (all : List Event) (now next : World) (rest more : List Event) (event : Event) (answer : Result (Unit {0}) WorldFault) → rest ≡ event ∷ more →
    answer ≡ answer_of next.halt → answer ≡ Ok tt → UnlessMemory next.halt (Does may event now next) → next.steps ≤ now.steps + steps_in event → Replays c all now rest → Replays c all next more
replays-next may c known all now next rest more event answer is answers ok did steps far = record {
  own = far.own;
  other = far.other;
  begin = far.begin;
  on = replays_next (shipped c) far.own far.other all now next rest more event answer is answers ok (event-done may c known event now next did) steps (event-agrees may c known event now next did) far.on;
}

pub replays-room : (c : Config) (all : List Event) (now : World) (rest more : List Event) (event : Event) → rest ≡ event ∷ more → Replays c all now rest → now.steps + steps_in event ≤ MOST_STEPS
replays-room c all now rest more event is far = replays_room (shipped c) far.own far.other all now rest more event is far.on

pub replays-all : (c : Config) (all : List Event) (now : World) (octets : List ℕ) → c.a.links ≡ c.b.links → octets ≡ now.report → Replays c all now [] → IsReplay c all octets None
replays-all c all now octets same told far =
    let did = replays_all (shipped c) far.own far.other all now far.on in
    record {
      own = far.own;
      other = far.other;
      begin = far.begin;
      reported = told ∙ did.0;
      whole = λ none. told ∙ did.2;
      stopped = did.1;
      agreement = record { first = agree-begun c far.own far.other same far.begin; each = did.3 };
    }

pub replays-stopped : (may : End → CallAsk → Bool → Type 0) (c : Config) → Answer may (shipped c) → (all : List Event) (now next : World) (rest more : List Event) (event : Event) (answer : Result (Unit {0}) WorldFault) (why : WorldFault) (refused : Option Refusal) (octets : List ℕ) →
    c.a.links ≡ c.b.links → rest ≡ event ∷ more → answer ≡ answer_of next.halt → answer ≡ Err why → UnlessMemory next.halt (Does may event now next) → Replays c all now rest →
    octets ≡ next.report → refused ≡ refusal_in (next.steps + 1) why → IsSome refused → IsReplay c all octets refused
replays-stopped may c known all now next rest more event answer why refused octets same is answers err did far told refused_is some =
    let came =
    replays_stopped (shipped c) far.own far.other all now next rest more event answer why refused is answers err (event-done may c known event now next did) (event-agrees may c known event now next did) far.on refused_is some in
    record {
      own = far.own;
      other = far.other;
      begin = far.begin;
      reported = told ∙ came.0;
      whole = λ none. absurd (none_is refused some none);
      stopped = came.1;
      agreement = record { first = agree-begun c far.own far.other same far.begin; each = came.2 };
    }

-- ---- settings and events decide what comes of them

pub one-report : (c : Config) (events : List Event) (one other : List ℕ) (r s : Option Refusal) → IsReplay c events one r → IsReplay c events other s → one ≡ other
one-report c events one other r s first second =
    first.reported
    ∙ ap (λ own. report_of (shipped c) own first.other events) (same-begin c.a first.own second.own first.begin.a second.begin.a)
    ∙ ap (λ other. report_of (shipped c) second.own other events) (same-begin c.b first.other second.other first.begin.b second.begin.b)
    ∙ sym second.reported

pub one-refusal : (c : Config) (events : List Event) (one other : List ℕ) (r s : Option Refusal) → IsReplay c events one r → IsReplay c events other s → r ≡ s
one-refusal c events one other r s first second =
    first.stopped
    ∙ ap (λ own. refusal (run_of (shipped c) own first.other events)) (same-begin c.a first.own second.own first.begin.a second.begin.a)
    ∙ ap (λ other. refusal (run_of (shipped c) second.own other events)) (same-begin c.b first.other second.other first.begin.b second.begin.b)
    ∙ sym second.stopped
