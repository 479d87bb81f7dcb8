-- A world that takes a script's events one by one does the moments of its run, up to the first that is refused.
use Rattle.std.proofs.Common.{◌≡◌, ℕ, zero, suc, ◌+◌, ◌-◌, ◌≤◌, Bool, false, List, [], ◌∷◌, ◌++◌, length, refl, sym, ◌∙◌, ap, subst, arith, append_assoc}
use Rattle.std.specs.Prelude.{Option, Some, None, IsSome, is_some, Result, ⊤, true, slice_get}
use Rattle.std.specs.Option.{option_map}
use Rattle.std.proofs.lemmas.List.{append-nil}
use Rattle.std.proofs.lemmas.List.Elements.{All-nil, All-cons, All-head, All-tail}
use Rattle.ppp_bap.specs.declared.ask_refused.AskRefused.{AskRefused}
use Rattle.ppp_bap.specs.declared.call_ask.CallAsk.{CallAsk}
use Rattle.ppp_party.specs.Frame.{Frame}
use Rattle.ppp_party.specs.Party.{Ends, asked_for_front, asked_in_delivery, delivers, posted, station_of, taking_front, turned, with_heard}
use Rattle.ppp_station.specs.Shipped.{answered}
use Rattle.ppp_station.specs.Station.{hears}
use Rattle.ppp_script.specs.declared.end.End.{End}
use Rattle.ppp_script.specs.declared.end.End.TheVariants.{A, B}
use Rattle.ppp_script.specs.declared.event.Event.{Event}
use Rattle.ppp_world.specs.AskLine.{ask_line_if}
use Rattle.ppp_world.specs.Makes.{IsRight, SentEverywhere}
use Rattle.ppp_world.specs.Outstanding.{outstanding_in}
use Rattle.ppp_world.specs.Run.{Moment, Place, moment_at, after_moment, deliveries, moments_by, moments_of, place_after, run_from, shown, shown_at, report, refusal, refusal_with, before_refusal, kept_with, AgreeEverywhere, AgreeThroughout}
use Rattle.ppp_world.specs.SameControl.{SameControl}
use Rattle.ppp_world.specs.Says.{IfAsked, Says}
use Rattle.ppp_world.specs.Step.{IsSaid, entries_made, moved, next_delivery, settling, step_of, taken_entries, word_of}
use Rattle.ppp_world.specs.World.{Does, DoesBy, DoesStep, IsAnswerIn, IsSound, IsSoundUnless, Settles, Shows, UnlessMemory, World, does_moment, does_moments, does_step, place_of, settled, unless_halted, world_after, world_of, written_by}
use Rattle.ppp_world.specs.declared.outstanding.Outstanding.{Outstanding as Outstanding'}
use Rattle.ppp_world.specs.declared.refusal.Refusal.{Refusal}
use Rattle.ppp_world.specs.declared.step.Step.{Step}
use Rattle.ppp_world.specs.declared.step.Step.TheVariants.{Happens, Delivers, Asks, Tells, Tries, Loses, Reboots, Reports, Rests}
use Rattle.ppp_world.specs.declared.world_fault.WorldFault.{WorldFault}
use Rattle.ppp_world.specs.declared.world_fault.WorldFault.TheVariants.{Memory, Outstanding}
use Rattle.ppp_world.proofs.RunLemmas.{Linked}

-- after a halt nothing changes
halted_moment : (w : World) (m : Moment) (fault : WorldFault) → w.halt ≡ Some fault → does_moment w m ≡ w
unfolding does_moment
halted_moment w m fault is = rw is refl

pub halted_moments : (w : World) (ms : List Moment) (fault : WorldFault) → w.halt ≡ Some fault → does_moments w ms ≡ w
halted_moments w [] fault is = refl
halted_moments w (m ∷ ms) fault is = rw (halted_moment w m fault is) (halted_moments w ms fault is)

does_moments-append : (w : World) (xs ys : List Moment) → does_moments w (xs ++ ys) ≡ does_moments (does_moments w xs) ys
does_moments-append w [] ys = refl
does_moments-append w (x ∷ xs) ys = does_moments-append (does_moment w x) xs ys

-- a world that hasn't halted
open_moment : (w : World) (m : Moment) → w.halt ≡ None → does_moment w m ≡ written_by w m (outstanding_in m.after)
unfolding does_moment
open_moment w m going = rw going refl

-- where a world goes on from a moment, it is at the place after it
place_written : (w : World) (m : Moment) (fault : Option Outstanding') → (written_by w m fault).halt ≡ None → place_of (written_by w m fault) ≡ after_moment m
place_written w m None going = refl
place_written w m (Some fault) going = absurd (cc)

place_one : (o : Option WorldFault) (w next : World) (p : Place) → w.halt ≡ o → (next.halt ≡ None → place_of next ≡ p) →
    (unless_halted o w next).halt ≡ None → place_of (unless_halted o w next) ≡ p
place_one None w next p is goes going = goes going
place_one (Some fault) w next p is goes going = absurd (cc)

pub place_on : (w : World) (m : Moment) → (does_moment w m).halt ≡ None → place_of (does_moment w m) ≡ after_moment m
unfolding does_moment
place_on w m = place_one w.halt w (written_by w m (outstanding_in m.after)) (after_moment m) refl (place_written w m (outstanding_in m.after))

-- What goes on from a world's place goes on from that place which it is at, if it goes on at all.
pub onward : (w : World) (p : Place) (rest : Place → List Moment) → (w.halt ≡ None → place_of w ≡ p) → does_moments w (rest (place_of w)) ≡ does_moments w (rest p)
onward w p rest at = by_halt w.halt refl
  where
    by_halt : (o : Option WorldFault) → w.halt ≡ o → does_moments w (rest (place_of w)) ≡ does_moments w (rest p)
    by_halt None is = ap (λ q. does_moments w (rest q)) (at is)
    by_halt (Some fault) is = halted_moments w (rest (place_of w)) fault is ∙ sym (halted_moments w (rest p) fault is)

pub place_all : (w : World) (ms : List Moment) → (does_moments w ms).halt ≡ None → place_of (does_moments w ms) ≡ place_after (place_of w) ms
place_all w [] going = refl
place_all w (m ∷ ms) going = by_halt (does_moment w m).halt refl (place_all (does_moment w m) ms going)
  where
    next : World
    next = does_moment w m

    by_halt : (o : Option WorldFault) → next.halt ≡ o → place_of (does_moments next ms) ≡ place_after (place_of next) ms → place_of (does_moments next ms) ≡ place_after (after_moment m) ms
    by_halt None is below = below ∙ ap (λ p. place_after p ms) (place_on w m is)
    by_halt (Some fault) is below = let same = halted_moments next ms fault is in let stays = ap (λ (x : World). x.halt) same in absurd (cc)

-- the world after some events
abbrev pub world_after_all : Says → World → List Event → World
world_after_all says w [] = w
world_after_all says w (event ∷ events) = world_after_all says (world_after says w event) events

pub run_is : (says : Says) (events : List Event) (w : World) → world_after_all says w events ≡ does_moments w (run_from says (place_of w) events)
run_is says [] w = refl
run_is says (event ∷ events) w =
    let ms = moments_of says event (place_of w) in
    let next = does_moments w ms in
    rw (does_moments-append w ms (run_from says (place_after (place_of w) ms) events))
    (run_is says events next
    ∙ onward next (place_after (place_of w) ms) (λ p. run_from says p events) (place_all w ms))

-- the step that is refused is the one after those that were done
abbrev pub IsNextAfter : ℕ → Option Refusal → Type 0
IsNextAfter steps None = ⊤
IsNextAfter steps (Some r) = r.step ≡ steps + 1

abbrev pub halt_of : Option Refusal → Option WorldFault
halt_of o = option_map (λ r. Outstanding r.fault) o

-- What a world that hasn't halted makes of moments: it does and reports those before the first that is refused.
pub record Becomes (w : World) (ms : List Moment) (end : World) : Type 0 where
  pub report : end.report ≡ w.report ++ report (before_refusal ms)
  pub halt : end.halt ≡ halt_of (refusal ms)
  pub next : IsNextAfter end.steps (refusal ms)

becomes_one : (o : Option Outstanding') (w : World) (m : Moment) (ms : List Moment) → outstanding_in m.after ≡ o → m.number ≡ w.steps + 1 →
    ((written_by w m o).halt ≡ None → Becomes (written_by w m o) ms (does_moments (written_by w m o) ms)) →
    Becomes w (m ∷ ms) (does_moments (written_by w m o) ms)
becomes_one None w m ms is number rest =
    let below = rest refl in
    record {
      report = below.report ∙ (rw is (append_assoc w.report (shown m) (report (before_refusal ms))));
      halt = rw is below.halt;
      next = rw is below.next;
    }
becomes_one (Some fault) w m ms is number rest =
    let stays = halted_moments (written_by w m (Some fault)) ms (Outstanding fault) refl in
    record {
      report = rw (is, stays) (sym (append-nil w.report));
      halt = rw (is, stays) refl;
      next = rw (is, stays) number;
    }

pub becomes : (says : Says) (ms : List Moment) (w : World) → w.halt ≡ None → Linked says (place_of w) ms → Becomes w ms (does_moments w ms)
becomes says [] w going links = record { report = sym (append-nil w.report); halt = going; next = tt }
becomes says (m ∷ ms) w going links =
    rw (open_moment w m going) (becomes_one (outstanding_in m.after) w m ms refl (ap (λ (x : Moment). x.number) links.0)
    (λ on. becomes says ms (written_by w m (outstanding_in m.after)) on (rw (place_written w m (outstanding_in m.after) on) links.1)))

pub before_refusal-none : (ms : List Moment) → refusal ms ≡ None → before_refusal ms ≡ ms
before_refusal-none [] none = refl
before_refusal-none (m ∷ ms) none = kept (outstanding_in m.after) none (before_refusal-none ms)
  where
    kept : (o : Option Outstanding') → refusal_with m o (refusal ms) ≡ None → (refusal ms ≡ None → before_refusal ms ≡ ms) → kept_with m o (before_refusal ms) ≡ m ∷ ms
    kept None none below = ap (λ rest. m ∷ rest) (below none)
    kept (Some fault) none below = absurd (cc)

-- ---- a step that is done, and one that is refused

-- a step of a world that hasn't halted
open_step : (says : Says) (old : Ends) (steps : ℕ) (text : List ℕ) (step : Step) →
    let w = world_of old steps text None in let m = moment_at says (place_of w) step in
    does_step says w step ≡ written_by w m (outstanding_in m.after)
unfolding does_moment
open_step says old steps text step = refl

-- what is written is what is reported of the step
shows-as : (says : Says) (k : ℕ) (e after : Ends) (step : Step) (a : Option (Result ⊤ AskRefused)) (text longer : List ℕ) → IsAnswerIn k e step a → Shows k step a after text longer →
    longer ≡ text ++ shown_at k (entries_made says k e step) after step
shows-as says k e after (Asks at l what) a text longer is shows = shows ∙ ap (λ a. text ++ ask_line_if k at what a) is
shows-as says k e after (Happens at l what) a text longer is shows = shows
shows-as says k e after (Delivers at l) a text longer is shows = shows
shows-as says k e after (Tells at l status) a text longer is shows = shows
shows-as says k e after (Tries at l) a text longer is shows = shows
shows-as says k e after (Loses at l place) a text longer is shows = shows
shows-as says k e after (Reboots at) a text longer is shows = shows
shows-as says k e after Reports a text longer is shows = shows
shows-as says k e after Rests a text longer is shows = shows

module _ (may : End → CallAsk → Bool → Type 0) (says : Says) (old new : Ends) (steps : ℕ) (text : List ℕ) (step : Step) (said : IsSaid may says (steps + 1) old step) (is : new ≡ moved says (steps + 1) old step) where
  abbrev pub w : World
  w = world_of old steps text None

  abbrev pub m : Moment
  m = moment_at says (place_of w) step

  pub done_as : (longer : List ℕ) (a : Option (Result ⊤ AskRefused)) → outstanding_in new ≡ None → IsAnswerIn (steps + 1) old step a → Shows (steps + 1) step a new text longer → IsRight old m →
      DoesStep may step w (world_of new (steps + 1) longer None)
  done_as longer a none answers shows right = record {
    says = says;
    said = λ going. said;
    world = rw (open_step says old steps text step, ← is, none) (rw (shows-as says (steps + 1) old new step a text longer answers shows) refl);
    agreed = λ going on. subst AgreeEverywhere (sym is) right.agreed;
    sent = λ going on. subst SentEverywhere (sym is) right.sent;
    control = λ going on. subst SameControl (sym is) right.control;
    makes = λ going on. right.makes;
    lends = λ going on. right.lends;
  }

  pub refused_as : (fault : Outstanding') → outstanding_in new ≡ Some fault → DoesStep may step w (world_of new steps text (Some (Outstanding fault)))
  refused_as fault some = record {
    says = says;
    said = λ going. said;
    world = rw (open_step says old steps text step, ← is, some) refl;
    agreed = λ going on. absurd (cc);
    sent = λ going on. absurd (cc);
    control = λ going on. absurd (cc);
    makes = λ going on. absurd (cc);
    lends = λ going on. absurd (cc);
  }

pub sound_unless : (halt : Option WorldFault) (ends : Ends) (steps : ℕ) → IsSoundUnless halt ends steps → halt ≡ None → IsSound ends steps
sound_unless None ends steps sound going = sound
sound_unless (Some fault) ends steps sound going = absurd (cc)

pub no_halt : (halt : Option WorldFault) → false ≡ is_some halt → halt ≡ None
no_halt None none = refl
no_halt (Some fault) none = absurd (cc)

pub some_halt : (halt : Option WorldFault) → true ≡ is_some halt → IsSome halt
some_halt None some = absurd (cc)
some_halt (Some fault) some = refl

-- a world that has halted does nothing
pub halted_does : (may : End → CallAsk → Bool → Type 0) (w : World) (step : Step) → IsSome w.halt → UnlessMemory w.halt (DoesStep may step w w)
halted_does may w step some = by_halt w.halt refl some
  where
    does : (fault : WorldFault) → w.halt ≡ Some fault → DoesStep may step w w
    does fault is = record {
      says = λ at question. false;
      said = λ going. absurd (let both : None ≡ Some fault = sym going ∙ is in cc);
      world = sym (halted_moment w _ fault is);
      agreed = λ going on. absurd (let both : None ≡ Some fault = sym going ∙ is in cc);
      sent = λ going on. absurd (let both : None ≡ Some fault = sym going ∙ is in cc);
      control = λ going on. absurd (let both : None ≡ Some fault = sym going ∙ is in cc);
      makes = λ going on. absurd (let both : None ≡ Some fault = sym going ∙ is in cc);
      lends = λ going on. absurd (let both : None ≡ Some fault = sym going ∙ is in cc);
    }

    by_halt : (o : Option WorldFault) → w.halt ≡ o → IsSome o → UnlessMemory o (DoesStep may step w w)
    by_halt None is some = absurd (cc)
    by_halt (Some Memory) is some = tt
    by_halt (Some (Outstanding fault)) is some = does (Outstanding fault) is

unless_always : (o : Option WorldFault) {P : Type 0} → P → UnlessMemory o P
unless_always None p = p
unless_always (Some Memory) p = tt
unless_always (Some (Outstanding fault)) p = p

unless_both : (o : Option WorldFault) {P Q R : Type 0} → UnlessMemory o P → UnlessMemory o Q → (P → Q → R) → UnlessMemory o R
unless_both None p q both = both p q
unless_both (Some Memory) p q both = tt
unless_both (Some (Outstanding fault)) p q both = both p q

unless_later : (o : Option WorldFault) (now next : World) (P : Type 0) → now.halt ≡ o → (IsSome now.halt → next ≡ now) → UnlessMemory o P → UnlessMemory next.halt P
unless_later None now next P is stays p = unless_always next.halt p
unless_later (Some Memory) now next P is stays p = let same : next ≡ now = stays (rw is refl) in rw (same, is) tt
unless_later (Some (Outstanding fault)) now next P is stays p = unless_always next.halt p

settled_next : (says : Says) (count : ℕ) (w : World) → settled says (suc count) w ≡ settled says count (does_step says w (next_delivery w.ends))
settled_next says count w =
    let m = moment_at says (place_of w) (next_delivery w.ends) in
    let next = does_moment w m in
    sym (onward next (after_moment m) (λ p. deliveries says count p) (place_on w m))

-- ---- that two Opened ends agree in the states that a world was in

-- what is so of all, by what is so of the rest: after a refusal there is none
abbrev pub SoFar : Option WorldFault → Type 0 → Type 0 → Type 0
SoFar None rest whole = rest → whole
SoFar (Some Memory) rest whole = ⊤
SoFar (Some (Outstanding fault)) rest whole = whole

-- moments behind others count where none of those was refused
agree-append : (ms ns : List Moment) → refusal ms ≡ None → AgreeThroughout (before_refusal ms) → AgreeThroughout (before_refusal ns) → AgreeThroughout (before_refusal (ms ++ ns))
agree-append [] ns none front behind = behind
agree-append (m ∷ ms) ns none front behind = by_fault (outstanding_in m.after) refl none front (agree-append ms ns)
  where
    by_fault : (o : Option Outstanding') → outstanding_in m.after ≡ o → refusal_with m o (refusal ms) ≡ None → AgreeThroughout (kept_with m o (before_refusal ms)) →
        (refusal ms ≡ None → AgreeThroughout (before_refusal ms) → AgreeThroughout (before_refusal ns) → AgreeThroughout (before_refusal (ms ++ ns))) →
        AgreeThroughout (kept_with m (outstanding_in m.after) (before_refusal (ms ++ ns)))
    by_fault None is none front below =
        rw is (All-cons (λ (x : Moment). AgreeEverywhere x.after) m (before_refusal (ms ++ ns)) (All-head (λ (x : Moment). AgreeEverywhere x.after) m (before_refusal ms) front)
        (below none (All-tail (λ (x : Moment). AgreeEverywhere x.after) m (before_refusal ms) front) behind))
    by_fault (Some fault) is none front below = absurd (cc)

refused-append : (ms ns : List Moment) → IsSome (refusal ms) → before_refusal (ms ++ ns) ≡ before_refusal ms
refused-append [] ns some = absurd (cc)
refused-append (m ∷ ms) ns some = by_fault (outstanding_in m.after) some (refused-append ms ns)
  where
    by_fault : (o : Option Outstanding') → IsSome (refusal_with m o (refusal ms)) → (IsSome (refusal ms) → before_refusal (ms ++ ns) ≡ before_refusal ms) →
        kept_with m o (before_refusal (ms ++ ns)) ≡ kept_with m o (before_refusal ms)
    by_fault None some below = ap (λ xs. m ∷ xs) (below some)
    by_fault (Some fault) some below = refl

halted-by : (o : Option Refusal) (fault : WorldFault) → Some fault ≡ halt_of o → IsSome o
halted-by None fault is = absurd (cc)
halted-by (Some r) fault is = refl

going-by : (o : Option Refusal) → None ≡ halt_of o → o ≡ None
going-by None is = refl
going-by (Some r) is = absurd (cc)

-- the moments of an event are done, up to one that is refused
pub agreed-moments : (says : Says) (now next : World) (ms ns : List Moment) (whole : Type 0) → now.halt ≡ None → Linked says (place_of now) ms → UnlessMemory next.halt (next ≡ does_moments now ms) →
    UnlessMemory next.halt (AgreeThroughout (before_refusal ms)) → (AgreeThroughout (before_refusal (ms ++ ns)) → whole) → SoFar next.halt (AgreeThroughout (before_refusal ns)) whole
agreed-moments says now next ms ns whole going links done agreed all = by_halt next.halt refl done agreed
  where
    by_halt : (o : Option WorldFault) → next.halt ≡ o → UnlessMemory o (next ≡ does_moments now ms) → UnlessMemory o (AgreeThroughout (before_refusal ms)) →
        SoFar o (AgreeThroughout (before_refusal ns)) whole
    by_halt None on did agreed =
        let halted = sym on ∙ ap (λ (w : World). w.halt) did ∙ (becomes says ms now going links).halt in
        λ rest. all (agree-append ms ns (going-by (refusal ms) halted) agreed rest)
    by_halt (Some Memory) on did agreed = tt
    by_halt (Some (Outstanding why)) on did agreed =
        let halted = sym on ∙ ap (λ (w : World). w.halt) did ∙ (becomes says ms now going links).halt in
        all (rw (refused-append ms ns (halted-by (refusal ms) (Outstanding why) halted)) agreed)

-- ---- deliveries, one after the other

-- a list of them, and one more
snoc-settles : (may : End → CallAsk → Bool → Type 0) (count : ℕ) (first now next : World) → Settles may count first now → DoesStep may (next_delivery now.ends) now next → Settles may (suc count) first next
snoc-settles may zero first now next same does = (next, subst (λ (w : World). DoesStep may (next_delivery w.ends) w next) same does, refl)
snoc-settles may (suc count) first now next did does = (did.0, did.1, snoc-settles may count did.0 now next did.2 does)

-- so many are done
pub record SettlesOn (may : End → CallAsk → Bool → Type 0) (count : ℕ) (first now : World) : Type 0 where
  pub done : UnlessMemory now.halt (Settles may count first now)
  pub halted : IsSome first.halt → now ≡ first
  pub steps : now.steps ≤ first.steps + count
  pub later : first.steps ≤ now.steps

pub settles_first : (may : End → CallAsk → Bool → Type 0) (first : World) → SettlesOn may 0 first first
settles_first may first = record { done = unless_always first.halt refl; halted = λ some. refl; steps = omega arith; later = omega arith }

pub settles_next : (may : End → CallAsk → Bool → Type 0) (count : ℕ) (first now next : World) → UnlessMemory next.halt (DoesStep may (next_delivery now.ends) now next) → (IsSome now.halt → next ≡ now) →
    next.steps ≤ now.steps + 1 → now.steps ≤ next.steps → SettlesOn may count first now → SettlesOn may (suc count) first next
settles_next may count first now next done stays steps later far = record {
  done = unless_both next.halt (unless_later now.halt now next (Settles may count first now) refl stays far.done) done (λ before one. snoc-settles may count first now next before one);
  halted = λ some. let same : now ≡ first = far.halted some in stays (rw same some) ∙ same;
  steps = omega (arith, far.steps, steps);
  later = omega (arith, far.later, later);
}

-- an event
pub settles-event : (may : End → CallAsk → Bool → Type 0) (count : ℕ) (event : Event) (old new : World) (o : Option WorldFault) → settling event ≡ Some count → UnlessMemory o (Settles may count old new) → UnlessMemory o (Does may event old new)
settles-event may count event old new o is did = rw is did

pub steps-event : (may : End → CallAsk → Bool → Type 0) (event : Event) (step : Step) (old new : World) (o : Option WorldFault) → settling event ≡ None → step ≡ step_of (length old.ends.own.trunk.links) event →
    UnlessMemory o (DoesStep may step old new) → UnlessMemory o (Does may event old new)
steps-event may event step old new o one is did = rw (one, ← is) did

-- ---- policies of which each answer is known

-- they answer so and nothing else
abbrev pub Answer : (End → CallAsk → Bool → Type 0) → Says → Type 0
Answer may says = (at : End) (question : CallAsk) (allowed : Bool) → may at question allowed → allowed ≡ says at question

answered-same : (may : CallAsk → Bool → Type 0) (one other : CallAsk → Bool) (o : Option CallAsk) → ((question : CallAsk) (allowed : Bool) → may question allowed → allowed ≡ other question) → IfAsked may one o → answered one o ≡ answered other o
answered-same may one other None known said = refl
answered-same may one other (Some question) known said = known question (one question) said

-- what follows is decided by the answers
front-same : (one other : CallAsk → Bool) (l word : ℕ) (o : Option (List Frame)) (e : Ends) → answered one (asked_for_front l word o e.own) ≡ answered other (asked_for_front l word o e.own) →
    (taking_front one l word o e ≡ taking_front other l word o e) × (taken_entries one l word e.own o ≡ taken_entries other l word e.own o)
front-same one other l word None e same = (refl, refl)
front-same one other l word (Some []) e same = (refl, refl)
front-same one other l word (Some (f ∷ rest)) e same = (
  ap (λ allowed. posted f.mark (hears allowed l f.octets (station_of e.own) word) (record e { own = with_heard l word f rest (slice_get e.own.trunk.links (l - 1)) e.own })) same,
  ap (λ allowed. (hears allowed l f.octets (station_of e.own) word).out.entries) same,
)

delivers-same : (one other : CallAsk → Bool) (l word : ℕ) (e : Ends) → answered one (asked_in_delivery l word e.own) ≡ answered other (asked_in_delivery l word e.own) →
    (delivers one l word e ≡ delivers other l word e) × (taken_entries one l word e.own (slice_get e.own.incoming (l - 1)) ≡ taken_entries other l word e.own (slice_get e.own.incoming (l - 1)))
unfolding delivers
delivers-same one other l word e same = front-same one other l word (slice_get e.own.incoming (l - 1)) e same

module _ (may : End → CallAsk → Bool → Type 0) (says known : Says) (answer : Answer may known) where
  step-same : (k : ℕ) (e : Ends) (step : Step) → IsSaid may says k e step → (moved says k e step ≡ moved known k e step) × (entries_made says k e step ≡ entries_made known k e step)
  step-same k e (Delivers A l) said = delivers-same (says A) (known A) l (word_of A k) e (answered-same (may A) (says A) (known A) _ (answer A) said)
  step-same k e (Delivers B l) said =
      let same = delivers-same (says B) (known B) l (word_of B k) (turned e) (answered-same (may B) (says B) (known B) _ (answer B) said) in (ap turned same.0, same.1)
  step-same k e (Happens at l what) said = (refl, refl)
  step-same k e (Asks at l what) said = (refl, refl)
  step-same k e (Tells at l status) said = (refl, refl)
  step-same k e (Tries at l) said = (refl, refl)
  step-same k e (Loses at l place) said = (refl, refl)
  step-same k e (Reboots at) said = (refl, refl)
  step-same k e Reports said = (refl, refl)
  step-same k e Rests said = (refl, refl)

  moment-same : (p : Place) (step : Step) → IsSaid may says (p.done + 1) p.ends step → moment_at says p step ≡ moment_at known p step
  moment-same p step said =
      let same = step-same (p.done + 1) p.ends step said in λ i. record { number = p.done + 1; step = step; entries = same.1 i; after = same.0 i }

-- a step and what is known after it, for the answers that are known
known-step : (may : End → CallAsk → Bool → Type 0) (known : Says) → Answer may known → (step : Step) (old new : World) → DoesStep may step old new → new ≡ does_step known old step
known-step may known answer step old new did = by_halt old.halt refl
  where
    by_halt : (o : Option WorldFault) → old.halt ≡ o → new ≡ does_step known old step
    by_halt None going = did.world ∙ ap (does_moment old) (moment-same may did.says known answer (place_of old) step (did.said going))
    by_halt (Some fault) is = did.world ∙ halted_moment old _ fault is ∙ sym (halted_moment old _ fault is)

known-settles : (may : End → CallAsk → Bool → Type 0) (known : Says) → Answer may known → (count : ℕ) (old new : World) → Settles may count old new → new ≡ settled known count old
known-settles may known answer zero old new same = same
known-settles may known answer (suc count) old new did =
    known-settles may known answer count did.0 new did.2 ∙ ap (settled known count) (known-step may known answer (next_delivery old.ends) old did.0 did.1) ∙ sym (settled_next known count old)

by-event : (may : End → CallAsk → Bool → Type 0) (known : Says) → Answer may known → (o : Option ℕ) (event : Event) (old new : World) → DoesBy may o event old new → new ≡ does_moments old (moments_by known o event (place_of old))
by-event may known answer (Some count) event old new did = known-settles may known answer count old new did
by-event may known answer None event old new did = known-step may known answer (step_of (length old.ends.own.trunk.links) event) old new did

pub known-event : (may : End → CallAsk → Bool → Type 0) (known : Says) → Answer may known → (event : Event) (old new : World) → Does may event old new → new ≡ world_after known old event
known-event may known answer event old new did = by-event may known answer (settling event) event old new did

-- two Opened ends agree after each step that is done
agree-one : (may : End → CallAsk → Bool → Type 0) (known : Says) → Answer may known → (step : Step) (old mid : World) (ms : List Moment) → old.halt ≡ None → DoesStep may step old mid →
    (mid.halt ≡ None → place_of mid ≡ after_moment (moment_at known (place_of old) step) → AgreeThroughout (before_refusal ms)) →
    AgreeThroughout (before_refusal (moment_at known (place_of old) step ∷ ms))
agree-one may known answer step old mid ms going did rest = by_fault (outstanding_in m.after) refl
  where
    m : Moment
    m = moment_at known (place_of old) step

    is : mid ≡ written_by old m (outstanding_in m.after)
    is = known-step may known answer step old mid did ∙ open_moment old m going

    by_fault : (o : Option Outstanding') → outstanding_in m.after ≡ o → AgreeThroughout (before_refusal (m ∷ ms))
    by_fault None none =
        let wrote : mid ≡ written_by old m None = is ∙ ap (written_by old m) none in
        let on : mid.halt ≡ None = ap (λ (w : World). w.halt) wrote in
        let at : place_of mid ≡ after_moment m = ap place_of wrote in
        let here : AgreeEverywhere m.after = subst AgreeEverywhere (ap (λ (w : World). w.ends) wrote) (did.agreed going on) in
        rw none (All-cons (λ (x : Moment). AgreeEverywhere x.after) m (before_refusal ms) here (rest on at))
    by_fault (Some fault) some = rw some (All-nil (λ (x : Moment). AgreeEverywhere x.after))

agree-settles : (may : End → CallAsk → Bool → Type 0) (known : Says) → Answer may known → (count : ℕ) (old new : World) → old.halt ≡ None → Settles may count old new → AgreeThroughout (before_refusal (deliveries known count (place_of old)))
agree-settles may known answer zero old new going did = All-nil (λ (x : Moment). AgreeEverywhere x.after)
agree-settles may known answer (suc count) old new going did =
    let m = moment_at known (place_of old) (next_delivery old.ends) in
    agree-one may known answer (next_delivery old.ends) old did.0 (deliveries known count (after_moment m)) going did.1
    (λ on at. subst (λ p. AgreeThroughout (before_refusal (deliveries known count p))) at (agree-settles may known answer count did.0 new on did.2))

agree-by : (may : End → CallAsk → Bool → Type 0) (known : Says) → Answer may known → (o : Option ℕ) (event : Event) (old new : World) → old.halt ≡ None → DoesBy may o event old new →
    AgreeThroughout (before_refusal (moments_by known o event (place_of old)))
agree-by may known answer (Some count) event old new going did = agree-settles may known answer count old new going did
agree-by may known answer None event old new going did =
    agree-one may known answer (step_of (length old.ends.own.trunk.links) event) old new [] going did (λ on at. All-nil (λ (x : Moment). AgreeEverywhere x.after))

pub agree-event : (may : End → CallAsk → Bool → Type 0) (known : Says) → Answer may known → (event : Event) (old new : World) → old.halt ≡ None → Does may event old new →
    AgreeThroughout (before_refusal (moments_of known event (place_of old)))
agree-event may known answer event old new going did = agree-by may known answer (settling event) event old new going did

pub unless_map : (o : Option WorldFault) {P Q : Type 0} → UnlessMemory o P → (P → Q) → UnlessMemory o Q
unless_map None p map = map p
unless_map (Some Memory) p map = tt
unless_map (Some (Outstanding fault)) p map = map p
