-- The moments of a run go on one from the other.
use Rattle.std.proofs.Common.{◌≡◌, ℕ, zero, suc, List, [], ◌∷◌, ◌++◌, refl}
use Rattle.std.specs.Prelude.{Option, Some, None, ⊤}
use Rattle.ppp_script.specs.declared.event.Event.{Event}
use Rattle.ppp_world.specs.Run.{Moment, Place, moment_at, after_moment, deliveries, moments_by, moments_of, place_after, run_from}
use Rattle.ppp_world.specs.Says.{Says}
use Rattle.ppp_world.specs.Step.{settling, next_delivery}

-- each moment of a run goes on from the one before
abbrev pub Linked : Says → Place → List Moment → Type 0
Linked says p [] = ⊤
Linked says p (m ∷ ms) = (m ≡ moment_at says p m.step) × Linked says (after_moment m) ms

module _ (says : Says) where
  linked_append : (p : Place) (ms ns : List Moment) → Linked says p ms → Linked says (place_after p ms) ns → Linked says p (ms ++ ns)
  linked_append p [] ns left right = right
  linked_append p (m ∷ ms) ns left right = (left.0, linked_append (after_moment m) ms ns left.1 right)

  linked_deliveries : (count : ℕ) (p : Place) → Linked says p (deliveries says count p)
  linked_deliveries zero p = tt
  linked_deliveries (suc count) p = (refl, linked_deliveries count (after_moment (moment_at says p (next_delivery p.ends))))

  linked_by : (o : Option ℕ) (event : Event) (p : Place) → Linked says p (moments_by says o event p)
  linked_by (Some count) event p = linked_deliveries count p
  linked_by None event p = (refl, tt)

  pub linked_event : (event : Event) (p : Place) → Linked says p (moments_of says event p)
  linked_event event p = linked_by (settling event) event p

  pub linked_run : (p : Place) (events : List Event) → Linked says p (run_from says p events)
  linked_run p [] = tt
  linked_run p (event ∷ events) =
      let ms = moments_of says event p in
      linked_append p ms (run_from says (place_after p ms) events) (linked_event event p) (linked_run (place_after p ms) events)
