-- That an end which opens again was left alone meanwhile: the other end was outside Opened.
use Rattle.std.specs.Prelude.{◌≡◌, ℕ, ◌<◌, ◌⊎◌, Bool, true, false, List, [], ◌∷◌, ◌++◌}
use Rattle.ppp_auto.specs.declared.auto_state.AutoState.{AutoState}
use Rattle.ppp_auto.specs.declared.auto_state.AutoState.TheVariants.{Initial, Starting, Closed, Stopped, Closing, Stopping, Opened}
use Rattle.ppp_auto.specs.OptionTable.{Table}
use Rattle.ppp_duet.specs.Duet.{Duet, End, Event, Setup, Side, A, B, happens, run, start}
use Rattle.ppp_duet.specs.NarrowRun.{IsNarrowRun}

-- the end of a side, and the other end
abbrev pub end_at : Side → Duet → End
end_at A d = d.a
end_at B d = d.b

abbrev pub end_beyond : Side → Duet → End
end_beyond A d = d.b
end_beyond B d = d.a

abbrev pub IsOpenedAt : Side → Duet → Type 0
IsOpenedAt side d = (end_at side d).auto.state ≡ Opened

abbrev pub IsOpenedBeyond : Side → Duet → Type 0
IsOpenedBeyond side d = (end_beyond side d).auto.state ≡ Opened

-- the end of the side is outside Opened in each state of the run
abbrev pub StaysOut : Setup → Setup → Side → List Event → Duet → Type 0
StaysOut sa sb side [] d = ¬ (IsOpenedAt side d)
StaysOut sa sb side (e ∷ es) d = ¬ (IsOpenedAt side d) × StaysOut sa sb side es (happens sa sb d e)

-- the other end is outside Opened in some state of the run
abbrev pub IsOnceOut : Setup → Setup → Side → List Event → Duet → Type 0
IsOnceOut sa sb side [] d = ¬ (IsOpenedBeyond side d)
IsOnceOut sa sb side (e ∷ es) d = ¬ (IsOpenedBeyond side d) ⊎ IsOnceOut sa sb side es (happens sa sb d e)

-- An end leaves Opened and, some events later, enters it again: from the state after it leaves to the state before it
-- enters, there is one in which the other end isn't Opened.
abbrev pub Reopening : Table → Table → Type 0
Reopening ta tb =
    (first_a first_b : ℕ) (side : Side) (before : List Event) (leave : Event) (between : List Event) (enter : Event) →
    let sa : Setup = record { table = ta; first = first_a } in
    let sb : Setup = record { table = tb; first = first_b } in
    let opened = run sa sb before (start sa sb) in
    let left = happens sa sb opened leave in
    let entered = happens sa sb (run sa sb between left) enter in
    IsNarrowRun sa sb (before ++ leave ∷ (between ++ enter ∷ [])) (start sa sb) →
    IsOpenedAt side opened → StaysOut sa sb side between left → IsOpenedAt side entered →
    IsOnceOut sa sb side between left

-- no negotiation is under way and none was finished
abbrev pub is_low : AutoState → Bool
is_low Initial = true
is_low Starting = true
is_low Closed = true
is_low Stopped = true
is_low Closing = true
is_low Stopping = true
is_low s = false

-- The other end `f` hasn't taken in the newest request of `e`, or no negotiation of `e` is under way.
abbrev pub Away : End → End → Type 0
Away e f = (f.got < e.n) ⊎ (is_low e.auto.state ≡ true)

-- The end of the side hasn't been Opened since it left that state, and: the other end was outside Opened since then
-- (`out`), or it hasn't taken in the newest request, or no negotiation of the end is under way.
abbrev pub Waits : Type 0 → Side → Duet → Type 0
Waits out side d = out ⊎ Away (end_at side d) (end_beyond side d)
