-- What is so of two ends in every run.
use Rattle.std.specs.Prelude.{◌≡◌, ℕ, List}
use Rattle.ppp_auto.specs.declared.auto_state.AutoState.TheVariants.{Opened}
use Rattle.ppp_auto.specs.OptionTable.{Table}
use Rattle.ppp_duet.specs.Duet.{Duet, Event, Setup, run, start}
use Rattle.ppp_duet.specs.NarrowRun.{IsNarrowRun}

-- Whatever happens, and whatever the first Identifiers: that is so of the two ends, for two values `a` and `b` of what
-- answers the tables.
abbrev pub InEveryRun : {V : Type 0} → (table : V → Table) (fact : Duet → Type 0) (a b : V) → Type 0
InEveryRun table fact a b =
    (first_a first_b : ℕ) (es : List Event) →
    let sa : Setup = record { table = table a; first = first_a } in
    let sb : Setup = record { table = table b; first = first_b } in
    fact (run sa sb es (start sa sb))

-- The same of two Opened ends, where each state so far is narrow.
abbrev pub WhereOpened : {V : Type 0} → (table : V → Table) (fact : Duet → Type 0) (a b : V) → Type 0
WhereOpened table fact a b =
    (first_a first_b : ℕ) (es : List Event) →
    let sa : Setup = record { table = table a; first = first_a } in
    let sb : Setup = record { table = table b; first = first_b } in
    IsNarrowRun sa sb es (start sa sb) →
    (run sa sb es (start sa sb)).a.auto.state ≡ Opened →
    (run sa sb es (start sa sb)).b.auto.state ≡ Opened →
    fact (run sa sb es (start sa sb))
