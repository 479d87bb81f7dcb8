-- The numbers that two Opened ends don't have alike, and which end is favoured.
use Rattle.std.specs.Prelude.{◌≡◌, ℕ, Bool, false, not, Option, Some}
use Rattle.ppp_auto.specs.OptionTable.{Table}
use Rattle.ppp_bacp.specs.BacpTable.{favours}
use Rattle.ppp_bacp.specs.declared.bacp_table.TheConstants.{FAVORED_PEER}
use Rattle.ppp_duet.specs.Duet.{End}
use Rattle.ppp_duet.specs.EveryRun.{WhereOpened}
use Rattle.ppp_options.specs.Differs.{NumbersDiffer, HaveNumbers}
use Rattle.ppp_options.specs.Number.{number_in}

-- Wherever both ends are Opened, the numbers of that Type in their own lists differ, if both lists have one.
abbrev pub Difference : {V : Type 0} → (table : V → Table) (kind : ℕ) (a b : V) → Type 0
Difference table kind a b = WhereOpened table (λ d. NumbersDiffer kind d.a.auto.own d.b.auto.own) a b

-- Wherever both ends are Opened, both lists have one.
abbrev pub BothHaveNumbers : {V : Type 0} → (table : V → Table) (kind : ℕ) (a b : V) → Type 0
BothHaveNumbers table kind a b = WhereOpened table (λ d. HaveNumbers kind d.a.auto.own d.b.auto.own) a b

-- whether both numbers are there, and the first one's end is favoured
abbrev pub is_favoured : Option ℕ → Option ℕ → Bool
is_favoured (Some mine) (Some theirs) = favours mine theirs
is_favoured mine theirs = false

-- An end holds itself favoured where its own Favored-Peer number is below the one in the peer's list, which it
-- acknowledged (RFC 2125).
abbrev pub holds_favoured : End → Bool
holds_favoured e = is_favoured (number_in FAVORED_PEER e.auto.own) (number_in FAVORED_PEER e.auto.peer)

-- Wherever both ends are Opened, exactly one of them holds itself favoured.
abbrev pub OneFavoured : {V : Type 0} → (table : V → Table) (a b : V) → Type 0
OneFavoured table a b = WhereOpened table (λ d. holds_favoured d.a ≡ not (holds_favoured d.b)) a b
