-- How far an end has counted its requests.
use Rattle.std.specs.Prelude.{ℕ, ◌≤◌, List}
use Rattle.std.specs.List.{AllByRecursion}
use Rattle.ppp_packet.specs.declared.proto.Proto.{Proto}
use Rattle.ppp_party.specs.Ledger.{Ledgers, ledger_at}
use Rattle.ppp_party.specs.Party.{Party}

-- each ordinal of the ledgers of a link, of some links, or of an end, is at most that
abbrev pub IsCounted : ℕ → Ledgers → Type 0
IsCounted most gs = (p : Proto) → (ledger_at gs p).n ≤ most

abbrev pub AllCounted : ℕ → List Ledgers → Type 0
AllCounted most gss = AllByRecursion (λ gs. IsCounted most gs) gss

pub record AreCounted (most : ℕ) (e : Party) : Type 0 where
  pub ledgers : AllCounted most e.ledgers
  pub calls : e.calls.drawn ≤ most
