-- The Types of LCP's options: their numbers.
use Rattle.std.specs.Prelude.{ℕ, ◌==◌, if◌then◌else◌, Option, Some, None, Result}
use Rattle.std.specs.Option.{ok_or}
use Rattle.ppp_lcp.specs.declared.lcp_kind.LcpKind.{LcpKind}
use Rattle.ppp_lcp.specs.declared.lcp_kind.LcpKind.TheVariants.{Mru, Accm, Magic, Pfc, Acfc, Mrru, Short, Disc, LinkDisc, Classes}
use Rattle.ppp_lcp.specs.declared.lcp_kind.UnknownKind.{UnknownKind}

abbrev pub kind_number : LcpKind → ℕ
kind_number Mru = 1
kind_number Accm = 2
kind_number Magic = 5
kind_number Pfc = 7
kind_number Acfc = 8
kind_number Mrru = 17
kind_number Short = 18
kind_number Disc = 19
kind_number LinkDisc = 23
kind_number Classes = 27

-- the Type of a number: None where it is none of these
abbrev pub kind_of : ℕ → Option LcpKind
kind_of n =
    if kind_number Mru == n then Some Mru
    else if kind_number Accm == n then Some Accm
    else if kind_number Magic == n then Some Magic
    else if kind_number Pfc == n then Some Pfc
    else if kind_number Acfc == n then Some Acfc
    else if kind_number Mrru == n then Some Mrru
    else if kind_number Short == n then Some Short
    else if kind_number Disc == n then Some Disc
    else if kind_number LinkDisc == n then Some LinkDisc
    else if kind_number Classes == n then Some Classes
    else None

-- what reading a number as a Type answers
abbrev pub read_kind : ℕ → Result LcpKind UnknownKind
read_kind n = ok_or (kind_of n) (record { 0 = n })
