-- What is kept of the octets since the last flag.
use Rattle.std.specs.Prelude.{ℕ, ◌==◌, ◌&&◌, ◌||◌, nat_lt, Bool, false, not, if◌then◌else◌, List, [], ◌++◌, length}
use Rattle.ppp_frame.specs.declared.why.Why.TheVariants.{Aborted, Oversize}
use Rattle.ppp_frame.specs.Escapes.{unstuffed, escaped_after}
use Rattle.ppp_frame.specs.Verdict.{Reader, Verdict, Discarded, verdict_of}

-- the octets behind the escapes, none once the limit is passed; that it is passed; and that the last octet was an escape
pub record Standing : Type 0 where
  pub plain : List ℕ
  pub past : Bool
  pub escaped : Bool

-- after a flag
abbrev pub fresh : Standing
fresh = record { plain = []; past = false; escaped = false }

abbrev pub is_fresh : Standing → Bool
is_fresh s = length s.plain == 0 && not s.past && not s.escaped

abbrev pub joined : Standing → List ℕ → List ℕ
joined s run = s.plain ++ unstuffed s.escaped run

abbrev pub passes : ℕ → Standing → List ℕ → Bool
passes limit s run = s.past || nat_lt limit (length (joined s run))

-- after more octets, none of them a flag
unfoldable pub after : ℕ → Standing → List ℕ → Standing
after limit s run = record {
  plain = if passes limit s run then [] else joined s run;
  past = passes limit s run;
  escaped = escaped_after s.escaped run;
}

-- after these octets since the last flag
abbrev pub standing_of : ℕ → List ℕ → Standing
standing_of limit run = after limit fresh run

-- what the octets are if a flag ends them
abbrev pub verdict_at : Reader → Standing → Verdict
verdict_at r s =
    if s.escaped then Discarded Aborted
    else if s.past then Discarded Oversize
    else verdict_of r.ac r.pf s.plain
