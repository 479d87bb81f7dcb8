-- A table of options as its rows, in ascending Types: what it asks for, and what it makes of a peer's options.
use Rattle.std.specs.Prelude.{◌≡◌, ℕ, ◌+◌, ◌≤◌, Bool, true, false, not, ◌&&◌, ◌||◌, ◌==◌, nat_lt, if◌then◌else◌, List, [], ◌∷◌, ◌++◌, length, map, Option, Some, None, IsTrue}
use Rattle.std.specs.List.{filter, filter_map, list_all}
use Rattle.std.specs.Option.{option_map}
use Rattle.ppp_packet.specs.ConfigOption.{ConfigOption}
use Rattle.ppp_packet.specs.Options.{option_with, find_kind}
use Rattle.ppp_packet.specs.declared.opt_list.TheConstants.{MOST_LIST}
use Rattle.ppp_auto.specs.OptionTable.{Table}
use Rattle.ppp_auto.specs.Reply.{has_kind}
use Rattle.ppp_auto.specs.declared.verdict.Verdict.{Verdict}
use Rattle.ppp_auto.specs.declared.verdict.Verdict.TheVariants.{Good, Bad, Unknown}
use Rattle.ppp_options.specs.Rule.{Rule, IsRule}

-- the row of a Type
abbrev pub rule_of : ℕ → List Rule → Option Rule
rule_of kind [] = None
rule_of kind (r ∷ rs) = if r.kind == kind then Some r else rule_of kind rs

-- what is asked for first: each row's option, in order
abbrev pub first_option : Rule → ℕ → Option ConfigOption
first_option r word = option_map (λ body. option_with r.kind body) (r.first word)

abbrev pub first_by : Option Rule → ℕ → Option ConfigOption
first_by None word = None
first_by (Some r) word = first_option r word

abbrev pub initial : List Rule → ℕ → List ConfigOption
initial rs word = filter_map (λ r. first_option r word) rs

-- What is thought of a peer's option (RFC 1661 sections 5.2 to 5.4): the row of its Type decides.
abbrev pub verdict : Rule → List ConfigOption → List ℕ → ℕ → Verdict
verdict r own body word =
    if not (r.is_known body) then Unknown
    else if r.is_good own body then Good
    else Bad (option_with r.kind (r.better own body word))

abbrev pub verdict_by : Option Rule → List ConfigOption → List ℕ → ℕ → Verdict
verdict_by None own body word = Unknown
verdict_by (Some r) own body word = verdict r own body word

abbrev pub judge : List Rule → List ConfigOption → ConfigOption → ℕ → Verdict
judge rs own o word = verdict_by (rule_of o.kind rs) own o.body word

-- the first required option that a peer's list lacks, with what is suggested for an empty body
abbrev pub missing : List Rule → List ConfigOption → List ConfigOption → ℕ → Option ConfigOption
missing [] own theirs word = None
missing (r ∷ rs) own theirs word =
    if r.required && not (has_kind r.kind theirs)
    then Some (option_with r.kind (r.better own [] word))
    else missing rs own theirs word

-- whether an own option may be asked for
abbrev pub is_sent_by : Option Rule → List ℕ → Bool
is_sent_by None body = false
is_sent_by (Some r) body = r.is_sent body

abbrev pub is_sent : List Rule → ConfigOption → Bool
is_sent rs o = is_sent_by (rule_of o.kind rs) o.body

-- What a Nak makes of an own option (RFC 1661 section 5.3): the first option of its Type counts.
abbrev pub after_by : Option Rule → List ℕ → List ℕ → ℕ → List ℕ
after_by None last nak word = last
after_by (Some r) last nak word = r.after last nak word

abbrev pub body_after : List Rule → Option (List ℕ) → ℕ → ConfigOption → List ℕ
body_after rs None word o = o.body
body_after rs (Some nak) word o = if is_sent rs o then after_by (rule_of o.kind rs) o.body nak word else o.body

abbrev pub option_after : List Rule → List ConfigOption → ℕ → ConfigOption → ConfigOption
option_after rs nak word o = option_with o.kind (body_after rs (find_kind o.kind nak) word o)

abbrev pub adapt_nak : List Rule → List ConfigOption → List ConfigOption → ℕ → List ConfigOption
adapt_nak rs last nak word = map (option_after rs nak word) last

-- A Reject takes the rejected kinds away (RFC 1661 section 5.4).
abbrev pub without : List ConfigOption → List ConfigOption → List ConfigOption
without last reject = filter (λ o. not (has_kind o.kind reject)) last

-- Where an option is required it changes nothing.
abbrev pub requires_any : List Rule → Bool
requires_any [] = false
requires_any (r ∷ rs) = r.required || requires_any rs

abbrev pub adapt_reject : List Rule → List ConfigOption → List ConfigOption → ℕ → List ConfigOption
adapt_reject rs last reject word = if requires_any rs then last else without last reject

-- A table by its rows. Whether codes 8 to 11 are known, and the own Magic-Number, are none of theirs.
abbrev pub table_by : Bool → List Rule → (List ConfigOption → ℕ) → Table
table_by extended rs magic = record {
  extended = extended;
  initial = initial rs;
  judge = judge rs;
  missing = missing rs;
  adapt_nak = adapt_nak rs;
  adapt_reject = adapt_reject rs;
  magic = magic;
}

-- each Type is above the one before
abbrev pub rises : ℕ → List ConfigOption → Bool
rises low [] = true
rises low (o ∷ os) = nat_lt low o.kind && rises o.kind os

abbrev pub has_required : List Rule → List ConfigOption → Bool
has_required [] list = true
has_required (r ∷ rs) list = (not r.required || has_kind r.kind list) && has_required rs list

-- The lists that may be asked for: ascending Types, each option one that may be asked for, and none is missing.
abbrev pub is_sendable : List Rule → List ConfigOption → Bool
is_sendable rs list = rises 0 list && list_all (is_sent rs) list && has_required rs list

abbrev pub Sendable : List Rule → List ConfigOption → Type 0
Sendable rs list = IsTrue (is_sendable rs list)

-- the options that a table never accepts
abbrev pub is_known_by : Option Rule → List ℕ → Bool
is_known_by None body = false
is_known_by (Some r) body = r.is_known body

abbrev pub is_known : List Rule → ConfigOption → Bool
is_known rs o = is_known_by (rule_of o.kind rs) o.body

abbrev pub IsUnknown : List Rule → ConfigOption → Type 0
IsUnknown rs o = is_known rs o ≡ false

-- whether an option of a peer's is acceptable against an own list
abbrev pub is_fine_by : Option Rule → List ConfigOption → List ℕ → Bool
is_fine_by None own body = false
is_fine_by (Some r) own body = r.is_known body && r.is_good own body

abbrev pub is_fine : List Rule → List ConfigOption → ConfigOption → Bool
is_fine rs own o = is_fine_by (rule_of o.kind rs) own o.body

abbrev pub all_fine : List Rule → List ConfigOption → List ConfigOption → List ConfigOption → Bool
all_fine rs own earlier [] = true
all_fine rs own earlier (o ∷ os) =
    is_fine rs own o && not (has_kind o.kind earlier) && all_fine rs own (earlier ++ o ∷ []) os

-- A peer's list is allowed: each option is acceptable, no Type stands twice, and nothing is missing.
abbrev pub is_allowed : List Rule → List ConfigOption → List ConfigOption → Bool
is_allowed rs own theirs = all_fine rs own [] theirs && has_required rs theirs

abbrev pub Allows : List Rule → List ConfigOption → List ConfigOption → Type 0
Allows rs own theirs = IsTrue (is_allowed rs own theirs)

-- What every own list keeps: each option is one that the settings give.
abbrev pub is_set_by : Option Rule → List ℕ → Bool
is_set_by None body = false
is_set_by (Some r) body = r.is_set body

abbrev pub is_set : List Rule → ConfigOption → Bool
is_set rs o = is_set_by (rule_of o.kind rs) o.body

abbrev pub is_asked : List Rule → List ConfigOption → Bool
is_asked rs list = is_sendable rs list && list_all (is_set rs) list

abbrev pub IsAsked : List Rule → List ConfigOption → Type 0
IsAsked rs list = IsTrue (is_asked rs list)

-- What rows owe together: their Types ascend, each owes its own, and a list of them all fits.
abbrev pub are_ascending : ℕ → List Rule → Bool
are_ascending low [] = true
are_ascending low (r ∷ rs) = nat_lt low r.kind && are_ascending r.kind rs

abbrev pub AreRules : List Rule → Type 0
AreRules [] = Unit {0}
AreRules (r ∷ rs) = IsRule r × AreRules rs

abbrev pub octets_of : List Rule → ℕ
octets_of [] = 0
octets_of (r ∷ rs) = r.most + octets_of rs

pub record IsTable (rs : List Rule) : Type 0 where
  pub ascending : are_ascending 0 rs ≡ true
  pub each : AreRules rs
  pub fits : octets_of rs ≤ MOST_LIST
  pub few : length rs ≤ 16
