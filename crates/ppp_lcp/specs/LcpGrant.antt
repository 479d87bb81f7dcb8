-- What a list of LCP's options grants (RFC 1661 section 6): of each Type the first option with its right Length.
use Rattle.std.specs.Prelude.{ℕ, Bool, ◌&&◌, ◌==◌, if◌then◌else◌, List, [], ◌∷◌, take, Option, Some, None, is_some}
use Rattle.std.specs.Option.{option_map}
use Rattle.ppp_packet.specs.ConfigOption.{ConfigOption}
use Rattle.ppp_packet.specs.declared.disc.Disc.{Disc}
use Rattle.ppp_options.specs.Number.{number, body_of}
use Rattle.ppp_lcp.specs.LcpKind.{kind_number}
use Rattle.ppp_lcp.specs.LcpRanges.{is_disc_body}
use Rattle.ppp_lcp.specs.declared.lcp_kind.LcpKind.{LcpKind}
use Rattle.ppp_lcp.specs.declared.lcp_kind.LcpKind.TheVariants as kind
use Rattle.ppp_lcp.specs.declared.lcp_table.TheConstants.{FORM_OCTETS, SHORT_CODE}

-- a granted number of that many octets, if there is one
abbrev pub granted : LcpKind → ℕ → List ConfigOption → Option ℕ
granted k size list = option_map number (body_of (kind_number k) size list)

-- whether an option without a body is there
abbrev pub is_granted : LcpKind → List ConfigOption → Bool
is_granted k list = is_some (body_of (kind_number k) 0 list)

-- the granted form of the multilink header: its code and its count of classes
abbrev pub form_in : Option (List ℕ) → Option (ℕ × ℕ)
form_in (Some (code ∷ count ∷ [])) = Some (code, count)
form_in body = None

abbrev pub granted_form : List ConfigOption → Option (ℕ × ℕ)
granted_form list = form_in (body_of (kind_number kind.Classes) FORM_OCTETS list)

-- Headers are short where the form's code says so, or without a form where option 18 is there.
abbrev pub is_short_by : Option (ℕ × ℕ) → Bool → Bool
is_short_by None flag = flag
is_short_by (Some form) flag = form.0 == SHORT_CODE

abbrev pub is_short : List ConfigOption → Bool
is_short list = is_short_by (granted_form list) (is_granted kind.Short list)

abbrev pub count_by : Option (ℕ × ℕ) → ℕ
count_by None = 0
count_by (Some form) = form.1

-- the first endpoint discriminator that has a class and an address of its length, else the null one
abbrev pub granted_disc : List ConfigOption → List ℕ
granted_disc [] = 0 ∷ []
granted_disc (o ∷ os) = if (o.kind == kind_number kind.Disc) && is_disc_body o.body then o.body else granted_disc os

-- a discriminator as the body of its option
abbrev pub disc_seen : Disc → List ℕ
disc_seen d = d.class ∷ take d.size d.address
