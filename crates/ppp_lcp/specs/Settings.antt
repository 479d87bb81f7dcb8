-- What every list that an end asks for has in common: it keeps to the end's settings.
use Rattle.std.specs.Prelude.{◌≡◌, ℕ, ◌≤◌, true, false, ◌==◌, List, Some}
use Rattle.std.specs.Option.{option_map}
use Rattle.ppp_packet.specs.ConfigOption.{ConfigOption}
use Rattle.ppp_packet.specs.Options.{find_kind}
use Rattle.ppp_packet.specs.Packet.{two_octets}
use Rattle.ppp_options.specs.Number.{number}
use Rattle.ppp_lcp.specs.LcpKind.{kind_number}
use Rattle.ppp_lcp.specs.LcpTable.{is_multilink, asks_short, disc_body, has_classes, is_own_form}
use Rattle.ppp_lcp.specs.declared.lcp_kind.LcpKind.TheVariants.{Pfc, Acfc, Mrru, Short, Disc, LinkDisc, Classes}
use Rattle.ppp_lcp.specs.declared.lcp_kind.LcpKind.{LcpKind}
use Rattle.ppp_lcp.specs.LcpSettings.{LcpSettings}

-- the list has that option with that body
abbrev pub Has : LcpKind → List ℕ → List ConfigOption → Type 0
Has kind body list = find_kind (kind_number kind) list ≡ Some body

-- The options 7, 8, 18, 19 and 23 that are there are the settings' own. 17 and 27 are there only where the settings
-- have them, at most their values, with the settings' code.
pub record KeepsSettings (s : LcpSettings) (list : List ConfigOption) : Type 0 where
  pub pfc : (body : List ℕ) → Has Pfc body list → s.pfc ≡ true
  pub acfc : (body : List ℕ) → Has Acfc body list → s.acfc ≡ true
  pub mrru : (body : List ℕ) → Has Mrru body list → (is_multilink s ≡ true) × (number body ≤ s.mrru)
  pub short : (body : List ℕ) → Has Short body list → asks_short s ≡ true
  pub disc : (body : List ℕ) → Has Disc body list → ((s.disc.0 == 0) ≡ false) × (body ≡ disc_body s)
  pub link_disc : (body : List ℕ) → Has LinkDisc body list → option_map two_octets s.link_disc ≡ Some body
  pub classes : (body : List ℕ) → Has Classes body list → (has_classes s ≡ true) × (is_own_form s body ≡ true)
