-- Settings: both ends, and what a text reads as.
use Rattle.std.specs.Prelude.{ℕ, if◌then◌else◌, List, [], codes, Option, Some, None, Result, Ok}
use Rattle.std.specs.Str.{is_utf8}
use Rattle.toml.specs.Data.{Members, no_members}
use Rattle.toml.specs.Parse.{parse_document}
use Rattle.ppp_conf.specs.declared.conf_why.ConfWhy.TheVariants.{Toml, Unknown}
use Rattle.ppp_conf.specs.declared.config.Config.{Config}
use Rattle.ppp_conf.specs.EndConfig.{EndSettings, end_of, end_seen}
use Rattle.ppp_conf.specs.Form.{whole, table}
use Rattle.ppp_conf.specs.Keys.{Given, key, required}
use Rattle.ppp_conf.specs.Refusal.{Refusal, refuse}
use Rattle.ppp_conf.specs.Results.{◌>>=◌}
use Rattle.ppp_conf.specs.Unknown.{unknown_of}

pub record Settings : Type 0 where
  pub links : ℕ
  pub a : EndSettings
  pub b : EndSettings

-- settings as the definitions have them
abbrev pub config_seen : Config → Settings
config_seen c = record { links = c.links; a = end_seen c.a; b = end_seen c.b }

abbrev pub all_known : Option (List ℕ) → Result Unit Refusal
all_known None = Ok tt
all_known (Some path) = refuse path Unknown

-- the keys of an end, in the table of its name, which may be missing
abbrev pub end_at : ℕ → List ℕ → List ℕ → Given → Result (Result EndSettings Refusal) Refusal
end_at links name prefix top = do
  members ← key top name table no_members
  end_of links (record { prefix = prefix; members = members })

-- The settings of a document, or its first refusal: the version, the unknown keys, `links`, the keys of a, the keys of
-- b, the rules of a, the rules of b.
abbrev pub settings_of : Given → Result Settings Refusal
settings_of top = do
  version ← required top (codes "version") (whole 1 2)
  known ← all_known (unknown_of version top.members)
  links ← key top (codes "links") (whole 1 16) 1
  a_read ← end_at links (codes "a") (codes "a.") top
  b_read ← end_at links (codes "b") (codes "b.") top
  a ← a_read
  b ← b_read
  Ok (record { links = links; a = a; b = b })

-- the document that a text is, where it is TOML
abbrev pub toml_of : List ℕ → Option Members
toml_of text = if is_utf8 text then parse_document text else None

abbrev pub document_of : Option Members → Result Settings Refusal
document_of (Some top) = settings_of (record { prefix = []; members = top })
document_of None = refuse (codes "-") Toml

-- the settings that a text reads as, or its first refusal
unfoldable pub config_of : List ℕ → Result Settings Refusal
config_of text = document_of (toml_of text)
