-- The printed table of settings.
use Rattle.std.specs.Prelude.{List, [], ◌∷◌, codes, Some}
use Rattle.toml.specs.Data.{Members, no_members, table}
use Rattle.ppp_conf.specs.Config.{Settings}
use Rattle.ppp_conf.specs.EndTable.{end_table, number_field}
use Rattle.ppp_conf.specs.Fields.{Field, put_all}

abbrev pub top_fields : Settings → List Field
top_fields s =
    number_field (codes "version") 2
    ∷ number_field (codes "links") s.links
    ∷ (codes "a", Some (table (end_table s.a)))
    ∷ (codes "b", Some (table (end_table s.b)))
    ∷ []

abbrev pub top_table : Settings → Members
top_table s = put_all (top_fields s) no_members
