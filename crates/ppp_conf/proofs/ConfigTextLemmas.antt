-- The printed table of settings reads as the settings.
use Rattle.std.proofs.Common.{◌≡◌, ℕ, ◌≤◌, pos, List, [], codes, Some, None, Ok, refl, ◌∙◌, arith, lit≤}
use Rattle.std.specs.Prelude.{IsUtf8}
use Rattle.toml.specs.Parse.{parse_document}
use Rattle.toml.specs.Data.{Members, no_members, get_member, integer, table, members_depth}
use Rattle.ppp_conf.specs.declared.config.Config.{Config}
use Rattle.ppp_conf.specs.declared.unknown.Level.TheVariants.{Top, End}
use Rattle.ppp_conf.specs.Config.{config_of, settings_of, config_seen, toml_of}
use Rattle.ppp_conf.specs.ConfigText.{top_fields, top_table}
use Rattle.ppp_conf.specs.EndConfig.{EndSettings, end_of, end_seen}
use Rattle.ppp_conf.specs.EndTable.{end_table}
use Rattle.ppp_conf.specs.Keys.{Given}
use Rattle.ppp_conf.specs.Unknown.{knows, least_unknown}
use Rattle.ppp_conf.proofs.ConfigLemmas.{config_of-toml, settings_of-both, toml_of-some}
use Rattle.ppp_conf.proofs.EndTableLemmas.{back_whole, end_of-table, known-table, depth-table}
use Rattle.ppp_conf.proofs.FieldsLemmas.{get-all, known-all, none_unknown, depth-all}

-- a document whose members hold two ends
composed : (top : Given) (links : ℕ) (of_a of_b : Members) (a b : EndSettings) →
    get_member (codes "version") top.members ≡ Some (integer (pos 2)) → least_unknown [] (knows Top) top.members ≡ None →
    get_member (codes "links") top.members ≡ Some (integer (pos links)) → (1 ≤ links) × (links ≤ 16) →
    get_member (codes "a") top.members ≡ Some (table of_a) → get_member (codes "b") top.members ≡ Some (table of_b) →
    least_unknown (codes "a.") (knows (End 2)) of_a ≡ None → least_unknown (codes "b.") (knows (End 2)) of_b ≡ None →
    end_of links (record { prefix = codes "a."; members = of_a }) ≡ Ok (Ok a) → end_of links (record { prefix = codes "b."; members = of_b }) ≡ Ok (Ok b) →
    settings_of top ≡ Ok (record { links = links; a = a; b = b })
composed top links of_a of_b a b version top_known got_links within got_a got_b a_known b_known is_a is_b =
    settings_of-both top 2 links (rw version refl) (rw (top_known, got_a, got_b, a_known, b_known) refl) (back_whole top (codes "links") 1 16 1 links got_links within)
    ∙ rw (got_a, got_b, is_a, is_b) refl

-- settings that are printed read back
pub settings_of-table : (c : Config) → settings_of (record { prefix = []; members = top_table (config_seen c) }) ≡ Ok (config_seen c)
settings_of-table c =
    composed (record { prefix = []; members = top_table (config_seen c) }) c.links (end_table (end_seen c.a)) (end_table (end_seen c.b)) (end_seen c.a) (end_seen c.b)
    (get-all (codes "version") (top_fields (config_seen c)) no_members)
    (none_unknown (knows Top) [] (top_table (config_seen c)) (known-all (knows Top) (top_fields (config_seen c)) no_members refl refl))
    (get-all (codes "links") (top_fields (config_seen c)) no_members) (rw (← c.a_links) c.a.links_within)
    (get-all (codes "a") (top_fields (config_seen c)) no_members) (get-all (codes "b") (top_fields (config_seen c)) no_members)
    (known-table (codes "a.") (end_seen c.a)) (known-table (codes "b.") (end_seen c.b))
    (end_of-table c.links (codes "a.") c.a c.a_links) (end_of-table c.links (codes "b.") c.b c.b_links)

-- tables within tables, and arrays in these
pub depth-top : (c : Config) → members_depth (top_table (config_seen c)) ≤ 2
depth-top c =
    let a : members_depth (end_table (end_seen c.a)) ≤ 1 = depth-table (end_seen c.a) in
    let b : members_depth (end_table (end_seen c.b)) ≤ 1 = depth-table (end_seen c.b) in
    depth-all 2 (top_fields (config_seen c)) no_members (lit≤ tt, (lit≤ tt, (omega arith, (omega arith, tt)))) (lit≤ tt)

-- a text that parses as the printed table is that document
pub toml_of-printed : (c : Config) (text : List ℕ) (printed : Members) → printed ≡ top_table (config_seen c) → IsUtf8 text → (members_depth printed ≤ 80 → parse_document text ≡ Some printed) →
    toml_of text ≡ Some (top_table (config_seen c))
toml_of-printed c text printed is utf8 reads =
    let depth : members_depth (top_table (config_seen c)) ≤ 2 = depth-top c in
    let shallow : members_depth printed ≤ 80 = rw is (omega arith) in
    toml_of-some text printed utf8 (reads shallow) ∙ rw is refl

-- a text that is the printed document reads as the settings
pub config_of-printed : (c : Config) (text : List ℕ) → toml_of text ≡ Some (top_table (config_seen c)) → config_of text ≡ Ok (config_seen c)
config_of-printed c text is = config_of-toml text (top_table (config_seen c)) is ∙ settings_of-table c
