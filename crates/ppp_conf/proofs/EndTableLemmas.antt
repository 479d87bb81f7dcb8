-- The printed table of an end reads as the end: one lemma a kind of key, and then one line a key.
use Rattle.std.proofs.Common.{◌≡◌, ℕ, ◌<◌, ◌≤◌, pos, Bool, true, false, List, [], ◌∷◌, length, take, codes, Option, Some, None, Ok, refl, ap, ◌∙◌, arith, le-leb, leb-true, lit≤, lit<, zero, suc}
use Rattle.std.specs.Prelude.{is_some, nat_le, slice_index}
use Rattle.std.proofs.lemmas.Bool.{and_parts}
use Rattle.std.proofs.lemmas.List.{length-take-le}
use Rattle.toml.specs.Data.{Data, no_members, get_member, integer, boolean, string, array, members_depth, items_depth}
use Rattle.ppp_packet.specs.declared.disc.Disc.{Disc}
use Rattle.ppp_packet.specs.DiscClass.{is_good_disc}
use Rattle.ppp_conf.specs.declared.end_config.EndConfig.{EndConfig}
use Rattle.ppp_conf.specs.declared.unknown.Level.TheVariants.{End}
use Rattle.ppp_conf.specs.DiscText.{disc_of, disc_seen}
use Rattle.ppp_conf.specs.Dotted.{dotted_of, given_of}
use Rattle.ppp_conf.specs.EndConfig.{EndSettings, by_rule, end_of, end_seen}
use Rattle.ppp_conf.specs.EndTable.{conduct_fields, disc_text, dotted_text, dotted_there, end_table, ifid_text, lcp_fields, network_fields, protocol_items}
use Rattle.ppp_conf.specs.Fields.{number_there, put_all}
use Rattle.ppp_conf.specs.Form.{whole, zero_or, is_zero_or, alignment, is_alignment, truth, text_of, names, there}
use Rattle.ppp_conf.specs.HexText.{ifid_of}
use Rattle.ppp_conf.specs.Keys.{Given, key}
use Rattle.ppp_conf.specs.Protocols.{no_protocols}
use Rattle.ppp_conf.specs.Rules.{all_within, broken}
use Rattle.ppp_conf.specs.SocketText.{is_socket, socket_of}
use Rattle.ppp_conf.specs.Unknown.{knows, least_unknown}
use Rattle.ppp_conf.proofs.EndConfigLemmas.{end_of-read}
use Rattle.ppp_conf.proofs.FieldsLemmas.{or_else, found, get-all, known-all, none_unknown, depth-all, value_depth}
use Rattle.ppp_conf.proofs.TextLemmas.{dotted_of-text, given_of-text, ifid_of-text, ifid_of-none, disc_of-text, with_names-items, protocol_items-flat}

pub back_whole : (given : Given) (name : List ℕ) (least most default n : ℕ) → get_member name given.members ≡ Some (integer (pos n)) → (least ≤ n) × (n ≤ most) →
    key given name (whole least most) default ≡ Ok n
back_whole given name least most default n got within = rw (got, le-leb least n within.0, le-leb n most within.1) refl

back_up_to : (given : Given) (name : List ℕ) (most default n : ℕ) → get_member name given.members ≡ Some (integer (pos n)) → n ≤ most → key given name (whole 0 most) default ≡ Ok n
back_up_to given name most default n got within = back_whole given name 0 most default n got (omega arith, within)

back_zero_or : (given : Given) (name : List ℕ) (least most n : ℕ) → get_member name given.members ≡ Some (integer (pos n)) → is_zero_or least most n ≡ true →
    key given name (zero_or least most) 0 ≡ Ok n
back_zero_or given name least most n got within = rw (got, within) refl

back_alignment : (given : Given) (name : List ℕ) (n : ℕ) → get_member name given.members ≡ Some (integer (pos n)) → is_alignment n ≡ true → key given name alignment 0 ≡ Ok n
back_alignment given name n got form = rw (got, form) refl

back_truth : (given : Given) (name : List ℕ) (default value : Bool) → get_member name given.members ≡ Some (boolean value) → key given name truth default ≡ Ok value
back_truth given name default value got = rw got refl

back_there : (given : Given) (name : List ℕ) (least most : ℕ) (n : Option ℕ) → get_member name given.members ≡ or_else (number_there n) None → all_within least most n ≡ true →
    key given name (λ value. there (whole least most value)) None ≡ Ok n
back_there given name least most None got within = rw got refl
back_there given name least most (Some n) got within = rw (got, within) refl

back_text : {A : Type 0} (given : Given) (name : List ℕ) (read : List ℕ → Option A) (text : List ℕ) (default value : A) → get_member name given.members ≡ Some (string text) →
    read text ≡ Some value → key given name (text_of read) default ≡ Ok value
back_text given name read text default value got reads = rw (got, reads) refl

back_given : (given : Given) (name : List ℕ) (n : Option ℕ) → get_member name given.members ≡ or_else (dotted_there n) None → all_within 1 4294967295 n ≡ true →
    key given name (λ value. there (text_of given_of value)) None ≡ Ok n
back_given given name None got within = rw got refl
back_given given name (Some n) got within =
    let (low, high) = and_parts (nat_le 1 n) (nat_le n 4294967295) within in
    rw (got, given_of-text n (leb-true 1 n low) (leb-true n 4294967295 high)) refl

back_ifid : (given : Given) (name : List ℕ) (n : Option ℕ) → get_member name given.members ≡ Some (string (ifid_text n)) → all_within 0 18446744073709551615 n ≡ true →
    key given name (text_of ifid_of) (Some 0) ≡ Ok n
back_ifid given name None got within = rw (got, ifid_of-none) refl
back_ifid given name (Some n) got within =
    let (low, high) = and_parts (nat_le 0 n) (nat_le n 18446744073709551615) within in
    rw (got, ifid_of-text n (leb-true n 18446744073709551615 high)) refl

take_within : (n : ℕ) (octets : List ℕ) → ((i : ℕ) → slice_index octets i < 256) → (i : ℕ) → slice_index (take n octets) i < 256
take_within zero octets within i = lit< tt
take_within (suc n) [] within i = lit< tt
take_within (suc n) (octet ∷ octets) within zero = within 0
take_within (suc n) (octet ∷ octets) within (suc i) = take_within n octets (λ k. within (suc k)) i

back_disc : (given : Given) (name : List ℕ) (disc : Disc) → get_member name given.members ≡ Some (string (disc_text (disc_seen disc))) → is_good_disc disc.class disc.size ≡ true →
    ((i : ℕ) → slice_index disc.address i < 256) → key given name (text_of disc_of) (0, []) ≡ Ok (disc_seen disc)
back_disc given name disc got good octets =
    let size : length (take disc.size disc.address) ≡ disc.size = length-take-le disc.size disc.address (omega (arith, disc.is_address.within, disc.is_address.whole)) in
    back_text given name disc_of (disc_text (disc_seen disc)) (0, []) (disc_seen disc) got
    (disc_of-text disc.class (take disc.size disc.address) (rw size good) (take_within disc.size disc.address octets))

back_names : (given : Given) (name : List ℕ) (protocols : List Bool) → get_member name given.members ≡ Some (array (protocol_items protocols)) → length protocols ≡ 4 →
    key given name names no_protocols ≡ Ok protocols
back_names given name protocols got four = rw (got, with_names-items protocols four) refl

socket_of-same : (text : List ℕ) → is_socket text ≡ true → socket_of text ≡ Some text
socket_of-same text form = rw form refl

none_from : (first : Option (List ℕ)) → is_some first ≡ false → first ≡ None
none_from None none = refl
none_from (Some name) none = cc none

-- what the printed table of an end holds at a key
abbrev held : EndSettings → List ℕ → Option Data
held s name = found name (conduct_fields s) (found name (network_fields s) (found name (lcp_fields s) None))

held-table : (s : EndSettings) (name : List ℕ) → get_member name (end_table s) ≡ held s name
held-table s name = rw (get-all name (conduct_fields s), get-all name (network_fields s), get-all name (lcp_fields s)) refl

read_back : (given : Given) (c : EndConfig) → ((name : List ℕ) → get_member name given.members ≡ held (end_seen c) name) →
    end_of c.links given ≡ Ok (by_rule given.prefix (end_seen c) (broken c.short c.classes c.most c.least c.bap c.mrru c.favored c.link_disc))
read_back given c got =
    end_of-read c.links given c.mru c.accm c.magic c.pfc c.acfc c.mrru c.short c.classes (disc_seen c.disc) c.link_disc c.favored c.bap c.protocols c.ip c.give c.ifid c.align c.fragment c.most c.least c.calls c.callbacks c.speed c.max_speed c.socket c.listen
    (back_whole given (codes "mru") 128 8192 1500 c.mru (got (codes "mru")) c.mru_within)
    (back_up_to given (codes "accm") 4294967295 4294967295 c.accm (got (codes "accm")) c.accm_within)
    (back_truth given (codes "magic") true c.magic (got (codes "magic")))
    (back_truth given (codes "pfc") false c.pfc (got (codes "pfc")))
    (back_truth given (codes "acfc") false c.acfc (got (codes "acfc")))
    (back_zero_or given (codes "mrru") 1500 8192 c.mrru (got (codes "mrru")) c.mrru_within)
    (back_truth given (codes "short") false c.short (got (codes "short")))
    (back_up_to given (codes "classes") 16 0 c.classes (got (codes "classes")) c.classes_within)
    (back_disc given (codes "disc") c.disc (got (codes "disc")) c.disc_good c.disc_octets)
    (back_there given (codes "link_disc") 0 65520 c.link_disc (got (codes "link_disc")) c.link_disc_within)
    (back_there given (codes "favored") 1 4294967295 c.favored (got (codes "favored")) c.favored_within)
    (back_truth given (codes "bap") false c.bap (got (codes "bap")))
    (back_names given (codes "protocols") c.protocols (got (codes "protocols")) c.protocols_four)
    (back_text given (codes "ip") dotted_of (dotted_text c.ip) 0 c.ip (got (codes "ip")) (dotted_of-text c.ip c.ip_within))
    (back_given given (codes "give") c.give (got (codes "give")) c.give_within)
    (back_ifid given (codes "ifid") c.ifid (got (codes "ifid")) c.ifid_within)
    (back_alignment given (codes "align") c.align (got (codes "align")) c.align_form)
    (back_whole given (codes "fragment") 64 8192 1400 c.fragment (got (codes "fragment")) c.fragment_within)
    (back_whole given (codes "most") 1 16 16 c.most (got (codes "most")) c.most_within)
    (back_whole given (codes "least") 1 16 1 c.least (got (codes "least")) c.least_within)
    (back_truth given (codes "calls") true c.calls (got (codes "calls")))
    (back_truth given (codes "callbacks") true c.callbacks (got (codes "callbacks")))
    (back_up_to given (codes "speed") 65535 64 c.speed (got (codes "speed")) c.speed_within)
    (back_up_to given (codes "max_speed") 65535 65535 c.max_speed (got (codes "max_speed")) c.max_speed_within)
    (back_text given (codes "socket") socket_of c.socket (codes "ppp") c.socket (got (codes "socket")) (socket_of-same c.socket c.socket_form))
    (back_truth given (codes "listen") false c.listen (got (codes "listen")))

-- an end's printed table, read with its number of links, is the end
pub end_of-table : (links : ℕ) (prefix : List ℕ) (c : EndConfig) → c.links ≡ links → end_of links (record { prefix = prefix; members = end_table (end_seen c) }) ≡ Ok (Ok (end_seen c))
end_of-table links prefix c same =
    rw (← same) (read_back (record { prefix = prefix; members = end_table (end_seen c) }) c (held-table (end_seen c))
    ∙ ap (λ first. Ok (by_rule prefix (end_seen c) first)) (none_from (broken c.short c.classes c.most c.least c.bap c.mrru c.favored c.link_disc) c.rules))

-- each of its keys is known in version 2
pub known-table : (prefix : List ℕ) (s : EndSettings) → least_unknown prefix (knows (End 2)) (end_table s) ≡ None
known-table prefix s =
    none_unknown (knows (End 2)) prefix (end_table s)
    (known-all (knows (End 2)) (conduct_fields s) (put_all (network_fields s) (put_all (lcp_fields s) no_members)) refl
    (known-all (knows (End 2)) (network_fields s) (put_all (lcp_fields s) no_members) refl (known-all (knows (End 2)) (lcp_fields s) no_members refl refl)))

number_flat : (n : Option ℕ) → value_depth (number_there n) ≤ 1
number_flat None = lit≤ tt
number_flat (Some n) = lit≤ tt

dotted_flat : (n : Option ℕ) → value_depth (dotted_there n) ≤ 1
dotted_flat None = lit≤ tt
dotted_flat (Some n) = lit≤ tt

names_flat : (protocols : List Bool) → suc (items_depth (protocol_items protocols)) ≤ 1
names_flat protocols = rw (protocol_items-flat protocols) (lit≤ tt)

-- it has no table in it, and one array
pub depth-table : (s : EndSettings) → members_depth (end_table s) ≤ 1
depth-table s =
    depth-all 1 (conduct_fields s) (put_all (network_fields s) (put_all (lcp_fields s) no_members)) (lit≤ tt, (lit≤ tt, (lit≤ tt, (lit≤ tt, (lit≤ tt, (lit≤ tt, (lit≤ tt, (lit≤ tt, (lit≤ tt, tt)))))))))
    (depth-all 1 (network_fields s) (put_all (lcp_fields s) no_members) (number_flat s.link_disc, (number_flat s.favored, (lit≤ tt, (names_flat s.protocols, (lit≤ tt, (dotted_flat s.give, (lit≤ tt, (lit≤ tt, tt))))))))
    (depth-all 1 (lcp_fields s) no_members (lit≤ tt, (lit≤ tt, (lit≤ tt, (lit≤ tt, (lit≤ tt, (lit≤ tt, (lit≤ tt, (lit≤ tt, (lit≤ tt, tt))))))))) (lit≤ tt)))
