-- Facts on printed tables: what is found in them, that each key is known, and how deep they are.
use Rattle.std.proofs.Common.{◌≡◌, ℕ, ◌≤◌, Bool, true, false, cond, ◌&&◌, List, [], ◌∷◌, Option, Some, None, String, Global, Ordering, Less, Equal, Greater, string_bytes, nat_cmp, is_eq, refl, sym, ap, ◌∙◌, arith}
use Rattle.std.specs.Prelude.{string_cmp}
use Rattle.std.specs.BTreeMap.{insert_entry}
use Rattle.std.specs.Cmp.Lexicographic.{slice_cmp}
use Rattle.std.specs.List.{list_all, AllByRecursion}
use Rattle.std.specs.Ordering.{match_ordering}
use Rattle.std.proofs.lemmas.Cmp.{nat_list_cmp_total, tied_itself}
use Rattle.std.proofs.lemmas.Bool.{and_parts}
use Rattle.std.proofs.lemmas.Map.Lookups.{exact_bytes}
use Rattle.toml.specs.Data.{Data, Members, no_members, member, get_member, same_key, depth, members_depth}
use Rattle.toml.specs.View.{view, members_view}
use Rattle.toml.specs.declared.value.Value.{Value}
use Rattle.toml.proofs.Views.{Entry}
use Rattle.ppp_conf.specs.Fields.{Field, put_member, put_value, put_all}
use Rattle.ppp_conf.specs.Unknown.{least_unknown}

-- An entry put into a map is a member put into its members.

insert-order : (order : Ordering) (name : String Global) (value : Value) (entry : Entry) (entries : List Entry) →
    members_view (insert_entry string_cmp entries name value) ≡ put_member (string_bytes name) (view value) (members_view entries) →
    members_view (match_ordering order ((name, value) ∷ entry ∷ entries) ((entry.0, value) ∷ entries) (entry ∷ insert_entry string_cmp entries name value)) ≡
    match_ordering order (member (string_bytes name) (view value) (members_view (entry ∷ entries))) (member (string_bytes entry.0) (view value) (members_view entries))
    (member (string_bytes entry.0) (view entry.1) (put_member (string_bytes name) (view value) (members_view entries)))
insert-order Less name value entry entries rest = refl
insert-order Equal name value entry entries rest = refl
insert-order Greater name value entry entries rest = rw rest refl

pub put_member-insert : (name : String Global) (value : Value) (entries : List Entry) →
    members_view (insert_entry string_cmp entries name value) ≡ put_member (string_bytes name) (view value) (members_view entries)
put_member-insert name value [] = refl
put_member-insert name value (entry ∷ entries) =
    insert-order (string_cmp name entry.0) name value entry entries (put_member-insert name value entries)

-- What is found.

-- a member behind the first, where the first has another name
other_key : (order : Ordering) (here rest : Option Data) → is_eq order ≡ false → match_ordering order rest here rest ≡ rest
other_key Less here rest other = refl
other_key Equal here rest other = cc other
other_key Greater here rest other = refl

abbrev found_in : List ℕ → Ordering → List ℕ → Data → List ℕ → Data → Members → Members → Option Data
found_in key order name value other old rest put =
    get_member key (match_ordering order (member name value (member other old rest)) (member other value rest) (member other old put))

same_at : (order : Ordering) (key : List ℕ) (value : Data) (other : List ℕ) (old : Data) (rest put : Members) → order ≡ slice_cmp nat_cmp key other →
    get_member key put ≡ Some value → found_in key order key value other old rest put ≡ Some value
same_at Less key value other old rest put is ih = rw (tied_itself nat_list_cmp_total key) refl
same_at Equal key value other old rest put is ih = rw (← is) refl
same_at Greater key value other old rest put is ih = rw (← is) ih

-- what was put is found
get-put_same : (key : List ℕ) (value : Data) (entries : Members) → get_member key (put_member key value entries) ≡ Some value
get-put_same key value no_members = rw (tied_itself nat_list_cmp_total key) refl
get-put_same key value (member other old rest) =
    same_at (slice_cmp nat_cmp key other) key value other old rest (put_member key value rest) refl (get-put_same key value rest)

equal_then : (name other key : List ℕ) → Equal ≡ slice_cmp nat_cmp name other → is_eq (slice_cmp nat_cmp key name) ≡ false → is_eq (slice_cmp nat_cmp key other) ≡ false
equal_then name other key is apart = let same : name ≡ other = exact_bytes name other (sym is) in rw (← same) apart

other_at : (order : Ordering) (key name : List ℕ) (value : Data) (other : List ℕ) (old : Data) (rest put : Members) → order ≡ slice_cmp nat_cmp name other →
    is_eq (slice_cmp nat_cmp key name) ≡ false → get_member key put ≡ get_member key rest →
    found_in key order name value other old rest put ≡ get_member key (member other old rest)
other_at Less key name value other old rest put is apart ih = other_key (slice_cmp nat_cmp key name) (Some value) (get_member key (member other old rest)) apart
other_at Equal key name value other old rest put is apart ih =
    let off = equal_then name other key is apart in
    other_key (slice_cmp nat_cmp key other) (Some value) (get_member key rest) off ∙ sym (other_key (slice_cmp nat_cmp key other) (Some old) (get_member key rest) off)
other_at Greater key name value other old rest put is apart ih = rw ih refl

-- at another key nothing changes
get-put_other : (key name : List ℕ) (value : Data) (entries : Members) → is_eq (slice_cmp nat_cmp key name) ≡ false →
    get_member key (put_member name value entries) ≡ get_member key entries
get-put_other key name value no_members apart = other_key (slice_cmp nat_cmp key name) (Some value) None apart
get-put_other key name value (member other old rest) apart =
    other_at (slice_cmp nat_cmp name other) key name value other old rest (put_member name value rest) refl apart (get-put_other key name value rest apart)

abbrev pub or_else : Option Data → Option Data → Option Data
or_else (Some value) before = Some value
or_else None before = before

-- what a key holds behind these fields, the last of which counts
abbrev pub found : List ℕ → List Field → Option Data → Option Data
found key [] before = before
found key (field ∷ fields) before = found key fields (cond (same_key key field.0) (or_else field.1 before) before)

equal_from : (order : Ordering) → is_eq order ≡ true → order ≡ Equal
equal_from Less eq = cc eq
equal_from Equal eq = refl
equal_from Greater eq = cc eq

get-value : (same : Bool) (key name : List ℕ) (value : Option Data) (entries : Members) → same ≡ same_key key name →
    get_member key (put_value name value entries) ≡ cond same (or_else value (get_member key entries)) (get_member key entries)
get-value true key name None entries is = refl
get-value false key name None entries is = refl
get-value true key name (Some value) entries is =
    let equal : key ≡ name = exact_bytes key name (equal_from (slice_cmp nat_cmp key name) (sym is)) in
    rw (← equal) (get-put_same key value entries)
get-value false key name (Some value) entries is = get-put_other key name value entries (sym is)

-- what a key holds in a printed table
pub get-all : (key : List ℕ) (fields : List Field) (entries : Members) → get_member key (put_all fields entries) ≡ found key fields (get_member key entries)
get-all key [] entries = refl
get-all key (field ∷ fields) entries =
    get-all key fields (put_value field.0 field.1 entries) ∙ ap (found key fields) (get-value (same_key key field.0) key field.0 field.1 entries refl)

-- Each key is known.

abbrev pub all_known : (List ℕ → Bool) → Members → Bool
all_known is_known no_members = true
all_known is_known (member name value rest) = is_known name && all_known is_known rest

-- then none is unknown
pub none_unknown : (is_known : List ℕ → Bool) (prefix : List ℕ) (entries : Members) → all_known is_known entries ≡ true → least_unknown prefix is_known entries ≡ None
none_unknown is_known prefix no_members known = refl
none_unknown is_known prefix (member name value rest) known =
    let (here, more) = and_parts (is_known name) (all_known is_known rest) known in
    rw (here, none_unknown is_known prefix rest more) refl

known_at : (order : Ordering) (is_known : List ℕ → Bool) (name : List ℕ) (value : Data) (other : List ℕ) (old : Data) (rest put : Members) →
    is_known name ≡ true → is_known other ≡ true → all_known is_known rest ≡ true → all_known is_known put ≡ true →
    all_known is_known (match_ordering order (member name value (member other old rest)) (member other value rest) (member other old put)) ≡ true
known_at Less is_known name value other old rest put here there more all = rw (here, there, more) refl
known_at Equal is_known name value other old rest put here there more all = rw (there, more) refl
known_at Greater is_known name value other old rest put here there more all = rw (there, all) refl

known-put : (is_known : List ℕ → Bool) (name : List ℕ) (value : Data) (entries : Members) → is_known name ≡ true → all_known is_known entries ≡ true →
    all_known is_known (put_member name value entries) ≡ true
known-put is_known name value no_members here known = rw here refl
known-put is_known name value (member other old rest) here known =
    let (there, more) = and_parts (is_known other) (all_known is_known rest) known in
    known_at (slice_cmp nat_cmp name other) is_known name value other old rest (put_member name value rest) here there more (known-put is_known name value rest here more)

known-value : (is_known : List ℕ → Bool) (name : List ℕ) (value : Option Data) (entries : Members) → is_known name ≡ true → all_known is_known entries ≡ true →
    all_known is_known (put_value name value entries) ≡ true
known-value is_known name None entries here known = known
known-value is_known name (Some value) entries here known = known-put is_known name value entries here known

pub known-all : (is_known : List ℕ → Bool) (fields : List Field) (entries : Members) → list_all (λ field. is_known field.0) fields ≡ true → all_known is_known entries ≡ true →
    all_known is_known (put_all fields entries) ≡ true
known-all is_known [] entries here known = known
known-all is_known (field ∷ fields) entries here known =
    let (first, more) = and_parts (is_known field.0) (list_all (λ other. is_known other.0) fields) here in
    known-all is_known fields (put_value field.0 field.1 entries) more (known-value is_known field.0 field.1 entries first known)

-- How deep a printed table is.

depth_at : (order : Ordering) (most : ℕ) (name : List ℕ) (value : Data) (other : List ℕ) (old : Data) (rest put : Members) →
    depth value ≤ most → depth old ≤ most → members_depth rest ≤ most → members_depth put ≤ most →
    members_depth (match_ordering order (member name value (member other old rest)) (member other value rest) (member other old put)) ≤ most
depth_at Less most name value other old rest put here there more all = omega arith
depth_at Equal most name value other old rest put here there more all = omega arith
depth_at Greater most name value other old rest put here there more all = omega arith

depth-put : (most : ℕ) (name : List ℕ) (value : Data) (entries : Members) → depth value ≤ most → members_depth entries ≤ most → members_depth (put_member name value entries) ≤ most
depth-put most name value no_members here within = omega arith
depth-put most name value (member other old rest) here within =
    let there : depth old ≤ most = omega arith in
    let more : members_depth rest ≤ most = omega arith in
    depth_at (slice_cmp nat_cmp name other) most name value other old rest (put_member name value rest) here there more (depth-put most name value rest here more)

abbrev pub value_depth : Option Data → ℕ
value_depth (Some value) = depth value
value_depth None = 0

depth-value : (most : ℕ) (name : List ℕ) (value : Option Data) (entries : Members) → value_depth value ≤ most → members_depth entries ≤ most →
    members_depth (put_value name value entries) ≤ most
depth-value most name None entries here within = within
depth-value most name (Some value) entries here within = depth-put most name value entries here within

pub depth-all : (most : ℕ) (fields : List Field) (entries : Members) → AllByRecursion (λ field. value_depth field.1 ≤ most) fields → members_depth entries ≤ most →
    members_depth (put_all fields entries) ≤ most
depth-all most [] entries here within = within
depth-all most (field ∷ fields) entries here within =
    depth-all most fields (put_value field.0 field.1 entries) here.1 (depth-value most field.0 field.1 entries here.0 within)
