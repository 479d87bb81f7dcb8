-- Facts on unknown keys: the first one of a table, whose keys ascend, has the least path.
use Rattle.std.proofs.Common.{◌≡◌, ℕ, Bool, true, false, not, cond, List, [], ◌∷◌, ◌++◌, Option, Some, None, option_map, String, Global, Ordering, Less, Equal, Greater, string_bytes, nat_cmp, Bor, BTreeMap, refl, sym, ◌∙◌, arith}
use Rattle.std.specs.Prelude.{string_cmp, find}
use Rattle.std.specs.Cmp.Lexicographic.{slice_cmp}
use Rattle.std.specs.List.{AllByRecursion}
use Rattle.std.specs.List.Sorted.{IsStrictlySortedBy}
use Rattle.std.specs.Map.{keys_of}
use Rattle.std.proofs.lemmas.Bool.Decides.{nat_tests}
use Rattle.toml.specs.Data.{Members}
use Rattle.toml.specs.View.{members_view, table_view}
use Rattle.toml.specs.declared.value.Value.{Value}
use Rattle.toml.proofs.Views.{Entry}
use Rattle.ppp_conf.specs.Keys.{members_in}
use Rattle.ppp_conf.specs.Unknown.{first_of, lesser, unless, least_unknown, table_members}

nat_cmp-same : (n : ℕ) → nat_cmp n n ≡ Equal
nat_cmp-same n = grind (arith, nat_tests)

-- what stands before both paths doesn't change their order
slice_cmp-prefix : (prefix xs ys : List ℕ) → slice_cmp nat_cmp (prefix ++ xs) (prefix ++ ys) ≡ slice_cmp nat_cmp xs ys
slice_cmp-prefix [] xs ys = refl
slice_cmp-prefix (x ∷ prefix) xs ys = rw (nat_cmp-same x) (slice_cmp-prefix prefix xs ys)

stays_first : (order : Ordering) (path one other : List ℕ) → lesser (Some path) (Some one) ≡ Some path → lesser (Some path) (Some other) ≡ Some path →
    lesser (Some path) (first_of order one other) ≡ Some path
stays_first Less path one other below_one below_other = below_one
stays_first Equal path one other below_one below_other = below_one
stays_first Greater path one other below_one below_other = below_other

-- a path before two others is before the lesser of them
stays : (path : List ℕ) (one other : Option (List ℕ)) → lesser (Some path) one ≡ Some path → lesser (Some path) other ≡ Some path →
    lesser (Some path) (lesser one other) ≡ Some path
stays path None other below_one below_other = below_other
stays path (Some one) None below_one below_other = below_one
stays path (Some one) (Some other) below_one below_other = stays_first (slice_cmp nat_cmp one other) path one other below_one below_other

before_one : (known : Bool) (path other : List ℕ) → slice_cmp nat_cmp path other ≡ Less → lesser (Some path) (unless known other) ≡ Some path
before_one true path other less = refl
before_one false path other less = rw less refl

-- a path before those of all keys is the least
before_all : (prefix : List ℕ) (is_known : List ℕ → Bool) (key : String Global) (entries : List Entry) → AllByRecursion (λ other. string_cmp key other ≡ Less) (keys_of entries) →
    lesser (Some (prefix ++ string_bytes key)) (least_unknown prefix is_known (members_view entries)) ≡ Some (prefix ++ string_bytes key)
before_all prefix is_known key [] below = refl
before_all prefix is_known key (entry ∷ entries) below =
    stays (prefix ++ string_bytes key) (unless (is_known (string_bytes entry.0)) (prefix ++ string_bytes entry.0)) (least_unknown prefix is_known (members_view entries))
    (before_one (is_known (string_bytes entry.0)) (prefix ++ string_bytes key) (prefix ++ string_bytes entry.0)
    (slice_cmp-prefix prefix (string_bytes key) (string_bytes entry.0) ∙ below.0))
    (before_all prefix is_known key entries below.1)

abbrev pub path_of : List ℕ → Option (String Global) → Option (List ℕ)
path_of prefix found = option_map (λ key. prefix ++ string_bytes key) found

from_first : (known : Bool) (prefix : List ℕ) (key : String Global) (least : Option (List ℕ)) (found : Option (String Global)) →
    lesser (Some (prefix ++ string_bytes key)) least ≡ Some (prefix ++ string_bytes key) → least ≡ path_of prefix found →
    lesser (unless known (prefix ++ string_bytes key)) least ≡ path_of prefix (cond (not known) (Some key) found)
from_first true prefix key least found first rest = rest
from_first false prefix key least found first rest = first

-- the least path is that of the first key that isn't known
pub least_unknown-first : (prefix : List ℕ) (is_known : List ℕ → Bool) (entries : List Entry) → IsStrictlySortedBy string_cmp (keys_of entries) →
    least_unknown prefix is_known (members_view entries) ≡ path_of prefix (find (λ key. not (is_known (string_bytes key))) (keys_of entries))
unfolding IsStrictlySortedBy
least_unknown-first prefix is_known [] sorted = refl
least_unknown-first prefix is_known (entry ∷ entries) sorted =
    from_first (is_known (string_bytes entry.0)) prefix entry.0 (least_unknown prefix is_known (members_view entries)) (find (λ key. not (is_known (string_bytes key))) (keys_of entries))
    (before_all prefix is_known entry.0 entries sorted.0) (least_unknown-first prefix is_known entries sorted.1)

-- the same of a table that the code has
pub least_unknown-found : (prefix : List ℕ) (is_known : List ℕ → Bool) (given : Option (Bor (BTreeMap (String Global) Value))) (table : Bor (BTreeMap (String Global) Value)) (found : Option (String Global)) →
    given ≡ Some table → IsStrictlySortedBy string_cmp (keys_of table.now.entries) → found ≡ find (λ key. not (is_known (string_bytes key))) (keys_of table.now.entries) →
    path_of prefix found ≡ least_unknown prefix is_known (members_in given)
least_unknown-found prefix is_known given table found is sorted first = rw (is, first) (sym (least_unknown-first prefix is_known table.now.entries sorted))

-- the members of a table that the code has, beside the members that are to be there
pub members_in-is : (found : Option (Bor (BTreeMap (String Global) Value))) (members : Option Members) → option_map (λ table. table_view table.now) found ≡ members →
    members_in found ≡ table_members members
members_in-is None members is = rw (← is) refl
members_in-is (Some table) members is = rw (← is) refl
