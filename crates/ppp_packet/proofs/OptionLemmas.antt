-- Facts on lists of options: what is written reads as the same list, and nothing else reads so.
use Rattle.std.proofs.Common.{◌≡◌, ℕ, zero, suc, ◌+◌, ◌-◌, ◌<◌, ◌≤◌, ◌≢◌, ◌⊎◌, Bool, true, false, List, [], ◌∷◌, ◌++◌, length, take, drop, get_or, refl, sym, ◌∙◌, ap, inl, inr, arith, length-append, length-drop, append_assoc, append-nil}
use Rattle.std.specs.Prelude.{Option, Some, None, ◌||◌, nat_lt, if◌then◌else◌, nat_eq, ◌==◌, is_some, Result, Ok, Err, OnOk, OnErr, IsTrue, IsNone, IfSome, IfNone, MatchOption, ◌↔◌, All}
use Rattle.std.specs.Option.{option_map}
use Rattle.std.proofs.lemmas.List.{take_at, drop_at, take-append-drop, length-take-le}
use Rattle.std.proofs.lemmas.Bool.{le-ltb, ltb-false, lt-ltb, eqb-true, eqb-false, eq-eqb}
use Rattle.std.proofs.lemmas.List.Elements.{All-nil, All-cons}
use Rattle.std.proofs.lemmas.Bool.Decides.{nat_tests}
use Rattle.ppp_packet.specs.ConfigOption.{ConfigOption}
use Rattle.ppp_packet.specs.Options.{option_octets, written, IsOptions, options_in, options_of, list_of, HoldsOptions, option_with, find_kind}

pub written-append : (xs ys : List ConfigOption) → written (xs ++ ys) ≡ written xs ++ written ys
written-append [] ys = refl
written-append (x ∷ xs) ys = rw (written-append xs ys) (sym (append_assoc (option_octets x) (written xs) (written ys)))

-- the test that a reader makes of a Length passes where the option is whole
whole_test : (body rest : List ℕ) → (nat_lt (2 + length body) 2 || nat_lt (length (body ++ rest)) (2 + length body - 2)) ≡ false
whole_test body rest =
    rw (le-ltb (2 + length body) 2 (omega arith), le-ltb (length (body ++ rest)) (2 + length body - 2) (omega (arith, length-append body rest))) refl

pub options_in-written : (most : ℕ) (list : List ConfigOption) → length (written list) ≤ most → options_in most (written list) ≡ Some list
options_in-written most [] fits = refl
options_in-written zero (o ∷ os) fits = absurd (omega arith)
options_in-written (suc most) (o ∷ os) fits =
    let size : length o.body ≡ 2 + length o.body - 2 = omega arith in
    let rest : options_in most (written os) ≡ Some os = options_in-written most os (omega (arith, length-append o.body (written os))) in
    rw (whole_test o.body (written os), take_at o.body (written os) (2 + length o.body - 2) size, drop_at o.body (written os) (2 + length o.body - 2) size, rest) refl

pub options_of-written : (list : List ConfigOption) → options_of (written list) ≡ Some list
unfolding options_of
options_of-written list = options_in-written (length (written list)) list (omega arith)

some_injective : {X : Type 0} (x y : X) → Some x ≡ Some y → x ≡ y
some_injective x y same = cc

pub written-injective : (xs ys : List ConfigOption) → written xs ≡ written ys → xs ≡ ys
written-injective xs ys same = some_injective xs ys (sym (options_of-written xs) ∙ ap options_of same ∙ options_of-written ys)

inside_map : {X Y : Type 0} (f : X → Y) (o : Option X) (y : Y) → option_map f o ≡ Some y → (x : X) × ((o ≡ Some x) × (f x ≡ y))
inside_map f None y same = absurd (cc)
inside_map f (Some x) y same = (x, (refl, some_injective (f x) y same))

or_false : (a b : Bool) → (a || b) ≡ false → (a ≡ false) × (b ≡ false)
or_false false b e = (refl, e)
or_false true b e = absurd (cc)

or_true : (a : Bool) → (a || true) ≡ true
or_true false = refl
or_true true = refl

whole_step : (kind len : ℕ) (rest : List ℕ) (most : ℕ) (list : List ConfigOption) (misfit : Bool) →
    (nat_lt len 2 || nat_lt (length rest) (len - 2)) ≡ misfit →
    (if misfit then None else option_map (λ os. option_with kind (take (len - 2) rest) ∷ os) (options_in most (drop (len - 2) rest))) ≡ Some list →
    ((os : List ConfigOption) → options_in most (drop (len - 2) rest) ≡ Some os → drop (len - 2) rest ≡ written os) →
    kind ∷ len ∷ rest ≡ written list
whole_step kind len rest most list true is same below = absurd (cc)
whole_step kind len rest most list false is same below =
    let found = inside_map (λ (os : List ConfigOption). option_with kind (take (len - 2) rest) ∷ os) (options_in most (drop (len - 2) rest)) list same in
    let tests = or_false (nat_lt len 2) (nat_lt (length rest) (len - 2)) is in
    let least : 2 ≤ len = ltb-false len 2 tests.0 in
    let room : len - 2 ≤ length rest = ltb-false (length rest) (len - 2) tests.1 in
    let size : 2 + length (take (len - 2) rest) ≡ len = omega (arith, length-take-le (len - 2) rest room) in
    let behind : drop (len - 2) rest ≡ written found.0 = below found.0 found.1.0 in
    rw (← found.1.1, size, ← behind, take-append-drop (len - 2) rest) refl

pub written-options_in : (most : ℕ) (bytes : List ℕ) (list : List ConfigOption) → options_in most bytes ≡ Some list → bytes ≡ written list
written-options_in most [] list same = ap written (some_injective [] list same)
written-options_in zero (x ∷ xs) list same = absurd (cc)
written-options_in (suc most) (kind ∷ []) list same = absurd (cc)
written-options_in (suc most) (kind ∷ len ∷ rest) list same =
    whole_step kind len rest most list _ refl same (λ os e. written-options_in most (drop (len - 2) rest) os e)

pub IsOptions-options_of : (list : List ConfigOption) (bytes : List ℕ) → options_of bytes ≡ Some list → IsOptions list bytes
unfolding options_of
IsOptions-options_of list bytes same = written-options_in (length bytes) bytes list same

pub options_of-IsOptions : (list : List ConfigOption) (bytes : List ℕ) → IsOptions list bytes → options_of bytes ≡ Some list
options_of-IsOptions list bytes is = ap options_of is ∙ options_of-written list

-- any bound that isn't below the number of octets gives the same
options_in-same : (a b : ℕ) (bytes : List ℕ) → length bytes ≤ a → length bytes ≤ b → options_in a bytes ≡ options_in b bytes
options_in-same a b [] in_a in_b = refl
options_in-same zero b (x ∷ xs) in_a in_b = absurd (omega arith)
options_in-same (suc a) zero (x ∷ xs) in_a in_b = absurd (omega arith)
options_in-same (suc a) (suc b) (kind ∷ []) in_a in_b = refl
options_in-same (suc a) (suc b) (kind ∷ len ∷ rest) in_a in_b =
    rw (options_in-same a b (drop (len - 2) rest) (omega (arith, length-drop (len - 2) rest)) (omega (arith, length-drop (len - 2) rest))) refl

pub options_of-cons : (o : ConfigOption) (rest : List ℕ) → options_of (option_octets o ++ rest) ≡ option_map (λ os. o ∷ os) (options_of rest)
unfolding options_of
options_of-cons o rest =
    let size : length o.body ≡ 2 + length o.body - 2 = omega arith in
    let same = options_in-same (suc (length (o.body ++ rest))) (length rest) rest (omega (arith, length-append o.body rest)) (omega arith) in
    rw (whole_test o.body rest, take_at o.body rest (2 + length o.body - 2) size, drop_at o.body rest (2 + length o.body - 2) size, same) refl

pub options_of-nil : options_of [] ≡ Some []
unfolding options_of
options_of-nil = refl

pub options_of-short : (kind : ℕ) → options_of (kind ∷ []) ≡ None
unfolding options_of
options_of-short kind = refl

pub options_of-misfit : (kind len : ℕ) (rest : List ℕ) → (len < 2) ⊎ (2 + length rest < len) → options_of (kind ∷ len ∷ rest) ≡ None
unfolding options_of
options_of-misfit kind len rest (inl low) = rw (lt-ltb len 2 low) refl
options_of-misfit kind len rest (inr high) = rw (lt-ltb (length rest) (len - 2) (omega arith), or_true (nat_lt len 2)) refl

pub list_of-read : (list : List ConfigOption) (bytes : List ℕ) → options_of bytes ≡ Some list → list_of bytes ≡ list
unfolding list_of
list_of-read list bytes same = rw same refl

pub list_of-written : (list : List ConfigOption) → list_of (written list) ≡ list
list_of-written list = list_of-read list (written list) (options_of-written list)

pub HoldsOptions-read : (list : List ConfigOption) (bytes : List ℕ) → options_of bytes ≡ Some list → HoldsOptions bytes
HoldsOptions-read list bytes same = rw (list_of-read list bytes same) (IsOptions-options_of list bytes same)

pub options_of-HoldsOptions : (bytes : List ℕ) → HoldsOptions bytes → options_of bytes ≡ Some (list_of bytes)
options_of-HoldsOptions bytes holds = options_of-IsOptions (list_of bytes) bytes holds

-- of octets that hold a list, those behind the first option hold the rest of it
pub HoldsOptions-behind : (o : ConfigOption) (bytes rest : List ℕ) → HoldsOptions bytes → bytes ≡ option_octets o ++ rest → (list_of bytes ≡ o ∷ list_of rest) × HoldsOptions rest
HoldsOptions-behind o bytes rest holds begins =
    let read = sym (options_of-cons o rest) ∙ ap options_of (sym begins) ∙ options_of-HoldsOptions bytes holds in
    let found = inside_map (λ (os : List ConfigOption). o ∷ os) (options_of rest) (list_of bytes) read in
    (rw (list_of-read found.0 rest found.1.0) (sym found.1.1), HoldsOptions-read found.0 rest found.1.0)

pub length-written : (list : List ConfigOption) → length list ≤ length (written list)
length-written [] = omega arith
length-written (o ∷ os) = omega (arith, length-written os, length-append o.body (written os))

pub list_of-nil : list_of [] ≡ []
list_of-nil = list_of-read [] [] options_of-nil

pub HoldsOptions-nil : HoldsOptions []
HoldsOptions-nil = HoldsOptions-read [] [] options_of-nil

pub HoldsOptions-written : (list : List ConfigOption) → HoldsOptions (written list)
HoldsOptions-written list = HoldsOptions-read list (written list) (options_of-written list)

-- octets that hold a list are empty exactly where the list is
pub nil-from-list_of : (bytes : List ℕ) → HoldsOptions bytes → list_of bytes ≡ [] → bytes ≡ []
nil-from-list_of bytes holds none = holds ∙ ap written none

-- an option behind a list
pub written-push : (list : List ConfigOption) (o : ConfigOption) → written (list ++ o ∷ []) ≡ written list ++ option_octets o
written-push list o = rw (written-append list (o ∷ []), append-nil (option_octets o)) refl

pub list_of-push : (bytes : List ℕ) (o : ConfigOption) → HoldsOptions bytes → list_of (bytes ++ option_octets o) ≡ list_of bytes ++ o ∷ []
list_of-push bytes o holds =
    let same : bytes ++ option_octets o ≡ written (list_of bytes ++ o ∷ []) = ap (λ (xs : List ℕ). xs ++ option_octets o) holds ∙ sym (written-push (list_of bytes) o) in
    ap list_of same ∙ list_of-written (list_of bytes ++ o ∷ [])

pub HoldsOptions-push : (bytes : List ℕ) (o : ConfigOption) → HoldsOptions bytes → HoldsOptions (bytes ++ option_octets o)
HoldsOptions-push bytes o holds =
    rw (list_of-push bytes o holds, written-push (list_of bytes) o) (ap (λ (xs : List ℕ). xs ++ option_octets o) holds)

-- the same octets hold the same list
pub list_of-same : (xs ys : List ℕ) → HoldsOptions xs → HoldsOptions ys → list_of xs ≡ list_of ys → xs ≡ ys
list_of-same xs ys holds_xs holds_ys same = holds_xs ∙ ap written same ∙ sym holds_ys

-- what a reader of the octets refuses
pub options_of-part : (bytes : List ℕ) → 0 < length bytes → length bytes < 2 → options_of bytes ≡ None
options_of-part [] some few = absurd (omega arith)
options_of-part (kind ∷ []) some few = options_of-short kind
options_of-part (kind ∷ len ∷ rest) some few = absurd (omega arith)

pub options_of-refused : (bytes : List ℕ) (len : ℕ) → 2 ≤ length bytes → len ≡ get_or bytes 1 0 → (len < 2) ⊎ (2 ≤ len × length bytes < len) → options_of bytes ≡ None
options_of-refused [] len some is misfit = absurd (omega arith)
options_of-refused (kind ∷ []) len some is misfit = absurd (omega arith)
options_of-refused (kind ∷ l ∷ rest) len some is (inl low) = options_of-misfit kind l rest (inl (omega arith))
options_of-refused (kind ∷ l ∷ rest) len some is (inr high) = options_of-misfit kind l rest (inr (omega (arith, high.1)))

-- nothing that is no list reads as one
pub unread : (bytes : List ℕ) (list : List ConfigOption) → options_of bytes ≡ None → IsOptions list bytes → ⊥
unread bytes list none is = let some : options_of bytes ≡ Some list = options_of-IsOptions list bytes is in cc

-- of octets that hold a list and aren't empty, the first option splits the list
pub list_of-split : {A : Type 0} (found : Option A) (o : A → ConfigOption) (rest : A → List ℕ) (bytes : List ℕ) → HoldsOptions bytes →
    IfSome found (λ r. bytes ≡ option_octets (o r) ++ rest r) → IfNone found (options_of bytes ≡ None) →
    MatchOption found (list_of bytes ≡ []) (λ r. list_of bytes ≡ o r ∷ list_of (rest r))
list_of-split None o rest bytes holds some none = absurd (unread bytes (list_of bytes) none holds)
list_of-split (Some r) o rest bytes holds some none = (HoldsOptions-behind (o r) bytes (rest r) holds some).0

pub HoldsOptions-split : {A : Type 0} (found : Option A) (o : A → ConfigOption) (rest : A → List ℕ) (bytes : List ℕ) → HoldsOptions bytes →
    IfSome found (λ r. bytes ≡ option_octets (o r) ++ rest r) → IfSome found (λ r. HoldsOptions (rest r))
HoldsOptions-split None o rest bytes holds some = tt
HoldsOptions-split (Some r) o rest bytes holds some = (HoldsOptions-behind (o r) bytes (rest r) holds some).1

pub list_of-empty : (bytes : List ℕ) → length bytes ≡ 0 → list_of bytes ≡ []
list_of-empty [] none = list_of-nil
list_of-empty (x ∷ xs) none = absurd (omega arith)

-- what a test for no octets says of the list
pub empty_test : (empty : Bool) (bytes : List ℕ) → HoldsOptions bytes → empty ≡ (length bytes == 0) → IsTrue empty ↔ (list_of bytes ≡ [])
empty_test empty bytes holds test = (
  λ yes. list_of-empty bytes (eqb-true (length bytes) 0 (sym test ∙ yes)),
  λ none. test ∙ eq-eqb (length bytes) 0 (ap length (nil-from-list_of bytes holds none)),
)

-- the same octets are the same list
pub same_test : (same : Bool) (xs ys : List ConfigOption) (left right : List ℕ) → left ≡ written xs → right ≡ written ys →
    (IsTrue same ↔ (left ≡ right)) → IsTrue same ↔ (xs ≡ ys)
same_test same xs ys left right is_xs is_ys test = (
  λ yes. written-injective xs ys (sym is_xs ∙ test.0 yes ∙ is_ys),
  λ e. test.1 (is_xs ∙ ap written e ∙ sym is_ys),
)

none_both : (b : Bool) (x : List ℕ) (rest : Option (List ℕ)) → (if b then Some x else rest) ≡ None → (b ≡ false) × (rest ≡ None)
none_both true x rest none = absurd (cc)
none_both false x rest none = (refl, none)

pub lacks-find_kind : (kind : ℕ) (list : List ConfigOption) → find_kind kind list ≡ None → All (λ o. o.kind ≢ kind) list
lacks-find_kind kind [] none = All-nil (λ o. o.kind ≢ kind)
lacks-find_kind kind (o ∷ os) none =
    let both = none_both (nat_eq o.kind kind) o.body (find_kind kind os) none in
    All-cons (λ o. o.kind ≢ kind) o os (eqb-false o.kind kind both.0) (lacks-find_kind kind os both.1)

pub find_kind-lacks : (kind : ℕ) (list : List ConfigOption) → All (λ o. o.kind ≢ kind) list → find_kind kind list ≡ None
find_kind-lacks kind [] all = refl
find_kind-lacks kind (o ∷ os) all =
    let other : o.kind ≢ kind = all 0 o (omega arith) in
    let test : nat_eq o.kind kind ≡ false = grind (arith, nat_tests) in
    rw test (find_kind-lacks kind os (λ k d within. all (suc k) d (omega arith)))

-- what is found, as a test for nothing
pub none_test : {A : Type 0} (found : Option A) (octets : A → List ℕ) (kind : ℕ) (list : List ConfigOption) →
    MatchOption found (find_kind kind list ≡ None) (λ r. find_kind kind list ≡ Some (octets r)) →
    IsNone found ↔ All (λ o. o.kind ≢ kind) list
none_test None octets kind list none = (λ _. lacks-find_kind kind list none, λ _. refl)
none_test (Some r) octets kind list some =
    (λ none. absurd (cc), λ all. let none : find_kind kind list ≡ None = find_kind-lacks kind list all in absurd (cc))

pub is_some-map : {X Y : Type 0} (f : X → Y) (o : Option X) → is_some (option_map f o) ≡ is_some o
is_some-map f None = refl
is_some-map f (Some x) = refl

pub is_some-behind : (o : ConfigOption) (bytes rest : List ℕ) → bytes ≡ option_octets o ++ rest → is_some (options_of rest) ≡ is_some (options_of bytes)
is_some-behind o bytes rest begins = rw (begins, options_of-cons o rest) (sym (is_some-map (λ (os : List ConfigOption). o ∷ os) (options_of rest)))

pub is_some-empty : (bytes : List ℕ) → length bytes ≡ 0 → is_some (options_of bytes) ≡ true
is_some-empty [] none = rw options_of-nil refl
is_some-empty (x ∷ xs) none = absurd (omega arith)

holds_by : (bytes : List ℕ) (read : Option (List ConfigOption)) → options_of bytes ≡ read → is_some read ≡ true → HoldsOptions bytes
holds_by bytes None is some = absurd (cc)
holds_by bytes (Some list) is some = HoldsOptions-read list bytes is

nothing_by : (bytes : List ℕ) (read : Option (List ConfigOption)) → options_of bytes ≡ read → is_some read ≡ false → options_of bytes ≡ None
nothing_by bytes None is none = is
nothing_by bytes (Some list) is none = absurd (cc)

-- where a list reads, and where none does
pub is_some-HoldsOptions : (bytes : List ℕ) → is_some (options_of bytes) ≡ true → HoldsOptions bytes
is_some-HoldsOptions bytes some = holds_by bytes (options_of bytes) refl some

pub is_none-options_of : (bytes : List ℕ) → is_some (options_of bytes) ≡ false → options_of bytes ≡ None
is_none-options_of bytes none = nothing_by bytes (options_of bytes) refl none

-- no more options than octets
pub length-list_of : (bytes : List ℕ) → HoldsOptions bytes → length (list_of bytes) ≤ length bytes
length-list_of bytes holds = omega (arith, length-written (list_of bytes), ap length holds)

-- after a call that puts an option behind a list, or leaves the octets as they were
pub pushed_holds : {T E : Type 0} (r : Result T E) (old new : List ℕ) (o : ConfigOption) → HoldsOptions old →
    OnOk r (new ≡ old ++ option_octets o) → OnErr r (new ≡ old) → HoldsOptions new
pushed_holds (Ok x) old new o holds ok err = rw ok (HoldsOptions-push old o holds)
pushed_holds (Err e) old new o holds ok err = rw err holds

pub pushed_list : {T E : Type 0} (r : Result T E) (old new : List ℕ) (o : ConfigOption) → HoldsOptions old →
    OnOk r (new ≡ old ++ option_octets o) → OnOk r (list_of new ≡ list_of old ++ o ∷ [])
pushed_list (Ok x) old new o holds ok = rw ok (list_of-push old o holds)
pushed_list (Err e) old new o holds ok = tt

pub length-written-push : (bytes : List ℕ) (o : ConfigOption) → HoldsOptions bytes →
    length (written (list_of bytes ++ o ∷ [])) ≡ length bytes + (2 + length o.body)
length-written-push bytes o holds =
    rw (written-push (list_of bytes) o) (omega (arith, length-append (written (list_of bytes)) (option_octets o), ap length holds))
