-- Lists that are gone through row by row, or option by option.
use Rattle.std.proofs.Common.{◌≡◌, ℕ, ◌+◌, ◌<◌, ◌≤◌, ◌⊎◌, ◌↔◌, Bool, true, false, List, [], ◌∷◌, ◌++◌, length, length-append, append_assoc, map, refl, sym, ap, ◌∙◌, arith}
use Rattle.std.specs.Prelude.{Some, None, Result, IsOk, IsErr}
use Rattle.std.specs.List.{filter, filter_map}
use Rattle.std.proofs.lemmas.Bool.Decides.{nat_tests}
use Rattle.ppp_packet.specs.ConfigOption.{ConfigOption}
use Rattle.ppp_packet.specs.Options.{written, option_with, find_kind}
use Rattle.ppp_auto.specs.Reply.{has_kind}
use Rattle.ppp_options.specs.Rule.{Rule}
use Rattle.ppp_options.specs.Rules.{rule_of, first_by, initial, is_sent, after_by, IsTable}
use Rattle.ppp_options.specs.RuleLaw.{Finds, finds-self, first_sent, sent_short, after-long, rule-is}

pub length_written-append : (xs ys : List ConfigOption) →
    length (written (xs ++ ys)) ≡ length (written xs) + length (written ys)
length_written-append [] ys = omega arith
length_written-append (o ∷ os) ys =
    let rest = length_written-append os ys in grind (arith, length-append {A = ℕ})

pub ok-with_room : {T E : Type 0} → (r : Result T E) (list : List ConfigOption) (kind : ℕ) (body : List ℕ) →
    length (written list) + (2 + length body) ≤ 128 →
    IsErr r ↔ ((253 < length body) ⊎ (128 < length (written (list ++ option_with kind body ∷ [])))) → IsOk r
ok-with_room r list kind body room refused =
    let size = length_written-append list (option_with kind body ∷ []) in
    grind (arith, length-append {A = ℕ}, size)

-- a kind is in a list exactly where its first option is found
pub has_kind-some : (kind : ℕ) (list : List ConfigOption) (body : List ℕ) → find_kind kind list ≡ Some body →
    has_kind kind list ≡ true
has_kind-some kind [] body h = cc
has_kind-some kind (o ∷ os) body h = let rest = has_kind-some kind os body in grind (arith, nat_tests)

pub has_kind-none : (kind : ℕ) (list : List ConfigOption) → find_kind kind list ≡ None → has_kind kind list ≡ false
has_kind-none kind [] h = refl
has_kind-none kind (o ∷ os) h = let rest = has_kind-none kind os in grind (arith, nat_tests)

-- a list is gone through option by option: each is changed, or kept or left out
pub map-step : (f : ConfigOption → ConfigOption) (last list left behind new : List ConfigOption) (o : ConfigOption) →
    map f last ≡ list ++ map f left → left ≡ o ∷ behind → new ≡ list ++ f o ∷ [] → map f last ≡ new ++ map f behind
map-step f last list left behind new o done parts put = done ∙ rw (parts, put) (sym (append_assoc list (f o ∷ []) (map f behind)))

pub filter-kept : (p : ConfigOption → Bool) (last list left behind new : List ConfigOption) (o : ConfigOption) → p o ≡ true →
    filter p last ≡ list ++ filter p left → left ≡ o ∷ behind → new ≡ list ++ o ∷ [] → filter p last ≡ new ++ filter p behind
filter-kept p last list left behind new o passes done parts put =
    done ∙ rw (parts, passes, put) (sym (append_assoc list (o ∷ []) (filter p behind)))

-- the room that is left once an option of that size was put behind a list
pub room-step : (list left behind new : List ConfigOption) (o put : ConfigOption) →
    length (written list) + length (written left) ≤ 128 →
    left ≡ o ∷ behind → new ≡ list ++ put ∷ [] → length put.body ≡ length o.body →
    length (written new) + length (written behind) ≤ 128
room-step list left behind new o put room parts is_put size =
    let more = length_written-append list (put ∷ []) in
    rw is_put (grind (arith, length-append {A = ℕ}, more))

-- the rows by their Types
abbrev pub firsts : List Rule → ℕ → List ℕ → List ConfigOption
firsts rs word kinds = filter_map (λ kind. first_by (rule_of kind rs) word) kinds

firsts-are : (whole rs : List Rule) (word : ℕ) → Finds whole rs → firsts whole word (map (λ r. r.kind) rs) ≡ initial rs word
firsts-are whole [] word finds = refl
firsts-are whole (r ∷ rs) word finds = rw (finds.0, firsts-are whole rs word finds.1) refl

pub initial-firsts : (rs : List Rule) (word : ℕ) → IsTable rs → initial rs word ≡ firsts rs word (map (λ r. r.kind) rs)
initial-firsts rs word t = sym (firsts-are rs rs word (finds-self 0 rs t.ascending))

pub firsts-none : (rs : List Rule) (word kind : ℕ) (whole list : List ConfigOption) (left behind : List ℕ) →
    whole ≡ list ++ firsts rs word left → left ≡ kind ∷ behind →
    first_by (rule_of kind rs) word ≡ None → whole ≡ list ++ firsts rs word behind
firsts-none rs word kind whole list left behind done parts none = done ∙ rw (parts, none) refl

pub firsts-some : (rs : List Rule) (word kind : ℕ) (whole list new : List ConfigOption) (left behind : List ℕ)
    (o : ConfigOption) → whole ≡ list ++ firsts rs word left → left ≡ kind ∷ behind →
    first_by (rule_of kind rs) word ≡ Some o → new ≡ list ++ o ∷ [] → whole ≡ new ++ firsts rs word behind
firsts-some rs word kind whole list new left behind o done parts some put =
    done ∙ rw (parts, some, put) (sym (append_assoc list (o ∷ []) (firsts rs word behind)))

-- a first list has room for each of its options
pub firsts-room : (rs : List Rule) (word kind : ℕ) (list : List ConfigOption) (left behind : List ℕ)
    (o : ConfigOption) → IsTable rs → initial rs word ≡ list ++ firsts rs word left →
    left ≡ kind ∷ behind → first_by (rule_of kind rs) word ≡ Some o → length (written list) + (2 + length o.body) ≤ 128
firsts-room rs word kind list left behind o t done parts some =
    let whole : initial rs word ≡ list ++ o ∷ firsts rs word behind = done ∙ rw (parts, some) refl in
    let short = sent_short rs t (initial rs word) (first_sent rs t word) in
    let size = length_written-append list (o ∷ firsts rs word behind) in
    let tail = length-append o.body (written (firsts rs word behind)) in
    let same = ap (λ (os : List ConfigOption). length (written os)) whole in
    omega arith

-- what a Nak makes of an option needs the room of the option
pub after-room : (rs : List Rule) (list : List ConfigOption) (o after : ConfigOption) (nak : List ℕ) (word : ℕ) →
    IsTable rs → is_sent rs o ≡ true →
    after ≡ option_with o.kind (after_by (rule_of o.kind rs) o.body nak word) →
    length (written list) + (2 + length o.body) ≤ 128 →
    length (written list) + (2 + length after.body) ≤ 128
after-room rs list o after nak word t sent is room =
    let same = after-long (rule_of o.kind rs) o.body nak word (λ r e. rule-is rs o.kind r t.each e) sent in
    rw (is, same) room
