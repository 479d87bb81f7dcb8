-- Facts on the lines of a feed: the text of an event reads as it, and what reads as an event is its text, but for the case
-- of its hex digits.
use Rattle.std.proofs.Common.{◌≡◌, ℕ, ◌^◌, ◌<◌, ◌≤◌, true, List, [], ◌∷◌, ◌++◌, map, refl, sym, ◌∙◌, ap, arith, rules}
use Rattle.std.specs.Prelude.{Result, Ok, All, codes}
use Rattle.std.specs.Char.{is_ascii_digit, to_ascii_lowercase}
use Rattle.std.specs.Fmt.{decimal}
use Rattle.std.specs.List.{AllByRecursion, list_all}
use Rattle.std.specs.Str.{str_to_ascii_lowercase}
use Rattle.std.specs.Str.Parse.{digits_value}
use Rattle.std.proofs.lemmas.Bool.{and_parts}
use Rattle.std.proofs.lemmas.Bool.Decides.{nat_tests}
use Rattle.std.proofs.lemmas.Fmt.{digits_decimal}
use Rattle.std.proofs.lemmas.List.{map-append}
use Rattle.std.proofs.lemmas.List.Elements.{All-nil, All-cons}
use Rattle.std.proofs.lemmas.Str.Parse.{IsNumeralModel, numerals_by_value}
use Rattle.hex.specs.Hex.{encode_lower}
use Rattle.ppp_packet.specs.declared.proto.Proto.{Proto}
use Rattle.ppp_packet.specs.declared.proto.Proto.TheVariants.{Lcp, Ip, Ipv6, Osi, Mpls, Bacp}
use Rattle.ppp_packet.specs.Proto.{proto_name}
use Rattle.ppp_text.specs.Fields.{fields_of, line_with}
use Rattle.ppp_text.proofs.FieldsLemmas.{line_with-fields_of, fields_of-line_with, spaceless}
use Rattle.ppp_text.proofs.NumbersLemmas.{lacks-decimal}
use Rattle.ppp_script.specs.declared.feed_event.FeedEvent.{FeedEvent}
use Rattle.ppp_script.specs.declared.feed_event.FeedEvent.TheVariants.{Up, Down, AdminOpen, AdminClose, Timeout, BapTimeout, Bytes}
use Rattle.ppp_script.specs.declared.field.TheConstants.{MOST_LINKS}
use Rattle.ppp_script.specs.declared.line_why.LineWhy.{LineWhy}
use Rattle.ppp_script.specs.declared.timer.Timer.{Timer}
use Rattle.ppp_script.specs.declared.timer.Timer.TheVariants.{Restart, Bap}
use Rattle.ppp_script.specs.FeedEvent.{IsWithin, feed_fields, feed_text, timeout_fields, linked, last_octets, timeout, plain_rows, bytes_row, feed_in, feed_of}
use Rattle.ppp_script.specs.Field.{next_field, next_link, no_more, last_field, last_protocol, IsLink}
use Rattle.ppp_script.specs.Octets.{octets_in, IsOctets}
use Rattle.ppp_script.specs.Results.{◌>>=◌}
use Rattle.ppp_script.specs.Row.{row, read_as}
use Rattle.ppp_script.specs.Timer.{timer_name, last_timer}
use Rattle.ppp_script.proofs.FieldLemmas.{Spaceless, inside, next_field-is, next_link-is, no_more-is, last_field-is, last_protocol-is, last_protocol-name, next_link-decimal, next_link-most, spaceless_protocol}
use Rattle.ppp_script.proofs.OctetsLemmas.{octets_in-lower, octets_in-digits, digits_spaceless}
use Rattle.ppp_script.proofs.RowLemmas.{ReadsIts, read_by-is, row_is}
use Rattle.ppp_script.proofs.TimerLemmas.{last_timer-is, last_timer-name, spaceless_timer}

-- ---- lines in lower case

abbrev all_lower : List (List ℕ) → List (List ℕ)
all_lower fields = map str_to_ascii_lowercase fields

lower-line_with : (fields : List (List ℕ)) → str_to_ascii_lowercase (line_with fields) ≡ line_with (all_lower fields)
lower-line_with [] = refl
lower-line_with (field ∷ []) = refl
lower-line_with (field ∷ next ∷ more) =
    map-append to_ascii_lowercase field (32 ∷ line_with (next ∷ more))
    ∙ ap (λ rest. str_to_ascii_lowercase field ++ 32 ∷ rest) (lower-line_with (next ∷ more))

digit_lower : (x : ℕ) → is_ascii_digit x ≡ true → to_ascii_lowercase x ≡ x
digit_lower x is = grind (arith, nat_tests)

abbrev AllDigits : List ℕ → Type 0
AllDigits field = list_all is_ascii_digit field ≡ true

digits_lower : (field : List ℕ) → AllDigits field → str_to_ascii_lowercase field ≡ field
digits_lower [] all = refl
digits_lower (x ∷ xs) all =
    let parts = and_parts (is_ascii_digit x) (list_all is_ascii_digit xs) all in
    rw (digit_lower x parts.0, digits_lower xs parts.1) refl

own : IsNumeralModel AllDigits (digits_value 10)
own = numerals_by_value AllDigits (search rules)

decimal_lower : (n : ℕ) → n < 2 ^ 64 → str_to_ascii_lowercase (decimal n) ≡ decimal n
decimal_lower n fits = digits_lower (decimal n) (digits_decimal own n fits)

name_lower : (protocol : Proto) → str_to_ascii_lowercase (proto_name protocol) ≡ proto_name protocol
name_lower Lcp = refl
name_lower Ip = refl
name_lower Ipv6 = refl
name_lower Osi = refl
name_lower Mpls = refl
name_lower Bacp = refl

timer_lower : (timer : Timer) → str_to_ascii_lowercase (timer_name timer) ≡ timer_name timer
timer_lower (Restart protocol) = name_lower protocol
timer_lower Bap = refl

-- ---- what reads as an event is its text, but for the case of its hex digits

-- a line in lower case is its event's text
abbrev IsText : List (List ℕ) → FeedEvent → Type 0
IsText fields event = all_lower fields ≡ feed_fields event

-- a row that reads a link and what stands behind it, and makes an event of these
linked_row : {X : Type 0} (links : ℕ) (word : List ℕ) (last : List (List ℕ) → Result X LineWhy) (make : ℕ → X → FeedEvent) (text : X → List (List ℕ)) →
    str_to_ascii_lowercase word ≡ word → ((fields : List (List ℕ)) (x : X) → last fields ≡ Ok x → all_lower fields ≡ text x) →
    ((link : ℕ) (x : X) → word ∷ decimal link ∷ text x ≡ feed_fields (make link x)) → ReadsIts IsText (row word (read_as (linked links last) (λ p. make p.0 p.1)))
unfolding linked
linked_row {X} links word last make text same is_text is_event = row_is IsText word (linked links last) (λ p. make p.0 p.1) (λ fields p is.
    let a = inside (next_link links fields) (λ first. last first.1 >>= (λ x. Ok (first.0, x))) p is in
    let b = inside (last a.0.1) (λ x. Ok (a.0.0, x)) p a.1.1 in
    let made : (a.0.0, b.0) ≡ p = cc in
    let fits : a.0.0 < 2 ^ 64 = omega (arith, next_link-most links fields a.0 a.1.0) in
    ap (λ fs. all_lower (word ∷ fs)) (next_link-is links fields a.0 a.1.0)
    ∙ rw (same, decimal_lower a.0.0 fits, is_text a.0.1 b.0 b.1.0) (is_event a.0.0 b.0)
    ∙ ap (λ (q : ℕ × X). feed_fields (make q.0 q.1)) made)

none_lower : (fields : List (List ℕ)) (u : Unit {0}) → no_more fields ≡ Ok u → all_lower fields ≡ []
none_lower fields u is = ap all_lower (no_more-is fields u is)

link_row : (links : ℕ) (word : List ℕ) (make : ℕ → FeedEvent) → str_to_ascii_lowercase word ≡ word →
    ((link : ℕ) → word ∷ decimal link ∷ [] ≡ feed_fields (make link)) → ReadsIts IsText (row word (read_as (linked links no_more) (λ p. make p.0)))
link_row links word make same is_event = linked_row links word no_more (λ link nothing. make link) (λ nothing. []) same none_lower (λ link nothing. is_event link)

protocol_lower : (fields : List (List ℕ)) (protocol : Proto) → last_protocol fields ≡ Ok protocol → all_lower fields ≡ proto_name protocol ∷ []
protocol_lower fields protocol is = ap all_lower (last_protocol-is fields protocol is) ∙ ap (λ name. name ∷ []) (name_lower protocol)

protocol_row : (links : ℕ) (word : List ℕ) (make : ℕ → Proto → FeedEvent) → str_to_ascii_lowercase word ≡ word →
    ((link : ℕ) (protocol : Proto) → word ∷ decimal link ∷ proto_name protocol ∷ [] ≡ feed_fields (make link protocol)) →
    ReadsIts IsText (row word (read_as (linked links last_protocol) (λ p. make p.0 p.1)))
protocol_row links word make same is_event = linked_row links word last_protocol make (λ protocol. proto_name protocol ∷ []) same protocol_lower is_event

last_timer-lower : (fields : List (List ℕ)) (timer : Timer) → last_timer fields ≡ Ok timer → all_lower fields ≡ timer_name timer ∷ []
last_timer-lower fields timer is = ap all_lower (last_timer-is fields timer is) ∙ ap (λ name. name ∷ []) (timer_lower timer)

timeout-fields : (link : ℕ) (timer : Timer) → timeout_fields link timer ≡ feed_fields (timeout link timer)
timeout-fields link (Restart protocol) = refl
timeout-fields link Bap = refl

timeout_row : (links : ℕ) → ReadsIts IsText (row (codes "timeout") (read_as (linked links last_timer) (λ p. timeout p.0 p.1)))
timeout_row links = linked_row links (codes "timeout") last_timer timeout (λ timer. timer_name timer ∷ []) refl last_timer-lower timeout-fields

last_octets-lower : (fields : List (List ℕ)) (octets : List ℕ) → last_octets fields ≡ Ok octets → all_lower fields ≡ encode_lower octets ∷ []
unfolding last_octets
last_octets-lower fields octets is =
    let f = inside (last_field fields) octets_in octets is in
    ap all_lower (last_field-is fields f.0 f.1.0) ∙ ap (λ x. x ∷ []) (octets_in-lower f.0 octets f.1.1)

octets_row : (links : ℕ) → ReadsIts IsText (bytes_row links)
octets_row links = linked_row links (codes "bytes") last_octets Bytes (λ octets. encode_lower octets ∷ []) refl last_octets-lower (λ link octets. refl)

rows_are : (links : ℕ) → AllByRecursion (ReadsIts IsText) (bytes_row links ∷ plain_rows links)
rows_are links = (
  octets_row links,
  (
    link_row links (codes "up") Up refl (λ l. refl),
    (
      link_row links (codes "down") Down refl (λ l. refl),
      (
        protocol_row links (codes "open") AdminOpen refl (λ l p. refl),
        (
          protocol_row links (codes "close") AdminClose refl (λ l p. refl),
          (timeout_row links, tt),
        ),
      ),
    ),
  ),
)

pub feed_of-is : (links : ℕ) (line : List ℕ) (event : FeedEvent) → feed_of links line ≡ Ok event → str_to_ascii_lowercase line ≡ feed_text event
unfolding feed_of feed_in
feed_of-is links line event is =
    let w = inside (next_field (fields_of line)) (λ word. feed_in links word.0 word.1) event is in
    let fields = next_field-is (fields_of line) w.0 w.1.0 in
    let text = read_by-is IsText (bytes_row links ∷ plain_rows links) (rows_are links) w.0.0 w.0.1 event w.1.1 in
    ap str_to_ascii_lowercase (sym (line_with-fields_of line) ∙ ap line_with fields) ∙ lower-line_with (w.0.0 ∷ w.0.1) ∙ ap line_with text

-- ---- the text of an event reads as it

feed_of-fields : (links link : ℕ) (word : List ℕ) (more : List (List ℕ)) (event : FeedEvent) → links ≤ MOST_LINKS → IsLink links link →
    Spaceless word → All Spaceless more → feed_in links word (decimal link ∷ more) ≡ Ok event → feed_of links (line_with (word ∷ decimal link ∷ more)) ≡ Ok event
unfolding feed_of
feed_of-fields links link word more event few is first rest reads =
    let number = lacks-decimal 32 link (omega (arith, is.1)) (omega arith) in
    rw (fields_of-line_with word (decimal link ∷ more) (All-cons Spaceless word (decimal link ∷ more) first (All-cons Spaceless (decimal link) more number rest))) reads

one_field : (field : List ℕ) → Spaceless field → All Spaceless (field ∷ [])
one_field field is = All-cons Spaceless field [] is (All-nil Spaceless)

linked-fields : {X : Type 0} (links link : ℕ) (last : List (List ℕ) → Result X LineWhy) (more : List (List ℕ)) (x : X) → links ≤ MOST_LINKS → IsLink links link →
    last more ≡ Ok x → linked links last (decimal link ∷ more) ≡ Ok (link, x)
unfolding linked
linked-fields links link last more x few is reads = rw (next_link-decimal links link more few is, reads) refl

last_octets-digits : (octets : List ℕ) → IsOctets octets → last_octets (encode_lower octets ∷ []) ≡ Ok octets
unfolding last_octets
last_octets-digits octets is = octets_in-digits octets is

timeout-text : (links link : ℕ) (timer : Timer) → links ≤ MOST_LINKS → IsLink links link → feed_of links (line_with (timeout_fields link timer)) ≡ Ok (timeout link timer)
unfolding feed_in
timeout-text links link timer few is =
    feed_of-fields links link (codes "timeout") (timer_name timer ∷ []) (timeout link timer) few is (spaceless (codes "timeout") refl) (one_field (timer_name timer) (spaceless_timer timer))
    (rw (linked-fields links link last_timer (timer_name timer ∷ []) timer few is (last_timer-name timer)) refl)

pub feed_of-text : (links : ℕ) (event : FeedEvent) → links ≤ MOST_LINKS → IsWithin links event → feed_of links (feed_text event) ≡ Ok event
unfolding feed_in
feed_of-text links (Up link) few is =
    feed_of-fields links link (codes "up") [] (Up link) few is (spaceless (codes "up") refl) (All-nil Spaceless) (rw (linked-fields links link no_more [] tt few is refl) refl)
feed_of-text links (Down link) few is =
    feed_of-fields links link (codes "down") [] (Down link) few is (spaceless (codes "down") refl) (All-nil Spaceless) (rw (linked-fields links link no_more [] tt few is refl) refl)
feed_of-text links (AdminOpen link protocol) few is =
    feed_of-fields links link (codes "open") (proto_name protocol ∷ []) (AdminOpen link protocol) few is (spaceless (codes "open") refl) (one_field (proto_name protocol) (spaceless_protocol protocol))
    (rw (linked-fields links link last_protocol (proto_name protocol ∷ []) protocol few is (last_protocol-name protocol)) refl)
feed_of-text links (AdminClose link protocol) few is =
    feed_of-fields links link (codes "close") (proto_name protocol ∷ []) (AdminClose link protocol) few is (spaceless (codes "close") refl) (one_field (proto_name protocol) (spaceless_protocol protocol))
    (rw (linked-fields links link last_protocol (proto_name protocol ∷ []) protocol few is (last_protocol-name protocol)) refl)
feed_of-text links (Timeout link protocol) few is = timeout-text links link (Restart protocol) few is
feed_of-text links (BapTimeout link) few is = timeout-text links link Bap few is
feed_of-text links (Bytes link octets) few is =
    feed_of-fields links link (codes "bytes") (encode_lower octets ∷ []) (Bytes link octets) few is.0 (spaceless (codes "bytes") refl) (one_field (encode_lower octets) (digits_spaceless octets is.1))
    (rw (linked-fields links link last_octets (encode_lower octets ∷ []) octets few is.0 (last_octets-digits octets is.1)) refl)
