-- Facts on event lines: the text of an event reads as it, and what reads as an event is its text.
use Rattle.std.proofs.Common.{drop, ◌≡◌, ℕ, ◌^◌, ◌<◌, ◌≤◌, List, [], ◌∷◌, refl, sym, ◌∙◌, ap, arith}
use Rattle.std.specs.Prelude.{Result, Ok, All, codes}
use Rattle.std.specs.List.{AllByRecursion}
use Rattle.std.specs.Fmt.{decimal}
use Rattle.std.proofs.lemmas.List.Elements.{All-nil, All-cons}
use Rattle.ppp_packet.specs.declared.proto.Proto.{Proto}
use Rattle.ppp_packet.specs.Proto.{proto_name}
use Rattle.ppp_text.specs.Fields.{fields_of, line_with}
use Rattle.ppp_text.proofs.FieldsLemmas.{line_with-fields_of, fields_of-line_with, spaceless}
use Rattle.ppp_text.proofs.NumbersLemmas.{number_in-decimal, lacks-decimal}
use Rattle.ppp_script.specs.declared.end.End.{End}
use Rattle.ppp_script.specs.declared.end.End.TheVariants.{A, B}
use Rattle.ppp_script.specs.declared.event.Event.{Event}
use Rattle.ppp_script.specs.declared.event.Event.TheVariants.{Up, Down, AdminOpen, AdminClose, Timeout, BapTimeout, Deliver, Lose, Settle, Reboot, Call, Callback, Drop, Status, Show}
use Rattle.ppp_script.specs.declared.field.TheConstants.{MOST_LINKS}
use Rattle.ppp_script.specs.declared.event.TheConstants.{MOST_PLACE, MOST_SETTLED, MOST_STATUS}
use Rattle.ppp_script.specs.declared.line_why.LineWhy.{LineWhy}
use Rattle.ppp_script.specs.declared.timer.Timer.{Timer}
use Rattle.ppp_script.specs.declared.timer.Timer.TheVariants.{Restart, Bap}
use Rattle.ppp_script.specs.End.{end_name}
use Rattle.ppp_script.specs.Event.{IsWithin, event_fields, event_text, place_in, placed, last_number, last_end, place_fields, timeout_fields, timeout, bap_rows, rows, event_in, event_of}
use Rattle.ppp_script.specs.Field.{next_field, no_more, number_field, end_in, link_in, last_protocol, IsLink}
use Rattle.ppp_script.specs.Results.{◌>>=◌}
use Rattle.ppp_script.specs.Row.{row, read_as}
use Rattle.ppp_script.specs.Timer.{timer_name, last_timer}
use Rattle.ppp_script.proofs.FieldLemmas.{Spaceless, inside, next_field-is, no_more-is, number_field-is, end_in-is, link_in-is, last_protocol-is, last_protocol-name, link_in-decimal, spaceless_number, spaceless_protocol}
use Rattle.ppp_script.proofs.RowLemmas.{ReadsIts, read_by-is, row_is}
use Rattle.ppp_script.proofs.TimerLemmas.{last_timer-is, last_timer-name, spaceless_timer}

-- what reads as a value is its text

place_in-is : (links : ℕ) (fields : List (List ℕ)) (p : End × ℕ × List (List ℕ)) → place_in links fields ≡ Ok p → fields ≡ end_name p.0 ∷ decimal p.1 ∷ p.2
unfolding place_in
place_in-is links [] p is = absurd (cc)
place_in-is links (first ∷ behind) p is =
    let e = inside (end_in first) (λ end. next_field behind >>= (λ second. link_in links second.0 >>= (λ link. Ok (end, link, second.1)))) p is in
    let s = inside (next_field behind) (λ second. link_in links second.0 >>= (λ link. Ok (e.0, link, second.1))) p e.1.1 in
    let l = inside (link_in links s.0.0) (λ link. Ok (e.0, link, s.0.1)) p s.1.1 in
    let made : (e.0, l.0, s.0.1) ≡ p = cc in
    let rest : behind ≡ decimal l.0 ∷ s.0.1 = next_field-is behind s.0 s.1.0 ∙ ap (λ x. x ∷ s.0.1) (link_in-is links l.0 s.0.0 l.1.0) in
    ap (λ x. x ∷ behind) (end_in-is first e.0 e.1.0) ∙ ap (λ xs. end_name e.0 ∷ xs) rest ∙ ap (λ (q : End × ℕ × List (List ℕ)). end_name q.0 ∷ decimal q.1 ∷ q.2) made

placed-is : {X : Type 0} (links : ℕ) (last : List (List ℕ) → Result X LineWhy) (text : X → List (List ℕ)) → ((fields : List (List ℕ)) (x : X) → last fields ≡ Ok x → fields ≡ text x) →
    (fields : List (List ℕ)) (p : End × ℕ × X) → placed links last fields ≡ Ok p → fields ≡ place_fields p.0 p.1 (text p.2)
unfolding placed
placed-is {X} links last text is_text fields p is =
    let a = inside (place_in links fields) (λ place. last place.2 >>= (λ x. Ok (place.0, place.1, x))) p is in
    let b = inside (last a.0.2) (λ x. Ok (a.0.0, a.0.1, x)) p a.1.1 in
    let made : (a.0.0, a.0.1, b.0) ≡ p = cc in
    place_in-is links fields a.0 a.1.0 ∙ ap (λ more. place_fields a.0.0 a.0.1 more) (is_text a.0.2 b.0 b.1.0) ∙ ap (λ (q : End × ℕ × X). place_fields q.0 q.1 (text q.2)) made

last_number-is : (least most : ℕ) → most < 2 ^ 64 → (fields : List (List ℕ)) (n : ℕ) → last_number least most fields ≡ Ok n → fields ≡ decimal n ∷ []
unfolding last_number
last_number-is least most fits fields n is =
    let t = inside (next_field fields) (λ first. number_field least most first.0 >>= (λ count. no_more first.1 >>= (λ nothing. Ok count))) n is in
    let r = inside (number_field least most t.0.0) (λ count. no_more t.0.1 >>= (λ nothing. Ok count)) n t.1.1 in
    let b = inside (no_more t.0.1) (λ nothing. Ok r.0) n r.1.1 in
    let made : r.0 ≡ n = cc in
    next_field-is fields t.0 t.1.0 ∙ ap (λ x. x ∷ t.0.1) (number_field-is least most r.0 t.0.0 fits r.1.0) ∙ ap (λ xs. decimal r.0 ∷ xs) (no_more-is t.0.1 b.0 b.1.0) ∙ ap (λ m. decimal m ∷ []) made

last_end-is : (fields : List (List ℕ)) (end : End) → last_end fields ≡ Ok end → fields ≡ end_name end ∷ []
unfolding last_end
last_end-is fields end is =
    let t = inside (next_field fields) (λ first. end_in first.0 >>= (λ end. no_more first.1 >>= (λ nothing. Ok end))) end is in
    let r = inside (end_in t.0.0) (λ end. no_more t.0.1 >>= (λ nothing. Ok end)) end t.1.1 in
    let b = inside (no_more t.0.1) (λ nothing. Ok r.0) end r.1.1 in
    let made : r.0 ≡ end = cc in
    next_field-is fields t.0 t.1.0 ∙ ap (λ x. x ∷ t.0.1) (end_in-is t.0.0 r.0 r.1.0) ∙ ap (λ xs. end_name r.0 ∷ xs) (no_more-is t.0.1 b.0 b.1.0) ∙ ap (λ e. end_name e ∷ []) made

-- a line is its event's text
abbrev IsText : List (List ℕ) → Event → Type 0
IsText fields event = fields ≡ event_fields event

-- a row that reads fields by this reader, and makes an event of what it read
text_row : {X : Type 0} (word : List ℕ) (reads : List (List ℕ) → Result X LineWhy) (make : X → Event) (text : X → List (List ℕ)) →
    ((fields : List (List ℕ)) (x : X) → reads fields ≡ Ok x → fields ≡ text x) → ((x : X) → word ∷ text x ≡ event_fields (make x)) → ReadsIts IsText (row word (read_as reads make))
text_row word reads make text is_text is_event = row_is IsText word reads make (λ fields x is. ap (λ fs. word ∷ fs) (is_text fields x is) ∙ is_event x)

link_row : (links : ℕ) (word : List ℕ) (make : End → ℕ → Event) → ((end : End) (link : ℕ) → word ∷ place_fields end link [] ≡ event_fields (make end link)) →
    ReadsIts IsText (row word (read_as (placed links no_more) (λ p. make p.0 p.1)))
link_row links word make is_event = text_row word (placed links no_more) (λ p. make p.0 p.1) (λ p. place_fields p.0 p.1 []) (placed-is links no_more (λ nothing. []) no_more-is) (λ p. is_event p.0 p.1)

protocol_row : (links : ℕ) (word : List ℕ) (make : End → ℕ → Proto → Event) →
    ((end : End) (link : ℕ) (protocol : Proto) → word ∷ place_fields end link (proto_name protocol ∷ []) ≡ event_fields (make end link protocol)) →
    ReadsIts IsText (row word (read_as (placed links last_protocol) (λ p. make p.0 p.1 p.2)))
protocol_row links word make is_event = text_row word (placed links last_protocol) (λ p. make p.0 p.1 p.2) (λ p. place_fields p.0 p.1 (proto_name p.2 ∷ []))
    (placed-is links last_protocol (λ protocol. proto_name protocol ∷ []) last_protocol-is) (λ p. is_event p.0 p.1 p.2)

timeout-fields : (end : End) (link : ℕ) (timer : Timer) → timeout_fields end link timer ≡ event_fields (timeout end link timer)
timeout-fields end link (Restart protocol) = refl
timeout-fields end link Bap = refl

timeout_row : (links : ℕ) → ReadsIts IsText (row (codes "timeout") (read_as (placed links last_timer) (λ p. timeout p.0 p.1 p.2)))
timeout_row links = text_row (codes "timeout") (placed links last_timer) (λ p. timeout p.0 p.1 p.2) (λ p. place_fields p.0 p.1 (timer_name p.2 ∷ []))
    (placed-is links last_timer (λ timer. timer_name timer ∷ []) last_timer-is) (λ p. timeout-fields p.0 p.1 p.2)

number_row : (links least most : ℕ) (word : List ℕ) (make : End → ℕ → ℕ → Event) → most < 2 ^ 64 →
    ((end : End) (link n : ℕ) → word ∷ place_fields end link (decimal n ∷ []) ≡ event_fields (make end link n)) →
    ReadsIts IsText (row word (read_as (placed links (last_number least most)) (λ p. make p.0 p.1 p.2)))
number_row links least most word make fits is_event = text_row word (placed links (last_number least most)) (λ p. make p.0 p.1 p.2) (λ p. place_fields p.0 p.1 (decimal p.2 ∷ []))
    (placed-is links (last_number least most) (λ n. decimal n ∷ []) (last_number-is least most fits)) (λ p. is_event p.0 p.1 p.2)

settle_row : ReadsIts IsText (row (codes "settle") (read_as (last_number 1 MOST_SETTLED) Settle))
settle_row = text_row (codes "settle") (last_number 1 MOST_SETTLED) Settle (λ n. decimal n ∷ []) (last_number-is 1 MOST_SETTLED (omega arith)) (λ n. refl)

reboot_row : ReadsIts IsText (row (codes "reboot") (read_as last_end Reboot))
reboot_row = text_row (codes "reboot") last_end Reboot (λ end. end_name end ∷ []) last_end-is (λ end. refl)

show_row : ReadsIts IsText (row (codes "show") (read_as no_more (λ nothing. Show)))
show_row = text_row (codes "show") no_more (λ nothing. Show) (λ nothing. []) no_more-is (λ nothing. refl)

bap_rows_are : (links : ℕ) → AllByRecursion (ReadsIts IsText) (bap_rows links)
bap_rows_are links =
    let by_link = link_row links in
    let few : AllByRecursion (ReadsIts IsText) (drop 2 (bap_rows links)) =
    (by_link (codes "drop") Drop (λ e l. refl), (number_row links 0 MOST_STATUS (codes "status") Status (omega arith) (λ e l n. refl), tt)) in
    (by_link (codes "call") Call (λ e l. refl), (by_link (codes "callback") Callback (λ e l. refl), few))

rows_are : (links : ℕ) → AllByRecursion (ReadsIts IsText) (rows links)
rows_are links =
    let by_link = link_row links in
    let by_protocol = protocol_row links in
    let few : AllByRecursion (ReadsIts IsText) (drop 6 (rows links)) = (number_row links 1 MOST_PLACE (codes "lose") Lose (omega arith) (λ e l n. refl), (settle_row, (reboot_row, (show_row, bap_rows_are links)))) in
    let some : AllByRecursion (ReadsIts IsText) (drop 4 (rows links)) = (timeout_row links, (by_link (codes "deliver") Deliver (λ e l. refl), few)) in
    let more : AllByRecursion (ReadsIts IsText) (drop 2 (rows links)) = (by_protocol (codes "open") AdminOpen (λ e l p. refl), (by_protocol (codes "close") AdminClose (λ e l p. refl), some)) in
    (by_link (codes "up") Up (λ e l. refl), (by_link (codes "down") Down (λ e l. refl), more))

pub event_of-is : (links : ℕ) (line : List ℕ) (event : Event) → event_of links line ≡ Ok event → line ≡ event_text event
unfolding event_of event_in
event_of-is links line event is =
    let w = inside (next_field (fields_of line)) (λ word. event_in links word.0 word.1) event is in
    let fields = next_field-is (fields_of line) w.0 w.1.0 ∙ read_by-is IsText (rows links) (rows_are links) w.0.0 w.0.1 event w.1.1 in
    sym (line_with-fields_of line) ∙ ap line_with fields

-- the text of an event reads as it

spaceless_end : (end : End) → Spaceless (end_name end)
spaceless_end A = spaceless (codes "a") refl
spaceless_end B = spaceless (codes "b") refl

spaceless_place : (end : End) (link : ℕ) (more : List (List ℕ)) → link < 2 ^ 64 → All Spaceless more → All Spaceless (end_name end ∷ decimal link ∷ more)
spaceless_place end link more fits all = All-cons Spaceless (end_name end) (decimal link ∷ more) (spaceless_end end) (All-cons Spaceless (decimal link) more (lacks-decimal 32 link fits (omega arith)) all)

place_in-fields : (links link : ℕ) (end : End) (more : List (List ℕ)) → links ≤ MOST_LINKS → IsLink links link → place_in links (end_name end ∷ decimal link ∷ more) ≡ Ok (end, link, more)
unfolding place_in
place_in-fields links link A more few is = rw (link_in-decimal links link few is) refl
place_in-fields links link B more few is = rw (link_in-decimal links link few is) refl

event_of-fields : (links : ℕ) (word : List ℕ) (more : List (List ℕ)) (event : Event) → Spaceless word → All Spaceless more → event_in links word more ≡ Ok event → event_of links (line_with (word ∷ more)) ≡ Ok event
unfolding event_of
event_of-fields links word more event first rest is = rw (fields_of-line_with word more (All-cons Spaceless word more first rest)) is

placed-fields : {X : Type 0} (links link : ℕ) (end : End) (last : List (List ℕ) → Result X LineWhy) (more : List (List ℕ)) (x : X) → links ≤ MOST_LINKS → IsLink links link →
    last more ≡ Ok x → placed links last (place_fields end link more) ≡ Ok (end, link, x)
unfolding placed
placed-fields links link end last more x few is reads = rw (place_in-fields links link end more few is, reads) refl

last_number-decimal : (least most n : ℕ) → most < 2 ^ 64 → least ≤ n → n ≤ most → last_number least most (decimal n ∷ []) ≡ Ok n
unfolding last_number
last_number-decimal least most n fits low high = rw (number_in-decimal least most n low high (omega arith)) refl

link_reads : (links link : ℕ) (end : End) → links ≤ MOST_LINKS → IsLink links link → All Spaceless (place_fields end link []) × (placed links no_more (place_fields end link []) ≡ Ok (end, link, tt))
link_reads links link end few is = (spaceless_place end link [] (omega (arith, is.1)) (All-nil Spaceless), placed-fields links link end no_more [] tt few is refl)

protocol_reads : (links link : ℕ) (end : End) (protocol : Proto) → links ≤ MOST_LINKS → IsLink links link →
    All Spaceless (place_fields end link (proto_name protocol ∷ [])) × (placed links last_protocol (place_fields end link (proto_name protocol ∷ [])) ≡ Ok (end, link, protocol))
protocol_reads links link end protocol few is = (
  spaceless_place end link (proto_name protocol ∷ []) (omega (arith, is.1)) (All-cons Spaceless (proto_name protocol) [] (spaceless_protocol protocol) (All-nil Spaceless)),
  placed-fields links link end last_protocol (proto_name protocol ∷ []) protocol few is (last_protocol-name protocol),
)

number_reads : (links link least most n : ℕ) (end : End) → links ≤ MOST_LINKS → IsLink links link → most < 2 ^ 64 → least ≤ n → n ≤ most →
    All Spaceless (place_fields end link (decimal n ∷ [])) × (placed links (last_number least most) (place_fields end link (decimal n ∷ [])) ≡ Ok (end, link, n))
number_reads links link least most n end few is fits low high = (
  spaceless_place end link (decimal n ∷ []) (omega (arith, is.1)) (spaceless_number n (omega (arith, high, fits))),
  placed-fields links link end (last_number least most) (decimal n ∷ []) n few is (last_number-decimal least most n fits low high),
)

timeout-text : (links link : ℕ) (end : End) (timer : Timer) → links ≤ MOST_LINKS → IsLink links link → event_of links (line_with (timeout_fields end link timer)) ≡ Ok (timeout end link timer)
unfolding event_in
timeout-text links link end timer few is =
    let reads = placed-fields links link end last_timer (timer_name timer ∷ []) timer few is (last_timer-name timer) in
    event_of-fields links (codes "timeout") (place_fields end link (timer_name timer ∷ [])) (timeout end link timer) (spaceless (codes "timeout") refl)
    (spaceless_place end link (timer_name timer ∷ []) (omega (arith, is.1)) (All-cons Spaceless (timer_name timer) [] (spaceless_timer timer) (All-nil Spaceless)))
    (rw reads refl)

last_end-name : (end : End) → last_end (end_name end ∷ []) ≡ Ok end
unfolding last_end
last_end-name A = refl
last_end-name B = refl

pub event_of-text : (links : ℕ) (event : Event) → links ≤ MOST_LINKS → IsWithin links event → event_of links (event_text event) ≡ Ok event
unfolding event_in
event_of-text links (Up end link) few is =
    let r = link_reads links link end few is in event_of-fields links (codes "up") (place_fields end link []) (Up end link) (spaceless (codes "up") refl) r.0 (rw r.1 refl)
event_of-text links (Down end link) few is =
    let r = link_reads links link end few is in event_of-fields links (codes "down") (place_fields end link []) (Down end link) (spaceless (codes "down") refl) r.0 (rw r.1 refl)
event_of-text links (AdminOpen end link protocol) few is =
    let r = protocol_reads links link end protocol few is in
    event_of-fields links (codes "open") (place_fields end link (proto_name protocol ∷ [])) (AdminOpen end link protocol) (spaceless (codes "open") refl) r.0 (rw r.1 refl)
event_of-text links (AdminClose end link protocol) few is =
    let r = protocol_reads links link end protocol few is in
    event_of-fields links (codes "close") (place_fields end link (proto_name protocol ∷ [])) (AdminClose end link protocol) (spaceless (codes "close") refl) r.0 (rw r.1 refl)
event_of-text links (Timeout end link protocol) few is = timeout-text links link end (Restart protocol) few is
event_of-text links (BapTimeout end link) few is = timeout-text links link end Bap few is
event_of-text links (Deliver end link) few is =
    let r = link_reads links link end few is in event_of-fields links (codes "deliver") (place_fields end link []) (Deliver end link) (spaceless (codes "deliver") refl) r.0 (rw r.1 refl)
event_of-text links (Lose end link place) few is =
    let r = number_reads links link 1 MOST_PLACE place end few is.0 (omega arith) is.1.0 is.1.1 in
    event_of-fields links (codes "lose") (place_fields end link (decimal place ∷ [])) (Lose end link place) (spaceless (codes "lose") refl) r.0 (rw r.1 refl)
event_of-text links (Settle count) few is =
    event_of-fields links (codes "settle") (decimal count ∷ []) (Settle count) (spaceless (codes "settle") refl) (spaceless_number count (omega (arith, is.1)))
    (rw (last_number-decimal 1 MOST_SETTLED count (omega arith) is.0 is.1) refl)
event_of-text links (Reboot end) few is =
    event_of-fields links (codes "reboot") (end_name end ∷ []) (Reboot end) (spaceless (codes "reboot") refl)
    (All-cons Spaceless (end_name end) [] (spaceless_end end) (All-nil Spaceless)) (rw (last_end-name end) refl)
event_of-text links (Call end link) few is =
    let r = link_reads links link end few is in event_of-fields links (codes "call") (place_fields end link []) (Call end link) (spaceless (codes "call") refl) r.0 (rw r.1 refl)
event_of-text links (Callback end link) few is =
    let r = link_reads links link end few is in event_of-fields links (codes "callback") (place_fields end link []) (Callback end link) (spaceless (codes "callback") refl) r.0 (rw r.1 refl)
event_of-text links (Drop end link) few is =
    let r = link_reads links link end few is in event_of-fields links (codes "drop") (place_fields end link []) (Drop end link) (spaceless (codes "drop") refl) r.0 (rw r.1 refl)
event_of-text links (Status end link status) few is =
    let r = number_reads links link 0 MOST_STATUS status end few is.0 (omega arith) (omega arith) is.1 in
    event_of-fields links (codes "status") (place_fields end link (decimal status ∷ [])) (Status end link status) (spaceless (codes "status") refl) r.0 (rw r.1 refl)
event_of-text links Show few is = event_of-fields links (codes "show") [] Show (spaceless (codes "show") refl) (All-nil Spaceless) refl
