-- How octets are judged: by their check sequence, and by their header.
use Rattle.std.proofs.Common.{◌≡◌, ℕ, zero, suc, ◌+◌, ◌-◌, ◌*◌, ◌/◌, ◌%◌, ◌^◌, ◌<◌, ◌≤◌, Bool, true, false, List, [], ◌∷◌, ◌++◌, length, get_or, take, drop, Option, Some, None, Ok, refl, ap, sym, ◌∙◌, arith, bit_xor}
use Rattle.std.proofs.lemmas.Bool.{false_from_ne_true, le-ltb}
use Rattle.std.proofs.lemmas.List.{drop_all, drop_more, take-append-drop, take-take, drop-take, drop_at, length-take, length-take-le}
use Rattle.std.specs.Option.{option_map}
use Rattle.std.proofs.lemmas.Nat.{xor_lt}
use Rattle.std.proofs.lemmas.Slice.Eq.{bytes_eq-Decides}
use Rattle.ppp_frame.specs.declared.why.Why.TheVariants.{BadFcs}
use Rattle.ppp_frame.specs.declared.deframer.Lent.{Lent}
use Rattle.ppp_frame.specs.Deframer.{lent_seen, verdict_seen}
use Rattle.ppp_frame.specs.Fcs.{shifted, fcs_run, fcs_of, fcs_octets}
use Rattle.ppp_frame.specs.Header.{read_of, reads}
use Rattle.ppp_frame.specs.Standing.{verdict_at}
use Rattle.ppp_frame.specs.Verdict.{Reader, Discarded, Taken, before_check, frame_in, is_checked, verdict_of, verdict_of_header}
use Rattle.ppp_frame.proofs.FcsLemmas.{shifted-lt, fcs_run-append, good, good_from_check, check_from_good}

fcs_run-lt : (fcs : ℕ) (xs : List ℕ) → fcs < 2 ^ 16 → ((i : ℕ) → get_or xs i 0 < 256) → fcs_run fcs xs < 2 ^ 16
fcs_run-lt fcs [] fits octets = fits
fcs_run-lt fcs (x ∷ xs) fits octets =
    let octet = octets 0 in
    fcs_run-lt (shifted (bit_xor fcs x)) xs (shifted-lt _ (xor_lt 16 fcs x fits (omega arith))) (λ i. octets (suc i))

take_octets : (n : ℕ) (xs : List ℕ) → ((i : ℕ) → get_or xs i 0 < 256) → (i : ℕ) → get_or (take n xs) i 0 < 256
take_octets zero xs octets i = omega arith
take_octets (suc n) [] octets i = omega arith
take_octets (suc n) (x ∷ xs) octets zero = octets 0
take_octets (suc n) (x ∷ xs) octets (suc i) = take_octets n xs (λ k. octets (suc k)) i

last_two : (plain : List ℕ) → 2 ≤ length plain → drop (length plain - 2) plain ≡ get_or plain (length plain - 2) 0 ∷ get_or plain (length plain - 2 + 1) 0 ∷ []
last_two plain long =
    let n = length plain - 2 in
    drop_more plain n 0 (omega arith)
    ∙ ap (λ xs. get_or plain n 0 ∷ xs) (drop_more plain (n + 1) 0 (omega arith)
    ∙ ap (λ xs. get_or plain (n + 1) 0 ∷ xs) (drop_all (n + 1 + 1) plain (omega arith)))

run_parts : (plain : List ℕ) → 2 ≤ length plain → fcs_run 0xffff plain ≡ fcs_run (fcs_run 0xffff (before_check plain)) (get_or plain (length plain - 2) 0 ∷ get_or plain (length plain - 2 + 1) 0 ∷ [])
run_parts plain long =
    let n = length plain - 2 in
    sym (ap (fcs_run 0xffff) (take-append-drop n plain)) ∙ fcs_run-append 0xffff (take n plain) (drop n plain)
    ∙ ap (fcs_run (fcs_run 0xffff (take n plain))) (last_two plain long)

-- octets with their check sequence behind them are those that come to one number

pub checked_from_good : (plain : List ℕ) → 2 ≤ length plain → ((i : ℕ) → get_or plain i 0 < 256) → fcs_run 0xffff plain ≡ good → is_checked plain ≡ true
unfolding is_checked
checked_from_good plain long octets is =
    let n = length plain - 2 in
    let low = get_or plain n 0 in
    let high = get_or plain (n + 1) 0 in
    let low_fits = octets n in
    let high_fits = octets (n + 1) in
    let fits = fcs_run-lt 0xffff (before_check plain) (omega arith) (take_octets n plain octets) in
    let sum : high * 256 + low ≡ fcs_of (before_check plain) =
    check_from_good (fcs_run 0xffff (before_check plain)) low high fits low_fits high_fits (sym (run_parts plain long) ∙ is) in
    let low_is : fcs_of (before_check plain) % 256 ≡ low = omega arith in
    let high_is : fcs_of (before_check plain) / 256 ≡ high = omega arith in
    let same : drop n plain ≡ fcs_octets (before_check plain) = last_two plain long ∙ rw (low_is, high_is) in
    (bytes_eq-Decides _ _).1 same

pub good_from_checked : (plain : List ℕ) → 2 ≤ length plain → ((i : ℕ) → get_or plain i 0 < 256) → is_checked plain ≡ true → fcs_run 0xffff plain ≡ good
unfolding is_checked
good_from_checked plain long octets is =
    let n = length plain - 2 in
    let low = get_or plain n 0 in
    let high = get_or plain (n + 1) 0 in
    let low_fits = octets n in
    let two = last_two plain long in
    let same : drop n plain ≡ fcs_octets (before_check plain) = (bytes_eq-Decides _ _).0 is in
    let low_is : low ≡ fcs_of (before_check plain) % 256 = cc in
    let high_is : high ≡ fcs_of (before_check plain) / 256 = cc in
    run_parts plain long
    ∙ good_from_check (fcs_run 0xffff (before_check plain)) low high low_fits (omega arith)

pub verdict_bad : (ac pf : Bool) (plain : List ℕ) → 4 ≤ length plain → ((i : ℕ) → get_or plain i 0 < 256) → (fcs_run 0xffff plain ≡ good → ⊥) → Discarded BadFcs ≡ verdict_of ac pf plain
verdict_bad ac pf plain long octets bad =
    let wrong = false_from_ne_true _ (λ is. bad (good_from_checked plain (omega arith) octets is)) in
    let whole = le-ltb (length plain) 4 long in
    rw (whole, wrong)

pub verdict_by_header : (ac pf : Bool) (plain : List ℕ) → 4 ≤ length plain → ((i : ℕ) → get_or plain i 0 < 256) → fcs_run 0xffff plain ≡ good → verdict_of_header (read_of ac pf (before_check plain)) ≡ verdict_of ac pf plain
verdict_by_header ac pf plain long octets is =
    let right = checked_from_good plain (omega arith) octets is in
    let whole = le-ltb (length plain) 4 long in
    rw (whole, right)

pub judged_frame : (ac pf : Bool) (plain : List ℕ) (protocol size : ℕ) → 4 ≤ length plain → ((i : ℕ) → get_or plain i 0 < 256) → fcs_run 0xffff plain ≡ good → size ≤ length (before_check plain) → read_of ac pf (before_check plain) ≡ Some (reads protocol (drop size (before_check plain))) → Taken (reads protocol (take (length plain - 2 - size) (drop size plain))) ≡ verdict_of ac pf plain
judged_frame ac pf plain protocol size long octets is fits read =
    let n = length plain - 2 in
    let within : size ≤ n = omega (arith, length-take n plain) in
    let info : take (n - size) (drop size plain) ≡ drop size (before_check plain) =
    sym (drop-take size (n - size) plain) ∙ ap (λ k. drop size (take k plain)) (omega arith) in
    ap (λ xs. Taken (reads protocol xs)) info ∙ ap verdict_of_header (sym read) ∙ verdict_by_header ac pf plain long octets is

-- ---- the frame that is lent

pub lent_within : (room : List ℕ) (held : ℕ) (l : Lent) → l.start ≤ l.end → l.end ≤ held → lent_seen (take held room) l ≡ lent_seen room l
lent_within room held l rising within =
    let size = l.end - l.start in
    let part : take size (drop l.start (take held room)) ≡ take size (drop l.start room) =
    sym (drop-take l.start size (take held room))
    ∙ ap (drop l.start) (take-take (l.start + size) held room (omega arith))
    ∙ drop-take l.start size room in
    ap (λ xs. record { protocol = l.protocol; info = xs }) part

pub lent_frame : (r : Reader) (room : List ℕ) (held : ℕ) (past escaped : Bool) (l : Lent) → past ≡ false → escaped ≡ false → l.start ≤ l.end → l.end ≤ held → verdict_seen (take held room) (Ok l) ≡ verdict_of r.ac r.pf (take held room) → Some (lent_seen room l) ≡ frame_in (verdict_at r (record { plain = take held room; past = past; escaped = escaped }))
lent_frame r room held past escaped l within plain rising fits is =
    rw (within, plain, ← is) (ap (λ f. Some f) (sym (lent_within room held l rising fits)))

-- the octets that were taken in last
pub kept_run : (room new xs : List ℕ) (held end : ℕ) → held ≤ length room → end ≡ held + length xs → take end new ≡ take held room ++ xs → take (end - held) (drop held new) ≡ xs
kept_run room new xs held end fits is written =
    sym (drop-take held (end - held) new)
    ∙ ap (λ n. drop held (take n new)) (omega arith)
    ∙ ap (drop held) written
    ∙ drop_at (take held room) xs held (length-take-le held room fits)

-- where none is lent, none is lent in another room
pub none_lent : (room other : List ℕ) (o : Option Lent) → option_map (lent_seen room) o ≡ None → option_map (lent_seen other) o ≡ option_map (lent_seen room) o
none_lent room other None none = refl
none_lent room other (Some l) none = absurd (cc)
