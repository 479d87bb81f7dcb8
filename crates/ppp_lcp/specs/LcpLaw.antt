-- LCP's rows owe what rows owe, and its Magic-Numbers differ.
use Rattle.std.proofs.Common.{◌≡◌, ℕ, ◌+◌, ◌≤◌, Bool, true, false, not, ◌&&◌, List, [], ◌∷◌, length, take, refl, sym, ◌∙◌, subst, arith}
use Rattle.std.specs.Prelude.{◌==◌, nat_le, if◌then◌else◌, Option, Some, None}
use Rattle.std.specs.Bool.{then_some}
use Rattle.std.specs.Option.{option_map}
use Rattle.std.specs.Str.{bytes_eq}
use Rattle.std.proofs.lemmas.Bool.Decides.{nat_tests}
use Rattle.std.proofs.lemmas.List.{length-take-le}
use Rattle.ppp_packet.specs.ConfigOption.{ConfigOption}
use Rattle.ppp_packet.specs.Packet.{two_octets}
use Rattle.ppp_packet.specs.DiscClass.{is_good_disc}
use Rattle.ppp_auto.specs.Taken.{four_octets}
use Rattle.ppp_options.specs.DiffersLaw.{TakesOthers, allowed-differs}
use Rattle.ppp_options.specs.Number.{number, is_within, is_new, pick}
use Rattle.ppp_options.specs.NumberLaw.{number-two_octets, two_octets-within}
use Rattle.ppp_options.specs.NumberRuleLaw.{number_is_rule, drawn-sent}
use Rattle.ppp_options.specs.Rule.{IsRule}
use Rattle.ppp_options.specs.RuleLaw.{and-both, both-and}
use Rattle.ppp_options.specs.Rules.{IsTable, Sendable, Allows}
use Rattle.ppp_lcp.specs.LcpRanges.{is_mrru, are_classes, is_disc_body, is_classes_body}
use Rattle.ppp_lcp.specs.LcpTable.{FitsMagic, lcp_rule, mru_rule, accm_after, accm_rule, magic_rule, flag_rule, mrru_rule, disc_body, disc_rule, is_link_disc, link_disc_rule, is_own_form, own_code, has_classes, better_form, classes_rule, lcp_rules, is_multilink, asks_short}
use Rattle.ppp_lcp.specs.declared.lcp_kind.LcpKind.{LcpKind}
use Rattle.ppp_lcp.specs.declared.lcp_kind.LcpKind.TheVariants.{Mru, Accm, Magic, Pfc, Acfc, Mrru, Short, Disc, LinkDisc, Classes}
use Rattle.ppp_lcp.specs.declared.lcp_table.LcpTable.{LcpTable}
use Rattle.ppp_lcp.specs.LcpSettings.{LcpSettings, IsRanged, settings_seen}

-- what is asked for, if anything is, is the one body
then-some : (b : Bool) (x body : List ℕ) → then_some b x ≡ Some body → (b ≡ true) × (x ≡ body)
then-some true x body e = (refl, cc)
then-some false x body e = cc

within-long : (least most : ℕ) (body : List ℕ) → is_within 2 least most body ≡ true → 2 + length body ≤ 4
within-long least most body h = grind (arith, nat_tests)

within-if : (least most low high : ℕ) (last nak : List ℕ) → is_within 2 least most last ≡ true → least ≤ low → high ≤ most →
    is_within 2 least most (if is_within 2 low high nak then nak else last) ≡ true
within-if least most low high last nak h a b = grind (arith, nat_tests)

within-if-long : (least most low high : ℕ) (last nak : List ℕ) → is_within 2 least most last ≡ true →
    length (if is_within 2 low high nak then nak else last) ≡ length last
within-if-long least most low high last nak h = grind (arith, nat_tests)

-- MRU
mru-first : (mru : ℕ) (body : List ℕ) → 128 ≤ mru → mru ≤ 8192 → then_some (not (mru == 1500))
    (two_octets mru) ≡ Some body → is_within 2 128 8192 body ≡ true
mru-first mru body low high e =
    let asked = then-some (not (mru == 1500)) (two_octets mru) body e in
    subst (λ (b : List ℕ). is_within 2 128 8192 b ≡ true) asked.1 (two_octets-within 128 8192 mru (omega arith) low high)

sized-short : (size : ℕ) (b : Bool) (body : List ℕ) → ((length body == size) && b) ≡ true → 2 + length body ≤ 2 + size
sized-short size b body h = grind (arith, nat_tests)

mru_is_rule : (t : LcpSettings) → IsRanged t → IsRule (mru_rule t)
mru_is_rule t ranged = record {
  first_sent = λ word body e. mru-first t.mru body ranged.least_mru ranged.most_mru e;
  first_set = λ word body e. refl;
  first_there = λ e word. cc;
  after_sent = λ last nak word h. within-if 128 8192 128 8192 last nak h (omega arith) (omega arith);
  after_set = λ last nak word h k. refl;
  after_long = λ last nak word h. within-if-long 128 8192 128 8192 last nak h;
  sent_short = λ body h. within-long 128 8192 body h;
  good_short = λ own body known h. sized-short 2 (nat_le 128 (number body)) body h;
  better_short = λ own body word. omega arith;
}

-- ACCM
accm-first : (asked : Bool) (accm : ℕ) (body : List ℕ) → then_some asked (four_octets accm) ≡ Some body →
    (length body == 4) ≡ true
accm-first asked accm body e =
    let one = then-some asked (four_octets accm) body e in subst (λ (b : List ℕ). (length b == 4) ≡ true) one.1 refl

accm-long : (last nak : List ℕ) → (length last == 4) ≡ true → length (accm_after last nak) ≡ length last
accm-long last nak h = grind (arith, nat_tests)

accm-sent : (last nak : List ℕ) → (length last == 4) ≡ true → (length (accm_after last nak) == 4) ≡ true
accm-sent last nak h = let long = accm-long last nak h in grind (arith, nat_tests)

size-short : (size : ℕ) (body : List ℕ) → (length body == size) ≡ true → 2 + length body ≤ 2 + size
size-short size body h = grind (arith, nat_tests)

accm_is_rule : (t : LcpSettings) → IsRule (accm_rule t)
accm_is_rule t = record {
  first_sent = λ word body e. accm-first _ t.accm body e;
  first_set = λ word body e. refl;
  first_there = λ e word. cc;
  after_sent = λ last nak word h. accm-sent last nak h;
  after_set = λ last nak word h k. refl;
  after_long = λ last nak word h. accm-long last nak h;
  sent_short = λ body h. size-short 4 body h;
  good_short = λ own body known h. size-short 4 body h;
  better_short = λ own body word. omega arith;
}

-- Magic-Number
magic-first : (asked : Bool) (word : ℕ) (body : List ℕ) → then_some asked (four_octets (pick word 0)) ≡ Some body →
    is_new 4 0 body ≡ true
magic-first asked word body e =
    let one = then-some asked (four_octets (pick word 0)) body e in subst (λ (b : List ℕ). is_new 4 0 b ≡ true) one.1 (drawn-sent word 0)

magic_is_rule : (t : LcpSettings) → IsRule (magic_rule t)
magic_is_rule t = number_is_rule 5 false (λ word. then_some t.magic (four_octets (pick word 0))) (λ word body e. magic-first t.magic word body e) (λ e word. cc)

-- options without a body
flag-first : (set : Bool) (body : List ℕ) → then_some set [] ≡ Some body → (length body == 0) ≡ true
flag-first set body e = let one = then-some set [] body e in subst (λ (b : List ℕ). (length b == 0) ≡ true) one.1 refl

flag_is_rule : (kind : LcpKind) (set known : Bool) → IsRule (flag_rule kind set known)
flag_is_rule kind set known = record {
  first_sent = λ word body e. flag-first set body e;
  first_set = λ word body e. (then-some set [] body e).0;
  first_there = λ e word. cc;
  after_sent = λ last nak word h. h;
  after_set = λ last nak word h k. k;
  after_long = λ last nak word h. refl;
  sent_short = λ body h. size-short 0 body h;
  good_short = λ own body known h. size-short 0 body h;
  better_short = λ own body word. omega arith;
}

-- MRRU
mrru-first : (mrru : ℕ) (body : List ℕ) → is_mrru mrru ≡ true → then_some (not (mrru == 0))
    (two_octets mrru) ≡ Some body → is_within 2 1500 8192 body ≡ true
mrru-first mrru body ranged e =
    let asked = then-some (not (mrru == 0)) (two_octets mrru) body e in
    let not_zero : not (mrru == 0) ≡ true = asked.0 in
    let low : 1500 ≤ mrru = grind (arith, nat_tests) in
    let high : mrru ≤ 8192 = grind (arith, nat_tests) in
    subst (λ (b : List ℕ). is_within 2 1500 8192 b ≡ true) asked.1 (two_octets-within 1500 8192 mrru (omega arith) low high)

set-at : (b : Bool) (n most : ℕ) → b ≡ true → n ≡ most → (b && nat_le n most) ≡ true
set-at b n most h e = grind (arith, nat_tests)

mrru-set-first : (mrru : ℕ) (body : List ℕ) → is_mrru mrru ≡ true → then_some (not (mrru == 0))
    (two_octets mrru) ≡ Some body → (not (mrru == 0) && nat_le (number body) mrru) ≡ true
mrru-set-first mrru body ranged e =
    let asked = then-some (not (mrru == 0)) (two_octets mrru) body e in
    let high : mrru ≤ 8192 = grind (arith, nat_tests) in
    let same = number-two_octets mrru (omega arith) in
    let at : number body ≡ mrru = subst (λ (b : List ℕ). number b ≡ mrru) asked.1 same in
    set-at (not (mrru == 0)) (number body) mrru asked.0 at

mrru-most : (mrru : ℕ) → is_mrru mrru ≡ true → mrru ≤ 8192
mrru-most mrru h = grind (arith, nat_tests)

mrru-set : (mrru : ℕ) (last nak : List ℕ) → (not (mrru == 0) && nat_le (number last) mrru) ≡ true →
    (not (mrru == 0) && nat_le (number (if is_within 2 1500 mrru nak then nak else last)) mrru) ≡ true
mrru-set mrru last nak k = grind (arith, nat_tests)

mrru_is_rule : (t : LcpSettings) → IsRanged t → IsRule (mrru_rule t)
mrru_is_rule t ranged = record {
  first_sent = λ word body e. mrru-first t.mrru body ranged.is_mrru e;
  first_set = λ word body e. mrru-set-first t.mrru body ranged.is_mrru e;
  first_there = λ e word. cc;
  after_sent = λ last nak word h. within-if 1500 8192 1500 t.mrru last nak h (omega arith) (mrru-most t.mrru ranged.is_mrru);
  after_set = λ last nak word h k. mrru-set t.mrru last nak k;
  after_long = λ last nak word h. within-if-long 1500 8192 1500 t.mrru last nak h;
  sent_short = λ body h. within-long 1500 8192 body h;
  good_short = λ own body known h. sized-short 2 (nat_le 1500 (number body)) body h;
  better_short = λ own body word. omega arith;
}

-- Endpoint-Discriminator
size-most : (c size : ℕ) → is_good_disc c size ≡ true → size ≤ 20
size-most c size h = grind (arith, nat_tests)

same-bytes : (xs : List ℕ) → bytes_eq xs xs ≡ true
same-bytes [] = refl
same-bytes (x ∷ xs) = let rest = same-bytes xs in grind (arith, nat_tests)

disc-short : (body : List ℕ) → is_disc_body body ≡ true → 2 + length body ≤ 23
disc-short [] h = cc
disc-short (c ∷ address) h = let most = size-most c (length address) h in omega arith

disc-first : (t : LcpSettings) → IsRanged t → (asked : Bool) (body : List ℕ) → then_some asked (disc_body t) ≡ Some body →
    (is_disc_body body ≡ true) × (asked ≡ true) × (disc_body t ≡ body)
disc-first t ranged asked body e =
    let one = then-some asked (disc_body t) body e in (subst (λ (b : List ℕ). is_disc_body b ≡ true) one.1 ranged.is_disc, one.0, one.1)

disc_is_rule : (t : LcpSettings) → IsRanged t → IsRule (disc_rule t)
disc_is_rule t ranged = record {
  first_sent = λ word body e. (disc-first t ranged _ body e).0;
  first_set = λ word body e. let one = disc-first t ranged _ body e in subst (λ (b : List ℕ). (not (t.disc.0 == 0) && bytes_eq b (disc_body t)) ≡ true) one.2 (rw one.1 (same-bytes (disc_body t)));
  first_there = λ e word. cc;
  after_sent = λ last nak word h. h;
  after_set = λ last nak word h k. k;
  after_long = λ last nak word h. refl;
  sent_short = λ body h. disc-short body h;
  good_short = λ own body known h. disc-short body h;
  better_short = λ own body word. omega arith;
}

-- Link-Discriminator
link-first : (own : Option ℕ) (body : List ℕ) → option_map two_octets own ≡ Some body → (length body == 2) ≡ true
link-first None body e = cc
link-first (Some n) body e = let same : two_octets n ≡ body = cc in subst (λ (b : List ℕ). (length b == 2) ≡ true) same refl

link-set : (own : Option ℕ) (body : List ℕ) → option_map two_octets own ≡ Some body → is_link_disc own body ≡ true
link-set None body e = cc
link-set (Some n) body e =
    let same : two_octets n ≡ body = cc in subst (λ (b : List ℕ). bytes_eq b (two_octets n) ≡ true) same (same-bytes (two_octets n))

link_is_rule : (t : LcpSettings) → IsRule (link_disc_rule t)
link_is_rule t = record {
  first_sent = λ word body e. link-first t.link_disc body e;
  first_set = λ word body e. link-set t.link_disc body e;
  first_there = λ e word. cc;
  after_sent = λ last nak word h. h;
  after_set = λ last nak word h k. k;
  after_long = λ last nak word h. refl;
  sent_short = λ body h. size-short 2 body h;
  good_short = λ own body known h. size-short 2 body h;
  better_short = λ own body word. omega arith;
}

-- the multilink header's form
form-good : (short : Bool) (classes : ℕ) (count : ℕ) → are_classes short classes ≡ true → 1 ≤ count → count ≤ classes →
    is_classes_body ((if short then 6 else 2) ∷ count ∷ []) ≡ true
form-good true classes count h low high = grind (arith, nat_tests)
form-good false classes count h low high = grind (arith, nat_tests)

if-passes : (p : List ℕ → Bool) (b : Bool) (x y : List ℕ) → (b ≡ true → p x ≡ true) → p y ≡ true →
    p (if b then x else y) ≡ true
if-passes p true x y h k = h refl
if-passes p false x y h k = k

not-zero : (n : ℕ) → not (n == 0) ≡ true → 1 ≤ n
not-zero n h = grind (arith, nat_tests)

same-number : (n : ℕ) → (n == n) ≡ true
same-number n = grind (arith, nat_tests)

own-form : (t : LcpSettings) (code count : ℕ) → code ≡ own_code t → 1 ≤ count → count ≤ t.classes →
    is_own_form t (code ∷ count ∷ []) ≡ true
own-form t code count same low high =
    let a : (code == own_code t) ≡ true = rw same (same-number (own_code t)) in
    let b : nat_le 1 count ≡ true = grind (arith, nat_tests) in
    let c : nat_le count t.classes ≡ true = grind (arith, nat_tests) in
    rw (a, b) c

form-first : (t : LcpSettings) → IsRanged t → (body : List ℕ) → then_some (has_classes t) (own_code t ∷ t.classes ∷ []) ≡ Some body →
    (is_classes_body body ≡ true) × ((has_classes t && is_own_form t body) ≡ true)
form-first t ranged body e =
    let asked = then-some (has_classes t) (own_code t ∷ t.classes ∷ []) body e in
    let some = and-both (not (t.classes == 0)) (is_multilink t) asked.0 in
    let low = not-zero t.classes some.0 in
    let own = own-form t (own_code t) t.classes refl low (omega arith) in (
      subst (λ (b : List ℕ). is_classes_body b ≡ true) asked.1 (form-good t.short t.classes t.classes ranged.are_classes low (omega arith)),
      subst (λ (b : List ℕ). (has_classes t && is_own_form t b) ≡ true) asked.1 (both-and _ _ asked.0 own),
    )

equal-numbers : (a b : ℕ) → (a == b) ≡ true → a ≡ b
equal-numbers a b h = grind (arith, nat_tests)

at-most : (a b : ℕ) → nat_le a b ≡ true → a ≤ b
at-most a b h = grind (arith, nat_tests)

own-good : (t : LcpSettings) → IsRanged t → (body : List ℕ) → is_own_form t body ≡ true → is_classes_body body ≡ true
own-good t ranged [] h = cc
own-good t ranged (code ∷ []) h = cc
own-good t ranged (code ∷ count ∷ []) h =
    let one = and-both ((code == own_code t) && nat_le 1 count) (nat_le count t.classes) h in
    let two = and-both (code == own_code t) (nat_le 1 count) one.0 in
    let same : code ≡ own_code t = equal-numbers code (own_code t) two.0 in
    let low : 1 ≤ count = at-most 1 count two.1 in
    let high : count ≤ t.classes = at-most count t.classes one.1 in
    rw same (form-good t.short t.classes count ranged.are_classes low high)
own-good t ranged (code ∷ count ∷ more ∷ rest) h = cc

form-after : (own : List ℕ → Bool) (last nak : List ℕ) →
    ((body : List ℕ) → own body ≡ true → is_classes_body body ≡ true) → is_classes_body last ≡ true →
    is_classes_body (if own nak then nak else last) ≡ true
form-after own last nak good h = if-passes is_classes_body (own nak) nak last (good nak) h

form-long : (body : List ℕ) → is_classes_body body ≡ true → length body ≡ 2
form-long [] h = cc
form-long (code ∷ []) h = cc
form-long (code ∷ count ∷ []) h = refl
form-long (code ∷ count ∷ more ∷ rest) h = cc

better-long : (body : List ℕ) → length (better_form body) ≤ 32
better-long [] = omega arith
better-long (code ∷ []) = omega arith
better-long (code ∷ count ∷ []) = grind (arith, nat_tests)
better-long (code ∷ count ∷ more ∷ rest) = omega arith

classes_is_rule : (t : LcpSettings) → IsRanged t → IsRule (classes_rule t)
classes_is_rule t ranged = record {
  first_sent = λ word body e. (form-first t ranged body e).0;
  first_set = λ word body e. (form-first t ranged body e).1;
  first_there = λ e word. cc;
  after_sent = λ last nak word h. form-after (is_own_form t) last nak (own-good t ranged) h;
  after_set = λ last nak word h k. if-passes (λ b. has_classes t && is_own_form t b) (is_own_form t nak) nak last (λ q. both-and _ _ (and-both _ _ k).0 q) k;
  after_long = λ last nak word h. form-long _ (form-after (is_own_form t) last nak (own-good t ranged) h) ∙ sym (form-long last h);
  sent_short = λ body h. let long = form-long body h in omega arith;
  good_short = λ own body known h. let long = form-long body h in omega arith;
  better_short = λ own body word. better-long body;
}

-- each row by its Type
pub kind_is_rule : (t : LcpSettings) → IsRanged t → (kind : LcpKind) → IsRule (lcp_rule t kind)
kind_is_rule t ranged Mru = mru_is_rule t ranged
kind_is_rule t ranged Accm = accm_is_rule t
kind_is_rule t ranged Magic = magic_is_rule t
kind_is_rule t ranged Pfc = flag_is_rule Pfc t.pfc true
kind_is_rule t ranged Acfc = flag_is_rule Acfc t.acfc true
kind_is_rule t ranged Mrru = mrru_is_rule t ranged
kind_is_rule t ranged Short = flag_is_rule Short (asks_short t) (is_multilink t)
kind_is_rule t ranged Disc = disc_is_rule t ranged
kind_is_rule t ranged LinkDisc = link_is_rule t
kind_is_rule t ranged Classes = classes_is_rule t ranged

pub lcp_is_table : (t : LcpSettings) → IsRanged t → IsTable (lcp_rules t)
lcp_is_table t ranged = record {
  ascending = refl;
  each = (kind_is_rule t ranged Mru, (kind_is_rule t ranged Accm, (kind_is_rule t ranged Magic, (kind_is_rule t ranged Pfc, (kind_is_rule t ranged Acfc, (kind_is_rule t ranged Mrru, (kind_is_rule t ranged Short, (kind_is_rule t ranged Disc, (kind_is_rule t ranged LinkDisc, (kind_is_rule t ranged Classes, tt))))))))));
  fits = omega arith;
  few = omega arith;
}

-- two lists of which one allows the other don't have the same Magic-Number
pub takes_others : (t : LcpSettings) → TakesOthers (lcp_rules t) 5 4
takes_others t = record { takes = λ own body h. h }

pub lcp_fits : (t : LcpSettings) (own theirs : List ConfigOption) → Sendable (lcp_rules t) own →
    Allows (lcp_rules t) own theirs → FitsMagic own theirs
lcp_fits t own theirs sends allowed = allowed-differs (lcp_rules t) 5 4 (takes_others t) own theirs allowed

-- a table's values are within their ranges
pub table_ranged : (t : LcpTable) → IsRanged (settings_seen t)
table_ranged t =
    let size : length (take t.disc.size t.disc.address) ≡ t.disc.size =
    length-take-le t.disc.size t.disc.address (let whole = t.disc.is_address.whole in let within = t.disc.is_address.within in omega arith) in
    record {
      least_mru = t.least_mru;
      most_mru = t.most_mru;
      is_mrru = t.is_mrru;
      are_classes = t.are_classes;
      is_disc = rw size t.is_disc;
    }
