-- Facts on the fields of an event line: what reads as a value is its text, and the text of a value reads as it.
use Rattle.std.proofs.Common.{◌≡◌, ◌≢◌, ℕ, ◌^◌, ◌<◌, ◌≤◌, Bool, true, false, List, [], ◌∷◌, refl, ◌∙◌, ap, arith, subst}
use Rattle.std.specs.Prelude.{Option, Some, None, Result, Ok, Err, All, ◌&&◌, nat_le, if◌then◌else◌, bytes_eq, codes}
use Rattle.std.specs.Option.{ok_or}
use Rattle.std.specs.Fmt.{decimal}
use Rattle.std.proofs.lemmas.Bool.{le-leb, leb-true}
use Rattle.std.proofs.lemmas.List.Elements.{All-nil, All-cons}
use Rattle.std.proofs.lemmas.Slice.Eq.{bytes_eq-Decides}
use Rattle.ppp_packet.specs.declared.proto.Proto.{Proto}
use Rattle.ppp_packet.specs.declared.proto.Proto.TheVariants.{Lcp, Ip, Ipv6, Osi, Mpls, Bacp}
use Rattle.ppp_packet.specs.Proto.{proto_name}
use Rattle.ppp_text.specs.Numbers.{number_in, number_of, within}
use Rattle.ppp_text.proofs.FieldsLemmas.{spaceless}
use Rattle.ppp_text.proofs.NumbersLemmas.{number_in-decimal, decimal-number_in, lacks-decimal}
use Rattle.ppp_script.specs.declared.end.End.{End}
use Rattle.ppp_script.specs.declared.end.End.TheVariants.{A, B}
use Rattle.ppp_script.specs.declared.field.TheConstants.{MOST_LINKS}
use Rattle.ppp_script.specs.declared.line_why.LineWhy.{LineWhy}
use Rattle.ppp_script.specs.declared.line_why.LineWhy.TheVariants as why
use Rattle.ppp_script.specs.End.{end_name}
use Rattle.ppp_script.specs.Field.{next_field, next_link, no_more, number_field, end_in, link_in, protocol_in, last_field, last_protocol, IsLink}
use Rattle.ppp_script.specs.Results.{◌>>=◌}

both-true : (a b : Bool) → (a && b) ≡ true → (a ≡ true) × (b ≡ true)
both-true true b is = (refl, is)
both-true false b is = absurd (cc)

-- what reads as a value is its text

pub inside : {X Y : Type 0} (r : Result X LineWhy) (f : X → Result Y LineWhy) (y : Y) → (r >>= f) ≡ Ok y → (x : X) × ((r ≡ Ok x) × (f x ≡ Ok y))
inside (Ok x) f y is = (x, (refl, is))
inside (Err why) f y is = absurd (cc)

pub same_bytes : (xs ys : List ℕ) → bytes_eq xs ys ≡ true → xs ≡ ys
same_bytes xs ys = (bytes_eq-Decides xs ys).0

pub next_field-is : (fields : List (List ℕ)) (r : List ℕ × List (List ℕ)) → next_field fields ≡ Ok r → fields ≡ r.0 ∷ r.1
next_field-is [] r is = absurd (cc)
next_field-is (field ∷ behind) r is = let same : (field, behind) ≡ r = cc in ap (λ (p : List ℕ × List (List ℕ)). p.0 ∷ p.1) same

pub no_more-is : (fields : List (List ℕ)) (u : Unit {0}) → no_more fields ≡ Ok u → fields ≡ []
no_more-is [] u is = refl
no_more-is (field ∷ behind) u is = absurd (cc)

pub number_field-is : (least most n : ℕ) (field : List ℕ) → most < 2 ^ 64 → number_field least most field ≡ Ok n → field ≡ decimal n
number_field-is least most n field fits = by_found (number_in least most field) refl where
  by_found : (found : Option ℕ) → number_in least most field ≡ found → ok_or found why.Event ≡ Ok n → field ≡ decimal n
  by_found None found is = absurd (cc)
  by_found (Some m) found is = let same : m ≡ n = cc in decimal-number_in least most m field fits found ∙ ap decimal same

pub end_in-is : (field : List ℕ) (end : End) → end_in field ≡ Ok end → field ≡ end_name end
end_in-is field end = by_a (bytes_eq field (codes "a")) refl where
  by_b : (t : Bool) → bytes_eq field (codes "b") ≡ t → (if t then Ok B else Err why.Event) ≡ Ok end → field ≡ end_name end
  by_b true test is = let same : B ≡ end = cc in same_bytes field (codes "b") test ∙ ap end_name same
  by_b false test is = absurd (cc)

  by_a : (t : Bool) → bytes_eq field (codes "a") ≡ t → (if t then Ok A else if bytes_eq field (codes "b") then Ok B else Err why.Event) ≡ Ok end → field ≡ end_name end
  by_a true test is = let same : A ≡ end = cc in same_bytes field (codes "a") test ∙ ap end_name same
  by_a false test is = by_b (bytes_eq field (codes "b")) refl is

pub link_in-is : (links link : ℕ) (field : List ℕ) → link_in links field ≡ Ok link → field ≡ decimal link
unfolding link_in
link_in-is links link field is =
    let n = inside (number_field 1 MOST_LINKS field) (λ n. if nat_le n links then Ok n else Err why.Link) link is in
    number_field-is 1 MOST_LINKS n.0 field (omega arith) n.1.0 ∙ ap decimal (picked n.0 (nat_le n.0 links) n.1.1) where
      picked : (n : ℕ) (t : Bool) → (if t then Ok n else Err why.Link) ≡ Ok link → n ≡ link
      picked n true is = cc
      picked n false is = absurd (cc)

-- a protocol is the one of this name, or another
named : (field : List ℕ) (protocol other : Proto) (rest : Result Proto LineWhy) → (rest ≡ Ok protocol → field ≡ proto_name protocol) →
    (if bytes_eq field (proto_name other) then Ok other else rest) ≡ Ok protocol → field ≡ proto_name protocol
named field protocol other rest below = by_test (bytes_eq field (proto_name other)) refl where
  by_test : (t : Bool) → bytes_eq field (proto_name other) ≡ t → (if t then Ok other else rest) ≡ Ok protocol → field ≡ proto_name protocol
  by_test true test is = let same : other ≡ protocol = cc in same_bytes field (proto_name other) test ∙ ap proto_name same
  by_test false test is = below is

pub protocol_in-is : (field : List ℕ) (protocol : Proto) → protocol_in field ≡ Ok protocol → field ≡ proto_name protocol
protocol_in-is field protocol =
    named field protocol Lcp _ (named field protocol Ip _ (named field protocol Ipv6 _ (named field protocol Osi _ (named field protocol Mpls _
    (named field protocol Bacp (Err why.Event) (λ is. absurd (cc is)))))))

pub last_protocol-is : (fields : List (List ℕ)) (protocol : Proto) → last_protocol fields ≡ Ok protocol → fields ≡ proto_name protocol ∷ []
unfolding last_protocol
last_protocol-is fields protocol is =
    let t = inside (next_field fields) (λ first. protocol_in first.0 >>= (λ protocol. no_more first.1 >>= (λ nothing. Ok protocol))) protocol is in
    let r = inside (protocol_in t.0.0) (λ protocol. no_more t.0.1 >>= (λ nothing. Ok protocol)) protocol t.1.1 in
    let b = inside (no_more t.0.1) (λ nothing. Ok r.0) protocol r.1.1 in
    let made : r.0 ≡ protocol = cc in
    next_field-is fields t.0 t.1.0 ∙ ap (λ x. x ∷ t.0.1) (protocol_in-is t.0.0 r.0 r.1.0) ∙ ap (λ xs. proto_name r.0 ∷ xs) (no_more-is t.0.1 b.0 b.1.0) ∙ ap (λ q. proto_name q ∷ []) made

pub last_field-is : (fields : List (List ℕ)) (field : List ℕ) → last_field fields ≡ Ok field → fields ≡ field ∷ []
last_field-is fields field is =
    let t = inside (next_field fields) (λ first. no_more first.1 >>= (λ nothing. Ok first.0)) field is in
    let b = inside (no_more t.0.1) (λ nothing. Ok t.0.0) field t.1.1 in
    let made : t.0.0 ≡ field = cc in
    next_field-is fields t.0 t.1.0 ∙ ap (λ xs. t.0.0 ∷ xs) (no_more-is t.0.1 b.0 b.1.0) ∙ ap (λ x. x ∷ []) made

pub next_link-is : (links : ℕ) (fields : List (List ℕ)) (p : ℕ × List (List ℕ)) → next_link links fields ≡ Ok p → fields ≡ decimal p.0 ∷ p.1
unfolding next_link
next_link-is links fields p is =
    let t = inside (next_field fields) (λ first. link_in links first.0 >>= (λ link. Ok (link, first.1))) p is in
    let l = inside (link_in links t.0.0) (λ link. Ok (link, t.0.1)) p t.1.1 in
    let made : (l.0, t.0.1) ≡ p = cc in
    next_field-is fields t.0 t.1.0 ∙ ap (λ x. x ∷ t.0.1) (link_in-is links l.0 t.0.0 l.1.0) ∙ ap (λ (q : ℕ × List (List ℕ)). decimal q.0 ∷ q.1) made

-- a number is at most the greatest one that is allowed
number_in-most : (least most n : ℕ) (field : List ℕ) → number_in least most field ≡ Some n → n ≤ most
unfolding number_in
number_in-most least most n field = by_number (number_of field) where
  by_test : (m : ℕ) (t : Bool) → (nat_le least m && nat_le m most) ≡ t → (if t then Some m else None) ≡ Some n → n ≤ most
  by_test m true test is = let same : m ≡ n = cc in rw (← same) (leb-true m most (both-true (nat_le least m) (nat_le m most) test).1)
  by_test m false test is = absurd (cc)

  by_number : (number : Option ℕ) → within least most number ≡ Some n → n ≤ most
  by_number None is = absurd (cc)
  by_number (Some m) is = by_test m _ refl is

-- a link is a number up to 255
pub link_in-most : (links link : ℕ) (field : List ℕ) → link_in links field ≡ Ok link → link ≤ MOST_LINKS
unfolding link_in
link_in-most links link field is =
    let n = inside (number_field 1 MOST_LINKS field) (λ n. if nat_le n links then Ok n else Err why.Link) link is in
    rw (← picked n.0 (nat_le n.0 links) n.1.1) (number_in-most 1 MOST_LINKS n.0 field (found (number_in 1 MOST_LINKS field) n.0 n.1.0)) where
      picked : (n : ℕ) (t : Bool) → (if t then Ok n else Err why.Link) ≡ Ok link → n ≡ link
      picked n true is = cc
      picked n false is = absurd (cc)

      found : (number : Option ℕ) (n : ℕ) → ok_or number why.Event ≡ Ok n → number ≡ Some n
      found None n is = absurd (cc)
      found (Some m) n is = let same : m ≡ n = cc in ap (λ x. Some x) same

pub next_link-most : (links : ℕ) (fields : List (List ℕ)) (p : ℕ × List (List ℕ)) → next_link links fields ≡ Ok p → p.0 ≤ MOST_LINKS
unfolding next_link
next_link-most links fields p is =
    let t = inside (next_field fields) (λ first. link_in links first.0 >>= (λ link. Ok (link, first.1))) p is in
    let l = inside (link_in links t.0.0) (λ link. Ok (link, t.0.1)) p t.1.1 in
    let made : (l.0, t.0.1) ≡ p = cc in
    subst (λ (q : ℕ × List (List ℕ)). q.0 ≤ MOST_LINKS) made (link_in-most links l.0 t.0.0 l.1.0)

-- the text of a value reads as it

-- a field without a space
abbrev pub Spaceless : List ℕ → Type 0
Spaceless field = All (λ x. x ≢ 32) field

pub spaceless_number : (n : ℕ) → n < 2 ^ 64 → All Spaceless (decimal n ∷ [])
spaceless_number n fits = All-cons Spaceless (decimal n) [] (lacks-decimal 32 n fits (omega arith)) (All-nil Spaceless)

pub spaceless_protocol : (protocol : Proto) → Spaceless (proto_name protocol)
spaceless_protocol Lcp = spaceless (codes "lcp") refl
spaceless_protocol Ip = spaceless (codes "ip") refl
spaceless_protocol Ipv6 = spaceless (codes "ipv6") refl
spaceless_protocol Osi = spaceless (codes "osi") refl
spaceless_protocol Mpls = spaceless (codes "mpls") refl
spaceless_protocol Bacp = spaceless (codes "bacp") refl

pub protocol_in-name : (protocol : Proto) → protocol_in (proto_name protocol) ≡ Ok protocol
protocol_in-name Lcp = refl
protocol_in-name Ip = refl
protocol_in-name Ipv6 = refl
protocol_in-name Osi = refl
protocol_in-name Mpls = refl
protocol_in-name Bacp = refl

pub link_in-decimal : (links link : ℕ) → links ≤ MOST_LINKS → IsLink links link → link_in links (decimal link) ≡ Ok link
unfolding link_in
link_in-decimal links link few is = rw (number_in-decimal 1 255 link is.0 (omega (arith, is.1)) (omega (arith, is.1)), le-leb link links is.1) refl

pub next_link-decimal : (links link : ℕ) (more : List (List ℕ)) → links ≤ MOST_LINKS → IsLink links link → next_link links (decimal link ∷ more) ≡ Ok (link, more)
unfolding next_link
next_link-decimal links link more few is = rw (link_in-decimal links link few is) refl

pub last_protocol-name : (protocol : Proto) → last_protocol (proto_name protocol ∷ []) ≡ Ok protocol
unfolding last_protocol
last_protocol-name protocol = rw (protocol_in-name protocol) refl
