-- Two Opened ends of a protocol on a link of a world agree, and a report says so.
use Rattle.std.proofs.Common.{inl, inr, ◌≡◌, ◌⊎◌, ◌<◌, ℕ, zero, suc, ◌-◌, ◌≤◌, Bool, true, false, ◌&&◌, List, [], ◌∷◌, length, refl, sym, subst, ◌∙◌, arith}
use Rattle.std.specs.Prelude.{◌≢◌, Option, Some, None, option_map, slice_get}
use Rattle.std.specs.Bool.{then_some}
use Rattle.std.specs.Option.{option_and_then}
use Rattle.std.proofs.lemmas.Bool.Decides.{nat_tests}
use Rattle.std.proofs.lemmas.Option.{slice_get_past}
use Rattle.std.proofs.lemmas.Slice.Eq.{bytes_eq-Decides}
use Rattle.ppp_packet.specs.ConfigOption.{ConfigOption}
use Rattle.ppp_packet.specs.Options.{option_with}
use Rattle.ppp_packet.specs.declared.proto.Proto.{Proto}
use Rattle.ppp_packet.specs.declared.proto.Proto.TheVariants.{Lcp, Ip, Ipv6, Osi, Mpls, Bacp}
use Rattle.ppp_auto.specs.Auto.{Auto, is_opened}
use Rattle.ppp_auto.specs.Lawful.{Lawful}
use Rattle.ppp_auto.specs.OptionTable.{Table}
use Rattle.ppp_auto.specs.Reply.{same_option, same_list}
use Rattle.ppp_auto.specs.declared.auto_state.AutoState.{AutoState}
use Rattle.ppp_auto.specs.declared.auto_state.AutoState.TheVariants.{Opened}
use Rattle.ppp_options.specs.Differs.{Differs}
use Rattle.ppp_options.specs.DiffersLaw.{allowed-differs, differs-both_ways}
use Rattle.ppp_options.specs.Fits.{FitsAny}
use Rattle.ppp_options.specs.Rule.{Rule}
use Rattle.ppp_options.specs.RuleLaw.{rules_lawful}
use Rattle.ppp_options.specs.Rules.{Allows, IsUnknown, Sendable, table_by}
use Rattle.ppp_lcp.specs.LcpLaw.{lcp_fits, lcp_is_table, table_ranged}
use Rattle.ppp_lcp.specs.LcpSettings.{settings_seen}
use Rattle.ppp_lcp.specs.LcpTable.{FitsMagic, lcp_rules, magic_of}
use Rattle.ppp_ncp.specs.IpcpLaw.{ipcp_is_table}
use Rattle.ppp_ncp.specs.IpcpTable.{ipcp_rules}
use Rattle.ppp_ncp.specs.Ipv6Law.{ipv6_fits, ipv6_is_table}
use Rattle.ppp_ncp.specs.Ipv6Table.{FitsIdentifier, ipv6_rules}
use Rattle.ppp_ncp.specs.declared.ipcp_table.IpcpTable.{IpcpTable}
use Rattle.ppp_ncp.specs.declared.ipv6_table.Ipv6Table.{Ipv6Table}
use Rattle.ppp_osimpls.specs.OsiLaw.{mpls_is_table, osi_is_table}
use Rattle.ppp_osimpls.specs.OsiTable.{osi_rules}
use Rattle.ppp_osimpls.specs.MplsTable.{mpls_rules}
use Rattle.ppp_osimpls.specs.declared.osi_table.OsiTable.{OsiTable}
use Rattle.ppp_osimpls.specs.declared.mpls_table.MplsTable.{MplsTable}
use Rattle.ppp_bacp.specs.BacpLaw.{bacp_fits, bacp_is_table}
use Rattle.ppp_bacp.specs.BacpTable.{FitsFavored, bacp_rules}
use Rattle.ppp_bacp.specs.declared.bacp_table.BacpTable.{BacpTable}
use Rattle.ppp_duet.specs.Agreement.{Agreement}
use Rattle.ppp_duet.specs.Duet.{Duet, End, Marked, Setup}
use Rattle.ppp_duet.specs.Reached.{Reached}
use Rattle.ppp_duet.specs.Reopening.{Reopening}
use Rattle.ppp_duet.specs.Terms.{AreLawful, Terms}
use Rattle.ppp_duet.proofs.ReachedLemmas.{agreement_at, opened_run}
use Rattle.ppp_duet.proofs.ReopeningLemmas.{reopening}
use Rattle.ppp_duet.proofs.TermsLemmas.{used}
use Rattle.ppp_link.specs.Automata.{auto_at}
use Rattle.ppp_link.specs.Link.{Link}
use Rattle.ppp_link.specs.LinkTables.{LinkTables, bacp_table, ip_table, ipv6_table, mpls_table, osi_table, table_if, table_of}
use Rattle.ppp_party.specs.Frame.{only}
use Rattle.ppp_party.specs.Held.{IsHeld, IsLone}
use Rattle.ppp_party.specs.Kept.{Kept, duet_of}
use Rattle.ppp_party.specs.Ledger.{Ledger, end_of, ledger_at}
use Rattle.ppp_party.specs.Party.{Ends, Party, station_of, turned}
use Rattle.ppp_party.specs.Seat.{Seat, SeatAt}
use Rattle.ppp_party.specs.Spans.{ledger_on, queue_on}
use Rattle.ppp_world.specs.Agreement.{AgreeBy, AgreesOn, Fits, agree_of, agree_on, auto_on, duet_on, duet_with, end_on, fits, is_opened_if, link_on, opened_on, passes, rules_if, rules_of, rules_on, state_on}
use Rattle.ppp_world.specs.Report.{Told, link_lines, lines_of, show_block, told_block}

-- ---- equal lists pass the test for it

same_option-self : (o : ConfigOption) → same_option o o ≡ true
same_option-self o = let same = (bytes_eq-Decides o.body o.body).1 refl in grind (arith, nat_tests)

same_list-self : (list : List ConfigOption) → same_list list list ≡ true
same_list-self [] = refl
same_list-self (o ∷ os) = let one = same_option-self o in let rest = same_list-self os in grind arith

same_list-if : (one other : List ConfigOption) → one ≡ other → same_list one other ≡ true
same_list-if one other h = rw h (same_list-self other)

-- ---- the tables are lawful

abbrev LawfulBy : Table → List Rule → (List ConfigOption → List ConfigOption → Type 0) → Type 0
LawfulBy table rs compat = Lawful table (Sendable rs) (IsUnknown rs) (Allows rs) compat

-- of one without a row
any-lawful : LawfulBy (table_by false [] (λ mine. 0)) [] FitsAny
any-lawful = rules_lawful false [] (λ mine. 0) FitsAny mpls_is_table (λ own theirs sends allowed. tt) (λ one other fit. tt)

differs-lawful : (kind size : ℕ) → LawfulBy (table_by false [] (λ mine. 0)) [] (Differs kind size)
differs-lawful kind size =
    rules_lawful false [] (λ mine. 0) (Differs kind size) mpls_is_table (λ own theirs sends. allowed-differs [] kind size (record { takes = λ own body h. cc }) own theirs) (differs-both_ways kind size)

ip-lawful : (o : Option IpcpTable) → LawfulBy (table_if ip_table o) (rules_if (λ ip. ipcp_rules ip.own ip.give) o) FitsAny
ip-lawful (Some t) = rules_lawful false (ipcp_rules t.own t.give) (λ mine. 0) FitsAny (ipcp_is_table t.own t.give) (λ own theirs sends allowed. tt) (λ one other fit. tt)
ip-lawful None = any-lawful

ipv6-lawful : (o : Option Ipv6Table) → LawfulBy (table_if ipv6_table o) (rules_if (λ ipv6. ipv6_rules ipv6.own ipv6.ask) o) FitsIdentifier
ipv6-lawful (Some t) = rules_lawful false (ipv6_rules t.own t.ask) (λ mine. 0) FitsIdentifier (ipv6_is_table t.own t.ask) (ipv6_fits t.own t.ask) (differs-both_ways 1 8)
ipv6-lawful None = differs-lawful 1 8

osi-lawful : (o : Option OsiTable) → LawfulBy (table_if osi_table o) (rules_if (λ osi. osi_rules osi.align) o) FitsAny
osi-lawful (Some t) = rules_lawful false (osi_rules t.align) (λ mine. 0) FitsAny (osi_is_table t.align t.is_setting) (λ own theirs sends allowed. tt) (λ one other fit. tt)
osi-lawful None = any-lawful

mpls-lawful : (o : Option MplsTable) → LawfulBy (table_if mpls_table o) (rules_if (λ mpls. mpls_rules) o) FitsAny
mpls-lawful (Some t) = any-lawful
mpls-lawful None = any-lawful

bacp-lawful : (o : Option BacpTable) → LawfulBy (table_if bacp_table o) (rules_if (λ bacp. bacp_rules bacp.favored) o) FitsFavored
bacp-lawful (Some t) = rules_lawful false (bacp_rules t.favored) (λ mine. 0) FitsFavored (bacp_is_table t.favored t.is_favored) (bacp_fits t.favored) (differs-both_ways 1 4)
bacp-lawful None = differs-lawful 1 4

-- each one
table-lawful : (p : Proto) (t : LinkTables) → LawfulBy (table_of t p) (rules_of t p) (Fits p)
table-lawful Lcp t =
    let s = settings_seen t.lcp in rules_lawful true (lcp_rules s) magic_of FitsMagic (lcp_is_table s (table_ranged t.lcp)) (lcp_fits s) (differs-both_ways 5 4)
table-lawful Ip t = ip-lawful t.ip
table-lawful Ipv6 t = ipv6-lawful t.ipv6
table-lawful Osi t = osi-lawful t.osi
table-lawful Mpls t = mpls-lawful t.mpls
table-lawful Bacp t = bacp-lawful t.bacp

-- ---- the laws on two ends

terms_by : Setup → List Rule → Terms
terms_by sa rs = record { setup = sa; keeps = Sendable rs; unknown = IsUnknown rs; allows = Allows rs }

setup-lawful : (p : Proto) (t : LinkTables) (sa : Setup) → sa.table ≡ table_of t p → AreLawful (Fits p) (terms_by sa (rules_of t p))
unfolding terms_by
setup-lawful p t sa same = subst (λ table. LawfulBy table (rules_of t p) (Fits p)) (sym same) (table-lawful p t)

-- two Opened ends agree, wherever events led
tables-agree : (p : Proto) (s t : LinkTables) (sa sb : Setup) (d : Duet) → sa.table ≡ table_of s p → sb.table ≡ table_of t p → Reached sa sb d →
    d.a.auto.state ≡ Opened → d.b.auto.state ≡ Opened → AgreeBy p (rules_of s p) (rules_of t p) d
unfolding terms_by
tables-agree p s t sa sb d own other reached opened_a opened_b =
    agreement_at (Fits p) (terms_by sa (rules_of s p)) (terms_by sb (rules_of t p)) (setup-lawful p s sa own) (setup-lawful p t sb other) d reached opened_a opened_b

abbrev setup_at : LinkTables → Proto → ℕ → Setup
setup_at t p first = record { table = table_of t p; first = first }

-- and so in every narrow run
pub tables-agreement : (p : Proto) (s t : LinkTables) → Agreement (λ k. table_of k p) (λ k. Sendable (rules_of k p)) (λ k. Allows (rules_of k p)) (Fits p) s t
tables-agreement p s t first_a first_b =
    opened_run (setup_at s p first_a) (setup_at t p first_b) (AgreeBy p (rules_of s p) (rules_of t p)) (λ d. tables-agree p s t (setup_at s p first_a) (setup_at t p first_b) d refl refl)

pub tables-reopening : (p : Proto) (s t : LinkTables) → Reopening (table_of s p) (table_of t p)
unfolding terms_by
tables-reopening p s t first_a first_b =
    let sa = setup_at s p first_a in
    let sb = setup_at t p first_b in
    reopening (Fits p) (terms_by sa (rules_of s p)) (terms_by sb (rules_of t p)) (used (Fits p) (terms_by sa (rules_of s p)) (setup-lawful p s sa refl)) (used (Fits p) (terms_by sb (rules_of t p)) (setup-lawful p t sb refl))

-- ---- what an end has on a link

pub link_there : (m : ℕ) (links : List Link) (k : Link) → 1 ≤ m → slice_get links (m - 1) ≡ Some k → link_on m links ≡ Some k
link_there zero links k low is = absurd (omega arith)
link_there (suc before) links k low is = let same : suc before - 1 ≡ before = omega arith in rw same at is

-- a link of an end with its ledgers, and the protocol's automaton there
record EndAt (m : ℕ) (p : Proto) (e : Party) (s : Seat) (a : Auto) : Type 0 where
  link : link_on m e.trunk.links ≡ Some s.link
  auto : auto_on m p e.trunk.links ≡ Some a
  end : end_on m p e ≡ Some (end_of a (ledger_at s.ledgers p))

pub auto-there : (m : ℕ) (p : Proto) (links : List Link) (k : Link) → link_on m links ≡ Some k → auto_on m p links ≡ auto_at k.automata p
auto-there m p links k there = rw there refl

end-there : (m : ℕ) (p : Proto) (e : Ends) (s : Seat) (a : Auto) → 1 ≤ m → SeatAt m e s → auto_at s.link.automata p ≡ Some a → EndAt m p e.own s a
end-there m p e s a low at is =
    let link = link_there m e.own.trunk.links s.link low at.link in
    let auto = auto-there m p e.own.trunk.links s.link link ∙ is in
    record { link = link; auto = auto; end = rw (auto, at.ledgers) refl }

rules-there : (m : ℕ) (p : Proto) (links : List Link) (k : Link) → link_on m links ≡ Some k → rules_on m p links ≡ rules_of k.tables p
rules-there m p links k there = rw there refl

duet-there : (sa sb : Setup) (p : Proto) (m : ℕ) (e : Ends) (k : Kept sa sb p m e) → EndAt m p e.own k.own k.own_auto → EndAt m p e.other k.other k.other_auto →
    duet_on m p e ≡ Some (duet_of k)
duet-there sa sb p m e k own other = rw (own.end, other.end, k.own_seated.at.incoming, k.own_seated.at.outgoing) refl

pub kept-duet : (sa sb : Setup) (p : Proto) (m : ℕ) (e : Ends) → 1 ≤ m → (k : Kept sa sb p m e) → duet_on m p e ≡ Some (duet_of k)
kept-duet sa sb p m e low k =
    duet-there sa sb p m e k (end-there m p e k.own k.own_auto low k.own_seated.at k.own_seated.end.auto)
    (end-there m p (turned e) k.other k.other_auto low k.other_seated.at k.other_seated.end.auto)

-- ---- the tests pass where two ends agree

all-seven : (a b c d e f g : Bool) → a ≡ true → b ≡ true → c ≡ true → d ≡ true → e ≡ true → f ≡ true → g ≡ true → (a && b && c && d && e && f && g) ≡ true
all-seven a b c d e f g p q r s t u v = grind arith

fits-if : (p : Proto) (one other : List ConfigOption) → Fits p one other → fits p one other ≡ true
fits-if Lcp one other fit = fit
fits-if Ip one other fit = refl
fits-if Ipv6 one other fit = fit
fits-if Osi one other fit = refl
fits-if Mpls one other fit = refl
fits-if Bacp one other fit = fit

pub passes-if : (p : Proto) (rs ts : List Rule) (d : Duet) → AgreeBy p rs ts d → passes p rs ts d.a d.b ≡ true
passes-if p rs ts d h =
    all-seven _ _ _ _ _ _ _
    (same_list-if d.a.auto.own d.b.auto.peer h.a_acked)
    (same_list-if d.b.auto.own d.a.auto.peer h.b_acked)
    h.a_sends h.b_sends h.b_allows h.a_allows (fits-if p d.a.auto.own d.b.auto.own h.fits)

opened-is : (s : AutoState) → is_opened s ≡ true → s ≡ Opened
opened-is s h = grind arith

never-false : (x y z : Bool) → (x ≡ true → y ≡ true → z ≡ true) → then_some (x && y) z ≡ Some false → ⊥
never-false true true z passes is = let so = passes refl refl in cc
never-false true false z passes is = cc
never-false false y z passes is = cc

agree-not_false : (p : Proto) (rs ts : List Rule) (d : Duet) → (d.a.auto.state ≡ Opened → d.b.auto.state ≡ Opened → AgreeBy p rs ts d) → agree_of p rs ts d ≢ Some false
agree-not_false p rs ts d agree =
    never-false _ _ _ (λ own other. passes-if p rs ts d (agree (opened-is d.a.auto.state own) (opened-is d.b.auto.state other)))

-- ---- both ends speak it

state-is : (m : ℕ) (p : Proto) (links : List Link) (a : Auto) → auto_on m p links ≡ Some a → state_on m p links ≡ Some Opened → a.state ≡ Opened
state-is m p links a there opened = let is : option_map (λ (a : Auto). a.state) (Some a) ≡ Some Opened = rw there at opened in cc

kept-agrees : (sa sb : Setup) (p : Proto) (m : ℕ) (e : Ends) → 1 ≤ m → Kept sa sb p m e → AgreesOn m p e
kept-agrees sa sb p m e low k =
    let own = end-there m p e k.own k.own_auto low k.own_seated.at k.own_seated.end.auto in
    let other = end-there m p (turned e) k.other k.other_auto low k.other_seated.at k.other_seated.end.auto in
    let d = duet_of k in
    let there = duet-there sa sb p m e k own other in
    let rs = rules-there m p e.own.trunk.links k.own.link own.link in
    let ts = rules-there m p e.other.trunk.links k.other.link other.link in
    let agree = tables-agree p k.own.link.tables k.other.link.tables sa sb d k.own_seated.end.spoken.table k.other_seated.end.spoken.table k.reached in
    record {
      agree = λ opened. record {
        duet = d;
        there = there;
        agree = rw (rs, ts) (agree (state-is m p e.own.trunk.links k.own_auto own.auto opened.own) (state-is m p e.other.trunk.links k.other_auto other.auto opened.other));
      };
      told = rw (there, rs, ts) (agree-not_false p (rules_of k.own.link.tables p) (rules_of k.other.link.tables p) d agree);
    }

-- ---- one of them doesn't, or has no such link

end-absent : (m : ℕ) (p : Proto) (e : Party) → auto_on m p e.trunk.links ≡ None → end_on m p e ≡ None
end-absent m p e none = rw none refl

duet-absent : (to_a to_b : List Marked) (a : Option End) → duet_with to_a to_b a None ≡ None
duet-absent to_a to_b None = refl
duet-absent to_a to_b (Some a) = refl

never-told : (m : ℕ) (p : Proto) (e : Ends) → duet_on m p e ≡ None → agree_on m p e ≢ Some false
never-told m p e none = rw none (λ is. cc)

never-opened : (m : ℕ) (p : Proto) (links : List Link) → auto_on m p links ≡ None → state_on m p links ≡ Some Opened → ⊥
never-opened m p links none opened = let is : option_map (λ (a : Auto). a.state) None ≡ Some Opened = rw none at opened in cc

own-absent : (m : ℕ) (p : Proto) (e : Ends) → auto_on m p e.own.trunk.links ≡ None → AgreesOn m p e
own-absent m p e none = record {
  agree = λ opened. absurd (never-opened m p e.own.trunk.links none opened.own);
  told = never-told m p e (rw (end-absent m p e.own none) refl);
}

other-absent : (m : ℕ) (p : Proto) (e : Ends) → auto_on m p e.other.trunk.links ≡ None → AgreesOn m p e
other-absent m p e none = record {
  agree = λ opened. absurd (never-opened m p e.other.trunk.links none opened.other);
  told = never-told m p e (rw (end-absent m p e.other none) (duet-absent _ _ (end_on m p e.own)));
}

lone-absent : (m : ℕ) (p : Proto) (e : Ends) → 1 ≤ m → IsLone m p e → auto_on m p e.other.trunk.links ≡ None
lone-absent m p e low lone =
    auto-there m p e.other.trunk.links lone.other.link (link_there m e.other.trunk.links lone.other.link low lone.other_at.link) ∙ lone.silent

-- no two ends then
pub duet-nowhere : (m : ℕ) (p : Proto) (e : Ends) → auto_on m p e.own.trunk.links ≡ None → duet_on m p e ≡ None
duet-nowhere m p e none = rw (end-absent m p e.own none) refl

pub duet-lone : (m : ℕ) (p : Proto) (e : Ends) → 1 ≤ m → IsLone m p e → duet_on m p e ≡ None
duet-lone m p e low lone = rw (end-absent m p e.other (lone-absent m p e low lone)) (duet-absent _ _ (end_on m p e.own))

pub duet-unspoken : (m : ℕ) (p : Proto) (e : Ends) → 1 ≤ m → IsLone m p (turned e) → duet_on m p e ≡ None
duet-unspoken m p e low lone = duet-nowhere m p e (lone-absent m p (turned e) low lone)

-- where there is no such link
pub agrees-nowhere : (m : ℕ) (p : Proto) (e : Ends) → link_on m e.own.trunk.links ≡ None → AgreesOn m p e
agrees-nowhere m p e none = own-absent m p e (rw none refl)

-- ---- in each state of a world

pub agrees-on : (m : ℕ) (p : Proto) (e : Ends) → 1 ≤ m → IsHeld m p e → AgreesOn m p e
agrees-on m p e low held = elim held [
  | inl kept ↦ kept-agrees kept.own_setup kept.other_setup p m e low kept.kept
  | inr (inl lone) ↦ other-absent m p e (lone-absent m p e low lone)
  | inr (inr lone) ↦ own-absent m p e (lone-absent m p (turned e) low lone)
]

-- on every link, whether it is there or not
agrees-within : (e : Ends) → ((m : ℕ) (p : Proto) → 1 ≤ m → m ≤ length e.own.trunk.links → IsHeld m p e) → (m : ℕ) (p : Proto) → (m ≤ length e.own.trunk.links) ⊎ (length e.own.trunk.links < m) → AgreesOn m p e
agrees-within e held zero p within = agrees-nowhere zero p e refl
agrees-within e held (suc before) p (inl within) = agrees-on (suc before) p e (omega arith) (held (suc before) p (omega arith) within)
agrees-within e held (suc before) p (inr beyond) = agrees-nowhere (suc before) p e (slice_get_past e.own.trunk.links before (omega (arith, beyond)))

pub within-or : (m n : ℕ) → (m ≤ n) ⊎ (n < m)
within-or m n = grind (arith, nat_tests)

pub agrees-everywhere : (e : Ends) → ((m : ℕ) (p : Proto) → 1 ≤ m → m ≤ length e.own.trunk.links → IsHeld m p e) → (m : ℕ) (p : Proto) → AgreesOn m p e
agrees-everywhere e held m p = agrees-within e held m p (within-or m (length e.own.trunk.links))

-- ---- what is told

-- of two automata, if they are there
abbrev told_by : Proto → List Rule → List Rule → Ledger → Ledger → List Marked → List Marked → Option Auto → Option Auto → Option Bool
told_by p rs ts g h to_a to_b x y =
    option_and_then (agree_of p rs ts) (duet_with to_a to_b (option_map (λ a. end_of a g) x) (option_map (λ b. end_of b h) y))

then-true : (x y z : Bool) → (then_some (x && y) z ≡ Some false → ⊥) → then_some (x && y) z ≡ then_some (x && y) true
then-true true true true other = refl
then-true true true false other = absurd (other refl)
then-true true false z other = refl
then-true false y z other = refl

both-told : (p : Proto) (rs ts : List Rule) (g h : Ledger) (to_a to_b : List Marked) (x y : Option Auto) → (told_by p rs ts g h to_a to_b x y ≡ Some false → ⊥) →
    told_by p rs ts g h to_a to_b x y ≡ then_some (is_opened_if (option_map (λ a. a.state) x) && is_opened_if (option_map (λ a. a.state) y)) true
both-told p rs ts g h to_a to_b (Some a) (Some b) other = then-true (is_opened a.state) (is_opened b.state) (passes p rs ts (end_of a g) (end_of b h)) other
both-told p rs ts g h to_a to_b (Some a) None other = grind arith
both-told p rs ts g h to_a to_b None y other = refl

-- and where none disagree the states alone say it
pub told-opened : (m : ℕ) (p : Proto) (e : Ends) → agree_on m p e ≢ Some false → agree_on m p e ≡ opened_on m p e.own.trunk.links e.other.trunk.links
told-opened m p e other =
    both-told p (rules_on m p e.own.trunk.links) (rules_on m p e.other.trunk.links) (ledger_on m p e.own) (ledger_on m p e.other) (only p (queue_on m e.own)) (only p (queue_on m e.other)) (auto_on m p e.own.trunk.links) (auto_on m p e.other.trunk.links) other

-- ---- the report

-- so many lines are the same where what is told is
lines-same : (f g : Told) (n : ℕ) (own other : List Link) → ((m : ℕ) (p : Proto) → 1 ≤ m → m ≤ n → f m p ≡ g m p) → lines_of f n own other ≡ lines_of g n own other
unfolding link_lines
lines-same f g zero own other same = refl
lines-same f g (suc before) own other same =
    let at = λ (p : Proto). same (suc before) p (omega arith) (omega arith) in
    let earlier = lines-same f g before own other (λ m p low high. same m p low (omega (arith, high))) in
    rw (earlier, at Lcp, at Ip, at Ipv6, at Osi, at Mpls, at Bacp) refl

pub told-block : (k : ℕ) (e : Ends) → ((m : ℕ) (p : Proto) → 1 ≤ m → m ≤ length e.own.trunk.links → agree_on m p e ≢ Some false) → told_block k e ≡ show_block k (station_of e.own) (station_of e.other)
told-block k e never =
    let same = lines-same (λ m p. agree_on m p e) (λ m p. opened_on m p e.own.trunk.links e.other.trunk.links) (length e.own.trunk.links) e.own.trunk.links e.other.trunk.links (λ m p low high. told-opened m p e (never m p low high)) in
    rw same refl

-- ---- the tests of a report are what agreement is

same_option-only : (a b : ConfigOption) → same_option a b ≡ true → a ≡ b
same_option-only a b h = same_fields a.kind b.kind a.body b.body (grind (arith, nat_tests)) ((bytes_eq-Decides a.body b.body).0 (grind (arith, nat_tests)))
  where
    same_fields : (kind other : ℕ) (body octets : List ℕ) → kind ≡ other → body ≡ octets → option_with kind body ≡ option_with other octets
    same_fields kind other body octets h k = cc

same_list-only : (one other : List ConfigOption) → same_list one other ≡ true → one ≡ other
same_list-only [] [] h = refl
same_list-only [] (b ∷ bs) h = cc
same_list-only (a ∷ as') [] h = cc
same_list-only (a ∷ as') (b ∷ bs) h =
    let first = same_option-only a b (grind arith) in let rest = same_list-only as' bs (grind arith) in cc

fits-only : (p : Proto) (one other : List ConfigOption) → fits p one other ≡ true → Fits p one other
fits-only Lcp one other h = h
fits-only Ip one other h = tt
fits-only Ipv6 one other h = h
fits-only Osi one other h = tt
fits-only Mpls one other h = tt
fits-only Bacp one other h = h

each_seven : (a b c d e f g : Bool) → (a && b && c && d && e && f && g) ≡ true → (a ≡ true) × (b ≡ true) × (c ≡ true) × (d ≡ true) × (e ≡ true) × (f ≡ true) × (g ≡ true)
each_seven true true true true true true true h = (refl, refl, refl, refl, refl, refl, refl)
each_seven false b c d e f g h = absurd (cc)
each_seven true false c d e f g h = absurd (cc)
each_seven true true false d e f g h = absurd (cc)
each_seven true true true false e f g h = absurd (cc)
each_seven true true true true false f g h = absurd (cc)
each_seven true true true true true false g h = absurd (cc)
each_seven true true true true true true false h = absurd (cc)

pub passes-only : (p : Proto) (rs ts : List Rule) (d : Duet) → passes p rs ts d.a d.b ≡ true → AgreeBy p rs ts d
passes-only p rs ts d h =
    let each = each_seven _ _ _ _ _ _ _ h in
    record {
      a_acked = same_list-only d.a.auto.own d.b.auto.peer each.0;
      b_acked = same_list-only d.b.auto.own d.a.auto.peer each.1;
      a_sends = each.2;
      b_sends = each.3;
      b_allows = each.4;
      a_allows = each.5;
      fits = fits-only p d.a.auto.own d.b.auto.own each.6;
    }
