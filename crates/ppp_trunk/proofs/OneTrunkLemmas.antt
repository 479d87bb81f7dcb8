-- A trunk begins in one way by an end's settings: its tables are what they are set to, and proofs of that.
use Rattle.std.proofs.Common.{◌≡◌, ◌-◌, ◌≤◌, List, [], ◌∷◌, ◌++◌, length, take, refl, sym, ap, ◌∙◌, arith, length-take}
use Rattle.std.specs.Prelude.{Option, Some, None, is_some, option_map, replicate, IsTrue}
use Rattle.std.specs.List.{AllByRecursion}
use Rattle.std.proofs.lemmas.List.{take-append-drop}
use Rattle.std.proofs.Props.{props}
use mathlib.Core.HLevel.{is_prop→PathP}
use Rattle.ppp_packet.specs.DiscClass.{is_good_disc}
use Rattle.ppp_packet.specs.Disc.{IsAddress}
use Rattle.ppp_packet.specs.declared.disc.Disc.{Disc}
use Rattle.ppp_packet.specs.declared.disc.TheConstants.{MOST_ADDRESS}
use Rattle.ppp_lcp.specs.LcpSettings.{LcpSettings, settings_seen}
use Rattle.ppp_lcp.specs.LcpRanges.{is_mrru, are_classes}
use Rattle.ppp_lcp.specs.declared.lcp_table.LcpTable.{LcpTable}
use Rattle.ppp_lcp.specs.declared.lcp_table.TheConstants.{LEAST_MRU, MOST_MRU}
use Rattle.ppp_ncp.specs.IpcpTable.{is_give}
use Rattle.ppp_ncp.specs.declared.ipcp_table.IpcpTable.{IpcpTable}
use Rattle.ppp_ncp.specs.declared.ipv6_table.Ipv6Table.{Ipv6Table}
use Rattle.ppp_osimpls.specs.Alignment.{is_setting}
use Rattle.ppp_osimpls.specs.declared.osi_table.OsiTable.{OsiTable}
use Rattle.ppp_osimpls.specs.declared.mpls_table.MplsTable.{MplsTable}
use Rattle.ppp_bacp.specs.BacpTable.{is_favored}
use Rattle.ppp_bacp.specs.declared.bacp_table.BacpTable.{BacpTable}
use Rattle.ppp_bundle.specs.Bundles.{bundles_begun}
use Rattle.ppp_link.specs.Link.{Link}
use Rattle.ppp_link.specs.LinkSettings.{LinkSettings}
use Rattle.ppp_link.specs.LinkTables.{LinkTables, tables_seen, ip_seen, ipv6_seen, osi_seen, bacp_seen}
use Rattle.ppp_trunk.specs.Trunk.{Trunk, IsBegun, IsReady, limits_of, link_ready, settings_in}

-- ---- tables that are set to the same are the same

same_disc : (d e : Disc) → d.class ≡ e.class → take d.size d.address ≡ take e.size e.address → d ≡ e
same_disc d e class_is same =
    let size_is : d.size ≡ e.size = omega (arith, ap length same, length-take d.size d.address, length-take e.size e.address, d.is_address.whole, e.is_address.whole, d.is_address.within, e.is_address.within) in
    let address_is : d.address ≡ e.address =
    sym (take-append-drop d.size d.address) ∙ ap (λ zeros. take d.size d.address ++ zeros) d.is_address.zeros
    ∙ ap (λ front. front ++ replicate (MOST_ADDRESS - d.size) 0) same ∙ ap (λ size. take e.size e.address ++ replicate (MOST_ADDRESS - size) 0) size_is
    ∙ ap (λ zeros. take e.size e.address ++ zeros) (sym e.is_address.zeros) ∙ take-append-drop e.size e.address in
    λ i. record {
      class = class_is i;
      address = address_is i;
      size = size_is i;
      is_address = is_prop→PathP (λ j. IsAddress (address_is j) (size_is j)) (λ j. hlevel props) d.is_address e.is_address i;
    }

same_lcp : (t u : LcpTable) → settings_seen t ≡ settings_seen u → t ≡ u
same_lcp t u same =
    let mru_is = ap (λ (s : LcpSettings). s.mru) same in
    let mrru_is = ap (λ (s : LcpSettings). s.mrru) same in
    let short_is = ap (λ (s : LcpSettings). s.short) same in
    let classes_is = ap (λ (s : LcpSettings). s.classes) same in
    let disc_is = same_disc t.disc u.disc (ap (λ (s : LcpSettings). s.disc.0) same) (ap (λ (s : LcpSettings). s.disc.1) same) in
    λ i. record {
      mru = mru_is i;
      accm = (same i).accm;
      magic = (same i).magic;
      mrru = mrru_is i;
      short = short_is i;
      classes = classes_is i;
      disc = disc_is i;
      link_disc = (same i).link_disc;
      pfc = (same i).pfc;
      acfc = (same i).acfc;
      least_mru = is_prop→PathP (λ j. LEAST_MRU ≤ mru_is j) (λ j. hlevel props) t.least_mru u.least_mru i;
      most_mru = is_prop→PathP (λ j. mru_is j ≤ MOST_MRU) (λ j. hlevel props) t.most_mru u.most_mru i;
      is_mrru = is_prop→PathP (λ j. IsTrue (is_mrru (mrru_is j))) (λ j. hlevel props) t.is_mrru u.is_mrru i;
      are_classes = is_prop→PathP (λ j. IsTrue (are_classes (short_is j) (classes_is j))) (λ j. hlevel props) t.are_classes u.are_classes i;
      is_disc = is_prop→PathP (λ j. IsTrue (is_good_disc (disc_is j).class (disc_is j).size)) (λ j. hlevel props) t.is_disc u.is_disc i;
    }

same_ip : (t u : IpcpTable) → ip_seen t ≡ ip_seen u → t ≡ u
same_ip t u same = λ i. record {
  own = (same i).0;
  give = (same i).1;
  is_give = is_prop→PathP (λ j. IsTrue (is_give (same j).1)) (λ j. hlevel props) t.is_give u.is_give i;
}

same_ipv6 : (t u : Ipv6Table) → ipv6_seen t ≡ ipv6_seen u → t ≡ u
same_ipv6 t u same = λ i. record { own = (same i).0; ask = (same i).1 }

same_osi : (t u : OsiTable) → osi_seen t ≡ osi_seen u → t ≡ u
same_osi t u same = λ i. record { align = same i; is_setting = is_prop→PathP (λ j. IsTrue (is_setting (same j))) (λ j. hlevel props) t.is_setting u.is_setting i }

same_bacp : (t u : BacpTable) → bacp_seen t ≡ bacp_seen u → t ≡ u
same_bacp t u same = λ i. record { favored = same i; is_favored = is_prop→PathP (λ j. IsTrue (is_favored (same j))) (λ j. hlevel props) t.is_favored u.is_favored i }

same_if : {T S : Type 0} (seen : T → S) (a b : Option T) → ((t u : T) → seen t ≡ seen u → t ≡ u) → option_map seen a ≡ option_map seen b → a ≡ b
same_if seen None None one same = refl
same_if seen None (Some u) one same = absurd (cc)
same_if seen (Some t) None one same = absurd (cc)
same_if seen (Some t) (Some u) one same = let both : seen t ≡ seen u = cc in ap (λ x. Some x) (one t u both)

same_mpls : (a b : Option MplsTable) → is_some a ≡ is_some b → a ≡ b
same_mpls None None same = refl
same_mpls None (Some u) same = absurd (cc)
same_mpls (Some t) None same = absurd (cc)
same_mpls (Some t) (Some u) same = refl

same_tables : (t u : LinkTables) → tables_seen t ≡ tables_seen u → t ≡ u
same_tables t u same =
    let lcp_is = same_lcp t.lcp u.lcp (ap (λ (s : LinkSettings). s.lcp) same) in
    let ip_is = same_if ip_seen t.ip u.ip same_ip (ap (λ (s : LinkSettings). s.ip) same) in
    let ipv6_is = same_if ipv6_seen t.ipv6 u.ipv6 same_ipv6 (ap (λ (s : LinkSettings). s.ipv6) same) in
    let osi_is = same_if osi_seen t.osi u.osi same_osi (ap (λ (s : LinkSettings). s.osi) same) in
    let mpls_is = same_mpls t.mpls u.mpls (ap (λ (s : LinkSettings). s.mpls) same) in
    let bacp_is = same_if bacp_seen t.bacp u.bacp same_bacp (ap (λ (s : LinkSettings). s.bacp) same) in
    λ i. record { lcp = lcp_is i; ip = ip_is i; ipv6 = ipv6_is i; osi = osi_is i; mpls = mpls_is i; bacp = bacp_is i }

-- ---- links that begin by the same settings are the same

same_ready : (k l : Link) → IsReady k → IsReady l → tables_seen k.tables ≡ tables_seen l.tables → k ≡ l
same_ready k l ready other same = ready ∙ ap link_ready (same_tables k.tables l.tables same) ∙ sym other

same_links : (ks ls : List Link) → AllByRecursion IsReady ks → AllByRecursion IsReady ls → settings_in ks ≡ settings_in ls → ks ≡ ls
same_links [] [] ready other same = refl
same_links [] (l ∷ ls) ready other same = absurd (cc)
same_links (k ∷ ks) [] ready other same = absurd (cc)
same_links (k ∷ ks) (l ∷ ls) ready other same =
    let first : tables_seen k.tables ≡ tables_seen l.tables = cc in
    let rest : settings_in ks ≡ settings_in ls = cc in
    ap (λ x. x ∷ ks) (same_ready k l ready.0 other.0 first) ∙ ap (λ xs. l ∷ xs) (same_links ks ls ready.1 other.1 rest)

pub same_trunks : (a b : Trunk) → IsBegun a → IsBegun b → settings_in a.links ≡ settings_in b.links → a ≡ b
same_trunks a b begun other same =
    let links = same_links a.links b.links begun.ready other.ready same in
    let bundles = begun.bundles ∙ ap (λ (ks : List Link). bundles_begun (limits_of (length ks))) links ∙ sym other.bundles in
    (λ i. record { links = links i; bundles = bundles i })
