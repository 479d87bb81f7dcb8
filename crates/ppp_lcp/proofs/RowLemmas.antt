-- LCP's rows by the Type, for the code.
use Rattle.std.proofs.Common.{◌≡◌, ℕ, ◌≤◌, Bool, true, false, List, length, refl, ◌∙◌, ap, arith}
use Rattle.std.specs.Prelude.{◌==◌, if◌then◌else◌, Option, Some, None, Ok}
use Rattle.std.specs.Option.{option_map, ok_or}
use Rattle.ppp_options.specs.Rules.{rule_of}
use Rattle.ppp_lcp.specs.LcpKind.{kind_of, kind_number, read_kind}
use Rattle.ppp_lcp.specs.LcpLaw.{kind_is_rule}
use Rattle.ppp_lcp.specs.LcpTable.{lcp_rule, lcp_rules}
use Rattle.ppp_lcp.specs.declared.lcp_kind.LcpKind.{LcpKind}
use Rattle.ppp_lcp.specs.declared.lcp_kind.LcpKind.TheVariants.{Mru, Accm, Magic, Pfc, Acfc, Mrru, Short, Disc, LinkDisc, Classes}
use Rattle.ppp_lcp.specs.declared.lcp_kind.UnknownKind.{UnknownKind}
use Rattle.ppp_lcp.specs.LcpSettings.{LcpSettings, IsRanged}

step : {A B : Type 0} (f : A → B) (b : Bool) (k : A) (rest : Option A) (more : Option B) → more ≡ option_map f rest →
    (if b then Some (f k) else more) ≡ option_map f (if b then Some k else rest)
step f true k rest more h = refl
step f false k rest more h = h

-- a Type's row is found at its number
pub rule-of : (t : LcpSettings) (n : ℕ) → rule_of n (lcp_rules t) ≡ option_map (lcp_rule t) (kind_of n)
rule-of t n =
    step (lcp_rule t) (kind_number Mru == n) Mru _ _
    (step (lcp_rule t) (kind_number Accm == n) Accm _ _
    (step (lcp_rule t) (kind_number Magic == n) Magic _ _
    (step (lcp_rule t) (kind_number Pfc == n) Pfc _ _
    (step (lcp_rule t) (kind_number Acfc == n) Acfc _ _
    (step (lcp_rule t) (kind_number Mrru == n) Mrru _ _
    (step (lcp_rule t) (kind_number Short == n) Short _ _
    (step (lcp_rule t) (kind_number Disc == n) Disc _ _
    (step (lcp_rule t) (kind_number LinkDisc == n) LinkDisc _ _
    (step (lcp_rule t) (kind_number Classes == n) Classes _ _ refl)))))))))

read-ok : (found : Option LcpKind) (e : UnknownKind) (kind : LcpKind) → Ok kind ≡ ok_or found e → found ≡ Some kind
read-ok None e kind h = cc
read-ok (Some k) e kind h = cc

pub rule-read : (t : LcpSettings) (n : ℕ) (kind : LcpKind) → Ok kind ≡ read_kind n →
    rule_of n (lcp_rules t) ≡ Some (lcp_rule t kind)
rule-read t n kind h = rule-of t n ∙ ap (option_map (lcp_rule t)) (read-ok (kind_of n) _ kind h)

row-octets : (t : LcpSettings) (kind : LcpKind) → (lcp_rule t kind).most ≤ 34
row-octets t Mru = omega arith
row-octets t Accm = omega arith
row-octets t Magic = omega arith
row-octets t Pfc = omega arith
row-octets t Acfc = omega arith
row-octets t Mrru = omega arith
row-octets t Short = omega arith
row-octets t Disc = omega arith
row-octets t LinkDisc = omega arith
row-octets t Classes = omega arith

-- what stands after a Nak can be kept
pub after-fits : (t : LcpSettings) → IsRanged t → (kind : LcpKind) (last nak : List ℕ) (word : ℕ) →
    (lcp_rule t kind).is_sent last ≡ true → length ((lcp_rule t kind).after last nak word) ≤ 32
after-fits t ranged kind last nak word sent =
    let is = kind_is_rule t ranged kind in
    let same = is.after_long last nak word sent in
    let short = is.sent_short last sent in
    let most = row-octets t kind in
    omega arith
