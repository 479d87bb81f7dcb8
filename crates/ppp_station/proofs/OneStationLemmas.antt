-- A station begins in one way by an end's settings.
use Rattle.std.proofs.Common.{◌≡◌, sym, ◌∙◌}
use Rattle.ppp_conf.specs.EndConfig.{EndSettings}
use Rattle.ppp_trunk.proofs.OneTrunkLemmas.{same_trunks}
use Rattle.ppp_station.specs.Station.{BeginsBy, Station}

pub same-begin : (s : EndSettings) (one other : Station) → BeginsBy s one → BeginsBy s other → one ≡ other
same-begin s one other first second =
    let trunk = same_trunks one.trunk other.trunk first.links.begun second.links.begun (first.links.settings ∙ sym second.links.settings) in
    let requests = first.requests ∙ sym second.requests in
    let terms = first.terms ∙ sym second.terms in
    λ i. record { trunk = trunk i; requests = requests i; terms = terms i }
