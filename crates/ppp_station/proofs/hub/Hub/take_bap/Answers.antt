use Rattle.ppp_station.proofs.StationLemmas.{bundle-below, received}
use Rattle.ppp_station.proofs.hub.Hub.take_bap.Goals as goal

pub bring-requires-clause-brought : goal.bring-requires-clause-brought
bring-requires-clause-brought g c =
    received c.receive.ensures.taken.allowed c.in-Some-bundle_of.bundle c.args.word c.args.self.now.terms c.view_of-view.result c.in-Some.packet.now c.args.self.now.trunk c.args.self.now.bap.requests _ _ c.args.out.now.entries
    (bundle-below c.bundle_of.result c.in-Some-bundle_of.bundle _ c.bundles.result.now c.in-Some-bundle_of.is c.bundles.ensures.limits c.bundle_of.ensures.within)
    c.requires.sound c.view_of-view.ensures c.receive.ensures.taken.requests c.receive.ensures.taken.sent
