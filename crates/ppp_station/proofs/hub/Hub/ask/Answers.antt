use Rattle.std.proofs.Common.{◌≡◌, ◌∙◌, ap, subst, sym}
use Rattle.std.specs.Prelude.{OnErr}
use Rattle.ppp_bap.specs.Bap.{Bap}
use Rattle.ppp_bap.proofs.StepLemmas.{asked-err, asked-new, asked-ok}
use Rattle.ppp_bundle.specs.Bundles.{bundle_at}
use Rattle.ppp_trunk.specs.StationOut.{Out}
use Rattle.ppp_station.proofs.StationLemmas.{asked-whole, refused-whole}
use Rattle.ppp_station.proofs.hub.Hub.ask.Goals as goal

pub returns-in-Ok-clause-done : goal.returns-in-Ok-clause-done
returns-in-Ok-clause-done g c =
    let v = c.view_of-view.result in
    let q = c.args.self.now.bap.requests in
    asked-whole c.in-Some.bundle c.args.word c.args.request c.args.self.now.terms _ v c.args.self.now.trunk c.bring.new.self.trunk q c.ask.new.self.requests c.bring.new.self.bap.requests
    c.ask.new.out c.args.out.now.entries c.bring.new.out.entries c.answer-in-Ok.new.self.entries _
    (sym (c.bundle_of.ensures.value ∙ ap (bundle_at c.args.link) c.bundles.ensures.value) ∙ c.in-Some.is)
    c.view_of-view.ensures c.requires.empty
    (asked-new c.args.request v q c.ask.new.self.requests c.ask.result c.ask.ensures.answer c.ask.ensures.waits (subst (λ a. OnErr a (◌≡◌ c.ask.new.self.requests q)) (sym c.in-Ok.is) tt))
    (asked-ok c.args.request v q c.ask.new.out c.ask.result c.ask.ensures.answer c.ask.ensures.sent c.in-Ok.is)
    c.bring.ensures.done (sym c.in-Ok.is ∙ c.ask.ensures.answer) (ap (λ (o : Out). o.entries) c.answer-in-Ok.ensures.out)

pub returns-in-Err-clause-done : goal.returns-in-Err-clause-done
returns-in-Err-clause-done g c =
    let v = c.view_of-view.result in
    let q = c.args.self.now.bap.requests in
    refused-whole c.in-Some.bundle c.args.word c.args.request c.args.self.now.terms _ v c.args.self.now.trunk q c.ask.new.self.requests
    c.args.out.now.entries c.answer-in-Err.new.self.entries _
    (sym (c.bundle_of.ensures.value ∙ ap (bundle_at c.args.link) c.bundles.ensures.value) ∙ c.in-Some.is)
    c.view_of-view.ensures c.requires.empty
    (asked-err c.args.request v q c.ask.result c.in-Err.why c.ask.ensures.answer c.in-Err.is)
    (ap (λ (b : Bap g.row.F.Denot). b.requests) c.in-Err.ensures.kept) (sym c.in-Err.is ∙ c.ask.ensures.answer) (ap (λ (o : Out). o.entries) c.answer-in-Err.ensures.out)
