use Rattle.std.proofs.Common.{◌≡◌, ◌++◌, ap, ◌∙◌, subst, sym}
use Rattle.std.specs.Result.{OnOk}
use Rattle.std.specs.String.{string_bytes}
use Rattle.ppp_party.specs.Party.{station_of}
use Rattle.ppp_world.specs.Report.{show_block}
use Rattle.ppp_world.proofs.AgreementLemmas.{told-block}
use Rattle.ppp_world.proofs.world.show.Goals as goal

pub returns-in-Reports : goal.returns-in-Reports
returns-in-Reports g c =
    let k = c.args.number in
    let e = c.args.ends.now.ends in
    let own = c.station.ensures.station ∙ ap station_of c.a.ensures.party in
    let other = c.station-in-Reports.ensures.station ∙ ap station_of c.b.ensures.party in
    let same =
    ap (λ a. show_block k a c.station-in-Reports.result.now.station) own ∙ ap (λ b. show_block k (station_of e.own) b) other
    ∙ sym (told-block k e (λ m p low high. (c.requires.agreed m p).told)) in
    rw c.in-Reports.is (subst (λ text. OnOk c.write_show.result (string_bytes c.write_show.new.report ≡ string_bytes c.args.report.now ++ text)) same c.write_show.ensures)
