use Rattle.std.proofs.Common.{◌≡◌, sym, ap, ◌∙◌}
use Rattle.std.specs.Prelude.{None, Some}
use Rattle.ppp_party.specs.Party.{Party}
use Rattle.ppp_script.specs.declared.end.End.TheVariants.{A, B}
use Rattle.ppp_world.specs.Outstanding.{calls_outstanding, ends_of}
use Rattle.ppp_world.proofs.SearchLemmas.{first-calls, second-calls}
use Rattle.ppp_world.proofs.span.wider_calls.Goals as goal

pub returns-in-Some : goal.returns-in-Some
returns-in-Some g c =
    let e = c.args.ends.now.ends in
    let mine : calls_outstanding A e ≡ Some c.in-Some.fault =
    ap (λ (p : Party). calls_outstanding A (ends_of p e.other)) (sym c.a.ensures.party)
    ∙ ap (λ (p : Party). calls_outstanding A (ends_of c.a.result.now.party p)) (sym c.b.ensures.party)
    ∙ sym c.calls.ensures ∙ c.in-Some.is in
    sym (first-calls e c.in-Some.fault c.requires.some c.requires.alike c.requires.quiet mine)

pub returns-in-None : goal.returns-in-None
returns-in-None g c =
    let e = c.args.ends.now.ends in
    let mine : calls_outstanding A e ≡ None =
    ap (λ (p : Party). calls_outstanding A (ends_of p e.other)) (sym c.a.ensures.party)
    ∙ ap (λ (p : Party). calls_outstanding A (ends_of c.a.result.now.party p)) (sym c.b.ensures.party)
    ∙ sym c.calls.ensures ∙ c.in-None.is in
    c.calls-in-None.ensures
    ∙ ap (λ (p : Party). calls_outstanding B (ends_of p c.a-in-None.result.now.party)) c.b-in-None.ensures.party
    ∙ ap (λ (p : Party). calls_outstanding B (ends_of e.other p)) c.a-in-None.ensures.party
    ∙ sym (second-calls e c.requires.some c.requires.alike c.requires.quiet mine)
