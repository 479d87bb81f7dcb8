use Rattle.std.proofs.Common.{◌≡◌, ◌∙◌, sym, refl}
use Rattle.std.specs.Prelude.{Some, None}
use Rattle.std.proofs.lemmas.Bool.{eq-eqb}
use Rattle.ppp_packet.specs.Options.{find_kind}
use Rattle.ppp_packet.proofs.OptionLemmas.{none_test}
use Rattle.ppp_packet.proofs.opt_list.OptList.find.Goals as goal

pub returns-then-option-kind-clause-none : goal.returns-then-option-kind-clause-none
returns-then-option-kind-clause-none c =
    let found : find_kind c.args.kind c.args.self.now ≡ Some c.in-Some.option.body.now =
    sym c.options.invariant ∙ rw (c.in-Some.ensures.parts, eq-eqb c.in-Some.option.kind c.args.kind c.if-option-kind.true) refl in
    none_test (Some c.in-Some.option.body) (λ r. r.now) c.args.kind c.args.self.now found

pub returns-clause-none : goal.returns-clause-none
returns-clause-none c =
    let none : find_kind c.args.kind c.args.self.now ≡ None = sym c.options.invariant ∙ rw (c.in_default.ensures.parts) refl in
    none_test None (λ r. r) c.args.kind c.args.self.now none
