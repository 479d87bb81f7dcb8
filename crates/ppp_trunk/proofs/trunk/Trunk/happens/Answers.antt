use Rattle.std.proofs.Common.{◌≡◌, ◌-◌, ap, arith, length, length-set, Some, slice_get, subst, sym, ◌∙◌}
use Rattle.std.proofs.lemmas.Option.{slice_get-get_or}
use Rattle.ppp_link.specs.Link.{Fed, Link}
use Rattle.ppp_trunk.specs.Phases.{IsTrunk}
use Rattle.ppp_trunk.specs.Trunk.{IsOfLink, Trunk, limits_of, on_link}
use Rattle.ppp_trunk.specs.StationOut.{Out}
use Rattle.ppp_trunk.specs.Steps.{InTurn, happening_seen}
use Rattle.ppp_trunk.proofs.MovesLemmas.{linked-after}
use Rattle.ppp_trunk.proofs.TrunkLemmas.{IsStepped, happen-is}
use Rattle.ppp_trunk.proofs.TrunkPhaseLemmas.{its-limits, kept-trunk}
use Rattle.ppp_trunk.proofs.TurnLemmas.{in-turn}
use Rattle.ppp_trunk.proofs.trunk.Trunk.happens.Goals as goal

abbrev inside : goal.After-set_used → Trunk
inside c = record { links = c.self.inside.links.items; bundles = c.self.inside.bundles }

stepped : (c : goal.After-set_used) → IsStepped (happening_seen c.args.what) c.args.number c.args.word (inside c) (record { links = c.work.new.links.items; bundles = c.work.new.bundles }) (record { entries = c.work.new.out.entries; used = c.happen-used.result })
stepped c =
    happen-is (happening_seen c.args.what) c.args.number (c.from.result - 1) c.args.word (inside c) _ c.index_mut-link.result.now
    c.happen-used.new.link c.work.new.links.items c.work.new.bundles c.happen-used.new.out c.happen-used.result _ c.work.new.out.entries
    (ap (λ n. n - 1) c.from.ensures) c.requires.0 (omega (arith, c.requires.1, ap (λ (s : Trunk). length s.links) c.self.view_is)) c.index_mut-link.ensures.value c.happen-used.ensures.did
    (ap (λ (o : Out). o.entries) c.clear.ensures) c.work.ensures.done

pub returns-clause-trunk : goal.returns-clause-trunk
returns-clause-trunk c = (stepped c).trunk ∙ ap (λ st. (on_link (happening_seen c.args.what) c.args.number st c.args.word).trunk) c.self.view_is

pub returns-clause-out : goal.returns-clause-out
returns-clause-out c = c.set_used.ensures.out ∙ (stepped c).out ∙ ap (λ st. (on_link (happening_seen c.args.what) c.args.number st c.args.word).out) c.self.view_is

pub returns-clause-linked : goal.returns-clause-linked
returns-clause-linked c =
    linked-after (happening_seen c.args.what) c.args.number c.args.word (inside c) _ _
    (subst (λ (st : Trunk). IsOfLink (length st.links) c.args.number) (sym c.self.view_is) c.requires)
    (stepped c).trunk
    (ap (λ (o : Out). o.entries) (c.set_used.ensures.out ∙ (stepped c).out))

pub work-requires-clause-limits : goal.work-requires-clause-limits
work-requires-clause-limits c =
    its-limits _ c.self.invariant ∙ ap limits_of (sym (length-set c.self.inside.links.items (c.from.result - 1) c.happen-used.new.link))

-- the link that the event is of
there : (c : goal.After-work-arg-5-1) → slice_get c.self.inside.links.items (c.args.number - 1) ≡ Some c.index_mut-link.result.now
there c =
    ap (λ n. slice_get c.self.inside.links.items (n - 1)) (sym c.from.ensures)
    ∙ slice_get-get_or c.self.inside.links.items (c.from.result - 1) _ (omega (arith, c.from.ensures, c.requires.0, c.requires.1, ap (λ (s : Trunk). length s.links) c.self.view_is))
    ∙ ap (λ (k : Link). Some k) (sym c.index_mut-link.ensures.value)

pub work-requires-clause-turn : goal.work-requires-clause-turn
work-requires-clause-turn c =
    subst (InTurn c.args.number c.self.inside.bundles) (sym (ap (λ (f : Fed). f.out) c.happen-used.ensures.did))
    (in-turn (happening_seen c.args.what) c.args.number c.args.word (record { links = c.self.inside.links.items; bundles = c.self.inside.bundles }) c.index_mut-link.result.now c.requires.0 (there c) c.self.invariant)

pub invariant_of-self : goal.invariant_of-self
invariant_of-self c =
    let at : slice_get c.self.inside.links.items (c.args.number - 1) ≡ Some c.index_mut-link.result.now =
    ap (λ n. slice_get c.self.inside.links.items (n - 1)) (sym c.from.ensures)
    ∙ slice_get-get_or c.self.inside.links.items (c.from.result - 1) _ (omega (arith, c.from.ensures, c.requires.0, c.requires.1, ap (λ (s : Trunk). length s.links) c.self.view_is))
    ∙ ap (λ (k : Link). Some k) (sym c.index_mut-link.ensures.value) in
    subst IsTrunk (sym (stepped c).trunk) (kept-trunk (happening_seen c.args.what) c.args.number c.args.word (inside c) c.index_mut-link.result.now c.requires.0 at c.self.invariant)
