use Rattle.std.proofs.Common.{◌≡◌, ℕ, ap, subst, sym, ◌∙◌}
use Rattle.std.specs.Prelude.{is_some, IfSome, Option, Some, None}
use Rattle.ppp_bundle.specs.BundleTable.{IsBundles, IsLinkOf}
use Rattle.ppp_bundle.specs.Bundles.{Bundles, control_of}
use Rattle.ppp_bundle.proofs.ControlLemmas.{control-joined, linked-control}
use Rattle.ppp_bundle.proofs.TableLemmas.{control-read}
use Rattle.ppp_bundle.proofs.bundle_table.BundleTable.control.Goals as goal

pub returns-clause-value : goal.returns-clause-value
returns-clause-value c = control-read c.self.inside.controls.items _ c.args.self.now c.args.bundle c.from.result c.index.result.now c.self.invariant.controls c.self.view_is c.requires c.from.ensures c.index.ensures

pub returns-clause-linked : goal.returns-clause-linked
returns-clause-linked c = linked-control c.args.bundle c.args.self.now ∙ ap is_some (sym (returns-clause-value c))

within : (o : Option ℕ) (t : Bundles) (b : ℕ) → o ≡ control_of b t → IsBundles t → IfSome o (IsLinkOf t)
within None t b is sound = tt
within (Some l) t b is sound = (control-joined b l t sound.places (sym is)).0

pub returns-clause-within : goal.returns-clause-within
returns-clause-within c = within c.index.result.now c.args.self.now c.args.bundle (returns-clause-value c) (subst IsBundles c.self.view_is c.self.invariant.sound)
