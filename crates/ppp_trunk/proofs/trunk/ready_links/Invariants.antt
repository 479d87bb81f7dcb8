use Rattle.std.proofs.Common.{◌≡◌, length}
use Rattle.std.specs.List.{AllByRecursion}
use Rattle.ppp_conf.specs.EndConfig.{end_seen}
use Rattle.ppp_trunk.specs.Trunk.{all_settings, settings_in, IsReady}
use Rattle.ppp_trunk.proofs.trunk.ready_links.Given as goal

abbrev pub invariant-loop-i : goal.invariant-loop-i
invariant-loop-i l = record {
  count : length l.links.items ≡ l.i;
  ready : AllByRecursion IsReady l.links.items;
  settings : settings_in l.links.items ≡ all_settings l.i 1 (end_seen l.config);
}
