-- The two ends.
use Rattle.std.specs.Prelude.{ℕ, List, codes}
use Rattle.ppp_script.specs.declared.end.End.{End}
use Rattle.ppp_script.specs.declared.end.End.TheVariants.{A, B}

abbrev pub end_name : End → List ℕ
end_name A = codes "a"
end_name B = codes "b"
