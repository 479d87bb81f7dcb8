-- The blocks of a report, line by line.
use Rattle.std.proofs.Common.{◌≡◌, ℕ, suc, ◌+◌, ◌<◌, List, ◌++◌, get_or, take, sym, ap, ◌∙◌, append_assoc, add-one}
use Rattle.std.specs.List.{flat_map}
use Rattle.std.specs.Prelude.{OnOk, Result, Ok, Err}
use Rattle.std.proofs.lemmas.List.{flat_map_more, take_more}
use Rattle.ppp_packet.specs.declared.proto.Proto.{Proto}
use Rattle.ppp_link.specs.Link.{Link}
use Rattle.ppp_world.specs.Outstanding.{protocols}
use Rattle.ppp_world.specs.Report.{Told, line_on, lines_of, link_lines}

-- one line more of a link
pub proto_more : (f : Proto → List ℕ) (i : ℕ) (d : Proto) (begun before after : List ℕ) → i < 6 → before ≡ begun ++ flat_map f (take i protocols) →
    after ≡ before ++ f (get_or protocols i d) → after ≡ begun ++ flat_map f (take (i + 1) protocols)
proto_more f i d begun before after few is more =
    more ∙ ap (λ x. x ++ f (get_or protocols i d)) is ∙ flat_map_more f begun (take i protocols) (get_or protocols i d) ∙ ap (λ ps. begun ++ flat_map f ps) (sym (take_more protocols i d few))

-- all of them
pub proto_all : (told : Told) (i m : ℕ) (own other : List Link) (begun after : List ℕ) → i ≡ 6 → after ≡ begun ++ flat_map (line_on told m own other) (take i protocols) →
    after ≡ begun ++ link_lines told m own other
unfolding link_lines
proto_all told i m own other begun after same is = rw same at is

-- one link more
pub link_more : (told : Told) (n : ℕ) (own other : List Link) (begun before after : List ℕ) → before ≡ begun ++ lines_of told n own other →
    after ≡ before ++ link_lines told (n + 1) own other → after ≡ begun ++ lines_of told (n + 1) own other
link_more told n own other begun before after is more = rw add-one (rw add-one at more ∙ ap (λ x. x ++ link_lines told (suc n) own other) is ∙ append_assoc begun (lines_of told n own other) (link_lines told (suc n) own other))

-- the links, and behind them the bundles of both ends
pub block-all : {E : Type 0} (r : Result (Unit {0}) E) (begun links first second : List ℕ) (x y z : List ℕ) → x ≡ begun ++ links → y ≡ x ++ first → OnOk r (z ≡ y ++ second) →
    OnOk r (z ≡ begun ++ (links ++ first ++ second))
block-all (Ok done) begun links first second x y z one two three =
    three ∙ ap (λ w. w ++ second) (two ∙ ap (λ w. w ++ first) one ∙ append_assoc begun links first) ∙ append_assoc begun (links ++ first) second
block-all (Err why) begun links first second x y z one two three = tt
