use Rattle.std.proofs.Common.{◌∙◌, ℕ, [], codes, Result}
use Rattle.std.proofs.lemmas.Result.{err_from_is_err_and}
use Rattle.toml.specs.View.{table_view}
use Rattle.ppp_conf.specs.Config.{end_at}
use Rattle.ppp_conf.specs.EndConfig.{EndSettings}
use Rattle.ppp_conf.specs.Keys.{Given}
use Rattle.ppp_conf.specs.Refusal.{Refusal}
use Rattle.ppp_conf.proofs.ConfigLemmas.{settings_of-both, both-a_keys, both-b_keys, both-a_rule, both-b_rule, both-read, read_as, refused_as}
use Rattle.ppp_conf.proofs.config_keys.read_document.Goals as goal

pub returns-in_err-a-clause-err : goal.returns-in_err-a-clause-err
returns-in_err-a-clause-err c =
    let top : Given = record { prefix = []; members = table_view c.args.top.now } in
    let links : ℕ = c.in_ok-links.links in
    let a_of : Result (Result EndSettings Refusal) Refusal = end_at links (codes "a") (codes "a.") top in
    let b_of : Result (Result EndSettings Refusal) Refusal = end_at links (codes "b") (codes "b.") top in
    let reads = settings_of-both top c.in_ok-version.version links c.in_ok-version.ensures.ok c.in_ok-check_known.ensures.ok c.in_ok-links.ensures.ok in
    let p = err_from_is_err_and c.from_residual-in_err-a.result c.from_residual-in_err-a.ensures.1 in
    refused_as _ _ _ _ _ p.1 p.2 reads
    (both-a_keys links a_of b_of c.in_err-a.field-0.0 c.in_err-a.ensures.err)

pub returns-in_err-b-clause-err : goal.returns-in_err-b-clause-err
returns-in_err-b-clause-err c =
    let top : Given = record { prefix = []; members = table_view c.args.top.now } in
    let links : ℕ = c.in_ok-links.links in
    let a_of : Result (Result EndSettings Refusal) Refusal = end_at links (codes "a") (codes "a.") top in
    let b_of : Result (Result EndSettings Refusal) Refusal = end_at links (codes "b") (codes "b.") top in
    let reads = settings_of-both top c.in_ok-version.version links c.in_ok-version.ensures.ok c.in_ok-check_known.ensures.ok c.in_ok-links.ensures.ok in
    let p = err_from_is_err_and c.from_residual-in_err-b.result c.from_residual-in_err-b.ensures.1 in
    refused_as _ _ _ _ _ p.1 p.2 reads
    (both-b_keys links a_of b_of c.in_ok-a.a c.in_err-b.field-0.0 c.in_ok-a.ensures.ok c.in_err-b.ensures.err)

pub returns-in_err-a-2-clause-err : goal.returns-in_err-a-2-clause-err
returns-in_err-a-2-clause-err c =
    let top : Given = record { prefix = []; members = table_view c.args.top.now } in
    let links : ℕ = c.in_ok-links.links in
    let a_of : Result (Result EndSettings Refusal) Refusal = end_at links (codes "a") (codes "a.") top in
    let b_of : Result (Result EndSettings Refusal) Refusal = end_at links (codes "b") (codes "b.") top in
    let reads = settings_of-both top c.in_ok-version.version links c.in_ok-version.ensures.ok c.in_ok-check_known.ensures.ok c.in_ok-links.ensures.ok in
    let p = err_from_is_err_and c.from_residual-in_err-a-2.result c.from_residual-in_err-a-2.ensures.1 in
    refused_as _ _ _ _ _ p.1 p.2 reads
    (both-a_rule links a_of b_of c.in_ok-b.b c.in_err-a-2.field-0.0 (read_as a_of _ _ c.in_err-a-2.was c.in_ok-a.ensures.ok) c.in_ok-b.ensures.ok)

pub returns-in_err-b-2-clause-err : goal.returns-in_err-b-2-clause-err
returns-in_err-b-2-clause-err c =
    let top : Given = record { prefix = []; members = table_view c.args.top.now } in
    let links : ℕ = c.in_ok-links.links in
    let a_of : Result (Result EndSettings Refusal) Refusal = end_at links (codes "a") (codes "a.") top in
    let b_of : Result (Result EndSettings Refusal) Refusal = end_at links (codes "b") (codes "b.") top in
    let reads = settings_of-both top c.in_ok-version.version links c.in_ok-version.ensures.ok c.in_ok-check_known.ensures.ok c.in_ok-links.ensures.ok in
    let p = err_from_is_err_and c.from_residual-in_err-b-2.result c.from_residual-in_err-b-2.ensures.1 in
    refused_as _ _ _ _ _ p.1 p.2 reads
    (both-b_rule links a_of b_of c.in_ok-a-2.a c.in_err-b-2.field-0.0 (read_as a_of _ _ c.in_ok-a-2.was c.in_ok-a.ensures.ok)
    (read_as b_of _ _ c.in_err-b-2.was c.in_ok-b.ensures.ok))

pub returns-clause-ok : goal.returns-clause-ok
returns-clause-ok c =
    let top : Given = record { prefix = []; members = table_view c.args.top.now } in
    let links : ℕ = c.in_ok-links.links in
    let a_of : Result (Result EndSettings Refusal) Refusal = end_at links (codes "a") (codes "a.") top in
    let b_of : Result (Result EndSettings Refusal) Refusal = end_at links (codes "b") (codes "b.") top in
    let reads = settings_of-both top c.in_ok-version.version links c.in_ok-version.ensures.ok c.in_ok-check_known.ensures.ok c.in_ok-links.ensures.ok in
    reads ∙
    (both-read links a_of b_of c.in_ok-a-2.a c.in_ok-b-2.b (read_as a_of _ _ c.in_ok-a-2.was c.in_ok-a.ensures.ok)
    (read_as b_of _ _ c.in_ok-b-2.was c.in_ok-b.ensures.ok))
