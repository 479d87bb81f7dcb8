use Rattle.std.proofs.Common.{◌+◌, ◌^◌, ◌∙◌, ◌∷◌, [], add-one, arith, length, refl, subst, sym}
use Rattle.ppp_party.specs.Counted.{AllCounted}
use Rattle.ppp_trunk.specs.Moves.{IsLinked}
use Rattle.ppp_trunk.specs.StationOut.{entry_seen}
use Rattle.ppp_party.proofs.ListLemmas.{all-at}
use Rattle.ppp_party.proofs.SendLemmas.{all-more, noted-counted, posted-all, posted-next, posted-none}
use Rattle.ppp_party.proofs.desk.post.Goals as goal

pub loop-i-init : goal.loop-i-init
loop-i-init c = record {
  reader = c.requires.reader;
  counted = all-more (2 ^ 62) (2 ^ 62 + 0) c.args.ledgers.now.items (omega arith) c.requires.counted;
  few = c.requires.queues;
  count = refl;
  queues = refl;
  so = posted-none c.args.mark c.args.out.now.entries c.args.ledgers.now.items c.args.incoming.now.items c.requires.queues;
}

pub post_entry-requires-clause-linked : goal.post_entry-requires-clause-linked
post_entry-requires-clause-linked c =
    subst (λ n. IsLinked n (entry_seen c.at.result)) (sym c.loop-i.invariant.count)
    (all-at (IsLinked (length c.args.ledgers.now.items)) c.args.out.now.entries c.loop-i.i (entry_seen c.at.result) c.requires.linked c.at.ensures)

pub post_entry-requires-clause-counted : goal.post_entry-requires-clause-counted
post_entry-requires-clause-counted c =
    all-more (2 ^ 62 + c.loop-i.i) (2 ^ 63) c.loop-i.ledgers.items (omega (arith, c.loop-i-test.true, c.requires.few, c.count-i-end.ensures)) c.loop-i.invariant.counted

pub loop-i-preserved : goal.loop-i-preserved
loop-i-preserved c =
    let did = c.in_ok-post_entry.ensures in
    let kept = c.loop-i.invariant in
    let e = entry_seen c.at.result in
    record {
      reader = c.post_entry.ensures.reader;
      counted = all-more (2 ^ 62 + c.loop-i.i + 1) (2 ^ 62 + (c.loop-i.i + 1)) _ (omega arith)
          (subst (λ gss. AllCounted (2 ^ 62 + c.loop-i.i + 1) gss) (sym did.ledgers) (noted-counted (2 ^ 62 + c.loop-i.i) 1 1 (e ∷ []) c.loop-i.ledgers.items (omega arith) kept.counted));
      few = c.post_entry.ensures.few;
      count = c.post_entry.ensures.count ∙ kept.count;
      queues = c.post_entry.ensures.queues ∙ kept.queues;
      so = rw add-one (posted-next c.args.mark c.loop-i.i c.args.out.now.entries c.args.ledgers.now.items c.loop-i.ledgers.items _ c.args.incoming.now.items c.loop-i.incoming.items _ e c.at.ensures did.ledgers did.incoming kept.so);
    }

pub returns-clause-ledgers : goal.returns-clause-ledgers
returns-clause-ledgers c =
    (posted-all c.args.mark c.loop-i.i c.args.out.now.entries c.args.ledgers.now.items c.loop-i.ledgers.items c.args.incoming.now.items c.loop-i.incoming.items
    (omega (arith, c.count-i-end.ensures, c.loop-i-test.false)) c.loop-i.invariant.so).notes

pub returns-clause-incoming : goal.returns-clause-incoming
returns-clause-incoming c =
    (posted-all c.args.mark c.loop-i.i c.args.out.now.entries c.args.ledgers.now.items c.loop-i.ledgers.items c.args.incoming.now.items c.loop-i.incoming.items
    (omega (arith, c.count-i-end.ensures, c.loop-i-test.false)) c.loop-i.invariant.so).posts
