use Rattle.std.proofs.Common.{◌≡◌, ◌+◌, ◌≤◌, ◌∷◌, ◌++◌, [], length, map, drop, sym, ap, subst, ◌∙◌, arith, length-drop}
use Rattle.ppp_mp.specs.Batch.{packet_seen, sizes_in, span_seen}
use Rattle.ppp_mp.specs.declared.batch.Span.{Span}
use Rattle.ppp_mp.proofs.BatchLemmas.{below-snoc, finished-is, sizes-append}
use Rattle.ppp_mp.proofs.batch.Batch.finish.Goals as goal

pub invariant_of-self : goal.invariant_of-self
invariant_of-self c =
    let b = c.self.inside in
    let end : c.len-end.result ≡ length b.octets.items = c.len-end.ensures ∙ b.octets.ok.0 in
    let span : Span = record { class = c.args.class; start = b.start; end = c.len-end.result } in
    let items : c.push_reserved.new.self.items ≡ b.spans.items ++ span ∷ [] = c.push_reserved.ensures.items in
    let low : b.start ≤ c.len-end.result = omega (arith, c.self.invariant.start, end) in
    let shown : map (span_seen b.octets.items) (b.spans.items ++ span ∷ []) ≡ map (span_seen b.octets.items) b.spans.items ++ packet_seen c.args.class (drop b.start b.octets.items) ∷ [] =
    subst (λ e. map (span_seen b.octets.items) (b.spans.items ++ record { class = c.args.class; start = b.start; end = e } ∷ []) ≡ map (span_seen b.octets.items) b.spans.items ++ packet_seen c.args.class (drop b.start b.octets.items) ∷ []) (sym end) (finished-is b.octets.items b.spans.items c.args.class b.start) in
    let sizes : sizes_in (map (span_seen b.octets.items) c.push_reserved.new.self.items) ≡ sizes_in (map (span_seen b.octets.items) b.spans.items) + (length (drop b.start b.octets.items) + 0) =
    ap (λ ss. sizes_in (map (span_seen b.octets.items) ss)) items ∙ ap sizes_in shown ∙ sizes-append (map (span_seen b.octets.items) b.spans.items) (packet_seen c.args.class (drop b.start b.octets.items) ∷ []) in
    record {
      spans = rw items (below-snoc b.start c.len-end.result b.spans.items span low c.self.invariant.spans (low, omega arith));
      start = omega (arith, end);
      sum = omega (arith, sizes, c.self.invariant.sum, length-drop c.len-end.result b.octets.items, end);
      octets = c.self.invariant.octets;
      reserved = omega (arith, c.push_reserved.ensures.capacity, c.self.invariant.reserved);
    }
