-- What is put behind a list of packets leaves those before as they are.
use Rattle.std.proofs.Common.{◌≡◌, ℕ, ◌+◌, ◌-◌, ◌≤◌, List, [], ◌∷◌, ◌++◌, length, take, drop, map, refl, ap, ◌∙◌, arith, length-drop}
use Rattle.std.specs.List.{AllByRecursion}
use Rattle.std.proofs.lemmas.List.{take-append-le, drop-append-le, map-append, take_rest}
use Rattle.ppp_mp.specs.Batch.{LiesBelow, Packet, packet_seen, sizes_in, span_seen}
use Rattle.ppp_mp.specs.declared.batch.Span.{Span}

part-append : (octets more : List ℕ) (start end : ℕ) → start ≤ end → end ≤ length octets → take (end - start) (drop start (octets ++ more)) ≡ take (end - start) (drop start octets)
part-append octets more start end o w =
    let e : drop start (octets ++ more) ≡ drop start octets ++ more = drop-append-le start octets more (omega arith) in
    let l : end - start ≤ length (drop start octets) = omega (arith, length-drop start octets) in
    ap (take (end - start)) e ∙ take-append-le (end - start) (drop start octets) more l

-- octets behind change no packet
pub spans-append : (octets more : List ℕ) (start : ℕ) (spans : List Span) → start ≤ length octets → AllByRecursion (LiesBelow start) spans → map (span_seen (octets ++ more)) spans ≡ map (span_seen octets) spans
spans-append octets more start [] low h = refl
spans-append octets more start (s ∷ ss) low h =
    let one = ap (packet_seen s.class) (part-append octets more s.start s.end h.0.0 (omega (arith, h.0.1))) in
    let rest = spans-append octets more start ss low h.1 in
    cc

pub sizes-append : (ps qs : List Packet) → sizes_in (ps ++ qs) ≡ sizes_in ps + sizes_in qs
sizes-append [] qs = omega arith
sizes-append (p ∷ ps) qs = let rest = sizes-append ps qs in omega arith

below-more : (start end : ℕ) (spans : List Span) → start ≤ end → AllByRecursion (LiesBelow start) spans → AllByRecursion (LiesBelow end) spans
below-more start end [] up h = tt
below-more start end (s ∷ ss) up h = ((h.0.0, omega (arith, h.0.1)), below-more start end ss up h.1)

pub below-snoc : (start end : ℕ) (spans : List Span) (s : Span) → start ≤ end → AllByRecursion (LiesBelow start) spans → LiesBelow end s → AllByRecursion (LiesBelow end) (spans ++ s ∷ [])
below-snoc start end [] s up h k = (k, tt)
below-snoc start end (x ∷ xs) s up h k = ((h.0.0, omega (arith, h.0.1)), below-snoc start end xs s up h.1 k)

-- the packet that is finished has the octets from its start on
pub finished-is : (octets : List ℕ) (spans : List Span) (class start : ℕ) → map (span_seen octets) (spans ++ record { class = class; start = start; end = length octets } ∷ []) ≡ map (span_seen octets) spans ++ packet_seen class (drop start octets) ∷ []
finished-is octets spans class start =
    map-append (span_seen octets) spans _
    ∙ ap (λ x. map (span_seen octets) spans ++ packet_seen class x ∷ []) (take_rest octets start)
