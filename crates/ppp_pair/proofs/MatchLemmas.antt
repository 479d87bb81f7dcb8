-- An Identifier of 8 bits tells the requests apart.
use Rattle.std.proofs.Common.{◌≡◌, ◌≤◌, ◌+◌, ◌%◌, ℕ, sym, arith}
use Rattle.ppp_pair.specs.Match.{IsToWaiting, Matches, Matching}
use Rattle.ppp_pair.specs.Pair.{Pair, Response, Waiting, run, seen, start}
use Rattle.ppp_pair.specs.Response.{ResponseCode, ResponseType}
use Rattle.ppp_pair.proofs.Invariant.{Holds, IsSound}
use Rattle.ppp_pair.proofs.PacketLemmas.{packet_all}
use Rattle.ppp_pair.proofs.Runs.{every_holds}

near : (m n d : ℕ) → m ≤ n → n ≤ d → d ≤ m + 255 → m % 256 ≡ n % 256 → m ≡ n
near m n d low high span same = omega arith

pub matches : (s : Pair) (w : Waiting) (n : ℕ) (t : ResponseType) (code : ResponseCode) → Holds s → Matches s.a w n t code → IsToWaiting w n t
matches s w n t code h m =
    let sound = packet_all (IsSound s.a s.b) (Response n t code) s.a.coming h.of_a.coming m.coming in
    let one : n ≡ w.ordinal = near n w.ordinal s.a.drawn (sound.newest w m.waits) (h.of_a.waits w m.waits) m.span m.same in
    record { ordinal = one; type = sym (sound.type w m.waits (sym one)) }

pub matching : Matching
matching es side w n t code m = matches (seen side (run es start)) w n t code (every_holds es side) m
