-- Calls that use up octets give the answer to them.
use Rattle.std.proofs.Common.{◌≡◌, ◌≢◌, ℕ, zero, suc, ◌<◌, ◌≤◌, Bool, true, false, List, [], ◌∷◌, ◌++◌, length, take, drop, refl, sym, ap, subst, ◌∙◌, arith, append_assoc, append-nil, length-drop, take-append-drop, take_all}
use Rattle.std.specs.Prelude.{if◌then◌else◌}
use Rattle.std.proofs.lemmas.Bool.Decides.{nat_tests}
use Rattle.ppp_frame.specs.declared.escapes.TheConstants.{FLAG}
use Rattle.ppp_frame.specs.declared.fed.Got.{Got}
use Rattle.ppp_frame.specs.declared.fed.Got.TheVariants.{Frame, Discard, More}
use Rattle.ppp_frame.specs.Deframer.{DeframerState, FeedStep, feed_step, Stands, AnswersGot, GoesOn, EndsOne}
use Rattle.ppp_frame.specs.Escapes.{HasNoFlag}
use Rattle.ppp_frame.specs.Stream.{is_flag, pieces, pieces_from, unfinished, unfinished_from}
use Rattle.ppp_frame.specs.Verdict.{answer_of, frame_in}
use Rattle.ppp_frame.proofs.DeframerLemmas.{StepKeeps, step_keeps}
use Rattle.ppp_frame.proofs.StreamLemmas.{pieces-append, unfinished-append}
use Rattle.ppp_link.specs.Answer.{Answered, IsAnswer, StandsAfter, all_calls, and_more, answer, calls, followed, joined, reader_of, takes_piece, takes_pieces}
use Rattle.ppp_link.specs.Automata.{Automata}
use Rattle.ppp_link.specs.Link.{Link, fed_with, read_by}
use Rattle.ppp_link.specs.LinkTables.{LinkTables}
use Rattle.ppp_link.specs.Steps.{Did, begins, hears_read}
use Rattle.ppp_link.specs.declared.link.TheConstants.{MOST_FRAME}

-- ---- octets without a flag

no-flag : (x : ℕ) → x ≢ FLAG → is_flag x ≡ false
no-flag x h = grind (arith, nat_tests)

flagless-from : (run xs : List ℕ) → HasNoFlag xs → (pieces_from run xs ≡ []) × (unfinished_from run xs ≡ run ++ xs)
flagless-from run [] h = (refl, sym (append-nil run))
flagless-from run (x ∷ xs) h =
    let is = no-flag x h.0 in
    let rest = flagless-from (run ++ x ∷ []) xs h.1 in
    (rw is rest.0, rw is (rest.1 ∙ append_assoc run (x ∷ []) xs))

no-pieces : (run : List ℕ) → HasNoFlag run → pieces run ≡ []
no-pieces run h = (flagless-from [] run h).0

unfinished-same : (run : List ℕ) → HasNoFlag run → unfinished run ≡ run
unfinished-same run h = (flagless-from [] run h).1

other : (x : ℕ) → is_flag x ≡ false → x ≢ FLAG
other x is e = grind (arith, nat_tests)

flagless-snoc : (run : List ℕ) (x : ℕ) → HasNoFlag run → x ≢ FLAG → HasNoFlag (run ++ x ∷ [])
flagless-snoc [] x h k = (k, tt)
flagless-snoc (y ∷ ys) x h k = (h.0, flagless-snoc ys x h.1 k)

-- the octets since the last flag have none
run-flagless : (run : List ℕ) (x : ℕ) → HasNoFlag run → (b : Bool) → is_flag x ≡ b → HasNoFlag (if b then [] else run ++ x ∷ [])
run-flagless run x h true is = tt
run-flagless run x h false is = flagless-snoc run x h (other x is)

unfinished-flagless : (run xs : List ℕ) → HasNoFlag run → HasNoFlag (unfinished_from run xs)
unfinished-flagless run [] h = h
unfinished-flagless run (x ∷ xs) h = unfinished-flagless (if is_flag x then [] else run ++ x ∷ []) xs (run-flagless run x h (is_flag x) refl)

since-flagless : (stream : List ℕ) → HasNoFlag (unfinished stream)
since-flagless stream = unfinished-flagless [] stream tt

-- ---- a stream that is cut at a place

-- what is left unfinished before the place, and the octets behind it
abbrev left_at : ℕ → List ℕ → List ℕ → List ℕ
left_at n run octets = unfinished (run ++ take n octets)

parted : (n : ℕ) (run octets : List ℕ) → run ++ octets ≡ (run ++ take n octets) ++ drop n octets
parted n run octets = ap (λ zs. run ++ zs) (sym (take-append-drop n octets)) ∙ sym (append_assoc run (take n octets) (drop n octets))

pieces-parted : (n : ℕ) (run octets : List ℕ) →
    pieces (run ++ octets) ≡ pieces (run ++ take n octets) ++ pieces (left_at n run octets ++ drop n octets)
pieces-parted n run octets =
    let left = left_at n run octets in
    let flagless = since-flagless (run ++ take n octets) in
    let behind : pieces (left ++ drop n octets) ≡ pieces_from left (drop n octets) =
    pieces-append [] left (drop n octets) ∙ rw (no-pieces left flagless, unfinished-same left flagless) refl in
    ap pieces (parted n run octets) ∙ (pieces-append [] (run ++ take n octets) (drop n octets) ∙ ap (λ ps. pieces (run ++ take n octets) ++ ps) (sym behind))

unfinished-parted : (n : ℕ) (run octets : List ℕ) → unfinished (run ++ octets) ≡ unfinished (left_at n run octets ++ drop n octets)
unfinished-parted n run octets =
    let left = left_at n run octets in
    let behind : unfinished (left ++ drop n octets) ≡ unfinished_from left (drop n octets) =
    unfinished-append [] left (drop n octets) ∙ rw (unfinished-same left (since-flagless (run ++ take n octets))) refl in
    ap unfinished (parted n run octets) ∙ (unfinished-append [] (run ++ take n octets) (drop n octets) ∙ sym behind)

-- ---- one call

module _ (k : Link) (run octets : List ℕ) (word : ℕ) (s : StandsAfter run k) where
  abbrev reads : DeframerState
  reads = read_by k.automata.lcp k.deframer

  abbrev fed : FeedStep
  fed = feed_step reads octets

  abbrev did : Did
  did = hears_read k.tables fed.left.frame word (begins k.automata)

  abbrev next : Link
  next = record { tables = k.tables; automata = did.automata; deframer = fed.left }

  pub fed-is : fed_with k octets word ≡ record { link = next; out = did.out; used = fed.fed.used }
  unfolding fed_with
  fed-is = refl

  stands-read : Stands reads run
  stands-read = rw (s.limit, unfinished-same run s.flagless) s.stands

  keeps : StepKeeps reads octets fed
  keeps = step_keeps reads octets

  reader-is : reads.reader ≡ reader_of k.automata.lcp
  reader-is = rw s.limit refl

  next-limit : fed.left.reader.limit ≡ MOST_FRAME
  next-limit = ap (λ r. r.limit) keeps.4 ∙ s.limit

  pub next-stands : StandsAfter (left_at fed.fed.used run octets) next
  next-stands = record {
    flagless = since-flagless (run ++ take fed.fed.used octets);
    limit = next-limit;
    stands = rw next-limit at (keeps.0 run stands-read);
  }

  ended-none : GoesOn run octets fed.fed.used fed.left → (ps : List (List ℕ)) →
      takes_pieces k.tables (pieces (run ++ take fed.fed.used octets) ++ ps) word k.automata ≡ followed did (takes_pieces k.tables ps word did.automata)
  ended-none g ps =
      let none : pieces (run ++ take fed.fed.used octets) ≡ [] = rw (g.all, take_all (length octets) octets (omega arith)) (g.none ∙ no-pieces run s.flagless) in
      rw (none, g.frame) refl

  ended-one : EndsOne reads run octets fed.fed fed.left → (ps : List (List ℕ)) →
      takes_pieces k.tables (pieces (run ++ take fed.fed.used octets) ++ ps) word k.automata ≡ followed did (takes_pieces k.tables ps word did.automata)
  ended-one e ps =
      let one : pieces (run ++ take fed.fed.used octets) ≡ e.ended ∷ [] = e.one ∙ rw (no-pieces run s.flagless) refl in
      let frame : fed.left.frame ≡ frame_in (answer_of (reader_of k.automata.lcp) e.ended) = e.frame ∙ ap (λ r. frame_in (answer_of r e.ended)) reader-is in
      rw (one, frame) refl

  ended-by : (got : Got) → AnswersGot got reads run octets fed.fed fed.left → (ps : List (List ℕ)) →
      takes_pieces k.tables (pieces (run ++ take fed.fed.used octets) ++ ps) word k.automata ≡ followed did (takes_pieces k.tables ps word did.automata)
  ended-by More g ps = ended-none g ps
  ended-by Frame e ps = ended-one e ps
  ended-by (Discard why) e ps = ended-one e ps

  answer-parted : answer k.tables run octets word k.automata
      ≡ followed did (answer k.tables (left_at fed.fed.used run octets) (drop fed.fed.used octets) word did.automata)
  answer-parted =
      ap (λ ps. takes_pieces k.tables ps word k.automata) (pieces-parted fed.fed.used run octets)
      ∙ ended-by fed.fed.got (keeps.1 run stands-read) (pieces (left_at fed.fed.used run octets ++ drop fed.fed.used octets))

  -- what the octets that are left come to goes behind what this call did
  pub answer-on : (rest : Answered) → IsAnswer next (left_at fed.fed.used run octets) (drop fed.fed.used octets) word rest →
      IsAnswer k run octets word (and_more did.out rest)
  answer-on rest h = record {
    automata = h.automata ∙ ap (λ (d : Did). d.automata) (sym answer-parted);
    out = ap (λ es. did.out ++ es) h.out ∙ ap (λ (d : Did). d.out) (sym answer-parted);
    tables = h.tables;
    stands = subst (λ left. StandsAfter left rest.link) (sym (unfinished-parted fed.fed.used run octets)) h.stands;
  }

  pub progress : 0 < length octets → length (drop fed.fed.used octets) < length octets
  progress some = let used = keeps.3 some in omega (arith, length-drop fed.fed.used octets)

-- ---- calls, one after another

nothing-left : (k : Link) (run : List ℕ) (word : ℕ) → StandsAfter run k → IsAnswer k run [] word (record { link = k; out = [] })
nothing-left k run word s =
    let same : unfinished (run ++ []) ≡ run = ap unfinished (append-nil run) ∙ unfinished-same run s.flagless in
    let none : pieces (run ++ []) ≡ [] = ap pieces (append-nil run) ∙ no-pieces run s.flagless in
    record {
      automata = rw none refl;
      out = rw none refl;
      tables = refl;
      stands = subst (λ left. StandsAfter left k) (sym same) s;
    }

calls-answer : (most : ℕ) (k : Link) (run octets : List ℕ) (word : ℕ) → StandsAfter run k → length octets ≤ most → IsAnswer k run octets word (calls most k octets word)
unfolding calls
calls-answer zero k run [] word s h = nothing-left k run word s
calls-answer (suc most) k run [] word s h = nothing-left k run word s
calls-answer zero k run (x ∷ xs) word s h = absurd (omega arith)
calls-answer (suc most) k run (x ∷ xs) word s h =
    let less = progress k run (x ∷ xs) word s (omega arith) in
    rw (fed-is k run (x ∷ xs) word s)
    (answer-on k run (x ∷ xs) word s _ (calls-answer most _ _ _ word (next-stands k run (x ∷ xs) word s) (omega (arith, less, h))))

pub answered-whole : (k : Link) (run octets : List ℕ) (word : ℕ) → StandsAfter run k → IsAnswer k run octets word (calls (length octets) k octets word)
answered-whole k run octets word s = calls-answer (length octets) k run octets word s (omega arith)

-- ---- pieces of a stream, one after another

takes-append : (t : LinkTables) (ps qs : List (List ℕ)) (word : ℕ) (k : Automata) →
    takes_pieces t (ps ++ qs) word k ≡ followed (takes_pieces t ps word k) (takes_pieces t qs word (takes_pieces t ps word k).automata)
takes-append t [] qs word k = refl
takes-append t (p ∷ ps) qs word k =
    let did = takes_piece t p word k in
    let some = takes_pieces t ps word did.automata in
    let more = takes_pieces t qs word some.automata in
    ap (λ d. followed did d) (takes-append t ps qs word did.automata)
    ∙ ap (λ out. record { automata = more.automata; out = out }) (sym (append_assoc did.out some.out more.out))

pieces-joined : (run octets behind : List ℕ) → pieces (run ++ (octets ++ behind)) ≡ pieces (run ++ octets) ++ pieces (unfinished (run ++ octets) ++ behind)
pieces-joined run octets behind =
    let left = unfinished (run ++ octets) in
    let flagless = since-flagless (run ++ octets) in
    let later : pieces (left ++ behind) ≡ pieces_from left behind =
    pieces-append [] left behind ∙ rw (no-pieces left flagless, unfinished-same left flagless) refl in
    ap pieces (sym (append_assoc run octets behind)) ∙ (pieces-append [] (run ++ octets) behind ∙ ap (λ ps. pieces (run ++ octets) ++ ps) (sym later))

unfinished-joined : (run octets behind : List ℕ) → unfinished (run ++ (octets ++ behind)) ≡ unfinished (unfinished (run ++ octets) ++ behind)
unfinished-joined run octets behind =
    let left = unfinished (run ++ octets) in
    let later : unfinished (left ++ behind) ≡ unfinished_from left behind =
    unfinished-append [] left behind ∙ rw (unfinished-same left (since-flagless (run ++ octets))) refl in
    ap unfinished (sym (append_assoc run octets behind)) ∙ (unfinished-append [] (run ++ octets) behind ∙ sym later)

answers-joined : (k : Link) (run octets behind : List ℕ) (word : ℕ) (first more : Answered) → IsAnswer k run octets word first →
    IsAnswer first.link (unfinished (run ++ octets)) behind word more → IsAnswer k run (octets ++ behind) word (and_more first.out more)
answers-joined k run octets behind word first more one two =
    let left = unfinished (run ++ octets) in
    let done = answer k.tables run octets word k.automata in
    let whole : answer k.tables run (octets ++ behind) word k.automata ≡ followed done (answer k.tables left behind word done.automata) =
    ap (λ ps. takes_pieces k.tables ps word k.automata) (pieces-joined run octets behind)
    ∙ takes-append k.tables (pieces (run ++ octets)) (pieces (left ++ behind)) word k.automata in
    let later : answer first.link.tables left behind word first.link.automata ≡ answer k.tables left behind word done.automata = rw (one.tables, one.automata) refl in
    record {
      automata = two.automata ∙ (ap (λ (d : Did). d.automata) later ∙ ap (λ (d : Did). d.automata) (sym whole));
      out = ap (λ es. es ++ more.out) one.out ∙ (ap (λ es. done.out ++ es) (two.out ∙ ap (λ (d : Did). d.out) later) ∙ ap (λ (d : Did). d.out) (sym whole));
      tables = two.tables ∙ one.tables;
      stands = subst (λ xs. StandsAfter xs more.link) (sym (unfinished-joined run octets behind)) two.stands;
    }

pub answered-cut : (k : Link) (run : List ℕ) (cut : List (List ℕ)) (word : ℕ) → StandsAfter run k → IsAnswer k run (joined cut) word (all_calls k cut word)
unfolding all_calls
answered-cut k run [] word s = nothing-left k run word s
answered-cut k run (octets ∷ rest) word s =
    let one = answered-whole k run octets word s in
    let first = calls (length octets) k octets word in
    answers-joined k run octets (joined rest) word first (all_calls first.link rest word) one
    (answered-cut first.link (unfinished (run ++ octets)) rest word one.stands)
