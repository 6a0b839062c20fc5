-- What a writer of messages delivered, a reader gives back.
use Rattle.std.proofs.Common.{◌≡◌, ◌∙◌, ℕ, zero, suc, ◌+◌, ◌<◌, List, [], ◌∷◌, ◌++◌, Bool, true, false, length}
use Rattle.std.proofs.Common.{take, drop, sym, ap, subst, refl, arith, cond, append_assoc, append-nil}
use Rattle.std.specs.Prelude.{Option, None, Some, nat_lt}
use Rattle.std.proofs.Math.Seq.{drop-append_seam}
use Rattle.std.proofs.lemmas.Bool.{cond-true}
use Rattle.std.proofs.lemmas.Bool.Decides.{nat_tests}
use Rattle.std.proofs.lemmas.List.{length-drop, length-take, take-append-drop}
use Rattle.frame_io.specs.declared.fault.BadFrame.{BadFrame}
use Rattle.frame_io.specs.declared.fault.BadFrame.TheVariants.{Number, Large, Flag, Channels, Long, Cut}
use Rattle.frame_io.specs.declared.fault.Ending.TheVariants.{End, Fault}
use Rattle.frame_io.specs.declared.fault.FrameFault.TheVariants.{Number as AtNumber, Large as AtLarge, Flag as AtFlag}
use Rattle.frame_io.specs.declared.fault.FrameFault.TheVariants.{Channels as AtChannels, Long as AtLong, Cut as AtCut, Io, OutOfMemory}
use Rattle.frame_io.specs.declared.header.Begun.{Begun}
use Rattle.frame_io.specs.declared.header.Head.{Head}
use Rattle.frame_io.specs.declared.header.Header.{Header}
use Rattle.frame_io.specs.declared.header.Header.TheVariants.{Whole, Cut as HeaderCut, Bad}
use Rattle.frame_io.specs.declared.limits.Limits.{Limits}
use Rattle.frame_io.specs.declared.message.Message.{Message}
use Rattle.frame_io.specs.declared.message.MessagePoll.TheVariants.{Message as Given, End as AtEnd, Pending, Again, Fault as AtFault}
use Rattle.frame_io.specs.Frames.{Outcome, stops, gives, behind, bytes_of, without, refusal, ended, inside, begun, taken, read_from}
use Rattle.frame_io.specs.Frames.{read_frames}
use Rattle.frame_io.specs.Piece.{header_at, IsHeader, pieces_of}
use Rattle.frame_io.specs.Received.{Begins, FirstIsRead, SendKeeps, WriteKeeps, SentIsReceived, AllIsReceived, Reads, RunReceives}
use Rattle.frame_io.specs.Written.{pieces_of_all, sent_with}
use Rattle.frame_io.proofs.Headers.{header_within}
use Rattle.frame_io.proofs.Reading.{read_bad, read_whole, read_end, inside_more, inside_whole}
use Rattle.frame_io.proofs.Writing.{written_is_read}

-- No messages begin any.
none_begins : (first messages : List Message) → first ≡ [] → Begins first messages
none_begins first messages none = record { rest = messages; joined = ap (λ l. l ++ messages) (sym none) }

-- What is read of the first bytes begins what is read of all, of fewer than so many first bytes.
abbrev Goes : Limits → ℕ → Type 0
Goes limits most = (channels : List Message) (offset : ℕ) (front back : List ℕ) → length front < most
    → Begins (read_from limits channels offset front).messages (read_from limits channels offset (front ++ back)).messages

-- Behind a whole piece.
ended_begins : (b : Bool) (message : Message) (x y u v : Outcome) → Begins x.messages y.messages → Begins u.messages v.messages
    → Begins (cond b (gives message x) u).messages (cond b (gives message y) v).messages
ended_begins true message x y u v first second = record { rest = first.rest; joined = ap (λ l. message ∷ l) first.joined }
ended_begins false message x y u v first second = second

-- A list cut at a number that it has is that many and the others, with more behind.
cut_more : (n : ℕ) (front back : List ℕ) → front ++ back ≡ take n front ++ (drop n front ++ back)
cut_more n front back = ap (λ l. l ++ back) (sym (take-append-drop n front)) ∙ append_assoc (take n front) (drop n front) back

-- Inside a piece, of which all bytes are among the first ones, or not.
inside_begins : (t : Bool) (limits : Limits) (channels : List Message) (offset : ℕ) (p : Begun) (bytes front back : List ℕ) (most : ℕ)
    → nat_lt (length front) p.lacks ≡ t → length front < most → Goes limits most
    → Begins (inside (λ o n b. read_from limits o n b) channels offset p bytes front).messages
    (inside (λ o n b. read_from limits o n b) channels offset p bytes (front ++ back)).messages
inside_begins true limits channels offset p bytes front back most e less goes =
    none_begins _ _ (ap (λ o. o.messages) (cond-true (nat_lt (length front) p.lacks) (stops (Fault Cut) offset)
    (ended (λ o r. read_from limits o (offset + p.size) r) channels p (bytes ++ take p.lacks front) (drop p.lacks front)) e))
inside_begins false limits channels offset p bytes front back most e less goes =
    let next : List Message → ℕ → List ℕ → Outcome = λ o n b. read_from limits o n b in
    let n = p.lacks in
    let xs : List ℕ = take n front in
    let ys : List ℕ = drop n front in
    let size : n ≡ length xs + 0 = grind (arith, nat_tests, length-take n front) in
    let q : Begun = record { channel = p.channel; last = p.last; lacks = 0; size = p.size } in
    let message : Message = record { channel = p.channel; bytes = bytes ++ xs } in
    let step : (more : List ℕ) → inside next channels offset p bytes (xs ++ more)
    ≡ ended (λ o s. next o (offset + p.size) s) channels q (bytes ++ xs) more =
    λ more. inside_more next channels offset p.channel p.last n p.size 0 bytes xs more size
    ∙ inside_whole next channels offset q (bytes ++ xs) more refl in
    let shorter : length ys < most = omega (arith, length-drop n front) in
    subst (λ o. Begins o.messages (inside next channels offset p bytes (front ++ back)).messages)
    (sym (ap (λ l. inside next channels offset p bytes l) (sym (take-append-drop n front)) ∙ step ys))
    (subst (λ o. Begins (ended (λ o s. next o (offset + p.size) s) channels q (bytes ++ xs) ys).messages o.messages)
    (sym (ap (λ l. inside next channels offset p bytes l) (cut_more n front back) ∙ step (ys ++ back)))
    (ended_begins p.last message (next channels (offset + p.size) ys) (next channels (offset + p.size) (ys ++ back))
    (next (channels ++ message ∷ []) (offset + p.size) ys) (next (channels ++ message ∷ []) (offset + p.size) (ys ++ back))
    (goes channels (offset + p.size) ys back shorter) (goes (channels ++ message ∷ []) (offset + p.size) ys back shorter)))

-- Behind a header, whether its piece is refused or not.
taken_begins : (limits : Limits) (channels : List Message) (offset : ℕ) (head : Head) (count : ℕ) (front back : List ℕ)
    (why : Option BadFrame) (most : ℕ) → length front < most → Goes limits most
    → Begins (taken (λ o n b. read_from limits o n b) channels offset head count front why).messages
    (taken (λ o n b. read_from limits o n b) channels offset head count (front ++ back) why).messages
taken_begins limits channels offset head count front back (Some fault) most less goes = none_begins _ _ refl
taken_begins limits channels offset head count front back None most less goes =
    inside_begins (nat_lt (length front) head.size) limits (without head.channel channels) offset (begun head count)
    (bytes_of head.channel channels) front back most refl less goes

-- From a header on.
header_begins : (h : Header) (limits : Limits) (channels : List Message) (offset : ℕ) (front back : List ℕ) → header_at front ≡ h
    → Goes limits (length front)
    → Begins (read_from limits channels offset front).messages (read_from limits channels offset (front ++ back)).messages
header_begins HeaderCut limits channels offset front back is goes =
    none_begins _ _ (ap (λ o. o.messages) (read_end limits channels offset front is))
header_begins (Bad fault) limits channels offset front back is goes =
    none_begins _ _ (ap (λ o. o.messages) (ap (λ l. read_from limits channels offset l) (sym (append-nil front))
    ∙ read_bad limits channels offset front [] fault is))
header_begins (Whole head count) limits channels offset front back is goes =
    let next : List Message → ℕ → List ℕ → Outcome = λ o n b. read_from limits o n b in
    let rest : List ℕ = drop count front in
    let why = refusal limits channels head in
    let here : IsHeader (length front) (Whole head count) = subst (IsHeader (length front)) is (header_within front) in
    let first : read_from limits channels offset front ≡ taken next channels offset head count rest why =
    ap (λ l. read_from limits channels offset l) (sym (append-nil front))
    ∙ read_whole limits channels offset front [] head count is
    ∙ ap (λ l. taken next channels offset head count l why) (append-nil rest) in
    subst (λ o. Begins o.messages (read_from limits channels offset (front ++ back)).messages) (sym first)
    (subst (λ o. Begins (taken next channels offset head count rest why).messages o.messages)
    (sym (read_whole limits channels offset front back head count is))
    (taken_begins limits channels offset head count rest back why (length front)
    (omega (arith, length-drop count front, here.0, here.1)) goes))

-- The first bytes are read as the first messages, from any state.
all_go : (most : ℕ) (limits : Limits) → Goes limits most
all_go zero limits channels offset front back less = absurd (omega arith)
all_go (suc most) limits channels offset front back less =
    header_begins (header_at front) limits channels offset front back refl
    (λ o n f b shorter. all_go most limits o n f b (omega arith))

-- The first bytes are read as the first messages.
pub first_is_read : FirstIsRead
first_is_read limits front back = all_go (suc (length front)) limits [] 0 front back (omega arith)

-- A send keeps what was delivered, is buffered and isn't sent.
pub send_keeps : SendKeeps
send_keeps message unsent delivered held =
    ap (λ l. delivered ++ l) (append_assoc held (pieces_of message.channel message.bytes) (pieces_of_all unsent))

-- A write keeps it too.
pub write_keeps : WriteKeeps
write_keeps unsent delivered held sent later is =
    append_assoc delivered sent (later ++ pieces_of_all unsent)
    ∙ ap (λ l. delivered ++ l) (sym (append_assoc sent later (pieces_of_all unsent)) ∙ ap (λ l. l ++ pieces_of_all unsent) (sym is))

-- Lists that begin alike go on alike.
same_behind : (before first second : List ℕ) → before ++ first ≡ before ++ second → first ≡ second
same_behind before first second is =
    sym (drop-append_seam before first) ∙ ap (drop (length before)) is ∙ drop-append_seam before second

-- What was delivered since, what is buffered and what isn't sent are the pieces of the messages.
since_is : (messages unsent : List Message) (before delivered held since : List ℕ)
    → sent_with delivered held unsent ≡ sent_with before [] messages → delivered ≡ before ++ since
    → since ++ (held ++ pieces_of_all unsent) ≡ pieces_of_all messages
since_is messages unsent before delivered held since is so =
    same_behind before (since ++ (held ++ pieces_of_all unsent)) (pieces_of_all messages)
    (sym (append_assoc before since (held ++ pieces_of_all unsent)) ∙ ap (λ d. d ++ (held ++ pieces_of_all unsent)) (sym so) ∙ is)

-- What was delivered since is read as the first of the messages.
pub sent_is_received : SentIsReceived
sent_is_received limits messages unsent before delivered held since some within is so =
    let back : List ℕ = held ++ pieces_of_all unsent in
    subst (Begins (read_frames limits since).messages)
    (ap (λ l. (read_frames limits l).messages) (since_is messages unsent before delivered held since is so)
    ∙ ap (λ o. o.messages) (written_is_read limits messages some within))
    (first_is_read limits since back)

-- With nothing left to be sent it is read as all of them.
pub all_is_received : AllIsReceived
all_is_received limits messages before delivered since some within is so =
    let all : since ≡ pieces_of_all messages =
    sym (append-nil since) ∙ since_is messages [] before delivered [] since is so in
    ap (read_frames limits) all ∙ written_is_read limits messages some within
    ∙ ap (λ n. record { messages = messages; ending = End; offset = n }) (ap length (sym all))

-- A message isn't still to be read once it was.
no_more : (rest : Outcome) (message : Message) → rest ≡ gives message rest → ⊥
no_more rest message is = omega (arith, ap (λ o. length o.messages) is)

-- No fault of a piece is to come where an end is.
end_is : (bad : BadFrame) → End ≡ Fault bad → ⊥
end_is bad is = cc

-- So a run that was to read messages, and then an end, leaves no fault of a piece.
no_bad : (messages before now : List Message) (was rest : Outcome) (bad : BadFrame) → Reads messages was
    → behind now rest ≡ behind before was → rest.ending ≡ Fault bad → ⊥
no_bad messages before now was rest bad reads run fault = end_is bad (sym (ap (λ o. o.ending) run ∙ reads.1) ∙ fault)

-- What a run adds, by its answer.
pub run_receives : RunReceives
run_receives messages before now was rest (Given message) reads run polled = no_more rest message polled
run_receives messages before now was rest AtEnd reads run polled =
    sym (append-nil now) ∙ ap (λ l. now ++ l) (sym polled.nothing) ∙ ap (λ o. o.messages) run ∙ ap (λ l. before ++ l) reads.0
run_receives messages before now was rest Pending reads run polled = tt
run_receives messages before now was rest Again reads run polled = tt
run_receives messages before now was rest (AtFault AtNumber) reads run polled =
    no_bad messages before now was rest Number reads run polled.ends
run_receives messages before now was rest (AtFault AtLarge) reads run polled =
    no_bad messages before now was rest Large reads run polled.ends
run_receives messages before now was rest (AtFault AtFlag) reads run polled =
    no_bad messages before now was rest Flag reads run polled.ends
run_receives messages before now was rest (AtFault AtChannels) reads run polled =
    no_bad messages before now was rest Channels reads run polled.ends
run_receives messages before now was rest (AtFault AtLong) reads run polled =
    no_bad messages before now was rest Long reads run polled.ends
run_receives messages before now was rest (AtFault AtCut) reads run polled =
    no_bad messages before now was rest Cut reads run polled.ends
run_receives messages before now was rest (AtFault (Io fault)) reads run polled = tt
run_receives messages before now was rest (AtFault OutOfMemory) reads run polled = tt
