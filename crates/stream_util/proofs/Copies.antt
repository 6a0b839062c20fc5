-- What polls of a copy move.
use Rattle.std.proofs.Common.{◌≡◌, ◌∙◌, ℕ, ◌+◌, ◌-◌, ◌^◌, ◌<◌, ◌≤◌, ◌≢◌, ◌⊎◌, inl, inr, refl, List, [], ◌++◌, Bool, length, take, drop}
use Rattle.std.proofs.Common.{sym, ap, subst, arith}
use Rattle.std.proofs.Common.{append_assoc, append-nil, length-append}
use Rattle.std.specs.Prelude.{IsTrue, None, Result, Ok, Err}
use Rattle.std.specs.List.{slice_range}
use Rattle.std.proofs.lemmas.List.{length-take, length-drop, take-append-drop, drop-drop}
use Rattle.rent_buf.specs.declared.fault.IoFault.{IoFault}
use Rattle.rent_buf.specs.Rent.{Rented, buffer_of_rent}
use Rattle.rent_buf.specs.Slice.{Cut}
use Rattle.rent_io.specs.declared.poll.Step.TheVariants.{Ready, Pending}
use Rattle.rent_io.specs.Reader.{Reader, Taken}
use Rattle.rent_io.specs.Writer.{Writer}
use Rattle.rent_io.specs.Counts.{Counts, Rose}
use Rattle.rent_io.specs.Runs.{AfterCalls}
use Rattle.rent_io.proofs.Runs.{fails_later, one_more, rose_later}
use Rattle.rent_io.proofs.Sends.{SliceSent, range-to_end}
use Rattle.stream_util.specs.Copy.{Breaks, Copying, Ends, OneCall, RunCalls, Copies, UsesAll, Waits, Moves, MovesSome, IsCopyEnd}
use Rattle.stream_util.specs.Copy.{IsSameJoined, count_more}
use Rattle.stream_util.specs.Copy.{HasCopied, IsRunEnd, Runs, CopiesAll, HasAll}
use Rattle.stream_util.specs.declared.copy.Copied.{Copied}

-- What a range to the end shows, cut at a place: the first bytes, and those behind them.
pub range_cut : (xs : List ℕ) (from total n : ℕ) → total ≡ length xs
    → take n (slice_range xs from total) ++ drop (from + n) xs ≡ drop from xs
range_cut xs from total n is =
    ap (λ l. take n l ++ drop (from + n) xs) (range-to_end xs from total is)
    ∙ ap (λ l. take n (drop from xs) ++ l) (sym (drop-drop n from xs)) ∙ take-append-drop n (drop from xs)

-- A read of some bytes, where nothing was held: the copy holds them.
pub fetched : (reads writes : Bool) (before now : Reader) (writer : Writer) (copy : Copying) (buf back : Rented) (n : ℕ) → copy.held ≡ []
    → copy.count < 2 ^ 64 → n ≢ 0 → Taken reads before.left now.left (buffer_of_rent buf) (buffer_of_rent back) n
    → MovesSome reads writes (record { reader = before; writer = writer }) (record { reader = now; writer = writer }) copy
    (record { held = back.bytes; count = copy.count })
fetched reads writes before now writer copy buf back n none bounded some taken = record {
  moves = record {
    got = taken.got;
    sent = [];
    front = taken.front;
    delivered = λ _. sym (append-nil writer.delivered);
    kept = ap (λ l. l ++ taken.got) none ∙ sym (ap (λ b. b.bytes) taken.is_stored);
    counted = omega arith;
  };
  some = omega (arith, taken.count, some);
}

-- A write of some of the bytes that were held: those behind them are held now.
pub delivered : (reads writes : Bool) (reader : Reader) (before now : Writer) (copy : Copying) (buf back : Rented) (sent n count total : ℕ)
    (slice part : Cut Rented) → record { held = drop sent buf.bytes; count = count } ≡ copy
    → slice ≡ record { inner = buf; begin = sent; end = total }
    → SliceSent (λ r. r.bytes) writes before.delivered now.delivered slice part n → back ≡ part.inner → total ≡ length buf.bytes → n ≢ 0
    → MovesSome reads writes (record { reader = reader; writer = before }) (record { reader = reader; writer = now }) copy
    (record { held = drop (sent + n) back.bytes; count = count_more count n })
delivered reads writes reader before now copy buf back sent n count total slice part is cut sent_of inner end some =
    let moved = subst (λ sl. SliceSent (λ r. r.bytes) writes before.delivered now.delivered sl part n) cut sent_of in
    let range = slice_range buf.bytes sent total in
    let size : length (take n range) ≡ n = omega (arith, length-take n range, moved.within) in
    let same : back.bytes ≡ buf.bytes = ap (λ r. r.bytes) (inner ∙ ap (λ p. p.inner) moved.same) in
    record {
      moves = record {
        got = [];
        sent = take n range;
        front = λ _. cc;
        delivered = moved.joined;
        kept = append-nil copy.held ∙ ap (λ c. c.held) (sym is) ∙ sym (range_cut buf.bytes sent total n end)
            ∙ ap (λ l. take n range ++ drop (sent + n) l) (sym same);
        counted = ap (λ k. count_more count k) (sym size) ∙ ap (λ c. count_more c.count (length (take n range))) is;
      };
      some = omega (arith, size, some);
    }

-- What moves leaves the joined list as it was.
pub same_joined : (reads writes : Bool) (before now : Ends) (copy next : Copying) → Moves reads writes before now copy next
    → IsSameJoined reads writes before now copy.held next.held
same_joined reads writes before now copy next m r w =
    let d = before.writer.delivered in
    let left = now.reader.left in
    ap (λ l. l ++ next.held ++ left) (m.delivered w)
    ∙ ap (λ l. l ++ left) (append_assoc d m.sent next.held ∙ ap (λ l. d ++ l) (sym m.kept) ∙ sym (append_assoc d copy.held m.got))
    ∙ append_assoc (d ++ copy.held) m.got left ∙ ap (λ l. d ++ copy.held ++ l) (sym (m.front r))

-- Nothing moved.
pub moves_none : (reads writes : Bool) (before now : Ends) (copy next : Copying) → copy.count < 2 ^ 64 → next ≡ copy
    → (IsTrue reads → now.reader.left ≡ before.reader.left) → (IsTrue writes → now.writer.delivered ≡ before.writer.delivered)
    → Moves reads writes before now copy next
moves_none reads writes before now copy next bounded same left delivered = record {
  got = [];
  sent = [];
  front = λ r. sym (left r);
  delivered = λ w. delivered w ∙ sym (append-nil before.writer.delivered);
  kept = append-nil copy.held ∙ ap (λ c. c.held) (sym same);
  counted = omega (arith, ap (λ c. c.count) same, bounded);
}

-- A poll that goes on leaves the joined list too.
pub again_joined : (reads writes : Bool) (before now : Ends) (copy next : Copying) → copy.count < 2 ^ 64
    → Breaks reads writes before now copy next ⊎ MovesSome reads writes before now copy next
    → IsSameJoined reads writes before now copy.held next.held
again_joined reads writes before now copy next bounded (inl (same, nothing, broken)) =
    same_joined reads writes before now copy next (moves_none reads writes before now copy next bounded same nothing.0 nothing.1)
again_joined reads writes before now copy next bounded (inr some) = same_joined reads writes before now copy next some.moves

-- What moved in some polls and then in others moved in all of them.
abbrev pub moves_then : (reads writes : Bool) (before mid now : Ends) (copy next later : Copying) → Moves reads writes before mid copy next
    → Moves reads writes mid now next later → Moves reads writes before now copy later
moves_then reads writes before mid now copy next later m n = record {
  got = m.got ++ n.got;
  sent = m.sent ++ n.sent;
  front = λ r. m.front r ∙ ap (λ l. m.got ++ l) (n.front r) ∙ sym (append_assoc m.got n.got now.reader.left);
  delivered = λ w. n.delivered w ∙ ap (λ l. l ++ n.sent) (m.delivered w) ∙ append_assoc before.writer.delivered m.sent n.sent;
  kept = sym (append_assoc copy.held m.got n.got) ∙ ap (λ l. l ++ n.got) m.kept ∙ append_assoc m.sent next.held n.got
      ∙ ap (λ l. m.sent ++ l) n.kept ∙ sym (append_assoc m.sent n.sent later.held);
  counted = omega (arith, m.counted, n.counted, length-append m.sent n.sent);
}

-- Some polls of a copy, all of which are used: what they moved, and what they make of the counts.
pub record Ran (turns : ℕ) (reads writes : Bool) (before now : Ends) (copy next : Copying) : Type 0 where
  pub uses : UsesAll turns reads writes before now copy next
  pub calls : RunCalls turns before now

-- One poll more.
pub calls_more : (turns most : ℕ) (before mid now : Ends) → turns + 1 ≤ most → RunCalls turns before mid → OneCall mid now
    → RunCalls most before now
calls_more turns most before mid now less calls call = record {
  reader = one_more None turns most before.reader.counts mid.reader.counts now.reader.counts less calls.reader call.reader;
  writer = one_more None turns most before.writer.counts mid.writer.counts now.writer.counts less calls.writer call.writer;
  most = omega (arith, less, calls.most, call.one);
}

-- No call.
calls_none : (counts : Counts) → AfterCalls None 0 counts counts
calls_none counts = record {
  faults_stay = omega arith;
  pauses_stay = omega arith;
  interrupts_stay = omega arith;
  zeros_stay = omega arith;
  most_calls = omega arith;
  under = inl refl;
}

-- No polls.
pub ran_none : (reads writes : Bool) (ends : Ends) (copy : Copying) → copy.count < 2 ^ 64 → Ran 0 reads writes ends ends copy copy
ran_none reads writes ends copy bounded = record {
  uses = record {
    moves = moves_none reads writes ends ends copy copy bounded refl (λ _. refl) (λ _. refl);
    reader = 0;
    writer = 0;
    each = omega arith;
    reads_break = omega arith;
    writes_break = omega arith;
  };
  calls = record { reader = calls_none ends.reader.counts; writer = calls_none ends.writer.counts; most = omega arith };
}

-- A copy as it was, but that what it holds is called by another name.
renamed : (copy : Copying) (rest : List ℕ) → rest ≡ copy.held → (record { held = rest; count = copy.count }) ≡ copy
renamed copy rest same = ap (λ (l : List ℕ). record { held = l; count = copy.count }) same

-- One poll that goes on is used.
uses_one : (reads writes : Bool) (before now : Ends) (copy next : Copying) → copy.count < 2 ^ 64 → OneCall before now
    → Breaks reads writes before now copy next ⊎ MovesSome reads writes before now copy next → UsesAll 1 reads writes before now copy next
uses_one reads writes before now copy next bounded call (inl (same, nothing, inl rose)) = record {
  moves = moves_none reads writes before now copy next bounded same nothing.0 nothing.1;
  reader = 1;
  writer = 0;
  each = omega arith;
  reads_break = omega (arith, rose);
  writes_break = omega (arith, call.writer.interrupts_stay);
}
uses_one reads writes before now copy next bounded call (inl (same, nothing, inr rose)) = record {
  moves = moves_none reads writes before now copy next bounded same nothing.0 nothing.1;
  reader = 0;
  writer = 1;
  each = omega arith;
  reads_break = omega (arith, call.reader.interrupts_stay);
  writes_break = omega (arith, rose);
}
uses_one reads writes before now copy next bounded call (inr some) = record {
  moves = some.moves;
  reader = 0;
  writer = 0;
  each = omega (arith, some.some);
  reads_break = omega (arith, call.reader.interrupts_stay);
  writes_break = omega (arith, call.writer.interrupts_stay);
}

-- One more poll that goes on.
pub ran_again : (turns : ℕ) (reads writes : Bool) (before mid now : Ends) (copy next later : Copying)
    → Ran turns reads writes before mid copy next
    → OneCall mid now → Breaks reads writes mid now next later ⊎ MovesSome reads writes mid now next later
    → Ran (turns + 1) reads writes before now copy later
ran_again turns reads writes before mid now copy next later ran call goes =
    let u = ran.uses in
    let v = uses_one reads writes mid now next later (omega (arith, u.moves.counted)) call goes in record {
      uses = record {
        moves = moves_then reads writes before mid now copy next later u.moves v.moves;
        reader = u.reader + v.reader;
        writer = u.writer + v.writer;
        each = omega (arith, u.each, v.each, length-append u.moves.got v.moves.got, length-append u.moves.sent v.moves.sent);
        reads_break = omega (arith, u.reads_break, v.reads_break);
        writes_break = omega (arith, u.writes_break, v.writes_break);
      };
      calls = calls_more turns (turns + 1) before mid now (omega arith) ran.calls call;
    }

-- One more poll that has to wait.
pub ran_waits : (turns most : ℕ) (reads writes : Bool) (task : ℕ) (before mid now : Ends) (copy next later : Copying)
    → Ran turns reads writes before mid copy next
    → Waits reads writes task mid now next later → Runs reads writes task most before now copy (Pending later)
ran_waits turns most reads writes task before mid now copy next later ran waits = (
  moves_then reads writes before mid now copy next later ran.uses.moves
      (moves_none reads writes mid now next later (omega (arith, ran.uses.moves.counted)) waits.0 waits.1.0 waits.1.1),
  elim waits.2 [
    | inl p ↦ inl (rose_later _ mid.reader.counts.pauses _ ran.calls.reader.pauses_stay p.0, p.1)
    | inr p ↦ inr (rose_later _ mid.writer.counts.pauses _ ran.calls.writer.pauses_stay p.0, p.1)
  ],
)

-- How one poll ends is how many do.
run-end : (turns : ℕ) (reads writes : Bool) (before mid now : Ends) (copy next : Copying) (rest : List ℕ) (outcome : Result ℕ IoFault)
    → Ran turns reads writes before mid copy next → rest ≡ next.held → (IsTrue reads → now.reader.left ≡ mid.reader.left)
    → IsCopyEnd reads mid now next outcome → IsRunEnd reads before now next.count rest outcome
run-end turns reads writes before mid now copy next rest (Ok n) ran same left end = (
  end.0,
  same ∙ end.1,
  (λ r. left r ∙ end.2.0 r),
  rose_later before.reader.counts.zeros mid.reader.counts.zeros now.reader.counts.zeros ran.calls.reader.zeros_stay end.2.1,
)
run-end turns reads writes before mid now copy next rest (Err fault) ran same left (inl failed) =
    inl (fails_later before.reader.counts mid.reader.counts now.reader.counts fault ran.calls.reader.faults_stay failed)
run-end turns reads writes before mid now copy next rest (Err fault) ran same left (inr (inl failed)) =
    inr (inl (fails_later before.writer.counts mid.writer.counts now.writer.counts fault ran.calls.writer.faults_stay failed))
run-end turns reads writes before mid now copy next rest (Err fault) ran same left (inr (inr none)) =
    inr (inr (
      omega (arith, none.0, ap length same),
      (none.1.0, rose_later _ mid.writer.counts.zeros _ ran.calls.writer.zeros_stay none.1.1),
    ))

-- A write of none of a slice's bytes was counted, where the slice has some.
pub slice_counted : {T : Type 0} (content : T → List ℕ) (buf : T) (slice : Cut T) (sent total n : ℕ) (before now : ℕ)
    → slice ≡ record { inner = buf; begin = sent; end = total } → sent < total → total ≡ length (content buf) → n ≡ 0
    → (n ≡ 0 → (length (slice_range (content slice.inner) slice.begin slice.end) ≡ 0) ⊎ Rose before now) → Rose before now
slice_counted content buf slice sent total n before now cut some end none counted =
    elim (subst (λ sl. (length (slice_range (content sl.inner) sl.begin sl.end) ≡ 0) ⊎ Rose before now) cut (counted none)) [
      | inl empty ↦ absurd (omega (
        arith,
        empty,
        some,
        end,
        length-take (total - sent) (drop sent (content buf)),
        length-drop sent (content buf),
      ))
      | inr rose ↦ rose
    ]

-- One more poll that is done.
pub ran_ends : (turns : ℕ) (reads writes : Bool) (task : ℕ) (before mid now : Ends) (copy next : Copying) (copied : Copied)
    → Ran turns reads writes before mid copy next
    → Copies reads writes task mid now next (Ready copied) → HasCopied reads writes before now copy copied
ran_ends turns reads writes task before mid now copy next copied ran ends = record {
  count = next.count;
  moves = moves_then reads writes before mid now copy next (record { held = copied.rest; count = next.count }) ran.uses.moves
      (moves_none reads writes mid now next (record { held = copied.rest; count = next.count }) (omega (arith, ran.uses.moves.counted))
      (renamed next copied.rest ends.0) ends.1.0 ends.1.1);
  ends = run-end turns reads writes before mid now copy next copied.rest copied.result ran ends.0 ends.1.0 ends.2;
}

-- A copy that ended Ok delivered what it held and all that was left.
all-of : (reads writes : Bool) (before now : Ends) (copy : Copying) (count : ℕ) (rest : List ℕ) (outcome : Result ℕ IoFault)
    → Moves reads writes before now copy (record { held = rest; count = count }) → IsRunEnd reads before now count rest outcome
    → IsTrue reads → IsTrue writes → HasAll before now copy outcome
all-of reads writes before now copy count rest (Ok n) m end r w =
    let none : before.reader.left ≡ m.got = m.front r ∙ ap (λ l. m.got ++ l) (end.2 r) ∙ append-nil m.got in
    let all : m.sent ≡ copy.held ++ before.reader.left = sym (append-nil m.sent) ∙ ap (λ l. m.sent ++ l) (sym end.1) ∙ sym m.kept
    ∙ ap (λ l. copy.held ++ l) (sym none) in (
      m.delivered w ∙ ap (λ l. before.writer.delivered ++ l) all,
      end.0 ∙ m.counted ∙ ap (λ l. count_more copy.count (length l)) all,
    )
all-of reads writes before now copy count rest (Err fault) m end r w = tt

-- The same of an answer.
pub copies_all : (reads writes : Bool) (before now : Ends) (copy : Copying) (copied : Copied)
    → HasCopied reads writes before now copy copied
    → CopiesAll reads writes before now copy (Ready copied)
copies_all reads writes before now copy copied has =
    all-of reads writes before now copy has.count copied.rest copied.result has.moves has.ends
