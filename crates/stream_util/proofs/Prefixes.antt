-- Reads of a prefix.
use Rattle.std.proofs.Common.{◌≡◌, ◌∙◌, ℕ, ◌+◌, ◌≤◌, ◌≢◌, List, ◌++◌, Bool, true, false, length, take, ap, append_assoc, arith, min}
use Rattle.std.proofs.Common.{subst, sym}
use Rattle.std.specs.Prelude.{IsTrue, ◌&&◌, Option, None, Ok, Err}
use Rattle.std.proofs.lemmas.Bool.{false≢true}
use Rattle.rent_buf.specs.Buffer.{Buffer, room, put}
use Rattle.rent_buf.specs.Parts.{Parts, parts_stored}
use Rattle.rent_io.specs.declared.poll.PollBuf.{PollBuf}
use Rattle.rent_io.specs.declared.poll.PollBuf.TheVariants.{Ready, Pending, Again}
use Rattle.rent_io.specs.Counts.{AfterCall, Counts}
use Rattle.rent_io.specs.Polls.{IsCaused}
use Rattle.rent_io.specs.Reader.{Reader, Taken, Scattered, first_room}
use Rattle.rent_io.specs.Source.{Gives}
use Rattle.rent_io.specs.declared.source_stream.TheConstants.{PIECE}
use Rattle.stream_util.specs.PrefixedReadIo.{Prefixed, PrefixEnds, PrefixRule, counts_behind, prefix_left}
use Rattle.rent_io.proofs.Pieces.{taken_piece, scattered_piece}

-- Where both tell, the second does.
second-tells : (a b : Bool) → IsTrue (a && b) → IsTrue b
second-tells true b t = t
second-tells false b t = absurd (false≢true t)

-- A read of the prefix by way of a piece of memory is one of the stream: what is left of the stream inside comes behind.
pub taken_prefix : (first tells finished : Bool) (left rest behind piece : List ℕ) (b back : Buffer) (size n : ℕ)
    → finished ≡ false → size ≡ min (room b) PIECE
    → length piece ≡ size → n ≤ size → n ≢ 0 → back ≡ put b (b.begin + 0) (take n piece) → (IsTrue tells → Gives left rest piece size n)
    → Taken (first && tells) (prefix_left finished left ++ behind) (prefix_left finished rest ++ behind) b back n
taken_prefix first tells finished left rest behind piece b back size n going is long within some put_is gives =
    let taken = taken_piece tells left rest piece b back size n is long within put_is gives in
    rw going (record {
      got = taken.got;
      count = taken.count;
      fits = taken.fits;
      is_stored = taken.is_stored;
      front = λ t. ap (λ l. l ++ behind) (taken.front (second-tells first tells t)) ∙ append_assoc taken.got rest behind;
      at_end = λ _ none. absurd (some none);
    })

-- The same into parts.
pub scattered_prefix : (first tells finished : Bool) (left rest behind piece : List ℕ) (parts back : Parts) (size n : ℕ)
    → finished ≡ false → size ≡ min (first_room parts) PIECE → length piece ≡ size → n ≤ size → n ≢ 0
    → back ≡ parts_stored parts (take n piece)
    → (IsTrue tells → Gives left rest piece size n)
    → Scattered (first && tells) (prefix_left finished left ++ behind) (prefix_left finished rest ++ behind) parts back n
scattered_prefix first tells finished left rest behind piece parts back size n going is long within some stored_is gives =
    let taken = scattered_piece tells left rest piece parts back size n is long within stored_is gives in
    rw going (record {
      got = taken.got;
      count = taken.count;
      fits = taken.fits;
      is_stored = taken.is_stored;
      front = λ t. ap (λ l. l ++ behind) (taken.front (second-tells first tells t)) ∙ append_assoc taken.got rest behind;
      at_end = λ _ none. absurd (some none);
    })

-- A read of the stream inside, behind a prefix that has ended, has the cause that it has there.
caused_so : {T : Type 0} (task : ℕ) (finished : Bool) (faults later : ℕ) (before now : Counts) (result : PollBuf T) → faults ≤ later
    → IsCaused task before now result → IsCaused task (counts_behind finished faults before) (counts_behind true later now) result
caused_so task finished faults later before now (Ready (Ok n) back) grew cause = tt
caused_so task finished faults later before now (Ready (Err fault) back) grew cause = (omega (arith, cause.0, grew), cause.1)
caused_so task finished faults later before now (Pending back) grew cause = cause
caused_so task finished faults later before now (Again back) grew cause = cause

-- The counts of a stream with a prefix.
abbrev pub counted : {I P : Type 0} → (I → Reader) → (P → ℕ) → Prefixed I P → Counts
counted reader faults s = counts_behind s.finished (faults s.prefix) (reader s.io).counts

module _ {I P : Type 0} (reader : I → Reader) (faults : P → ℕ) (before new mid : Prefixed I P) (now : I) (is : mid ≡ new)
    (ended : new.finished ≡ true) (left_alone : new.io ≡ before.io)
    (read : AfterCall None (counted reader faults before) (counted reader faults new)) where
  -- The stream inside is as it was.
  same : mid.io ≡ before.io
  same = ap (λ s. s.io) is ∙ left_alone

  -- The faults of the prefix grew.
  grew : faults before.prefix ≤ faults mid.prefix
  grew = omega (arith, read.faults_stay, ap (λ io. (reader io).counts.faults) left_alone, ap (λ s. faults s.prefix) is)

  -- Such a read, of a stream that the read of the prefix left alone, has its cause.
  pub caused_behind : {T : Type 0} (task : ℕ) (result : PollBuf T) → IsCaused task (reader mid.io).counts (reader now).counts result
      → IsCaused task (counted reader faults before) (counted reader faults (record mid { io = now })) result
  caused_behind task result cause =
      let over : mid.finished ≡ true = ap (λ s. s.finished) is ∙ ended in
      rw over (caused_so task before.finished (faults before.prefix) (faults mid.prefix) (reader before.io).counts (reader now).counts
      result grew (subst (λ io. IsCaused task (reader io).counts (reader now).counts result) same cause))

  -- And it is one call.
  pub called_behind : (group : Option ℕ) → AfterCall group (reader mid.io).counts (reader now).counts
      → AfterCall group (counted reader faults before) (counted reader faults (record mid { io = now }))
  called_behind group called =
      let call : AfterCall group (reader before.io).counts (reader now).counts =
      subst (λ io. AfterCall group (reader io).counts (reader now).counts) same called in
      record {
        faults_stay = omega (arith, call.faults_stay, grew);
        pauses_stay = call.pauses_stay;
        interrupts_stay = call.interrupts_stay;
        zeros_stay = call.zeros_stay;
        one_call = call.one_call;
        under = call.under;
      }

-- A read behind a prefix that has ended keeps to the rule.
pub rule_behind : {I P T : Type 0} (tells : Bool) (left : P → List ℕ) (before mid now : Prefixed I P) (space : ℕ) (result : PollBuf T)
    → PrefixEnds tells left before mid → now.finished ≡ mid.finished → now.prefix ≡ mid.prefix
    → PrefixRule tells left before now space result
rule_behind tells left before mid now space result ended finished prefix = record {
  first = λ going. absurd (false≢true (sym going ∙ finished ∙ ended.finished));
  some = λ going. absurd (false≢true (sym going ∙ finished ∙ ended.finished));
  ends = λ going _. ended.none_left going;
  stays = λ over. (finished ∙ ended.finished, prefix ∙ ended.stays over);
}
