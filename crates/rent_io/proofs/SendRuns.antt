-- Polls of a write of all bytes, one behind the other.
use Rattle.std.proofs.Common.{◌≡◌, ◌∙◌, ℕ, ◌≤◌, ◌⊎◌, inl, inr, [], ◌++◌, Bool, refl, sym, ap, append_assoc, append-nil}
use Rattle.std.proofs.Common.{arith, length, length-append}
use Rattle.std.specs.Prelude.{IsTrue, IfErr, Result, Ok, Err}
use Rattle.rent_buf.specs.declared.fault.IoFault.{IoFault}
use Rattle.rent_io.specs.declared.poll.Step.{Step}
use Rattle.rent_io.specs.declared.poll.Step.TheVariants.{Ready, Pending, Again}
use Rattle.rent_io.specs.Writer.{EndsStay, Writer}
use Rattle.rent_io.specs.WriteAll.{Sending, SendsOn, BreaksAll, IsAllEnd, WritesAll}
use Rattle.rent_io.specs.Runs.{AllRunEnd, EndsAll, HasSent}
use Rattle.rent_io.specs.Completeness.{IsQuiet}
use Rattle.rent_io.specs.Polls.{TookNone}
use Rattle.rent_io.specs.State.{Advances, Ran}
use Rattle.rent_io.proofs.Runs.{fails_later, rose_later}

-- A stream that flushed and shut down as often, twice.
ends_twice : (before mid now : Writer) → EndsStay before mid → EndsStay mid now → EndsStay before now
ends_twice before mid now first second = (second.0 ∙ first.0, second.1 ∙ first.1)

-- How a poll ends is how the polls end.
send_ends : {T : Type 0} (tells : Bool) (before mid now : Writer) (s g : Sending T) (end : Result ℕ IoFault)
    → before.counts.faults ≤ mid.counts.faults → before.counts.zeros ≤ mid.counts.zeros → HasSent tells before mid s g
    → IsAllEnd tells mid now g end
    → AllRunEnd tells before now s end
send_ends tells before mid now s g (Ok n) stay zeros has all = (
  all.0 ∙ has.same_total,
  λ t. all.1 t ∙ ap (λ l. l ++ g.rest) (has.joined t) ∙ append_assoc before.delivered has.sent g.rest
      ∙ ap (λ l. before.delivered ++ l) (sym has.cut),
)
send_ends tells before mid now s g (Err fault) stay zeros has failed = record {
  sent = has.sent;
  unsent = g.rest;
  cut = has.cut;
  joined = λ t. failed.0 t ∙ has.joined t;
  cause = elim failed.1 [
    | inl rose ↦ inl (fails_later before.counts mid.counts now.counts fault stay rose)
    | inr none ↦ inr (none.0, none.1, rose_later before.counts.zeros mid.counts.zeros now.counts.zeros zeros none.2)
  ];
}

-- No polls of a write of all bytes.
pub send_none : {T : Type 0} (tells : Bool) (writer : Writer) (s : Sending T) → HasSent tells writer writer s s
send_none tells writer s = record {
  sent = [];
  cut = refl;
  same_buf = refl;
  same_total = refl;
  joined = λ t. sym (append-nil writer.delivered);
  ends = (refl, refl);
}

module _ {T : Type 0} (tells : Bool) (before mid now : Writer) (s g next : Sending T) (has : HasSent tells before mid s g)
    (ends : EndsStay mid now) where
  -- A poll that leaves it as it was.
  send_stays : next ≡ g → (IsTrue tells → now.delivered ≡ mid.delivered) → HasSent tells before now s next
  send_stays same delivered = record {
    sent = has.sent;
    cut = has.cut ∙ ap (λ x. has.sent ++ x.rest) (sym same);
    same_buf = ap (λ x. x.buf) same ∙ has.same_buf;
    same_total = ap (λ x. x.total) same ∙ has.same_total;
    joined = λ t. delivered t ∙ has.joined t;
    ends = ends_twice before mid now has.ends ends;
  }

  -- A poll that was interrupted, or sends the next bytes.
  send_again : BreaksAll tells mid now g next ⊎ SendsOn tells mid.delivered now.delivered g next → HasSent tells before now s next
  send_again (inl breaks) = send_stays breaks.0 breaks.1
  send_again (inr sends) = record {
    sent = has.sent ++ sends.sent;
    cut = has.cut ∙ ap (λ l. has.sent ++ l) sends.cut ∙ sym (append_assoc has.sent sends.sent next.rest);
    same_buf = sends.same_buf ∙ has.same_buf;
    same_total = sends.same_total ∙ has.same_total;
    joined = λ t. sends.joined t ∙ ap (λ l. l ++ sends.sent) (has.joined t) ∙ append_assoc before.delivered has.sent sends.sent;
    ends = ends_twice before mid now has.ends ends;
  }

-- One poll more of a write of all bytes.
pub send_more : {T : Type 0} (tells : Bool) (task : ℕ) (before mid now : Writer) (s g : Sending T)
    (step : Step (Sending T) (Result ℕ IoFault × T)) → before.counts.faults ≤ mid.counts.faults → before.counts.zeros ≤ mid.counts.zeros
    → HasSent tells before mid s g → WritesAll tells task mid now g step × EndsStay mid now
    → Ran (EndsAll tells before now s) (HasSent tells before now s) step
send_more tells task before mid now s g (Ready end) stay zeros has is = (
  send_ends tells before mid now s g end.0 stay zeros has is.0.0,
  is.0.1 ∙ has.same_buf,
  ends_twice before mid now has.ends is.1,
)
send_more tells task before mid now s g (Pending next) stay zeros has is = send_stays tells before mid now s g next has is.1 is.0.0 is.0.1
send_more tells task before mid now s g (Again next) stay zeros has is = send_again tells before mid now s g next has is.1 is.0

-- A write of all bytes ends so.
all-end : {T : Type 0} (tells : Bool) (before now : Writer) (s : Sending T) (end : Result ℕ IoFault) → IsQuiet before.counts now.counts
    → IsAllEnd tells before now s end → IfErr end (TookNone before.counts now.counts)
all-end tells before now s (Ok n) quiet is = tt
all-end tells before now s (Err fault) quiet (same, inl failed) = absurd (quiet.0 failed.0)
all-end tells before now s (Err fault) quiet (same, inr zero) = (zero.0, zero.2)

-- A write of all bytes gets on.
pub all_advances : {T : Type 0} (tells : Bool) (task : ℕ) (before now : Writer) (s : Sending T)
    (step : Step (Sending T) (Result ℕ IoFault × T))
    → WritesAll tells task before now s step
    → Advances (λ s. 0) (λ s. length s.rest) (λ end. IfErr end.0 (TookNone before.counts now.counts)) before.counts now.counts s step
all_advances tells task before now s (Ready end) is = λ quiet. all-end tells before now s end.0 quiet is.0
all_advances tells task before now s (Pending next) is = (is.0, is.2.0)
all_advances tells task before now s (Again next) (inl breaks) = inl (breaks.0, breaks.2)
all_advances tells task before now s (Again next) (inr goes) =
    inr (omega (arith, goes.some, ap length goes.cut, length-append goes.sent next.rest))
