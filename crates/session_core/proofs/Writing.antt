-- What was written of a text.
use Rattle.std.proofs.Common.{◌≡◌, ◌<◌, ◌≤◌, ℕ, zero, suc, ◌+◌, Bool, IsTrue, List, [], ◌∷◌, ◌++◌, length, take, get_or, refl, sym, ◌∙◌, ap}
use Rattle.std.proofs.Common.{subst, add-one, append-nil, append_assoc, arith}
use Rattle.std.specs.Prelude.{Result, Ok, Err}
use Rattle.machine.specs.declared.ledger.Reply.{Reply}
use Rattle.rent_io.specs.declared.source.Failed.{Failed}
use Rattle.rent_io.proofs.Runs.{rose_later}
use Rattle.session_core.specs.declared.output.Unwritten.{Unwritten}
use Rattle.event_text.specs.TextReply.{reply_text}
use Rattle.event_text.specs.TextWrites.{Starts}
use Rattle.session_core.specs.Top.{ended, reply_lines, WrotePrefix}
use Rattle.session_core.specs.Writes.{Sent, WhyUnwritten, Wrote, WritesAll}

-- The texts of the first replies are a prefix of the texts of all.
pub starts-lines : (k : ℕ) (rs : List Reply) → Starts (reply_lines (take k rs)) (reply_lines rs)
starts-lines zero rs = record { more = reply_lines rs; is = refl }
starts-lines (suc k) [] = record { more = []; is = refl }
starts-lines (suc k) (r ∷ rs) =
    let rest = starts-lines k rs in
    record {
      more = rest.more;
      is = ap (λ xs. ended (reply_text r) ++ xs) rest.is ∙ sym (append_assoc (ended (reply_text r)) (reply_lines (take k rs)) rest.more);
    }

-- The texts of the first replies and of the next one.
pub lines-next : (k : ℕ) (rs : List Reply) (r : Reply) → k < length rs → r ≡ get_or rs k r →
    reply_lines (take (suc k) rs) ≡ reply_lines (take k rs) ++ ended (reply_text r)
lines-next k [] r within is = absurd (omega (arith, within))
lines-next zero (x ∷ rs) r within is = ap (λ y. ended (reply_text y) ++ []) (sym is) ∙ append-nil (ended (reply_text r))
lines-next (suc k) (x ∷ rs) r within is =
    ap (λ xs. ended (reply_text x) ++ xs) (lines-next k rs r (omega (arith, within)) is)
    ∙ sym (append_assoc (ended (reply_text x)) (reply_lines (take k rs)) (ended (reply_text r)))

-- A prefix of a part is one of the whole that the part begins.
pub prefix-whole : (part text taken now : List ℕ) → Starts part text → WrotePrefix part taken now → WrotePrefix text taken now
prefix-whole part text taken now starts wrote = record {
  prefix = wrote.prefix;
  starts = record {
    more = wrote.starts.more ++ starts.more;
    is = starts.is ∙ ap (λ xs. xs ++ starts.more) wrote.starts.is ∙ append_assoc wrote.prefix wrote.starts.more starts.more;
  };
  written = wrote.written;
}

-- Sending goes on: what was sent, then what is sent of what was left and more.
pub sent-on : (part more whole rest left taken now later : List ℕ) → whole ≡ part ++ more → Sent part rest taken now →
    Sent (rest ++ more) left now later → Sent whole left taken later
sent-on part more whole rest left taken now later is before next = record {
  prefix = before.prefix ++ next.prefix;
  now_is = next.now_is ∙ ap (λ xs. xs ++ next.prefix) before.now_is ∙ append_assoc taken before.prefix next.prefix;
  text_is = is ∙ ap (λ xs. xs ++ more) before.text_is ∙ append_assoc before.prefix rest more ∙ ap (λ xs. before.prefix ++ xs) next.text_is
      ∙ sym (append_assoc before.prefix next.prefix left);
}

-- A prefix of what was left, behind what was sent, is a prefix of the whole.
prefix-on : (part more text rest taken now later : List ℕ) → Starts (part ++ more) text → Sent part rest taken now →
    WrotePrefix (rest ++ more) now later → WrotePrefix text taken later
prefix-on part more text rest taken now later starts before next = record {
  prefix = before.prefix ++ next.prefix;
  starts = record {
    more = next.starts.more ++ starts.more;
    is = starts.is
        ∙ ap (λ xs. (xs ++ more) ++ starts.more) before.text_is
        ∙ ap (λ xs. xs ++ starts.more) (append_assoc before.prefix rest more ∙ ap (λ xs. before.prefix ++ xs) next.starts.is
        ∙ sym (append_assoc before.prefix next.prefix next.starts.more))
        ∙ append_assoc (before.prefix ++ next.prefix) next.starts.more starts.more;
  };
  written = next.written ∙ ap (λ xs. xs ++ next.prefix) before.now_is ∙ append_assoc taken before.prefix next.prefix;
}

-- Why the next reply wasn't written is why not all are.
pub unwritten-next : (tells : Bool) (part more text rest taken now later : List ℕ) (f g h : ℕ) (why : Unwritten) →
    Starts (part ++ more) text → (IsTrue tells → Sent part rest taken now) →
    f ≤ g → (IsTrue tells → g ≡ f) → WhyUnwritten tells (rest ++ more) now later g h why → WhyUnwritten tells text taken later f h why
unwritten-next tells part more text rest taken now later f g h Unwritten.Fault starts before order calm why =
    (rose_later f g h order why.0, λ told. prefix-on part more text rest taken now later starts (before told) (why.1 told))
unwritten-next tells part more text rest taken now later f g h Unwritten.OutOfMemory starts before order calm why = λ told.
    record {
      prefix = prefix-on part more text rest taken now later starts (before told) (why told).prefix;
      calm = (why told).calm ∙ calm told;
    }

-- A prefix of what comes behind a text that was written, behind that text.
pub prefix-behind : (first more taken now later : List ℕ) → now ≡ taken ++ first → WrotePrefix more now later →
    WrotePrefix (first ++ more) taken later
prefix-behind first more taken now later is next = record {
  prefix = first ++ next.prefix;
  starts = record {
    more = next.starts.more;
    is = ap (λ xs. first ++ xs) next.starts.is ∙ sym (append_assoc first next.prefix next.starts.more);
  };
  written = next.written ∙ ap (λ xs. xs ++ next.prefix) is ∙ append_assoc taken first next.prefix;
}

-- A prefix of a text is one of that text and more.
prefix-more : (first more taken now : List ℕ) → WrotePrefix first taken now → WrotePrefix (first ++ more) taken now
prefix-more first more taken now wrote = record {
  prefix = wrote.prefix;
  starts = record {
    more = wrote.starts.more ++ more;
    is = ap (λ xs. xs ++ more) wrote.starts.is ∙ append_assoc wrote.prefix wrote.starts.more more;
  };
  written = wrote.written;
}

-- Writing a text, then more.
pub writes-then : (tells : Bool) (first more taken now later : List ℕ) (f g h : ℕ) (result : Result Unit Failed) →
    Wrote tells first taken now f g → WritesAll tells more now later g h result →
    WritesAll tells (first ++ more) taken later f h result
writes-then tells first more taken now later f g h (Ok done) before next = record {
  order = (let one = before.order in let two = next.order in omega arith);
  all = λ told. next.all told ∙ ap (λ xs. xs ++ more) (before.all told) ∙ append_assoc taken first more;
  calm = λ told. next.calm told ∙ before.calm told;
}
writes-then tells first more taken now later f g h (Err failed) before next =
    (rose_later f g h before.order next.0, λ told. prefix-behind first more taken now later (before.all told) (next.1 told))

-- A text that wasn't written whole, and more that wasn't begun.
pub writes-cut : (tells : Bool) (first more taken now : List ℕ) (f g : ℕ) (failed : Failed) →
    WritesAll tells first taken now f g (Err failed) → WritesAll tells (first ++ more) taken now f g (Err failed)
writes-cut tells first more taken now f g failed wrote = (wrote.0, λ told. prefix-more first more taken now (wrote.1 told))

-- What was sent, then the rest, is the text.
pub sent-all : (text rest taken now later : List ℕ) → Sent text rest taken now → later ≡ now ++ rest → later ≡ taken ++ text
sent-all text rest taken now later sent is =
    is ∙ ap (λ xs. xs ++ rest) sent.now_is ∙ append_assoc taken sent.prefix rest ∙ ap (λ xs. taken ++ xs) (sym sent.text_is)

-- What was sent, then a prefix of the rest, is a prefix of the text.
pub sent-some : (text rest taken now later : List ℕ) → Sent text rest taken now → WrotePrefix rest now later → WrotePrefix text taken later
sent-some text rest taken now later sent next = record {
  prefix = sent.prefix ++ next.prefix;
  starts = record {
    more = next.starts.more;
    is = sent.text_is ∙ ap (λ xs. sent.prefix ++ xs) next.starts.is ∙ sym (append_assoc sent.prefix next.prefix next.starts.more);
  };
  written = next.written ∙ ap (λ xs. xs ++ next.prefix) sent.now_is ∙ append_assoc taken sent.prefix next.prefix;
}

-- Why the next reply wasn't written is why not all are.
pub reply-unwritten : (tells : Bool) (rs : List Reply) (k : ℕ) (r : Reply) (out taken now later : List ℕ) (f g h : ℕ) (why : Unwritten) →
    k < length rs → r ≡ get_or rs k r →
    (IsTrue tells → Sent (reply_lines (take k rs)) out taken now) → f ≤ g → (IsTrue tells → g ≡ f) →
    WhyUnwritten tells (out ++ ended (reply_text r)) now later g h why →
    WhyUnwritten tells (reply_lines rs) taken later f h why
reply-unwritten tells rs k r out taken now later f g h why within is sent order calm next =
    unwritten-next tells (reply_lines (take k rs)) (ended (reply_text r)) (reply_lines rs) out taken now later f g h why
    (subst (λ xs. Starts xs (reply_lines rs)) (lines-next k rs r within is) (starts-lines (suc k) rs)) sent order calm next

-- The texts of the first replies were sent, and of one more.
pub reply-written : (rs : List Reply) (k : ℕ) (r : Reply) (out left taken now later : List ℕ) → k < length rs → r ≡ get_or rs k r →
    Sent (reply_lines (take k rs)) out taken now → Sent (out ++ ended (reply_text r)) left now later →
    Sent (reply_lines (take (k + 1) rs)) left taken later
reply-written rs k r out left taken now later within is sent next =
    sent-on (reply_lines (take k rs)) (ended (reply_text r)) (reply_lines (take (k + 1) rs)) out left taken now later
    (ap (λ m. reply_lines (take m rs)) (add-one k) ∙ lines-next k rs r within is) sent next
