-- A round of a copy leaves the bytes on their way.
use Rattle.std.proofs.Common.{ℕ, ◌≡◌, ◌∙◌, ap, sym, subst, List, ◌++◌}
use Rattle.std.proofs.lemmas.List.{append_assoc}
use Rattle.rent_buf.specs.Rent.{Rented}
use Rattle.driver_core.specs.Ops.{Ops}
use Rattle.ready_driver.specs.Io.{IoView}
use Rattle.ready_driver.specs.LegacyState.{LegacyState, ops_in}
use Rattle.net_stream.specs.declared.connection.Connection.{Connection}
use Rattle.net_stream.specs.Connection.{AreBeside, FitsConnection, KeepsBeside, OnlyComes, OnlyGoes}
use Rattle.net_stream.specs.Drives.{IsOther}
use Rattle.net_stream.specs.Inbox.{Inboxed}
use Rattle.net_stream.specs.Incoming.{came_in}
use Rattle.net_stream.specs.Outbox.{Outboxed}
use Rattle.net_stream.specs.Told.{IsSentTo, IsStream, IsTaken, in_flight, sent_at, unread_in, unsent_in, waiting_at, world_of}
use Rattle.net_stream.proofs.Frames.{beside_fits, beside_swaps}
use Rattle.net_stream.proofs.Handles.{sent_stream, sent_waiting, taken_sent, taken_stream}
use Rattle.net_copy.specs.Round.{KeepsBesideBoth, line_of}

-- What a copy moved, in front of more.
moved_line : (sent later left unsent held arrived more : List ℕ) → (sent ++ later) ++ left ≡ (unsent ++ held) ++ arrived
    → sent ++ (later ++ (left ++ more)) ≡ unsent ++ (held ++ (arrived ++ more))
moved_line sent later left unsent held arrived more same =
    sym (append_assoc sent later (left ++ more))
    ∙ (sym (append_assoc (sent ++ later) left more)
    ∙ (ap (λ bs. bs ++ more) same
    ∙ (append_assoc (unsent ++ held) arrived more ∙ append_assoc unsent held (arrived ++ more))))

-- The parts of what is on its way, opened.
opened : (flight going unsent held arrived came waiting : List ℕ)
    → (flight ++ (going ++ unsent)) ++ (held ++ ((arrived ++ came) ++ waiting))
    ≡ flight ++ (going ++ (unsent ++ (held ++ (arrived ++ (came ++ waiting)))))
opened flight going unsent held arrived came waiting =
    append_assoc flight (going ++ unsent) (held ++ ((arrived ++ came) ++ waiting))
    ∙ ap (λ bs. flight ++ bs) (append_assoc going unsent (held ++ ((arrived ++ came) ++ waiting))
    ∙ ap (λ bs. going ++ (unsent ++ (held ++ bs))) (append_assoc arrived came waiting))

-- What a copy moved, between what is to go and what came.
copied_line : (flight going sent unsent later held left arrived came waiting : List ℕ)
    → (sent ++ later) ++ left ≡ (unsent ++ held) ++ arrived
    → (flight ++ (going ++ sent)) ++ (later ++ ((left ++ came) ++ waiting))
    ≡ (flight ++ (going ++ unsent)) ++ (held ++ ((arrived ++ came) ++ waiting))
copied_line flight going sent unsent later held left arrived came waiting same =
    opened flight going sent later left came waiting
    ∙ (ap (λ bs. flight ++ (going ++ bs)) (moved_line sent later left unsent held arrived (came ++ waiting) same)
    ∙ sym (opened flight going unsent held arrived came waiting))

-- A round: a receive, a copy between the boxes, and a send to a stream.
pub round_line : {I : Type 0} (view : I → IoView) (old mid new : LegacyState I Rented) (from came left to written now : Connection)
    (held later : List ℕ)
    → unread_in came ++ waiting_at view mid from.fd ≡ unread_in from ++ waiting_at view old from.fd
    → IsTaken (world_of view old) from.fd (world_of view mid) → OnlyComes from came
    → in_flight (ops_in mid) to.outgoing.op ≡ in_flight (ops_in old) to.outgoing.op
    → left ≡ record came { inbox = left.inbox } → written ≡ record to { outbox = written.outbox }
    → (written.outbox.unsent ++ later) ++ left.inbox.arrived ≡ (to.outbox.unsent ++ held) ++ came.inbox.arrived
    → IsStream (world_of view old) to.fd → IsSentTo (world_of view mid) written.fd (world_of view new) → OnlyGoes written now
    → (IsStream (world_of view mid) written.fd → sent_at view new written.fd ++ unsent_in (ops_in new) now
    ≡ sent_at view mid written.fd ++ unsent_in (ops_in mid) written)
    → line_of view new left now later ≡ line_of view old from to held
round_line view old mid new from came left to written now held later arrives taken comes flight inbox outbox joined stream sent goes went =
    let a = from.fd in
    let b = to.fd in
    let left-fd : left.fd ≡ a = ap (λ c. c.fd) inbox ∙ ap (λ c. c.fd) comes in
    let written-fd : written.fd ≡ b = ap (λ c. c.fd) outbox in
    let now-fd : now.fd ≡ b = ap (λ c. c.fd) goes ∙ written-fd in
    let flows : IsStream (world_of view mid) b = taken_stream (world_of view old) (world_of view mid) a b taken stream in
    let waits : waiting_at view new a ≡ waiting_at view mid a = sent_waiting (world_of view mid) (world_of view new) b a flows
    (subst (λ h. IsSentTo (world_of view mid) h (world_of view new)) written-fd sent) in
    let gone : sent_at view mid b ≡ sent_at view old b = taken_sent (world_of view old) (world_of view mid) a b taken in
    let goes-on : sent_at view new b ++ unsent_in (ops_in new) now ≡ sent_at view mid b ++ unsent_in (ops_in mid) written =
    subst (λ h. IsStream (world_of view mid) h → sent_at view new h ++ unsent_in (ops_in new) now
    ≡ sent_at view mid h ++ unsent_in (ops_in mid) written) written-fd went flows in
    let between : unsent_in (ops_in mid) written ++ (later ++ (unread_in left ++ waiting_at view mid a))
    ≡ unsent_in (ops_in mid) to ++ (held ++ (unread_in came ++ waiting_at view mid a)) =
    ap (λ t. unsent_in (ops_in mid) t ++ (later ++ (unread_in left ++ waiting_at view mid a))) outbox
    ∙ (ap (λ f. unsent_in (ops_in mid) (record to { outbox = written.outbox }) ++ (later ++ (unread_in f ++ waiting_at view mid a))) inbox
    ∙ copied_line (in_flight (ops_in mid) to.outgoing.op) to.outgoing.unsent written.outbox.unsent to.outbox.unsent later held
    left.inbox.arrived came.inbox.arrived (came_in came.incoming.ended) (waiting_at view mid a) joined) in
    ap (λ h. sent_at view new h ++ (unsent_in (ops_in new) now ++ (later ++ (unread_in left ++ waiting_at view new left.fd)))) now-fd
    ∙ (ap (λ h. sent_at view new b ++ (unsent_in (ops_in new) now ++ (later ++ (unread_in left ++ waiting_at view new h)))) left-fd
    ∙ (ap (λ w. sent_at view new b ++ (unsent_in (ops_in new) now ++ (later ++ (unread_in left ++ w)))) waits
    ∙ (sym (append_assoc (sent_at view new b) (unsent_in (ops_in new) now) (later ++ (unread_in left ++ waiting_at view mid a)))
    ∙ (ap (λ bs. bs ++ (later ++ (unread_in left ++ waiting_at view mid a))) goes-on
    ∙ (append_assoc (sent_at view mid b) (unsent_in (ops_in mid) written) (later ++ (unread_in left ++ waiting_at view mid a))
    ∙ (ap (λ bs. sent_at view mid b ++ bs) between
    ∙ (ap (λ bs. bs ++ (unsent_in (ops_in mid) to ++ (held ++ (unread_in came ++ waiting_at view mid a)))) gone
    ∙ (ap (λ f. sent_at view old b ++ ((f ++ (to.outgoing.unsent ++ to.outbox.unsent))
    ++ (held ++ (unread_in came ++ waiting_at view mid a)))) flight
    ∙ ap (λ bs. sent_at view old b ++ (unsent_in (ops_in old) to ++ (held ++ bs))) arrives))))))))

-- Streams stay streams in a round.
pub round_streams : {I : Type 0} (view : I → IoView) (old mid new : LegacyState I Rented) (a b h : ℕ)
    → IsTaken (world_of view old) a (world_of view mid) → IsSentTo (world_of view mid) b (world_of view new)
    → IsStream (world_of view old) h → IsStream (world_of view new) h
round_streams view old mid new a b h taken sent stream =
    sent_stream (world_of view mid) (world_of view new) b h sent (taken_stream (world_of view old) (world_of view mid) a h taken stream)

-- Other operations are kept by both calls of a round, between which only boxes changed.
pub round_others : (old mid new : Ops Rented) (from came left to written now : Connection)
    → KeepsBeside old from mid came → left ≡ record came { inbox = left.inbox } → written ≡ record to { outbox = written.outbox }
    → KeepsBeside mid written new now → KeepsBesideBoth old from to new left now
round_others old mid new from came left to written now first inbox outbox second = λ other held apart.
    let once = first other held apart.0 apart.1 in
    let twice = second other once.0 (subst (λ c. IsOther c.incoming.op other) (sym outbox) apart.2)
    (subst (λ c. IsOther c.outgoing.op other) (sym outbox) apart.3) in (
      twice.0,
      twice.1 ∙ once.1,
      (
        subst (λ c. IsOther c.incoming.op other) (sym inbox) once.2,
        subst (λ c. IsOther c.outgoing.op other) (sym inbox) once.3,
        twice.2,
        twice.3,
      ),
    )

-- What the driver has for a connection doesn't depend on its boxes.
pub boxed_fits : (ops : Ops Rented) (conn : Connection) (inbox : Inboxed) (outbox : Outboxed) → FitsConnection ops conn
    → FitsConnection ops (record conn { inbox = inbox; outbox = outbox })
boxed_fits ops conn inbox outbox fits = record { receives = fits.receives; sends = fits.sends; apart = fits.apart }

-- Nor does it matter to two that wait for nothing together.
boxed_beside : (one other : Connection) (inbox : Inboxed) (outbox : Outboxed) → AreBeside one other
    → AreBeside (record one { inbox = inbox }) (record other { outbox = outbox })
boxed_beside one other inbox outbox beside = record {
  both_receive = beside.both_receive;
  one_receives = beside.one_receives;
  one_sends = beside.one_sends;
  both_send = beside.both_send;
}

-- Behind a round the driver has what the first connection waits for, and that is none of what the second waits for.
pub round_left : (old mid new : Ops Rented) (from came to now : Connection) (inbox : Inboxed) (outbox : Outboxed)
    → KeepsBeside old from mid came → FitsConnection mid came → FitsConnection old to → AreBeside from to
    → KeepsBeside mid (record to { outbox = outbox }) new now
    → FitsConnection new (record came { inbox = inbox }) × AreBeside (record came { inbox = inbox }) now
round_left old mid new from came to now inbox outbox first fits other beside second =
    let kept = beside_fits old mid from came to first other beside in
    let apart = boxed_beside came to inbox outbox kept.1 in
    let last = beside_fits mid new (record to { outbox = outbox }) now (record came { inbox = inbox }) second
    (boxed_fits mid came inbox came.outbox fits) (beside_swaps (record came { inbox = inbox }) (record to { outbox = outbox }) apart) in
    (last.0, beside_swaps now (record came { inbox = inbox }) last.1)
