-- Numbers are given in order.
use Rattle.std.proofs.Common.{◌≡◌, ℕ, zero, suc, ◌+◌, cond, Bool, true, false, List, [], ◌∷◌, length, map, take, count_by, Option, Some}
use Rattle.std.proofs.Common.{None, slice_get, refl, sym}
use Rattle.std.proofs.Common.{◌∙◌, ap, arith, length-append}
use Rattle.std.proofs.lemmas.List.Sums.{sum_by-cons}
use Rattle.rent_buf.specs.Buffer.{Buffer}
use Rattle.rent_buf.specs.Parts.{Parts}
use Rattle.machine.specs.declared.request.Request.{Request}
use Rattle.machine.specs.declared.request.Told.{Told}
use Rattle.machine.specs.declared.ledger.Event.{Event}
use Rattle.machine.specs.declared.ledger.Event.TheVariants.{Give, Feed, FeedMessage, End, Look, Close, Submit, Poll, Drop, Cancel, Turn}
use Rattle.machine.specs.declared.ledger.Event.TheVariants.{Exec}
use Rattle.machine.specs.declared.ledger.Event.TheVariants.{NewCanceller, NewHandle, CancelAll}
use Rattle.machine.specs.declared.ledger.Refusal.{Refusal}
use Rattle.machine.specs.declared.ledger.Reply.{Reply}
use Rattle.machine.specs.declared.ledger.Reply.TheVariants.{Submitted}
use Rattle.machine.specs.Ledger.{Ledger, Operation, Place, InQueue, InFlight, InDone, Reaped, Gone, Queued, Item, Op, empty}
use Rattle.machine.specs.Ledger.{new_operation, is_under_marked, group_under, members}
use Rattle.machine.specs.Queue.{take_all, with_op, is_unheld}
use Rattle.machine.specs.Turn.{exec_op, exec_step, with_result, effect_of, complete_at}
use Rattle.machine.specs.Refusal.{cause}
use Rattle.machine.specs.Step.{step, row, answered, poll_at, poll_step, with_drop, drop_at, drop_step, with_task, with_new_op}
use Rattle.machine.specs.Step.{handed_over, with_user, close_if, submit_if, group_of, with_mark}
use Rattle.machine.specs.Run.{after, replies}
use Rattle.run_laws.specs.Headline.{gives_number, GivenInOrder}
use Rattle.machine.proofs.Releasing.{released-beside}
use Rattle.machine.proofs.Amended.{length-amended}
use Rattle.machine.proofs.Taken.{length-take_each, length-make_room}
use Rattle.machine.proofs.Staying.{stays-length, stays-push_each, stays-leave, stays-reap_each}
use Rattle.run_laws.proofs.Replies.{reply-at, reply-event}
use Rattle.run_laws.proofs.Looks.{looked}

-- The operations of a next ledger: one more exactly where the reply gives a number, and that is their count before.
pub record Numbers (L : Ledger) (s : Ledger × Reply) : Type 0 where
  pub count : length s.0.ops ≡ cond (gives_number s.1) 1 0 + length L.ops
  pub number : (n : ℕ) → s.1 ≡ Submitted n → n ≡ length L.ops

-- A handle that is handed over is no operation.
length-handed : (L : Ledger) (made : Option ℕ) → length (handed_over L made).ops ≡ length L.ops
length-handed L None = refl
length-handed L (Some h) = refl

-- A Poll gives no number.
numbers-op : (L : Ledger) (n task : ℕ) (o : Operation) (p : Place) → Numbers L (poll_at L n task o p)
numbers-op L n task o InQueue = record { count = length-amended (with_task task) L.ops n ∙ omega arith; number = λ m q. cc }
numbers-op L n task o InFlight = record { count = length-amended (with_task task) L.ops n ∙ omega arith; number = λ m q. cc }
numbers-op L n task o (InDone outcome) = record { count = length-amended (with_task task) L.ops n ∙ omega arith; number = λ m q. cc }
numbers-op L n task o (Reaped outcome) =
    record {
      count = stays-length (stays-leave (handed_over L o.made) n) ∙ length-handed L o.made ∙ omega arith;
      number = λ m q. cc;
    }
numbers-op L n task o Gone = record { count = length-amended (with_task task) L.ops n ∙ omega arith; number = λ m q. cc }

-- A poll gives no number.
numbers-poll : (L : Ledger) (n task : ℕ) (x : Option Operation) → Numbers L (poll_step L n task x)
numbers-poll L n task None = record { count = omega arith; number = λ m q. cc }
numbers-poll L n task (Some o) = numbers-op L n task o o.place

-- A Drop gives no number.
length-drop_at : (L : Ledger) (n : ℕ) (p : Place) → length (drop_at L n p).ops ≡ length L.ops
length-drop_at L n InQueue = length-make_room L
length-drop_at L n InFlight = length-make_room L
length-drop_at L n (InDone outcome) = length-make_room L
length-drop_at L n (Reaped outcome) = stays-length (stays-leave L n)
length-drop_at L n Gone = length-make_room L

-- A drop gives no number.
numbers-drop : (L : Ledger) (n : ℕ) (x : Option Operation) → Numbers L (drop_step L n x)
numbers-drop L n None = record { count = omega arith; number = λ m q. cc }
numbers-drop L n (Some o) =
    record {
      count = length-drop_at (with_op L n with_drop) n o.place ∙ length-amended with_drop L.ops n ∙ omega arith;
      number = λ m q. cc;
    }

-- An Exec gives no number.
length-exec_op : (L : Ledger) (n : ℕ) (told : Told) (x : Option Operation) → length (exec_op L n told x).ops ≡ length L.ops
length-exec_op L n told None = refl
length-exec_op L n told (Some o) = length-amended (with_result told (effect_of L o.request told)) L.ops n

-- An execution gives no number.
numbers-exec : (L : Ledger) (place : ℕ) (told : Told) (x : Option Item) → Numbers L (exec_step L place told x)
numbers-exec L place told None = record { count = omega arith; number = λ m q. cc }
numbers-exec L place told (Some (Op n)) =
    let E : Ledger = exec_op (complete_at L place (Op n)) n told (slice_get L.ops n) in
    record {
      count = (released-beside told E n).count ∙ length-exec_op (complete_at L place (Op n)) n told (slice_get L.ops n) ∙ omega arith;
      number = λ m q. cc;
    }
numbers-exec L place told (Some (Item.Close k)) = record { count = omega arith; number = λ m q. cc }

-- A close that is pushed, or isn't, keeps the count.
length-closed : (b : Bool) (L : Ledger) (h : ℕ) → length (close_if b L h).ops ≡ length L.ops
length-closed true L h = length-make_room L
length-closed false L h = refl

-- A Submit gives the count, but under a marked group.
numbers-submit : (b : Bool) (L : Ledger) (request : Request Buffer Parts) (group : Option ℕ) (linked : Bool) →
    Numbers L (submit_if b L request group linked)
numbers-submit true L request group linked = record { count = omega arith; number = λ m q. cc }
numbers-submit false L request group linked =
    let o : Operation = new_operation request group linked in record {
      count = length-make_room (with_new_op L o) ∙ length-append L.ops (o ∷ []) ∙ omega arith;
      number = λ m q. cc;
    }

-- Each row keeps the count, and a Submit gives it.
numbers-row : (L : Ledger) (e : Event) → Numbers L (row L e)
numbers-row L (Give kind) = record { count = omega arith; number = λ m q. cc }
numbers-row L (Feed h bytes) = record { count = omega arith; number = λ m q. cc }
numbers-row L (FeedMessage h addr bytes) = record { count = omega arith; number = λ m q. cc }
numbers-row L (End h) = record { count = omega arith; number = λ m q. cc }
numbers-row L (Look h) =
    looked (λ reply. Numbers L (L, reply)) L h (λ b. record { count = omega arith; number = λ m q. cc })
    (λ messages. record { count = omega arith; number = λ m q. cc })
numbers-row L (Close h) =
    let U : Ledger = with_user L h false in
    record { count = length-closed (is_unheld U h) U h ∙ omega arith; number = λ m q. cc }
numbers-row L (Submit request under linked) = numbers-submit (is_under_marked L under) L request (group_under L under) linked
numbers-row L (Poll n task) = numbers-poll L n task (slice_get L.ops n)
numbers-row L (Drop n) = numbers-drop L n (slice_get L.ops n)
numbers-row L (Cancel n) = record { count = length-make_room L ∙ omega arith; number = λ m q. cc }
numbers-row L NewCanceller = record { count = omega arith; number = λ m q. cc }
numbers-row L (NewHandle c) = record { count = omega arith; number = λ m q. cc }
numbers-row L (CancelAll c) =
    let g : ℕ = group_of L c in
    record { count = stays-length (stays-push_each (with_mark L g) (map Queued.Cancel (members L g))) ∙ omega arith; number = λ m q. cc }
numbers-row L Turn =
    record {
      count = stays-length (stays-reap_each (record (take_all L) { done = [] }) (take_all L).done)
          ∙ length-take_each (record L { queue = [] }) L.queue ∙ omega arith;
      number = λ m q. cc;
    }
numbers-row L (Exec place told) = numbers-exec L place told (slice_get L.flying place)

-- Numbers are given in order by an event with whatever cause.
numbers-answered : (L : Ledger) (e : Event) (c : Option Refusal) → Numbers L (answered c L e)
numbers-answered L e None = numbers-row L e
numbers-answered L e (Some refusal) = record { count = omega arith; number = λ m q. cc }

-- A step gives the count of the operations before, or no number.
pub numbers : (L : Ledger) (e : Event) → Numbers L (step L e)
unfolding step
numbers L e = numbers-answered L e (cause L e)

-- A number that is given is the count of the operations before.
pub submitted-number : (L : Ledger) (e : Event) (n : ℕ) → (step L e).1 ≡ Submitted n → n ≡ length L.ops
submitted-number L e n h = (numbers L e).number n h

-- A sum in another order.
regroup : (later after one before : ℕ) → after ≡ one + before → later + after ≡ (one + later) + before
regroup later after one before h = omega arith

-- What each step counts on by one where its reply passes a test, and else leaves, is counted by the replies that pass.
pub counted-after : (count : Ledger → ℕ) (test : Reply → Bool) →
    ((L : Ledger) (e : Event) → count (step L e).0 ≡ cond (test (step L e).1) 1 0 + count L) → (L : Ledger) (events : List Event) (i : ℕ) →
    count (after L (take i events)) ≡ count_by test (take i (replies L events)) + count L
counted-after count test counts L [] zero = omega arith
counted-after count test counts L [] (suc i) = omega arith
counted-after count test counts L (e ∷ events) zero = omega arith
counted-after count test counts L (e ∷ events) (suc i) =
    counted-after count test counts (step L e).0 events i
    ∙ regroup (count_by test (take i (replies (step L e).0 events))) (count (step L e).0) (cond (test (step L e).1) 1 0) (count L)
    (counts L e)
    ∙ ap (λ n. n + count L) (sym (sum_by-cons (λ r. cond (test r) 1 0) (step L e).1 (take i (replies (step L e).0 events))))

-- Numbers are given in order, from 0.
pub given-in-order : (capacity : ℕ) (events : List Event) → GivenInOrder (replies (empty capacity) events)
given-in-order capacity events n i h =
    let e = reply-event (empty capacity) events i (Submitted n) h in
    let r = reply-at (empty capacity) events i e.0 e.1 in
    submitted-number (after (empty capacity) (take i events)) e.0 n (let w = sym r ∙ h in cc)
    ∙ counted-after (λ L. length L.ops) gives_number (λ L e. (numbers L e).count) (empty capacity) events i ∙ omega arith
