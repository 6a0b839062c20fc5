-- What each operation made, and that nobody else holds it: of every ledger that events led to.
use Rattle.std.proofs.Common.{◌≡◌, ◌≢◌, inl, inr, ℕ, ◌<◌, ◌&&◌, Bool, true, false, List, [], ◌∷◌, ◌++◌, length, Option}
use Rattle.std.proofs.Common.{None, Some, slice_get, refl, sym, ◌∙◌, ap, subst, arith, true≢false}
use Rattle.rent_buf.specs.Buffer.{Buffer}
use Rattle.rent_buf.specs.Parts.{Parts}
use Rattle.machine.specs.declared.request.Request.{Request}
use Rattle.machine.specs.declared.request.Told.{Told}
use Rattle.machine.specs.declared.world.HandleState.{HandleState}
use Rattle.machine.specs.declared.ledger.Event.{Event}
use Rattle.machine.specs.declared.ledger.Event.TheVariants.{Give, Feed, FeedMessage, End, Look, Close, Submit, Poll, Drop, Cancel, Turn}
use Rattle.machine.specs.declared.ledger.Event.TheVariants.{Exec}
use Rattle.machine.specs.declared.ledger.Event.TheVariants.{NewCanceller, NewHandle, CancelAll}
use Rattle.machine.specs.declared.ledger.Refusal.{Refusal}
use Rattle.machine.specs.Lists.{has_number, passes}
use Rattle.machine.specs.World.{fresh}
use Rattle.machine.specs.Request.{named, makes, call_of, sent_of}
use Rattle.machine.specs.Effect.{Effect, made_by}
use Rattle.machine.specs.Ledger.{Ledger, Operation, Place, InQueue, InFlight, InDone, Reaped, Gone, Queued, Item, Op}
use Rattle.machine.specs.Ledger.{empty, new_operation, is_kept, is_live, user_holds, with_made, holds, is_holding, is_under_marked}
use Rattle.machine.specs.Ledger.{group_under, members}
use Rattle.machine.specs.Queue.{with_op, at_place, make_room, is_unheld, became_unheld, with_gone}
use Rattle.machine.specs.Turn.{effect_of, with_result, with_effect, made_owners, complete_at, exec_op, exec_step}
use Rattle.machine.specs.Step.{step, row, new_owner, give_step, with_user, with_new_op, submit_if, close_if}
use Rattle.machine.specs.Step.{with_task, handed_over, poll_at, poll_step, with_drop, drop_at, drop_step}
use Rattle.machine.specs.Step.{group_of, with_mark}
use Rattle.machine.specs.Refusal.{cause}
use Rattle.machine.specs.Run.{after, ledger}
use Rattle.machine.specs.Closes.{AreKnown, made_at, MadeAlone}
use Rattle.machine.proofs.Numbers.{and-left, and-right}
use Rattle.machine.proofs.Amended.{get-amended-same, changed-cases, joined-cases, there-before}
use Rattle.machine.proofs.Appended.{get-append-within, get-append-end}
use Rattle.machine.proofs.Requests.{made-makes}
use Rattle.machine.proofs.Staying.{stays-make_room}
use Rattle.machine.proofs.Leaving.{holds-named, holds-either, has-last}
use Rattle.machine.proofs.Users.{user-with_user-other}
use Rattle.machine.proofs.Closing.{known-lists}
use Rattle.machine.proofs.Taking.{in_queue, in_flight, in_done, Listed}
use Rattle.machine.proofs.Listed.{make_room-ops, submit-joined, listed-changed, flying-there}
use Rattle.machine.proofs.Ending.{listed-gone}
use Rattle.machine.proofs.Turning.{Grows, grows-effect, owner-before}
use Rattle.machine.proofs.Stepping.{step-refused, step-row, OwnedAt, found, executed-there, submitted-held}
use Rattle.machine.proofs.Lawful.{Lawful, handed-there, lawful-executed, lawful-step, lawful-ledger}
use Rattle.machine.proofs.Making.{From, OpsFrom, ops_from-then, ops_from-same, ops_from-op, from-gone, ops_from-took, ops_from-push}
use Rattle.machine.proofs.Making.{ops_from-closes, ops_from-cancels, ops_from-leave, ops_from-turn, ops_from-left}
use Rattle.machine.proofs.Releasing.{ops_from-released}

-- A test that can't pass fails.
pub fails-by : (b : Bool) → (b ≡ true → ⊥) → b ≡ false
fails-by true none = absurd (none refl)
fails-by false none = refl

-- What an operation holds the one that it comes from held.
from-holding : (h : ℕ) {o p : Operation} → From o p → is_holding h p ≡ true → is_holding h o ≡ true
from-holding h {o} {p} f is =
    let live = and-left (is_live p) (has_number h (holds p)) is in
    let has = and-right (is_live p) (has_number h (holds p)) is in
    ap (λ b. b && has_number h (holds o)) (f.live live)
    ∙ ap (λ m. has_number h (with_made m (named o.request))) (sym f.made)
    ∙ ap (λ r. has_number h (with_made p.made (named r))) (sym f.request) ∙ has

-- The law stays where each operation comes from one that there was.
pub alone-from : {L M : Ledger} → OpsFrom L M → MadeAlone L → MadeAlone M
alone-from {L} {M} from a = record {
  agrees = λ n p there live. (let o = from.ops n p there in o.2.made ∙ a.agrees n o.0 o.1 (o.2.live live) ∙ sym (o.2.place live));
  users = λ n h p there live made. (
      let o = from.ops n p there in
      fails-by (user_holds M h)
      (λ is. true≢false (sym (from.users h is) ∙ a.users n h o.0 o.1 (o.2.live live) (sym o.2.made ∙ made))));
  others = λ n m h p q there live made other holding. (
      let o = from.ops n p there in
      let r = from.ops m q other in
      a.others n m h o.0 r.0 o.1 (o.2.live live) (sym o.2.made ∙ made) r.1 (from-holding h r.2 holding));
  makers = λ n h p there live made. (
      let o = from.ops n p there in
      ap makes o.2.request ∙ a.makers n h o.0 o.1 (o.2.live live) (sym o.2.made ∙ made));
}

-- A handle that an operation made is there.
pub made-there : (L : Ledger) (n h : ℕ) (o : Operation) → AreKnown L → slice_get L.ops n ≡ Some o → o.made ≡ Some h → h < length L.owners
made-there L n h o known there made =
    known.known n h o there (ap (λ m. has_number h (with_made m (named o.request))) made ∙ has-last h (named o.request))

-- An operation that isn't gone holds the handle that it made.
pub made-holding : (h : ℕ) (o : Operation) → is_live o ≡ true → o.made ≡ Some h → is_holding h o ≡ true
made-holding h o live made =
    ap (λ b. b && has_number h (holds o)) live ∙ ap (λ m. has_number h (with_made m (named o.request))) made ∙ has-last h (named o.request)

-- A new handle.
alone-give : (L : Ledger) (handle : HandleState) → AreKnown L → MadeAlone L → MadeAlone (give_step L handle)
alone-give L handle known a = record {
  agrees = a.agrees;
  users = λ n h o there live made.
      ap (passes (λ owner. owner.is_user)) (get-append-within L.owners new_owner h (made-there L n h o known there made))
      ∙ a.users n h o there live made;
  others = a.others;
  makers = a.makers;
}

-- A new operation on handles that its user holds.
alone-new_op : (L : Ledger) (o : Operation) → o.made ≡ None → o.place ≡ InQueue →
    ((h : ℕ) → has_number h (named o.request) ≡ true → user_holds L h ≡ true) → MadeAlone L → MadeAlone (with_new_op L o)
alone-new_op L o none queued names a = record {
  agrees = λ n p there live. elim (joined-cases L.ops o n) [
    | inl e ↦ (
        let q : o ≡ p = (let w = sym e.2 ∙ there in cc) in
        ap (λ z. z.made) (sym q) ∙ none ∙ ap made_at (sym queued) ∙ ap (λ z. made_at z.place) q)
    | inr e ↦ a.agrees n p (sym e.1 ∙ there) live
  ];
  users = λ n h p there live made. elim (joined-cases L.ops o n) [
    | inl e ↦ absurd (made-none n h p there made e.2)
    | inr e ↦ a.users n h p (sym e.1 ∙ there) live made
  ];
  others = λ n m h p r there live made other holding. elim (joined-cases L.ops o n) [
    | inl e ↦ absurd (made-none n h p there made e.2)
    | inr e ↦ elim (joined-cases L.ops o m) [
      | inl f ↦ (
          let q : o ≡ r = (let w = sym f.2 ∙ other in cc) in
          let has : has_number h (named o.request) ≡ true =
          ap (λ x. has_number h (with_made x (named o.request))) (sym none) ∙ ap (λ z. has_number h (holds z)) q
          ∙ and-right (is_live r) (has_number h (holds r)) holding in
          absurd (true≢false (sym (names h has) ∙ a.users n h p (sym e.1 ∙ there) live made)))
      | inr f ↦ a.others n m h p r (sym e.1 ∙ there) live made (sym f.1 ∙ other) holding
    ]
  ];
  makers = λ n h p there live made. elim (joined-cases L.ops o n) [
    | inl e ↦ absurd (made-none n h p there made e.2)
    | inr e ↦ a.makers n h p (sym e.1 ∙ there) live made
  ];
}
  where
    made-none : (n h : ℕ) (p : Operation) → slice_get (with_new_op L o).ops n ≡ Some p → p.made ≡ Some h →
        slice_get (with_new_op L o).ops n ≡ Some o → ⊥
    made-none n h p there made at =
        let q : o ≡ p = (let w = sym at ∙ there in cc) in
        let f : None ≡ Some h = sym none ∙ ap (λ z. z.made) q ∙ made in cc

-- A submission, under a marked group or not.
alone-submit_if : (b : Bool) (L : Ledger) (request : Request Buffer Parts) (group : Option ℕ) (linked : Bool) →
    ((h : ℕ) → has_number h (named request) ≡ true → user_holds L h ≡ true) → Listed L → MadeAlone L →
    MadeAlone (submit_if b L request group linked).0
alone-submit_if true L request group linked names lists a = a
alone-submit_if false L request group linked names lists a =
    let M : Ledger = make_room L in
    let o : Operation = new_operation request group linked in
    let owners = (stays-make_room L).owners in
    let room : OpsFrom L M = ops_from-took L M owners (λ n. make_room-ops L lists n) in
    let new = alone-new_op M o refl refl
    (λ h is. ap (λ os. passes (λ owner. owner.is_user) (slice_get os h)) owners ∙ names h is) (alone-from room a) in
    subst MadeAlone (sym (submit-joined L request group linked lists))
    (record { agrees = new.agrees; users = new.users; others = new.others; makers = new.makers })

-- The lists hold what the places say once a handle is handed over.
pub listed-handed : (L : Ledger) (made : Option ℕ) → Listed L → Listed (handed_over L made)
listed-handed L None lists = lists
listed-handed L (Some h) lists = record { waiting = lists.waiting; flown = lists.flown; standing = lists.standing }

-- An operation that is returned leaves, and the handle that it made, where it made one, is its user's.
alone-handed : (L : Ledger) (n : ℕ) (o : Operation) → slice_get L.ops n ≡ Some o → is_live o ≡ true → (made : Option ℕ) →
    o.made ≡ made → MadeAlone L → MadeAlone (with_gone (handed_over L made) n)
alone-handed L n o there live None is a = alone-from (ops_from-op L n (at_place Gone) from-gone) a
alone-handed L n o there live (Some k) is a =
    let G : Ledger = with_gone L n in
    let b : MadeAlone G = alone-from (ops_from-op L n (at_place Gone) from-gone) a in
    record {
      agrees = b.agrees;
      users = λ m h p at lives made. user-with_user-other G k h true (apart m h p at lives made) ∙ b.users m h p at lives made;
      others = b.others;
      makers = b.makers;
    }
  where
    apart : (m h : ℕ) (p : Operation) → slice_get (with_gone L n).ops m ≡ Some p → is_live p ≡ true → p.made ≡ Some h → h ≢ k
    apart m h p at lives made same = elim (changed-cases (at_place Gone) L.ops n m) [
      | inl e ↦ (
          let b = there-before (at_place Gone) (slice_get L.ops n) p (sym e.1 ∙ at) in
          true≢false (sym lives ∙ ap is_live b.2))
      | inr e ↦ e.0 (sym (a.others m n k p o (sym e.1 ∙ at) lives (made ∙ ap Some same) there (made-holding k o live is)))
    ]

module _ (L : Ledger) (n : ℕ) (told : Told) (result : Effect) (grows : Grows L.world result)
    (lives : (o : Operation) → slice_get L.ops n ≡ Some o → is_live o ≡ true)
    (makes_it : (h : ℕ) (o : Operation) → slice_get L.ops n ≡ Some o → made_by result.outcome ≡ Some h → makes o.request ≡ true)
    (known : AreKnown L) (a : MadeAlone L) where
  -- What is made is the last handle.
  made-last : (h : ℕ) → made_by result.outcome ≡ Some h → h ≡ length L.owners
  made-last h made = grows.last h made ∙ sym known.together

  -- Its user doesn't hold it yet.
  made-users : (h : ℕ) → made_by result.outcome ≡ Some h → user_holds (with_effect L n told result) h ≡ false
  made-users h made =
      ap (λ m. passes (λ owner. owner.is_user) (slice_get (L.owners ++ made_owners m) h)) made
      ∙ ap (λ i. passes (λ owner. owner.is_user) (slice_get (L.owners ++ made_owners (Some h)) i)) (made-last h made)
      ∙ ap (passes (λ owner. owner.is_user)) (get-append-end L.owners (record { is_user = false }))

  -- No operation that there was holds it.
  made-unheld : (m h : ℕ) (q : Operation) → slice_get L.ops m ≡ Some q → has_number h (holds q) ≡ true →
      made_by result.outcome ≡ Some h → ⊥
  made-unheld m h q there is made =
      let lt = known.known m h q there is in let last = made-last h made in omega (arith, lt, last)

  -- What an executed operation holds it held, or made.
  made-others : (k h : ℕ) (p q : Operation) → k ≢ n → slice_get L.ops k ≡ Some p → is_live p ≡ true → p.made ≡ Some h →
      slice_get L.ops n ≡ Some q → is_holding h (with_result told result q) ≡ true → ⊥
  made-others k h p q other there live made at holding =
      elim (holds-either h (made_by result.outcome) (named q.request)
      (and-right true (has_number h (holds (with_result told result q))) holding)) [
        | inl names ↦ other (sym (a.others k n h p q there live made at
            (ap (λ b. b && has_number h (holds q)) (lives q at) ∙ holds-named h q.made (named q.request) names)))
        | inr makes ↦ made-unheld k h p there
            (ap (λ m. has_number h (with_made m (named p.request))) made ∙ has-last h (named p.request)) makes
      ]

  -- An operation that is executed.
  alone-effect : MadeAlone (with_effect L n told result)
  alone-effect = record {
    agrees = λ k p there live. elim (changed-cases (with_result told result) L.ops n k) [
      | inl e ↦ (
          let b = there-before (with_result told result) (slice_get L.ops n) p (sym e.1 ∙ there) in
          ap (λ z. z.made) b.2 ∙ ap (λ z. made_at z.place) (sym b.2))
      | inr e ↦ a.agrees k p (sym e.1 ∙ there) live
    ];
    users = λ k h p there live made. elim (changed-cases (with_result told result) L.ops n k) [
      | inl e ↦ (
          let b = there-before (with_result told result) (slice_get L.ops n) p (sym e.1 ∙ there) in
          made-users h (ap (λ z. z.made) (sym b.2) ∙ made))
      | inr e ↦
          ap (passes (λ owner. owner.is_user))
          (owner-before L.owners (made_by result.outcome) h (made-there L k h p known (sym e.1 ∙ there) made))
          ∙ a.users k h p (sym e.1 ∙ there) live made
    ];
    others = λ k m h p q there live made other holding. elim (changed-cases (with_result told result) L.ops n k) [
      | inl e ↦ elim (changed-cases (with_result told result) L.ops n m) [
        | inl f ↦ f.0 ∙ sym e.0
        | inr f ↦ (
            let b = there-before (with_result told result) (slice_get L.ops n) p (sym e.1 ∙ there) in
            absurd (made-unheld m h q (sym f.1 ∙ other) (and-right (is_live q) (has_number h (holds q)) holding)
            (ap (λ z. z.made) (sym b.2) ∙ made)))
      ]
      | inr e ↦ elim (changed-cases (with_result told result) L.ops n m) [
        | inl f ↦ (
            let b = there-before (with_result told result) (slice_get L.ops n) q (sym f.1 ∙ other) in
            absurd (made-others k h p b.0 e.0 (sym e.1 ∙ there) live made b.1 (ap (is_holding h) (sym b.2) ∙ holding)))
        | inr f ↦ a.others k m h p q (sym e.1 ∙ there) live made (sym f.1 ∙ other) holding
      ]
    ];
    makers = λ k h p there live made. elim (changed-cases (with_result told result) L.ops n k) [
      | inl e ↦ (
          let b = there-before (with_result told result) (slice_get L.ops n) p (sym e.1 ∙ there) in
          ap (λ z. makes z.request) b.2 ∙ makes_it h b.0 b.1 (ap (λ z. z.made) (sym b.2) ∙ made))
      | inr e ↦ a.makers k h p (sym e.1 ∙ there) live made
    ];
  }

-- An execution of what is in flight.
alone-exec : (L : Ledger) (place : ℕ) (told : Told) (item : Item) → slice_get L.flying place ≡ Some item → Lawful L → MadeAlone L →
    MadeAlone (exec_step L place told (Some item)).0
alone-exec L place told (Op m) there l a =
    let f = flying-there L place m l.lists there in
    let C : Ledger = complete_at L place (Op m) in
    let E : Ledger = exec_op C m told (slice_get L.ops m) in
    alone-from (ops_from-released told E m (lawful-executed L place told m there l).lists)
    (subst (λ x. MadeAlone (exec_op C m told x)) (sym f.1)
    (alone-effect C m told (effect_of L f.0.request told) (grows-effect L.world (call_of f.0.request) (sent_of f.0.request) told)
    (λ o at. (let q : f.0 ≡ o = (let w = sym f.1 ∙ at in cc) in ap is_live (sym q) ∙ ap is_kept f.2))
    (λ h o at made. (
    let q : f.0 ≡ o = (let w = sym f.1 ∙ at in cc) in
    ap (λ z. makes z.request) (sym q) ∙ made-makes L.world f.0.request told h made))
    (known-lists L L.queue C.flying C.done l.known) (record { agrees = a.agrees; users = a.users; others = a.others; makers = a.makers })))
alone-exec L place told (Item.Close k) there l a = record { agrees = a.agrees; users = a.users; others = a.others; makers = a.makers }

-- An operation that a task waits for.
waits : (L : Ledger) (n task : ℕ) → OpsFrom L (with_op L n (with_task task))
waits L n task = ops_from-op L n (with_task task) (λ o. record { request = refl; made = refl; live = λ l. l; place = λ l. refl })

-- A poll, by the place of its operation.
alone-poll : (L : Ledger) (n task : ℕ) (o : Operation) → slice_get L.ops n ≡ Some o → (p : Place) → o.place ≡ p → Listed L → MadeAlone L →
    MadeAlone (poll_at L n task o p).0
alone-poll L n task o there (Reaped outcome) at lists a =
    let H : Ledger = handed_over L o.made in
    let G : Ledger = with_gone H n in
    alone-from
    (ops_from-closes G (became_unheld H G) (listed-gone H n o (listed-handed L o.made lists) (handed-there L o.made n o there)
    (record { queue = ap in_queue at; flight = ap in_flight at; done = ap in_done at })))
    (alone-handed L n o there (ap is_kept at) o.made refl a)
alone-poll L n task o there InQueue at lists a = alone-from (waits L n task) a
alone-poll L n task o there InFlight at lists a = alone-from (waits L n task) a
alone-poll L n task o there (InDone outcome) at lists a = alone-from (waits L n task) a
alone-poll L n task o there Gone at lists a = alone-from (waits L n task) a

-- A drop, by the place of its operation.
ops_from-drop : (L : Ledger) (n : ℕ) (o : Operation) → slice_get L.ops n ≡ Some o → (p : Place) → o.place ≡ p → Listed L →
    OpsFrom L (drop_at L n p)
ops_from-drop L n o there (Reaped outcome) at lists =
    ops_from-leave L n o lists there (record { queue = ap in_queue at; flight = ap in_flight at; done = ap in_done at })
ops_from-drop L n o there InQueue at lists = ops_from-push L (Queued.Cancel n) lists
ops_from-drop L n o there InFlight at lists = ops_from-push L (Queued.Cancel n) lists
ops_from-drop L n o there (InDone outcome) at lists = ops_from-push L (Queued.Cancel n) lists
ops_from-drop L n o there Gone at lists = ops_from-push L (Queued.Cancel n) lists

-- The close of a handle that is pushed, or isn't.
ops_from-close_if : (b : Bool) (L : Ledger) (h : ℕ) → Listed L → OpsFrom L (close_if b L h)
ops_from-close_if true L h lists = ops_from-push L (Queued.Close h) lists
ops_from-close_if false L h lists = ops_from-same L

-- The row of an event that isn't refused.
alone-row : (L : Ledger) (e : Event) → cause L e ≡ None → Lawful L → MadeAlone L → MadeAlone (row L e).0
alone-row L (Give kind) u l a = alone-give L (fresh kind) l.known a
alone-row L (Feed h bytes) u l a = record { agrees = a.agrees; users = a.users; others = a.others; makers = a.makers }
alone-row L (FeedMessage h addr bytes) u l a = record { agrees = a.agrees; users = a.users; others = a.others; makers = a.makers }
alone-row L (End h) u l a = record { agrees = a.agrees; users = a.users; others = a.others; makers = a.makers }
alone-row L (Look h) u l a = a
alone-row L (Close h) u l a =
    let U : Ledger = with_user L h false in
    alone-from (ops_from-then (ops_from-left L h) (ops_from-close_if (is_unheld U h) U h
    (record { waiting = l.lists.waiting; flown = l.lists.flown; standing = l.lists.standing }))) a
alone-row L (Submit request under linked) u l a =
    alone-submit_if (is_under_marked L under) L request (group_under L under) linked (submitted-held L request under linked u) l.lists a
alone-row L (Poll n task) u l a =
    let f : OwnedAt L n = found L n u in
    subst (λ x. MadeAlone (poll_step L n task x).0) (sym f.there)
    (alone-poll L n task f.operation f.there f.operation.place refl l.lists a)
alone-row L (Drop n) u l a =
    let f : OwnedAt L n = found L n u in
    let D : Ledger = with_op L n with_drop in
    subst (λ x. MadeAlone (drop_step L n x).0) (sym f.there)
    (alone-from (ops_from-then
    (ops_from-op L n with_drop (λ o. record { request = refl; made = refl; live = λ y. y; place = λ y. refl }))
    (ops_from-drop D n (with_drop f.operation) (get-amended-same with_drop L.ops n f.operation f.there) f.operation.place refl
    (listed-changed L n with_drop f.operation l.lists f.there (record { queue = refl; flight = refl; done = refl })))) a)
alone-row L (Cancel n) u l a = alone-from (ops_from-push L (Queued.Cancel n) l.lists) a
alone-row L NewCanceller u l a = record { agrees = a.agrees; users = a.users; others = a.others; makers = a.makers }
alone-row L (NewHandle c) u l a = record { agrees = a.agrees; users = a.users; others = a.others; makers = a.makers }
alone-row L (CancelAll c) u l a =
    let g : ℕ = group_of L c in
    let pushed = alone-from (ops_from-cancels (with_mark L g) (members L g)
    (record { waiting = l.lists.waiting; flown = l.lists.flown; standing = l.lists.standing }))
    (record { agrees = a.agrees; users = a.users; others = a.others; makers = a.makers }) in
    record { agrees = pushed.agrees; users = pushed.users; others = pushed.others; makers = pushed.makers }
alone-row L Turn u l a = alone-from (ops_from-turn L l.lists) a
alone-row L (Exec place told) u l a =
    let i = executed-there L place told u in
    subst (λ x. MadeAlone (exec_step L place told x).0) (sym i.1) (alone-exec L place told i.0 i.1 l a)

-- An event, by its cause.
alone-cause : (L : Ledger) (e : Event) (c : Option Refusal) → cause L e ≡ c → Lawful L → MadeAlone L → MadeAlone (step L e).0
alone-cause L e None h l a = subst (λ s. MadeAlone s.0) (sym (step-row L e h)) (alone-row L e h l a)
alone-cause L e (Some refusal) h l a = subst (λ s. MadeAlone s.0) (sym (step-refused L e refusal h)) a

-- So do events.
alone-after : (L : Ledger) (events : List Event) → Lawful L → MadeAlone L → MadeAlone (after L events)
alone-after L [] l a = a
alone-after L (e ∷ events) l a = alone-after (step L e).0 events (lawful-step L e l) (alone-cause L e (cause L e) refl l a)

-- It holds of every ledger that events led to.
pub alone-ledger : (capacity : ℕ) (events : List Event) → MadeAlone (ledger capacity events)
alone-ledger capacity events = alone-after (empty capacity) events (lawful-ledger capacity []) (record {
  agrees = λ n o there live. (let f : ⊥ = cc in absurd f);
  users = λ n h o there live made. (let f : ⊥ = cc in absurd f);
  others = λ n m h o p there live made other holding. (let f : ⊥ = cc in absurd f);
  makers = λ n h o there live made. (let f : ⊥ = cc in absurd f);
})
