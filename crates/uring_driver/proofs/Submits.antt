-- What a submission answers, of a driver that stands for a ledger.
use Rattle.std.proofs.Common.{◌≡◌, inl, inr, ℕ, suc, ◌+◌, ◌<◌, ◌≤◌, Bool, true, false, List, []}
use Rattle.std.proofs.Common.{◌∷◌, ◌++◌, length, Option, Some, None, IfSome, refl, sym, ◌∙◌, ap, subst, arith}
use Rattle.std.proofs.Common.{length-append}
use Rattle.std.specs.Prelude.{slice_get, nat_le, IsTrue, ◌==◌, if◌then◌else◌}
use Rattle.std.specs.Ordering.{nat_cmp}
use Rattle.std.specs.FinMap.{FinMap, get, insert, len}
use Rattle.std.proofs.lemmas.Bool.Decides.{nat_tests}
use Rattle.std.proofs.lemmas.Option.{slice_get_within}
use Rattle.rent_buf.specs.Buffer.{Buffer}
use Rattle.rent_buf.specs.Parts.{Parts}
use Rattle.op_slots.specs.declared.slab.TheConstants.{MAX_LIVE}
use Rattle.op_slots.specs.declared.lifecycle.Lifecycle.TheVariants.{Submitted as Fresh}
use Rattle.ring_core.specs.Ring.{RingView, pushed}
use Rattle.machine.specs.Lists.{one_if}
use Rattle.machine.specs.Request.{named, makes, call_of, held_of, plain_request}
use Rattle.machine.specs.declared.request.Request.{Request}
use Rattle.machine.proofs.Requests.{named-mapped}
use Rattle.ring_core.specs.Entry.{call_entry}
use Rattle.ring_core.specs.declared.entry.Entry.{Entry}
use Rattle.machine.specs.declared.ledger.Event.TheVariants.{Submit}
use Rattle.machine.specs.declared.ledger.Reply.TheVariants.{Submitted, CanceledAtOnce}
use Rattle.machine.specs.Lists.{numbers_where, passes}
use Rattle.machine.specs.Ledger.{Ledger, Queued, Req, Cancel, Operation, is_live, is_owned, live_ops, new_operation}
use Rattle.machine.specs.Ledger.{is_marked, is_under_marked, group_under}
use Rattle.machine.specs.Queue.{with_take, with_cancel, take_one, leader_behind, take_behind, take_all, make_room, append, push}
use Rattle.machine.specs.declared.ledger.TheConstants.{MOST_LIVE}
use Rattle.machine.specs.Step.{step, submit_step, with_new_op}
use Rattle.machine.proofs.Grouping.{op_groups, groups-submit}
use Rattle.machine.proofs.Staying.{groups_of, stays-make_room}
use Rattle.machine.specs.Run.{ledger}
use Rattle.driver_core.specs.declared.op.SubmitFault.{SubmitFault}
use Rattle.driver_core.specs.declared.op.SubmitFault.TheVariants.{Full, RingFault, Busy, Os, OutOfMemory}
use Rattle.driver_core.specs.declared.slot.Slot.{Slot}
use Rattle.uring_driver.specs.declared.uring.IoUringDriver.{IoUringDriver}
use Rattle.uring_driver.specs.Uring.{ring_in, room_in, whole_ring, holds_all}
use Rattle.uring_driver.specs.Holding.{Holding, places, IsSameHolding, HandlesStand}
use Rattle.uring_driver.specs.Making.{KeepsHolding, op_joined}
use Rattle.driver_core.specs.Holds.{CanJoin}
use Rattle.driver_core.specs.declared.op.Op.{Op}
use Rattle.driver_core.specs.Answers.{IsUnder}
use Rattle.driver_core.specs.Groups.{GroupsStand, is_under_canceled, joins_if}
use Rattle.driver_core.specs.Members.{Membership}
use Rattle.driver_core.specs.Op.{AddsToken}
use Rattle.driver_core.specs.Ops.{Ops}
use Rattle.driver_core.specs.Slot.{number_at}
use Rattle.driver_core.proofs.Grouping.{groups-joined, stands-marked, under-group, under-known}
use Rattle.uring_driver.specs.Op.{ops_in}
use Rattle.driver_core.specs.Operations.{Submits, new_slot}
use Rattle.uring_driver.specs.Submissions.{with_spare, room_made}
use Rattle.uring_driver.specs.Stands.{Stands, Answers}
use Rattle.uring_driver.specs.Submitted.{IsSameRing, WhyRefused, CannotSubmit}
use Rattle.machine.proofs.Amended.{amended-append, amended-append-fixed, length-amended}
use Rattle.machine.proofs.Appended.{get-append-within}
use Rattle.driver_core.proofs.Counts.{where-more, where-within, owned-lives}
use Rattle.uring_driver.proofs.Means.{Means, means-of, ring-of}
use Rattle.uring_driver.proofs.Entering.{room-capacity}
use Rattle.uring_driver.proofs.Holders.{lacks-none, req-queued, means-early, handles-room, handles-joined}
use Rattle.uring_driver.proofs.Joining.{keeps-same, places-joined}
use Rattle.uring_driver.proofs.Starting.{stands-same}
use Rattle.uring_driver.proofs.Steps.{reached-more, step-submit, step-canceled}
use Rattle.uring_driver.proofs.Submitting.{means-pushed}
use Rattle.uring_driver.proofs.Heads.{means-view}
use Rattle.uring_driver.proofs.Taking.{means-room, owned-room}
use Rattle.machine.proofs.Taken.{length-make_room}

-- A request in the queue is that of an operation that there is.
abbrev IsKnown : ℕ → Queued → Type 0
IsKnown count (Req n) = n < count
IsKnown count (Cancel n) = Unit {0}
IsKnown count (Queued.Close h) = Unit {0}

-- Each entry of a queue does.
abbrev AllKnown : ℕ → List Queued → Type 0
AllKnown count [] = Unit {0}
AllKnown count (q ∷ qs) = IsKnown count q × AllKnown count qs

-- An operation joins whichever ledger is taken.
if-new_op : (b : Bool) (L M : Ledger) (o : Operation) → (if b then with_new_op M o else with_new_op L o)
    ≡ with_new_op (if b then M else L) o
if-new_op true L M o = refl
if-new_op false L M o = refl

-- Taking leaves an operation that isn't in the queue and has no cancel that does anything.
module _ (o : Operation) (fixed : with_cancel o ≡ o) where
  -- Taking one entry leaves such an operation.
  take_one-new_op : (leader : Option ℕ) (L : Ledger) (q : Queued) → IsKnown (length L.ops) q →
      take_one leader (with_new_op L o) q ≡ with_new_op (take_one leader L q) o
  take_one-new_op leader L (Req n) h = ap (λ ops. record (take_one leader L (Req n)) { ops = ops })
      (amended-append L.ops (o ∷ []) n (with_take leader) h)
  take_one-new_op leader L (Cancel n) h = ap (λ ops. record L { ops = ops }) (amended-append-fixed L.ops o n with_cancel fixed)
  take_one-new_op leader L (Queued.Close k) h = refl

  -- An entry leads whom it led.
  leader-new_op : (L : Ledger) (q : Queued) → IsKnown (length L.ops) q → leader_behind (with_new_op L o) q ≡ leader_behind L q
  leader-new_op L (Req n) h = ap (λ x. if passes (λ operation. operation.linked) x then Some n else None) (get-append-within L.ops o n h)
  leader-new_op L (Cancel n) h = refl
  leader-new_op L (Queued.Close k) h = refl

  -- Taking one entry adds no operation.
  length-take_one : (leader : Option ℕ) (L : Ledger) (q : Queued) → length (take_one leader L q).ops ≡ length L.ops
  length-take_one leader L (Req n) = length-amended (with_take leader) L.ops n
  length-take_one leader L (Cancel n) = length-amended with_cancel L.ops n
  length-take_one leader L (Queued.Close k) = refl

  -- Taking entries leaves the operation, whatever the first of them follows.
  take_behind-new_op : (leader : Option ℕ) (L : Ledger) (qs : List Queued) → AllKnown (length L.ops) qs →
      take_behind leader (with_new_op L o) qs ≡ with_new_op (take_behind leader L qs) o
  take_behind-new_op leader L [] h = refl
  take_behind-new_op leader L (q ∷ qs) h =
      ap (λ next. take_behind next (take_one leader (with_new_op L o) q) qs) (leader-new_op L q h.0)
      ∙ ap (λ M. take_behind (leader_behind L q) M qs) (take_one-new_op leader L q h.0)
      ∙ take_behind-new_op (leader_behind L q) (take_one leader L q) qs
      (subst (λ k. AllKnown k qs) (sym (length-take_one leader L q)) h.1)

  -- A push after the operation was appended is the operation appended after room was made, then the entry.
  push-new_op : (L : Ledger) (q : Queued) → AllKnown (length L.ops) L.queue → push (with_new_op L o) q
      ≡ append (with_new_op (make_room L) o) q
  push-new_op L q h =
      ap (λ M. append (if length L.queue == L.capacity then M else with_new_op L o) q)
      (take_behind-new_op None (record L { queue = [] }) L.queue h)
      ∙ ap (λ M. append M q) (if-new_op (length L.queue == L.capacity) L (take_all L) o)

-- What is queued was given before.
queue-numbers : {B : Type 0} (buffer : B → Buffer) (v : RingView) (slots : FinMap nat_cmp (Slot B)) (L : Ledger) → Means buffer v slots L →
    (i n : ℕ) → slice_get L.queue i ≡ Some (Req n) → n < length L.ops
queue-numbers buffer v slots L old i n h =
    let at = req-queued buffer v slots L old i n h in slice_get_within L.ops n at.operation at.there

-- Each entry names an operation that there is, where each request in the queue does.
all-known : (count : ℕ) (qs : List Queued) → ((i n : ℕ) → slice_get qs i ≡ Some (Req n) → n < count) → AllKnown count qs
all-known count [] h = tt
all-known count (Req n ∷ qs) h = (h 0 n refl, all-known count qs (λ i m g. h (suc i) m g))
all-known count (Cancel n ∷ qs) h = (tt, all-known count qs (λ i m g. h (suc i) m g))
all-known count (Queued.Close k ∷ qs) h = (tt, all-known count qs (λ i m g. h (suc i) m g))

-- There is room for one more live operation.
is-room : (n : ℕ) → n < MAX_LIVE → nat_le MOST_LIVE n ≡ false
is-room n h = grind (arith, nat_tests)

-- Its group is marked exactly where the driver's is canceled.
under-marked : (m : Membership) (L : Ledger) (under handle : Option ℕ) → GroupsStand m L → IsUnder L under handle →
    IfSome under (λ g. g < length m.groups) → is_under_marked L handle ≡ is_under_canceled m under
under-marked m L None handle stand is within = ap (λ g. passes (is_marked L) g) (ap (group_under L) is)
under-marked m L (Some g) handle stand is within = ap (λ x. passes (is_marked L) x) is ∙ stands-marked m L stand g within

module _ {R B : Type 0} (view : R → RingView) (buffer : B → Buffer) where
  -- Under a canceled group the driver stays, and the machine's reply is what the request holds.
  pub stands-canceled : (d : IoUringDriver R B) (L : Ledger) (request : Request B Parts) (under handle : Option ℕ) (linked : Bool) →
      Stands view buffer d L → IsTrue (holds_all d (named request)) → IsUnder L under handle →
      IfSome under (λ g. g < length d.members.groups) → is_under_canceled d.members under ≡ true →
      Answers view buffer L (Submit (plain_request buffer request) handle linked)
      (CanceledAtOnce (held_of (plain_request buffer request))) d
  stands-canceled d L request under handle linked old user names_group within marked =
      let r = plain_request buffer request in
      let names : named r ≡ named request = named-mapped buffer (λ parts. parts) request in
      let user' = lacks-none d L (named r) old.handles.holders.users (ap (holds_all d) names ∙ user) in
      let s = step-canceled L r handle linked (under-known L r under handle linked names_group) user'
      (under-marked d.members L under handle old.groups names_group within ∙ marked) in
      record { reply_is = ap (λ x. x.1) s; stands = subst (λ K. Stands view buffer d K) (sym (ap (λ x. x.0) s)) old }

  -- A submission that went well answers what the machine does.
  pub stands-submits : (d new : IoUringDriver R B) (L : Ledger) (request : Request B Parts) (under handle : Option ℕ) (linked : Bool)
      (key spare spare' : ℕ) (mid : RingView) (held : Holding) →
      Stands view buffer d L → IsTrue (holds_all d (named request)) → len d.slots.values < MAX_LIVE → get d.slots.values key ≡ None →
      key < MAX_LIVE →
      new.slots.values ≡ insert d.slots.values key (record { serial = d.given; request = request; life = Fresh }) →
      mid ≡ with_spare (room_made (whole_ring view d)) spare → length mid.queue < mid.capacity →
      whole_ring view new
      ≡ with_spare (pushed mid (call_entry key d.given linked (call_of (plain_request buffer request)))) spare' →
      IsSameHolding d.holding held → len d.slots.values + (places held + one_if (makes request)) + 1 ≤ room_in new →
      CanJoin held.table (named request) → new.given ≡ d.given + 1 → new.holding ≡ op_joined held (named request) (makes request) →
      IsUnder L under handle → IfSome under (λ g. g < length d.members.groups) → is_under_canceled d.members under ≡ false →
      (op : Op) → op.number ≡ d.given → AddsToken (ops_in d) (ops_in new) op →
      new.members ≡ joins_if d.members under op.number op.key →
      Answers view buffer L (Submit (plain_request buffer request) handle linked) (Submitted op.number) new
  stands-submits d new L request under handle linked key spare spare' mid held old user few free below put made has_room ring same_held
      more can given holding names_group within unmarked op is adds members =
      let r = plain_request buffer request in
      let v = whole_ring view d in
      let before = means-of old in
      let entry : Entry = call_entry key d.given linked (call_of r) in
      let names : named r ≡ named request = named-mapped buffer (λ parts. parts) request in
      let user' = lacks-none d L (named r) old.handles.holders.users (ap (holds_all d) names ∙ user) in
      let s = step-submit L r handle linked (under-known L r under handle linked names_group) user'
      (under-marked d.members L under handle old.groups names_group within ∙ unmarked)
      (is-room (length (live_ops L)) (subst (λ n. n < MAX_LIVE) old.operations.in_slots.counted few))
      ∙ ap (λ g. (submit_step L r g linked, Submitted (length L.ops))) (under-group L under handle names_group) in
      let M = make_room L in
      let o = new_operation r under linked in
      let order : submit_step L r under linked ≡ append (with_new_op M o) (Req d.given) =
      push-new_op o refl L (Req (length L.ops))
      (all-known (length L.ops) L.queue (queue-numbers buffer v d.slots.values L before))
      ∙ ap (λ n. append (with_new_op M o) (Req n)) (sym old.operations.numbered) in
      let e = s ∙ ap (λ K. (K, Submitted (length L.ops))) order in
      let long : length M.ops ≡ length L.ops = length-make_room L in
      let roomy = means-room buffer v d.slots.values L before in
      let m : Means buffer mid d.slots.values M = subst (λ x. Means buffer x d.slots.values M) (sym made)
      (means-view buffer (room_made v) (with_spare (room_made v) spare) d.slots.values M refl refl refl refl refl roomy) in
      let p = means-pushed buffer mid d.slots.values M d.given key request under linked m (old.operations.numbered ∙ sym long) free below in
      let capacity : (view (ring_in new)).capacity ≡ v.capacity = ap (λ x. x.capacity) ring ∙ ap (λ x. x.capacity) made ∙ room-capacity v in
      let means = subst (λ K. Means buffer (whole_ring view new) new.slots.values K) (sym (ap (λ x. x.0) e))
      (subst (λ x. Means buffer x new.slots.values (append (with_new_op M o) (Req d.given))) (sym ring)
      (subst (λ x. Means buffer (with_spare (pushed mid entry) spare') x (append (with_new_op M o) (Req d.given)))
      (sym put)
      (means-view buffer (pushed mid entry) (with_spare (pushed mid entry) spare')
      (insert d.slots.values key (record { serial = d.given; request = request; life = Fresh }))
      (append (with_new_op M o) (Req d.given)) refl refl refl refl refl p))) in
      let number : op.number ≡ length L.ops = is ∙ old.operations.numbered in
      let grouped = groups-submit L r under linked in
      record {
        reply_is = ap (λ x. x.1) s ∙ ap (λ x. Submitted x) (sym number);
        stands = record {
          events = old.events ++ Submit r handle linked ∷ [];
          reached = reached-more L (view (ring_in new)).capacity old.events (Submit r handle linked)
              (old.reached ∙ ap (λ x. ledger x old.events) (sym capacity));
          operations = record {
            numbered = given ∙ ap (λ n. n + 1) (old.operations.numbered ∙ sym long) ∙ sym (length-append M.ops (o ∷ []))
                ∙ ap (λ x. length x.0.ops) (sym e);
            in_slots = means.in_slots;
          };
          handles = subst (λ K. HandlesStand new.holding K) (sym (ap (λ x. x.0) e))
              (subst (λ h. HandlesStand h (append (with_new_op M o) (Req d.given)))
              (sym (holding ∙ ap (λ hs. op_joined held hs (makes request)) (sym names)))
              (handles-joined held L r under linked d.given (means-early buffer v d.slots.values L before) (makes request)
              (handles-room d.holding held L same_held old.handles)));
          groups = subst (λ m. GroupsStand m (step L (Submit r handle linked)).0) (sym members)
              (groups-joined buffer (ops_in d) (ops_in new) L (step L (Submit r handle linked)).0 d.members op under old.operations.in_slots
              means.in_slots adds (ap (λ x. groups_of x.0) s ∙ grouped.0) (ap (λ x. op_groups x.0) s ∙ grouped.1) number old.groups op.key
              within unmarked);
          room = (
              let a = where-more is_owned M.ops o refl in
              let b = owned-room buffer v d.slots.values L before in
              let c = where-within is_owned is_live L.ops owned-lives in
              let k = old.operations.in_slots.counted in
              let f = ap (λ x. length (numbers_where is_owned 0 x.0.ops)) e in
              let h = ap places holding in
              let j = places-joined held (named request) (makes request) can in
              omega (arith, a, b, c, k, f, h, j, more));
          fits = (let a = ap (λ x. length x.queue) ring in let b = length-append mid.queue (entry ∷ []) in
              let k = ap (λ x. x.capacity) ring in omega (arith, a, b, k, has_room));
          few = (let a = ap (λ x. length x.0.world) e in let b = ap length (stays-make_room L).world in let f = old.few in
              omega (arith, a, b, f));
          ring = ring-of means;
        };
      }

  -- Why a submission was refused, by what preparing it left.
  pub why-refused : (d new : IoUringDriver R B) (steady : Bool) (why : SubmitFault) (maker : Bool) →
      KeepsHolding maker d.holding new.holding → (why ≡ Full → new.holding ≡ d.holding) →
      new ≡ record d { ring = new.ring; slots = new.slots; holding = new.holding } → new.slots.values ≡ d.slots.values →
      CannotSubmit view steady d.ring new.ring d.slots new.slots why → WhyRefused view buffer steady d new why
  why-refused d new steady Full maker keeps full same values h =
      same ∙ ap (λ r. record d { ring = r; slots = new.slots; holding = new.holding }) h.1
      ∙ ap (λ s. record d { slots = s; holding = new.holding }) h.2 ∙ ap (λ x. record d { holding = x }) (full refl)
  why-refused d new steady RingFault maker keeps full same values h = h.1
  why-refused d new steady Busy maker keeps full same values h = h.1
  why-refused d new steady (Os code) maker keeps full same values h = absurd h
  why-refused d new steady OutOfMemory maker keeps full same values h = λ L old.
      stands-same view buffer d new L _ h.1.ring h.1.due h.1.room values (ap (λ x. x.given) same)
      (keeps-same maker d.holding new.holding keeps) (ap (λ x. x.members) same) old

  -- Where memory ran out the ring has other room at most.
  pub same-room : (d new : IoUringDriver R B) (steady : Bool) (why : SubmitFault) →
      CannotSubmit view steady d.ring new.ring d.slots new.slots why → why ≡ OutOfMemory → IsSameRing view d new
  same-room d new steady Full h e = (let f : ⊥ = cc in absurd f)
  same-room d new steady RingFault h e = (let f : ⊥ = cc in absurd f)
  same-room d new steady Busy h e = (let f : ⊥ = cc in absurd f)
  same-room d new steady (Os code) h e = absurd h
  same-room d new steady OutOfMemory h e = record { ring = h.1.ring; due = h.1.due }

-- What a submission put in the slots, over those that were there before.
pub put-over : {B : Type 0} (old mid new : Ops B) (request : Request B Parts) (op : Op) → mid.slots.values ≡ old.slots.values →
    mid.given ≡ old.given → Submits mid new request op → Submits old new request op
put-over old mid new request op same given puts = record {
  free = sym (ap (λ m. get m op.key) same) ∙ puts.free;
  below = puts.below;
  number = puts.number ∙ given;
  slots = puts.slots ∙ ap (λ m. insert m op.key (new_slot mid request)) same
      ∙ ap (λ n. insert old.slots.values op.key (record { serial = n; request = request; life = Fresh })) given;
  given = puts.given ∙ ap (λ n. n + 1) given;
}

-- The token that a submission added, over the slots that were there before.
pub adds-over : {B : Type 0} (old mid new : Ops B) (op : Op) → mid.slots.values ≡ old.slots.values → mid.given ≡ old.given →
    AddsToken mid new op → AddsToken old new op
adds-over old mid new op same given adds = record {
  this = adds.this;
  kept = λ o h. adds.kept o (ap (λ m. number_at m o.key) same ∙ h);
  only = λ o h. elim (adds.only o h) [ inl e ↦ inl e | inr q ↦ inr (sym (ap (λ m. number_at m o.key) same) ∙ q) ];
  number = adds.number ∙ given;
  next = adds.next ∙ ap (λ n. n + 1) given;
}
