-- What a poll does to a readiness driver, and to one that is one as plain data.
use Rattle.std.proofs.Common.{◌≡◌, ◌≢◌, inl, inr, ◌⊎◌, ℕ, ◌+◌, ◌<◌, ◌||◌, Bool, true}
use Rattle.std.proofs.Common.{false, List, [], ◌∷◌, ◌++◌, length, Option, Some, None}
use Rattle.std.proofs.Common.{not, refl, sym, ◌∙◌, ap, subst, arith}
use Rattle.std.specs.Prelude.{is_some, nat_le, IsTrue, option_to_list}
use Rattle.std.specs.Cmp.{nat_cmp_total}
use Rattle.std.specs.Ordering.{nat_cmp}
use Rattle.std.specs.FinMap.{FinMap, get, insert, remove, len, same_map, nat_cmp-IsAntisymmetric}
use Rattle.std.proofs.lemmas.Bool.Decides.{nat_tests}
use Rattle.rent_buf.specs.Buffer.{Buffer}
use Rattle.rent_buf.specs.Held.{HeldBuf}
use Rattle.handle_core.specs.Table.{Table, by_user}
use Rattle.machine.specs.declared.world.TheConstants.{MOST_HANDLES}
use Rattle.machine.specs.declared.ledger.Event.TheVariants.{Poll}
use Rattle.machine.specs.declared.ledger.Refusal.TheVariants.{NoOp}
use Rattle.machine.specs.declared.ledger.Reply.TheVariants.{Pending as Waits, Handed}
use Rattle.machine.specs.declared.request.TheConstants.{CANCELED}
use Rattle.machine.specs.declared.request.Outcome.{Outcome}
use Rattle.machine.specs.declared.request.Told.{Told}
use Rattle.machine.specs.declared.request.Told.TheVariants.{Fail}
use Rattle.machine.specs.declared.world.HandleState.{HandleState}
use Rattle.machine.specs.Effect.{made_by}
use Rattle.machine.specs.Refusal.{refused_if}
use Rattle.machine.specs.Request.{named, call_of, sent_of, held_of, plain_request}
use Rattle.machine.proofs.Numbers.{same-or-not}
use Rattle.machine.proofs.Turning.{Grows, grows-effect}
use Rattle.driver_core.specs.declared.op.Done.{Done}
use Rattle.driver_core.specs.declared.slot.Slot.{Slot}
use Rattle.driver_core.specs.Holds.{named_in, without_ops, unheld_by}
use Rattle.driver_core.specs.Members.{ArePlaced, leaves}
use Rattle.driver_core.specs.Op.{KeepsTokens}
use Rattle.driver_core.specs.Slot.{number_at}
use Rattle.driver_core.proofs.Numbers.{owner}
use Rattle.driver_core.proofs.Maps.{put-same, put-other, gone-same, gone-other, len-put}
use Rattle.driver_core.proofs.Lists.{length-option}
use Rattle.ready_driver.specs.Awaits.{IsWorldUnmet}
use Rattle.ready_driver.specs.HandlesStand.{HandlesStand}
use Rattle.ready_driver.specs.Io.{IoView}
use Rattle.ready_driver.specs.Legacy.{LegacyOp, Legacy, slot_at}
use Rattle.ready_driver.specs.LegacyPolls.{HandsOver, outcome_if, outcome_by, outcome_for}
use Rattle.ready_driver.specs.LegacyStands.{GroupsStand, LegacyStands, LegacyAnswers}
use Rattle.ready_driver.specs.LegacyState.{LegacyState, ops_in}
use Rattle.ready_driver.specs.LegacyStep.{freed, users_with, op_effect, ends_with, poll_op, poll_slot, legacy_answered, legacy_step}
use Rattle.ready_driver.specs.Named.{KeepsSlot, ReturnsSlot, AreNaming}
use Rattle.ready_driver.specs.Polling.{PartsStand}
use Rattle.ready_driver.specs.Ready.{meets, mask_of}
use Rattle.ready_driver.specs.Records.{Kept, io_at}
use Rattle.ready_driver.specs.Registry.{Handling, is_known, is_old, IsSameButRoom, LetsGo}
use Rattle.ready_driver.specs.Reports.{with_key, with_made_key, ShowsBits}
use Rattle.ready_driver.specs.Turns.{AreReported}
use Rattle.machine.specs.Attempt.{is_readable_at}
use Rattle.ready_driver.proofs.Events.{fits, driven, names-are, live-freed, left-handles}
use Rattle.ready_driver.proofs.Grouped.{groups-freed}
use Rattle.ready_driver.proofs.Holding.{tries-memory, standing-room}
use Rattle.ready_driver.proofs.Naming.{naming-given}
use Rattle.ready_driver.proofs.Standing.{standing-like, standing-given, fresh-unknown}

-- Slots of which one was written are so many as before.
pub written-len : {X : Type 0} (old new : FinMap nat_cmp X) (key : ℕ) (s t : X) → get old key ≡ Some s → get new key ≡ Some t →
    ((k : ℕ) → k ≢ key → get new k ≡ get old k) → len new ≡ len old
written-len old new key s t there now others =
    ap len (same_map nat_cmp_total nat_cmp-IsAntisymmetric new (insert old key t) (λ k. elim (same-or-not k key) [
      | inl e ↦ ap (get new) e ∙ now ∙ sym (put-same old key t) ∙ ap (get (insert old key t)) (sym e)
      | inr e ↦ others k e ∙ sym (put-other old key t k e)
    ]))
    ∙ len-put old key t s there

-- Slots of which one is free now are those without it.
pub freed-slots : {X : Type 0} (old new : FinMap nat_cmp X) (key : ℕ) → get new key ≡ None →
    ((k : ℕ) → k ≢ key → get new k ≡ get old k) → new ≡ remove old key
freed-slots old new key free others =
    same_map nat_cmp_total nat_cmp-IsAntisymmetric new (remove old key) (λ k. elim (same-or-not k key) [
      | inl e ↦ ap (get new) e ∙ free ∙ sym (gone-same old key) ∙ ap (get (remove old key)) (sym e)
      | inr e ↦ others k e ∙ sym (gone-other old key k e)
    ])

-- No bit meets what an operation waits for, by records that are the same but for memory.
unmet-room : {B : Type 0} (old new : Kept) (world : List HandleState) (slot : Option (Slot B)) → new.handles ≡ old.handles →
    IsWorldUnmet new world slot → IsWorldUnmet old world slot
unmet-room old new world slot same is = record {
  handle = is.handle;
  direction = is.direction;
  awaited_is = is.awaited_is;
  unmet = ap (λ m. meets (io_at (record old { handles = m }) is.handle).ready (mask_of is.direction)) (sym same) ∙ is.unmet;
}

-- Each held handle has its bits, by holders and records that are the same but for memory.
pub reported-room : {I : Type 0} (old new : Handling I) (world : List HandleState) → IsSameButRoom old new →
    AreReported old.table old.records world → AreReported new.table new.records world
reported-room old new world same shows = λ h known.
    subst (λ m. ShowsBits (is_readable_at world h) (io_at (record new.records { handles = m }) h).ready) (sym same.records)
    (shows h (ap (λ m. is_some (get m h)) (sym same.table) ∙ known))

-- Of two tests that both fail, the first one does.
pub or-first : (a b : Bool) → (a || b) ≡ false → a ≡ false
or-first false b is = refl
or-first true b is = is

-- A handle that was made, or none, leaves the count of operations.
pub naming-handed : {I B : Type 0} (view : I → IoView) (tells memory : Bool) (old new : Handling I) (made : Option ℕ)
    (slots : FinMap nat_cmp (Slot B)) (given : ℕ) → HandsOver view tells memory old made new → AreNaming old.table slots given →
    AreNaming new.table slots given
naming-handed view tells memory old new None slots given is are = subst (λ x. AreNaming x.table slots given) (sym is) are
naming-handed view tells memory old new (Some h) slots given is are =
    naming-given old.table new.table slots given h are (or-first (is_known old.table h) (nat_le MOST_HANDLES h) is.0) is.1.table

-- How a poll of a driver as plain data ended an operation: it is gone, with these handles, and its user has the one that it made.
pub record PollEnd (D new : Legacy) (n : ℕ) (outcome : Outcome) : Type 0 where
  pub world : List HandleState
  pub is : new ≡ record (freed D n) { world = world; users = users_with (made_by outcome) D.users }
  pub last : (h : ℕ) → made_by outcome ≡ Some h → h ≡ length D.world
  pub count : length world ≡ length D.world + length (option_to_list (made_by outcome))

-- It ended with this report.
told-end : (D : Legacy) (n : ℕ) (op : LegacyOp) (told : Told) (outcome : Outcome) (buf : HeldBuf) →
    (ends_with D n op told).1 ≡ Handed outcome buf → PollEnd D (ends_with D n op told).0 n outcome
told-end D n op told outcome buf reply =
    let grows : Grows D.world (op_effect D op told) = grows-effect D.world (call_of op.request) (sent_of op.request) told in
    let same : (op_effect D op told).outcome ≡ outcome = cc in
    subst (PollEnd D (ends_with D n op told).0 n) same
    (record { world = (op_effect D op told).world; is = refl; last = grows.last; count = grows.count })

-- A poll that hands its operation back ended it.
polled-end : (asked : Bool) (made : Option Told) (D : Legacy) (n : ℕ) (op : LegacyOp) (outcome : Outcome) (buf : HeldBuf) →
    (poll_op asked made D n op).1 ≡ Handed outcome buf → PollEnd D (poll_op asked made D n op).0 n outcome
polled-end true made D n op outcome buf reply = told-end D n op (Fail CANCELED) outcome buf reply
polled-end false None D n op outcome buf reply = (let f : ⊥ = cc in absurd f)
polled-end false (Some told) D n op outcome buf reply = told-end D n op told outcome buf reply

-- The same of the operation that was looked up.
pub poll-end : (D : Legacy) (n : ℕ) (op : LegacyOp) (outcome : Outcome) (buf : HeldBuf) → slot_at D n ≡ Some op →
    (poll_slot D n (slot_at D n)).1 ≡ Handed outcome buf → PollEnd D (poll_slot D n (slot_at D n)).0 n outcome
poll-end D n op outcome buf there reply =
    subst (λ x. PollEnd D (poll_slot D n x).0 n outcome) (sym there)
    (polled-end op.asked _ D n op outcome buf (ap (λ x. (poll_slot D n x).1) (sym there) ∙ reply))

-- A handle that is the next one of the world isn't refused.
next-new : (table : Table) (keys : List (Option ℕ)) (D : Legacy) → HandlesStand table keys D → length D.world < MOST_HANDLES → (h : ℕ) →
    h ≡ length D.world → is_old table h ≡ false
next-new table keys D st few h is =
    ap (is_old table) is ∙ ap (λ b. b || nat_le MOST_HANDLES (length D.world)) (fresh-unknown table keys D st)
    ∙ (grind (arith, nat_tests))

-- So the outcome is what the call ended with.
pub outcome-kept : (table : Table) (keys : List (Option ℕ)) (D : Legacy) (outcome : Outcome) → HandlesStand table keys D →
    length D.world < MOST_HANDLES → ((h : ℕ) → made_by outcome ≡ Some h → h ≡ length D.world) → outcome_for table outcome ≡ outcome
outcome-kept table keys D outcome st few last = by (made_by outcome) refl
  where
    by : (x : Option ℕ) → made_by outcome ≡ x → outcome_by table outcome x ≡ outcome
    by None is = refl
    by (Some h) is = ap (λ b. outcome_if b outcome) (next-new table keys D st few h (last h is))

-- The handles of an operation that a poll ended, by what it made: that one is its user's, and those that it named are let go.
module _ {I : Type 0} (view : I → IoView) (tells memory : Bool) (mid handed new : Handling I) (keys : List (Option ℕ)) (D : Legacy)
    (n : ℕ) (op : LegacyOp) (names : List ℕ) (world : List HandleState) (in_memory : IsTrue memory) (shows : IsTrue tells)
    (st : HandlesStand mid.table keys D) (there : slot_at D n ≡ Some op) (is : names ≡ named op.request)
    (lets : LetsGo view tells memory handed (without_ops handed.table names) (unheld_by handed.table names) new) where
  -- The world is as the poll left it.
  pub ended-world : (made : Option ℕ) → HandsOver view tells memory mid made handed → (view new.io).world ≡ (view mid.io).world
  ended-world None same = lets.object.world shows ∙ ap (λ x. (view x.io).world) same
  ended-world (Some h) hands =
      lets.object.world shows
      ∙ (tries-memory tells memory h hands.1.key (view mid.io) (view handed.io) hands.1.taken in_memory shows hands.1.tries).0

  pub ended-handles : (made : Option ℕ) → HandsOver view tells memory mid made handed → (view mid.io).keys ≡ with_made_key made keys →
      ((h : ℕ) → made ≡ Some h → h ≡ length D.world) → length world ≡ length D.world + length (option_to_list made) →
      HandlesStand new.table (view new.io).keys (record (freed D n) { world = world; users = users_with made D.users })
  ended-handles None same keyed last count =
      let E : Legacy = record D { world = world } in
      left-handles view tells memory handed new E n op names in_memory
      (subst (λ x. HandlesStand x.table (view x.io).keys E) (sym same)
      (subst (λ ks. HandlesStand mid.table ks E) (sym keyed)
      (standing-like mid.table keys D E st refl (λ h. refl) (omega (arith, count))))) there is lets
  ended-handles (Some h) hands keyed last count =
      let E : Legacy = record D { world = world; users = D.users ++ true ∷ [] } in
      let here : h ≡ length D.world = last h refl in
      let tried = tries-memory tells memory h hands.1.key (view mid.io) (view handed.io) hands.1.taken in_memory shows hands.1.tries in
      left-handles view tells memory handed new E n op names in_memory
      (standing-given mid.table keys D st handed.table (view handed.io).keys world hands.1.key
      (subst (λ k. handed.table.holders ≡ insert mid.table.holders k by_user) here hands.1.table)
      (subst (λ k. (view handed.io).keys ≡ with_key (keys ++ None ∷ []) k (Some hands.1.key)) here
      (tried.1 ∙ ap (λ ks. with_key ks h (Some hands.1.key)) keyed)) count) there is lets

-- A driver that is one as plain data, and a poll of an operation of it, for which memory was reserved.
module _ {I B : Type 0} (view : I → IoView) (buffer : B → Buffer) (d : LegacyState I B) (D : Legacy) (old : LegacyStands view buffer d D)
  where
    -- Its operations and handles are those of the driver, but for memory.
    pub parts-room : (room : Handling I) → IsSameButRoom d.handling room → PartsStand buffer (ops_in d) (view room.io).world D
    parts-room room same = record {
      operations = old.parts.operations;
      handles = ap (λ i. (view i).world) same.io ∙ old.parts.handles;
    }

    -- So are its holders, with the keys of its object.
    pub room-handles : (room mid : Handling I) → IsSameButRoom d.handling room → mid.table ≡ room.table →
        HandlesStand mid.table (view d.handling.io).keys D
    room-handles room mid same table =
        standing-room d.handling.table mid.table (view d.handling.io).keys D (ap (λ t. t.holders) table ∙ same.table) old.handles

    module _ (key n : ℕ) (holds : number_at d.slots.values key ≡ Some n) where
      -- An event on the operation isn't refused.
      poll-row : (task : ℕ) → legacy_step D (Poll n task) ≡ poll_slot D n (slot_at D n)
      poll-row task =
          ap (λ x. legacy_answered (refused_if (not (is_some x)) NoOp None) D (Poll n task)) (driven view buffer d D old key n holds)

      -- A poll that is pending: no bit meets its direction, or the driver waits.
      pub step-waits : (task : ℕ) (room : Handling I) → IsSameButRoom d.handling room →
          IsWorldUnmet room.records (view room.io).world (get d.slots.values key) ⊎ (poll_slot D n (slot_at D n) ≡ (D, Waits)) →
          IsWorldUnmet d.handling.records (view d.handling.io).world (get d.slots.values key)
          ⊎ ((legacy_step D (Poll n task)).1 ≡ Waits)
      step-waits task room same (inl unmet) = inl (unmet-room d.handling.records room.records (view d.handling.io).world
          (get d.slots.values key) same.records
          (subst (λ i. IsWorldUnmet room.records (view i).world (get d.slots.values key)) same.io unmet))
      step-waits task room same (inr waits) = inr (ap (λ p. p.1) (poll-row task ∙ waits))

      -- It leaves the driver as it was.
      pub stands-waiting : (room : Handling I) (new : LegacyState I B) → IsSameButRoom d.handling room →
          new.handling.table ≡ room.table → (view new.handling.io).keys ≡ (view room.io).keys →
          PartsStand buffer (ops_in new) (view new.handling.io).world D → KeepsSlot d.slots.values key new.slots.values →
          KeepsTokens (ops_in d) (ops_in new) → new.members ≡ d.members → LegacyStands view buffer new D
      stands-waiting room new same table keys parts slots tokens members =
          let was = owner d.slots.values key n holds in
          let now = owner new.slots.values key n ((tokens (record { number = n; key = key })).0 holds) in
          record {
            parts = parts;
            live = written-len d.slots.values new.slots.values key was.slot now.slot was.there now.there slots.others ∙ old.live;
            handles = subst (λ ks. HandlesStand new.handling.table ks D) (sym (keys ∙ ap (λ i. (view i).keys) same.io))
                (room-handles room new.handling same table);
            groups = subst (λ m. GroupsStand m D) (sym members) old.groups;
            few = old.few;
          }

      -- Where the driver waits, a poll that is pending is its own.
      pub answers-waits : (task : ℕ) (new : LegacyState I B) → poll_slot D n (slot_at D n) ≡ (D, Waits) → LegacyStands view buffer new D →
          LegacyAnswers view buffer D (Poll n task) Waits new
      answers-waits task new waits stands = record {
        reply_is = ap (λ p. p.1) (poll-row task ∙ waits);
        stands = subst (LegacyStands view buffer new) (sym (ap (λ p. p.0) (poll-row task ∙ waits))) stands;
      }

      -- A poll that returns the operation ends it.
      pub stands-ended : (tells memory : Bool) (task : ℕ) (in_memory : IsTrue memory) (shows : IsTrue tells) →
          length D.world < MOST_HANDLES →
          (room mid handed : Handling I) (new : LegacyState I B) (done result : Done B) (names : List ℕ) → IsSameButRoom d.handling room →
          mid.table ≡ room.table → (view mid.io).keys ≡ with_made_key (made_by done.outcome) (view room.io).keys →
          ((poll_slot D n (slot_at D n)).1 ≡ Handed done.outcome (held_of (plain_request buffer done.request)))
          × PartsStand buffer (ops_in new) (view mid.io).world (poll_slot D n (slot_at D n)).0 →
          ReturnsSlot d.slots.values key new.slots.values done → result.outcome ≡ outcome_for mid.table done.outcome →
          result.request ≡ done.request → HandsOver view tells memory mid (made_by result.outcome) handed →
          names ≡ named_in (get d.slots.values key) →
          LetsGo view tells memory handed (without_ops handed.table names) (unheld_by handed.table names) new.handling →
          ArePlaced d.members → new.members ≡ leaves d.members n →
          LegacyAnswers view buffer D (Poll n task) (Handed result.outcome (held_of (plain_request buffer result.request))) new
      stands-ended tells memory task in_memory shows few room mid handed new done result names same table keys polls slots outcome request
          hands named_are lets placed members =
          let op : LegacyOp = (fits view buffer d D old key n holds).op in
          let there = driven view buffer d D old key n holds in
          let end = poll-end D n op done.outcome (held_of (plain_request buffer done.request)) there polls.0 in
          let st = room-handles room mid same table in
          let kept : result.outcome ≡ done.outcome =
          outcome ∙ outcome-kept mid.table (view d.handling.io).keys D done.outcome st few end.last in
          let made : HandsOver view tells memory mid (made_by done.outcome) handed =
          subst (λ o. HandsOver view tells memory mid (made_by o) handed) kept hands in
          let is = named_are ∙ names-are view buffer d D old key n holds in
          let E : Legacy = record (freed D n) { world = end.world; users = users_with (made_by done.outcome) D.users } in
          let gone : PartsStand buffer (ops_in new) (view mid.io).world E =
          subst (PartsStand buffer (ops_in new) (view mid.io).world) end.is polls.1 in
          let handles : HandlesStand new.handling.table (view new.handling.io).keys E =
          ended-handles view tells memory mid handed new.handling (view d.handling.io).keys D n op names end.world in_memory shows st there
          is lets (made_by done.outcome) made
          (keys ∙ ap (λ i. with_made_key (made_by done.outcome) (view i).keys) same.io) end.last end.count in
          let world = ended-world view tells memory mid handed new.handling (view d.handling.io).keys D n op names end.world in_memory shows
          st there is lets (made_by done.outcome) made in
          let groups = groups-freed d.members placed n D old.groups in
          let count = end.count in
          let one = length-option (made_by done.outcome) in
          record {
            reply_is = ap (λ p. p.1) (poll-row task) ∙ polls.0
                ∙ ap (λ o. Handed o (held_of (plain_request buffer done.request))) (sym kept)
                ∙ ap (λ r. Handed result.outcome (held_of (plain_request buffer r))) (sym request);
            stands = subst (LegacyStands view buffer new) (sym (ap (λ p. p.0) (poll-row task) ∙ end.is)) (record {
              parts = record { operations = gone.operations; handles = world ∙ gone.handles };
              live = live-freed view buffer d D old key n holds new.slots.values
                  (freed-slots d.slots.values new.slots.values key slots.free slots.others);
              handles = handles;
              groups = subst (λ m. GroupsStand m E) (sym members) (record { marks = groups.marks; members = groups.members });
              few = omega (arith, count, few, one);
            });
          }
