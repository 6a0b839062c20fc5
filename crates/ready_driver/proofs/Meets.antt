-- What a readiness driver answers to an event, and the ledger behind the event as it is spelled: handles, groups, submissions and cancels.
use Rattle.std.proofs.Common.{◌≡◌, inl, inr, ℕ, Bool, true, false, List, [], ◌∷◌, ◌++◌, length, map, Option, Some, None, option_map}
use Rattle.std.proofs.Common.{slice_get, refl, sym, ◌∙◌, ap, subst, if◌then◌else◌}
use Rattle.std.proofs.lemmas.List.{map-append, length-map}
use Rattle.rent_buf.specs.Buffer.{Buffer}
use Rattle.rent_buf.specs.Parts.{Parts}
use Rattle.machine.specs.declared.request.Request.{Request}
use Rattle.machine.specs.declared.world.HandleState.{HandleState}
use Rattle.machine.specs.declared.ledger.Event.{Event}
use Rattle.machine.specs.declared.ledger.Reply.{Reply}
use Rattle.machine.specs.declared.ledger.Reply.TheVariants.{Released, Submitted, CanceledAtOnce, Cancels}
use Rattle.machine.specs.Lists.{amended, has_number, numbers_where}
use Rattle.machine.specs.Request.{held_of}
use Rattle.machine.specs.Ledger.{Ledger, Operation, Owner, Place, InQueue, InFlight, InDone, Reaped, Gone, Queued, Req, new_operation}
use Rattle.machine.specs.Ledger.{is_kept}
use Rattle.machine.specs.Ledger.{is_marked, is_member, members}
use Rattle.machine.specs.Queue.{with_op, canceled_at, with_take, with_cancel, take_one, take_all, make_room, push, push_each}
use Rattle.machine.specs.Step.{step, with_new_op, submit_step, submit_if, close_if, with_mark, renew_group, cancel_all_step}
use Rattle.machine.specs.Run.{after}
use Rattle.machine.proofs.Amended.{changed-cases, length-amended}
use Rattle.machine.proofs.Taken.{length-take_each}
use Rattle.machine.proofs.Taking.{Took, take_all-ops, taken_place, with_taking}
use Rattle.machine.proofs.Listed.{joined, submit-joined}
use Rattle.machine.proofs.Staying.{stays-make_room, stays-push, stays-push_each}
use Rattle.machine.proofs.Members.{members-are}
use Rattle.machine.proofs.Leaving.{has-first, has-later}
use Rattle.ready_driver.specs.Spelled.{asked, Spelling, spelled_out, itself, spelled_reply}
use Rattle.ready_driver.specs.Legacy.{LegacyOp, Legacy, members_at}
use Rattle.ready_driver.specs.LegacyStep.{with_ask, ask_each, new_op, submit_at, cancel_group}
use Rattle.ready_driver.specs.Readiness.{slot_by}
use Rattle.ready_driver.proofs.Lists.{map-changed-at}
use Rattle.ready_driver.proofs.Free.{free-joined}
use Rattle.ready_driver.proofs.Flat.{flat-room, flat-append, flat-push, flat-new_op, flat-joined, beside, flat-beside}
use Rattle.ready_driver.proofs.Closes.{closes_only, closes-op}
use Rattle.ready_driver.proofs.Asks.{CalmAt, canceled_in, Flies}
use Rattle.ready_driver.proofs.Settled.{Half, Tidy, Shown, Stands, shown, is_users, shows-stays, half-room, half-canceled, half-closed}
use Rattle.ready_driver.proofs.Settled.{half-joined}
use Rattle.ready_driver.proofs.Settled.{half-beside, tidy-close}
use Rattle.ready_driver.proofs.Causes.{same-members}

-- A driver and its reply are those for a ledger before the closes that follow a spelling, and for a reply.
pub record Meets (s : Legacy × Reply) (L : Ledger) (reply : Reply) : Type 0 where
  pub reply_is : s.1 ≡ reply
  pub half : Half L
  pub tidy : Tidy L
  pub shows : Shown s.0 L

-- The same, of an equal ledger and an equal reply.
pub meets-same : (s : Legacy × Reply) (L M : Ledger) (r q : Reply) → L ≡ M → r ≡ q → Meets s M q → Meets s L r
meets-same s L M r q b c m = subst (λ K. Meets s K r) (sym b) (subst (Meets s M) (sym c) m)

-- They are those of a spelling.
abbrev pub MeetsSpelled : Legacy × Reply → Ledger → Spelling → Type 0
MeetsSpelled s L spelling = Meets s (after L (spelled_out spelling)) (spelled_reply L spelling)

-- Of an event that is only itself they are those of its step.
pub meets-itself : (s : Legacy × Reply) (L M : Ledger) (e : Event) (reply : Reply) → step L e ≡ (M, reply) → Meets s M reply →
    MeetsSpelled s L (itself e)
meets-itself s L M e reply h m = meets-same s (step L e).0 M (step L e).1 reply (ap (λ x. x.0) h) (ap (λ x. x.1) h) m

-- Where a driver stands for a ledger no close follows.
pub stands-meets : (D : Legacy) (L : Ledger) (r q : Reply) → r ≡ q → Stands D L → Meets (D, r) L q
stands-meets D L r q e g = record { reply_is = e; half = g.settled.half; tidy = λ none. g.settled.closed; shows = g.shows }

-- Other handles, users, cancellers, cancel handles and groups.
pub stands-beside : (D : Legacy) (L : Ledger) (users : List Bool) (dw : List HandleState) (dc dh : List ℕ) (dg : List Bool)
    (world : List HandleState) (owners : List Owner) (cancellers handles : List ℕ) (groups : List Bool) → users ≡ is_users owners →
    dw ≡ world → dc ≡ cancellers → dh ≡ handles → dg ≡ groups → length owners ≡ length world → Stands D L →
    Stands (record D { users = users; world = dw; cancellers = dc; cancel_handles = dh; groups = dg })
    (beside L world owners cancellers handles groups)
stands-beside D L users dw dc dh dg world owners cancellers handles groups eu ew ec eh eg counted g =
    let e = flat-beside L world owners cancellers handles groups in
    record {
      settled = record {
        half = half-beside L world owners cancellers handles groups counted g.settled.half;
        closed = ap (λ K. closes_only K.flying) e ∙ g.settled.closed;
      };
      shows = record {
        slots = g.shows.slots ∙ ap (λ K. map shown K.ops) (sym e);
        users = eu;
        world = ew;
        cancellers = ec;
        cancel_handles = eh;
        groups = eg;
      };
    }

-- What isn't gone is in flight once the queue is taken.
calm-flies : (p : Place) (dropped : Bool) (made : Option ℕ) → is_kept p ≡ true → CalmAt (taken_place p) dropped made →
    (taken_place p ≡ InFlight) × (dropped ≡ false) × (made ≡ None)
calm-flies InQueue dropped made kept c = (refl, c.0, c.1)
calm-flies InFlight dropped made kept c = (refl, c.0, c.1)
calm-flies (InDone outcome) dropped made kept c = absurd c
calm-flies (Reaped outcome) dropped made kept c = absurd c
calm-flies Gone dropped made kept c = (let f : ⊥ = cc in absurd f)

-- An operation that isn't gone, once the queue is taken: it is in flight, and its cancel was taken where it is asked for.
pub record Taken (L : Ledger) (n : ℕ) (o : Operation) : Type 0 where
  pub canceled : Bool
  pub waits_for : Option ℕ
  pub there : slice_get (take_all L).ops n ≡ Some (with_taking canceled waits_for o)
  pub asked_is : asked L n ≡ canceled
  pub place : taken_place o.place ≡ InFlight
  pub undropped : o.dropped ≡ false

-- So is each that isn't gone.
pub kept-taken : (L : Ledger) (n : ℕ) (o : Operation) → Half L → slice_get L.ops n ≡ Some o → is_kept o.place ≡ true → Taken L n o
kept-taken L n o s at kept =
    let took : Took (slice_get L.ops n) (slice_get (take_all L).ops n) = take_all-ops L s.lists n in
    let taking : Operation → Operation = with_taking took.canceled took.waits_for in
    let there : slice_get (take_all L).ops n ≡ Some (taking o) = took.is ∙ ap (option_map taking) at in
    let c = calm-flies o.place o.dropped o.made kept (s.calm n (taking o) there) in
    record {
      canceled = took.canceled;
      waits_for = took.waits_for;
      there = there;
      asked_is = s.asks n ∙ ap canceled_in there;
      place = c.0;
      undropped = c.1;
    }

-- It is in flight.
pub taken-flies : (L : Ledger) (n : ℕ) (o : Operation) → Taken L n o → Flies (take_all L) n
taken-flies L n o t = record { o = with_taking t.canceled t.waits_for o; there = t.there; place = t.place }

-- An operation in flight whose cancel is taken.
shown-canceled : (o : Operation) → o.place ≡ InFlight → shown (with_cancel o) ≡ option_map with_ask (shown o)
shown-canceled o f =
    let op : LegacyOp = record { request = o.request; group = o.group; asked = o.canceled } in
    ap (λ p. shown (canceled_at p o)) f ∙ ap (λ p. slot_by p (with_ask op)) f ∙ ap (λ p. option_map with_ask (slot_by p op)) (sym f)

-- A cancel of what is in flight.
pub stands-canceled : (D : Legacy) (L : Ledger) (n : ℕ) → Flies (take_all L) n → Stands D L →
    Stands (record D { slots = amended D.slots n (option_map with_ask) }) (push L (Queued.Cancel n))
stands-canceled D L n f g =
    let T : Ledger = take_all L in
    let e : take_all (push L (Queued.Cancel n)) ≡ with_op T n with_cancel = flat-push L (Queued.Cancel n) g.settled.half.free in
    record {
      settled = record {
        half = half-canceled L n f g.settled.half;
        closed = ap (λ K. closes_only K.flying) e ∙ g.settled.closed;
      };
      shows = shows-stays D L (push L (Queued.Cancel n)) (amended D.slots n (option_map with_ask)) (stays-push L (Queued.Cancel n))
          (ap (λ xs. amended xs n (option_map with_ask)) g.shows.slots
          ∙ sym (map-changed-at shown T.ops n f.o with_cancel (option_map with_ask) f.there (shown-canceled f.o f.place))
          ∙ ap (λ K. map shown K.ops) (sym e))
          g.shows;
    }

-- Each of these operations is in flight.
abbrev AllFly : Ledger → List ℕ → Type 0
AllFly T [] = Unit {0}
AllFly T (n ∷ numbers) = Flies T n × AllFly T numbers

-- What is in flight is so after the cancel of one of them.
flies-kept : (T : Ledger) (m n : ℕ) → Flies T n → Flies (with_op T m with_cancel) n
flies-kept T m n f = elim (changed-cases with_cancel T.ops m n) [
  | inl c ↦ record {
    o = with_cancel f.o;
    there = c.1 ∙ ap (option_map with_cancel) (ap (slice_get T.ops) (sym c.0) ∙ f.there);
    place = ap (λ p. (canceled_at p f.o).place) f.place ∙ f.place;
  }
  | inr c ↦ record { o = f.o; there = c.1 ∙ f.there; place = f.place }
]

-- The same of many.
all-kept : (T : Ledger) (m : ℕ) (numbers : List ℕ) → AllFly T numbers → AllFly (with_op T m with_cancel) numbers
all-kept T m [] h = tt
all-kept T m (n ∷ numbers) h = (flies-kept T m n h.0, all-kept T m numbers h.1)

-- Cancels of what is in flight.
stands-each : (D : Legacy) (L : Ledger) (numbers : List ℕ) → AllFly (take_all L) numbers → Stands D L →
    Stands (record D { slots = ask_each D.slots numbers }) (push_each L (map Queued.Cancel numbers))
stands-each D L [] h g = g
stands-each D L (n ∷ numbers) h g =
    stands-each (record D { slots = amended D.slots n (option_map with_ask) }) (push L (Queued.Cancel n)) numbers
    (subst (λ K. AllFly K numbers) (sym (flat-push L (Queued.Cancel n) g.settled.half.free)) (all-kept (take_all L) n numbers h.1))
    (stands-canceled D L n h.0 g)

-- Numbers of operations that aren't gone.
abbrev AllKept : Ledger → List ℕ → Type 0
AllKept L [] = Unit {0}
AllKept L (n ∷ numbers) = ((o : Operation) × (slice_get L.ops n ≡ Some o) × (is_kept o.place ≡ true)) × AllKept L numbers

-- They are where each number in the list is one.
kept-each : (L : Ledger) (numbers : List ℕ) →
    ((n : ℕ) → has_number n numbers ≡ true → (o : Operation) × (slice_get L.ops n ≡ Some o) × (is_kept o.place ≡ true)) → AllKept L numbers
kept-each L [] h = tt
kept-each L (n ∷ numbers) h = (h n (has-first n numbers), kept-each L numbers (λ m is. h m (has-later m n numbers is)))

-- They are in flight.
all-fly : (L : Ledger) (numbers : List ℕ) → Half L → AllKept L numbers → AllFly (take_all L) numbers
all-fly L [] s h = tt
all-fly L (n ∷ numbers) s h = (taken-flies L n h.0.0 (kept-taken L n h.0.0 s h.0.1 h.0.2), all-fly L numbers s h.1)

-- The members of a group are in flight.
members-fly : (L : Ledger) (g : ℕ) → Half L → AllFly (take_all L) (members L g)
members-fly L g s = by (is_marked L g) refl
  where
    by : (b : Bool) → is_marked L g ≡ b → AllFly (take_all L) (members L g)
    by true is =
        subst (AllFly (take_all L)) (sym (ap (λ b. if b then [] else numbers_where (is_member g) 0 L.ops) is)) tt
    by false is = all-fly L (members L g) s (kept-each L (members L g) (λ n listed. (
        let m = members-are L g n is listed in (m.operation, m.there, m.kept))))

-- What is in flight is so beside another mark.
fly-beside : (T : Ledger) (world : List HandleState) (owners : List Owner) (cancellers handles : List ℕ) (groups : List Bool)
    (numbers : List ℕ) → AllFly T numbers → AllFly (beside T world owners cancellers handles groups) numbers
fly-beside T world owners cancellers handles groups [] h = tt
fly-beside T world owners cancellers handles groups (n ∷ numbers) h =
    (record { o = h.0.o; there = h.0.there; place = h.0.place }, fly-beside T world owners cancellers handles groups numbers h.1)

-- CancelAll.
pub cancel_all-meets : (D : Legacy) (L : Ledger) (c g : ℕ) → Stands D L →
    Meets (cancel_group D c g, Cancels (members_at D g)) (cancel_all_step L c g) (Cancels (members L g))
cancel_all-meets D L c g st =
    let numbers : List ℕ = members L g in
    let same : members_at D g ≡ numbers = same-members D L st g in
    let dg : List Bool = amended D.groups g (λ mark. true) in
    let lg : List Bool = amended L.groups g (λ mark. true) in
    let eg : dg ≡ lg = ap (λ x. amended x g (λ mark. true)) st.shows.groups in
    let marked : Legacy = record D { groups = dg } in
    let one : Stands marked (with_mark L g) =
    stands-beside D L D.users D.world D.cancellers D.cancel_handles dg L.world L.owners L.cancellers L.cancel_handles lg
    st.shows.users st.shows.world st.shows.cancellers st.shows.cancel_handles eg st.settled.half.counted st in
    let fly : AllFly (take_all (with_mark L g)) numbers =
    subst (λ K. AllFly K numbers) (sym (flat-beside L L.world L.owners L.cancellers L.cancel_handles lg))
    (fly-beside (take_all L) L.world L.owners L.cancellers L.cancel_handles lg numbers (members-fly L g st.settled.half)) in
    let M : Ledger = push_each (with_mark L g) (map Queued.Cancel numbers) in
    let all : Legacy = record marked { slots = ask_each D.slots numbers } in
    let two : Stands all M = stands-each marked (with_mark L g) numbers fly one in
    let kept = stays-push_each (with_mark L g) (map Queued.Cancel numbers) in
    let kg : dg ≡ M.groups = eg ∙ ap (λ x. x.groups) (sym kept.groups) in
    let kc : D.cancellers ≡ M.cancellers = st.shows.cancellers ∙ ap (λ x. x.cancellers) (sym kept.groups) in
    let three : Stands (record all { cancellers = amended D.cancellers c (λ x. length D.groups); groups = dg ++ false ∷ [] })
    (renew_group M c) =
    stands-beside all M D.users D.world (amended D.cancellers c (λ x. length D.groups)) D.cancel_handles (dg ++ false ∷ [])
    M.world M.owners (amended M.cancellers c (λ x. length M.groups)) M.cancel_handles (M.groups ++ false ∷ [])
    two.shows.users two.shows.world
    (ap (λ xs. amended xs c (λ x. length D.groups)) kc
    ∙ ap (λ k. amended M.cancellers c (λ x. k)) (sym (length-amended (λ mark. true) D.groups g) ∙ ap length kg))
    two.shows.cancel_handles (ap (λ xs. xs ++ false ∷ []) kg) two.settled.half.counted two in
    stands-meets (cancel_group D c g) (renew_group M c) (Cancels (members_at D g)) (Cancels numbers) (ap Cancels same)
    (subst (λ xs. Stands (record (record marked { slots = ask_each D.slots xs }) {
      cancellers = amended D.cancellers c (λ x. length D.groups);
      groups = dg ++ false ∷ [];
    }) (renew_group M c)) (sym same) three)

-- Close, by whether nobody holds the handle.
pub close-meets : (D : Legacy) (L : Ledger) (h : ℕ) (b : Bool) → Stands D L → Meets (D, Released) (close_if b L h) Released
close-meets D L h true g = record {
  reply_is = refl;
  half = half-closed L h g.settled.half;
  tidy = tidy-close L h;
  shows = shows-stays D L (push L (Queued.Close h)) D.slots (stays-push L (Queued.Close h))
      (g.shows.slots ∙ ap (λ K. map shown K.ops) (sym (flat-push L (Queued.Close h) g.settled.half.free))) g.shows;
}
close-meets D L h false g = stands-meets D L Released Released refl g

-- Submit under no marked group.
submitted-meets : (D : Legacy) (L : Ledger) (request : Request Buffer Parts) (dg group : Option ℕ) → dg ≡ group → Stands D L →
    Meets (record D { slots = D.slots ++ Some (new_op request dg) ∷ [] }, Submitted (length D.slots)) (submit_step L request group false)
    (Submitted (length L.ops))
submitted-meets D L request dg group same st =
    let M : Ledger = make_room L in
    let o : Operation = new_operation request group false in
    let half : Half L = st.settled.half in
    let hm : Half M = half-room L half in
    let e : submit_step L request group false ≡ joined M o = submit-joined L request group false half.lists in
    let f : take_all (joined M o) ≡ take_one None (with_new_op (take_all M) o) (Req (length M.ops)) =
    flat-append (with_new_op M o) (Req (length M.ops)) (free-joined M.ops o (refl, refl) hm.free)
    ∙ ap (λ K. take_one None K (Req (length M.ops))) (flat-new_op M o refl hm.lists) in
    record {
      reply_is = ap Submitted (ap length st.shows.slots ∙ length-map (take_all L).ops shown
          ∙ length-take_each (record L { queue = [] }) L.queue);
      half = half-joined L request group half;
      tidy = λ none. ap (λ K. closes_only (take_all K).flying) e ∙ ap (λ K. closes_only K.flying) f
          ∙ closes-op (take_all M).flying (length M.ops) ∙ ap (λ K. closes_only K.flying) (flat-room L) ∙ st.settled.closed;
      shows = subst (Shown (record D { slots = D.slots ++ Some (new_op request dg) ∷ [] })) (sym e) (joined-shows M o hm);
    }
  where
    joined-shows : (M : Ledger) (o : Operation) → Half (make_room L) →
        Shown (record D { slots = D.slots ++ Some (new_op request dg) ∷ [] }) (joined (make_room L) (new_operation request group false))
    joined-shows M o hm =
        let room : Ledger = make_room L in
        let new : Operation = new_operation request group false in
        let s = shows-stays D L room D.slots (stays-make_room L)
        (st.shows.slots ∙ ap (λ K. map shown K.ops) (sym (flat-room L))) st.shows in
        record {
          slots = ap (λ g. D.slots ++ Some (new_op request g) ∷ []) same
              ∙ ap (λ xs. xs ++ Some (new_op request group) ∷ []) s.slots
              ∙ sym (map-append shown (take_all room).ops (with_take None new ∷ []))
              ∙ ap (map shown) (sym (flat-joined room new refl (refl, refl) hm.lists hm.free));
          users = s.users;
          world = s.world;
          cancellers = s.cancellers;
          cancel_handles = s.cancel_handles;
          groups = s.groups;
        }

-- Submit, by whether its group is marked.
pub submit-meets : (D : Legacy) (L : Ledger) (request : Request Buffer Parts) (dg group : Option ℕ) (b : Bool) → dg ≡ group → Stands D L →
    Meets (submit_at b D request dg) (submit_if b L request group false).0 (submit_if b L request group false).1
submit-meets D L request dg group true same st =
    stands-meets D L (CanceledAtOnce (held_of request)) (CanceledAtOnce (held_of request)) refl st
submit-meets D L request dg group false same st = submitted-meets D L request dg group same st
