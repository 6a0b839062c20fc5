-- What the calls on handles do to a readiness driver, and to one that is one as plain data.
use Rattle.std.proofs.Common.{◌≡◌, ℕ, ◌+◌, ◌<◌, ◌==◌, ◌||◌, Bool, true, false, not, List, [], ◌∷◌, ◌++◌, length, Option, Some, None}
use Rattle.std.proofs.Common.{refl, sym, ◌∙◌, ap, subst, arith}
use Rattle.std.specs.Prelude.{is_some, IsTrue, Result, Ok, Err, IfOk, OnOk, OnErr}
use Rattle.std.specs.Ordering.{nat_cmp}
use Rattle.std.specs.FinMap.{FinMap, get, insert}
use Rattle.std.proofs.lemmas.Bool.Decides.{nat_tests}
use Rattle.std.proofs.lemmas.List.{length-append}
use Rattle.rent_buf.specs.Buffer.{Buffer}
use Rattle.rent_buf.specs.Parts.{Parts}
use Rattle.handle_core.specs.Table.{Table, holders_at, without_user, by_user}
use Rattle.machine.specs.declared.world.TheConstants.{MOST_HANDLES}
use Rattle.machine.specs.declared.ledger.Event.TheVariants.{Close, Give}
use Rattle.machine.specs.declared.ledger.Refusal.TheVariants.{NoHandle}
use Rattle.machine.specs.declared.ledger.Reply.TheVariants.{Released, Handle}
use Rattle.machine.specs.declared.world.HandleKind.{HandleKind}
use Rattle.machine.specs.Lists.{amended, has_number}
use Rattle.machine.specs.Refusal.{refused_if}
use Rattle.machine.specs.Request.{named, plain_request}
use Rattle.machine.specs.World.{fresh}
use Rattle.machine.specs.declared.request.Request.{Request}
use Rattle.machine.proofs.Requests.{named-mapped}
use Rattle.driver_core.specs.declared.slot.Slot.{Slot}
use Rattle.driver_core.specs.Holds.{is_nobody, settled, with_ops, CanJoin}
use Rattle.ready_driver.specs.HandlesStand.{HandlesStand}
use Rattle.ready_driver.specs.Io.{IoView}
use Rattle.ready_driver.specs.Legacy.{Legacy}
use Rattle.ready_driver.specs.LegacyStands.{GroupsStand, LegacyStands, LegacyAnswers, ReleasesIf, ReleasesFor}
use Rattle.ready_driver.specs.LegacyState.{LegacyState}
use Rattle.ready_driver.specs.MemIo.{Memory, memory_view}
use Rattle.ready_driver.specs.Named.{AreNaming}
use Rattle.ready_driver.specs.Reports.{with_key}
use Rattle.ready_driver.specs.Registry.{Handling, is_known, is_users, unheld_if, without_keys, IsSameButRoom, TriesFor, GivesUser, LetsGo}
use Rattle.ready_driver.specs.LegacyCalls.{Unready}
use Rattle.ready_driver.specs.Polling.{joined_at}
use Rattle.ready_driver.specs.Registry.{MakesReady, with_created}
use Rattle.ready_driver.proofs.Driven.{answers-row, stands-like, stands-handling}
use Rattle.ready_driver.proofs.Naming.{naming-room, naming-given}
use Rattle.ready_driver.proofs.Parting.{standing-closed, standing-released}
use Rattle.ready_driver.proofs.Standing.{standing-given, standing-joined, standing-ready}

-- What a handle that was asked for, and given or not, leaves of the count of operations.
pub naming-adopted : {A E I B : Type 0} (r : Result A E) (view : I → IoView) (tells memory : Bool) (old new given : Handling I) (h : ℕ)
    (slots : FinMap nat_cmp (Slot B)) (count : ℕ) → is_known old.table h ≡ false → given.table ≡ old.table →
    OnOk r (GivesUser view tells memory given h new) → OnErr r (IsSameButRoom old new) → AreNaming old.table slots count →
    AreNaming new.table slots count
naming-adopted (Ok x) view tells memory old new given h slots count fresh same gives refuses are =
    naming-given given.table new.table slots count h (subst (λ t. AreNaming t slots count) (sym same) are)
    (ap (λ t. is_known t h) same ∙ fresh) gives.table
naming-adopted (Err e) view tells memory old new given h slots count fresh same gives refuses are =
    naming-room old.table new.table slots count are refuses.table

-- Holders that are the same but for memory are those of the same driver.
pub standing-room : (table table' : Table) (keys : List (Option ℕ)) (D : Legacy) → table'.holders ≡ table.holders →
    HandlesStand table keys D → HandlesStand table' keys D
standing-room table table' keys D same st =
    record {
      users = λ h. ap (λ m. is_users (record table' { holders = m }) h) same ∙ st.users h;
      operations = λ h. ap (λ m. (holders_at (record table' { holders = m }) h).operations) same ∙ st.operations h;
      keyed = λ h known. st.keyed h (sym (ap (λ m. is_some (get m h)) same) ∙ known);
      counted = st.counted;
      sized = st.sized;
    }

-- A test that passes, or another one that follows from a third.
or-then : (a b c : Bool) → (b ≡ true → c ≡ true) → (a || b) ≡ true → (a || c) ≡ true
or-then true b c f is = refl
or-then false b c f is = f is

-- A number that is among the first ones is among all.
front-has : (h : ℕ) (xs ys : List ℕ) → has_number h xs ≡ true → has_number h (xs ++ ys) ≡ true
front-has h [] ys is = (let f : ⊥ = cc in absurd f)
front-has h (x ∷ xs) ys is = or-then (h == x) (has_number h xs) (has_number h (xs ++ ys)) (front-has h xs ys) is

-- A driver that is one as plain data.
module _ {I B : Type 0} (view : I → IoView) (buffer : B → Buffer) (tells memory : Bool) (d : LegacyState I B) (D : Legacy)
    (old : LegacyStands view buffer d D) where
  -- In memory, where handles tell.
  module _ (in_memory : IsTrue memory) (shows : IsTrue tells) where
    -- Handles that are known are registered: the table and the keys are those of the same driver.
    pub ready-handles : (new : Handling I) (handles : List ℕ) → MakesReady view tells memory d.handling handles new →
        ((h : ℕ) → has_number h handles ≡ true → is_known d.handling.table h ≡ true) → HandlesStand new.table (view new.io).keys D
    ready-handles new handles ready known =
        subst (λ t. HandlesStand t (view new.io).keys D) (sym ready.table)
        (subst (λ ks. HandlesStand d.handling.table ks D) (sym (ready.object.keys_are in_memory))
        (standing-ready d.handling.table D handles d.handling.records (view d.handling.io).keys old.handles known))

    -- A submission was refused.
    pub stands-unready : (new : LegacyState I B) (handles : List ℕ) → new.slots.values ≡ d.slots.values → new.given ≡ d.given →
        new.members ≡ d.members → Unready view tells memory d.handling handles new.handling →
        ((h : ℕ) → has_number h handles ≡ true → is_known d.handling.table h ≡ true) → LegacyStands view buffer new D
    stands-unready new handles slots given members unready known =
        stands-like view buffer d D old new D refl slots given (unready.made.object.world shows ∙ old.parts.handles)
        (ready-handles new.handling unready.front unready.made
        (λ h there. known h (ap (has_number h) unready.parts ∙ front-has h unready.front unready.rest there)))
        (subst (λ m. GroupsStand m D) (sym members) old.groups) old.few

    -- A new operation holds the handles that it names.
    pub joins-handles : (mid new : Handling I) (request : Request B Parts) (under : Option ℕ) →
        MakesReady view tells memory d.handling (named request) mid →
        ((h : ℕ) → has_number h (named request) ≡ true → is_known d.handling.table h ≡ true) → CanJoin mid.table (named request) →
        new ≡ record mid { table = with_ops mid.table (named request) } →
        HandlesStand new.table (view new.io).keys (joined_at D (plain_request buffer request) under)
    joins-handles mid new request under ready known may is =
        let same : named (plain_request buffer request) ≡ named request = named-mapped _ _ request in
        subst (λ (x : Handling I). HandlesStand x.table (view x.io).keys (joined_at D (plain_request buffer request) under)) (sym is)
        (subst (λ hs. HandlesStand (with_ops mid.table hs) (view mid.io).keys (joined_at D (plain_request buffer request) under)) same
        (standing-joined mid.table (view mid.io).keys D (ready-handles mid (named request) ready known) (plain_request buffer request) under
        (subst (CanJoin mid.table) (sym same) may)))

    -- The user drops one of its holds of a handle.
    module _ (h : ℕ) (new : Handling I) (held : is_users d.handling.table h ≡ true)
        (lets : LetsGo view tells memory d.handling (settled d.handling.table h (without_user (holders_at d.handling.table h)))
        (unheld_if (is_nobody (without_user (holders_at d.handling.table h))) h) new) where
      -- The keys and the table are as they are for this driver.
      moved : (E : Legacy) → HandlesStand (settled d.handling.table h (without_user (holders_at d.handling.table h)))
          (without_keys (view d.handling.io).keys (unheld_if (is_nobody (without_user (holders_at d.handling.table h))) h)) E →
          HandlesStand new.table (view new.io).keys E
      moved E st =
          subst (λ t. HandlesStand t (view new.io).keys E) (sym lets.holders)
          (subst (λ ks. HandlesStand (settled d.handling.table h (without_user (holders_at d.handling.table h))) ks E)
          (sym (lets.object.keys_are in_memory)) st)

      pub stands-releases : ReleasesFor view buffer D h (holders_at d.handling.table h).user (record d { handling = new })
      stands-releases = by ((holders_at d.handling.table h).user == 1) refl
        where
          by : (b : Bool) → ((holders_at d.handling.table h).user == 1) ≡ b →
              ReleasesIf view buffer D h b (record d { handling = new })
          by true is =
              let E : Legacy = record D { users = amended D.users h (λ is_user. false) } in
              answers-row view buffer D (Close h) Released (record d { handling = new })
              (ap (λ b. refused_if (not b || false) NoHandle None) (sym (old.handles.users h) ∙ held)) refl
              (stands-like view buffer d D old (record d { handling = new }) E refl refl refl
              (lets.object.world shows ∙ old.parts.handles)
              (moved E (standing-closed d.handling.table (view d.handling.io).keys D old.handles h (grind (arith, nat_tests))))
              (record { marks = old.groups.marks; members = old.groups.members }) old.few)
          by false is =
              stands-handling view buffer d D old new (lets.object.world shows)
              (moved D (standing-released d.handling.table (view d.handling.io).keys D old.handles h held
              (λ one. (let f : true ≡ false = sym (ap (λ n. n == 1) one) ∙ is in let g : ⊥ = cc in g))))

-- What trying to register a handle in memory left: it is registered.
pub tries-memory : (tells memory : Bool) (h key : ℕ) (old new : IoView) (taken : Bool) → IsTrue memory → IsTrue tells →
    TriesFor tells memory h key old new taken → (new.world ≡ old.world) × (new.keys ≡ with_key old.keys h (Some key))
tries-memory tells memory h key old new true in_memory shows tries = (tries.0.world shows, tries.0.keys_are in_memory)
tries-memory tells memory h key old new false in_memory shows tries = absurd (tries.1 in_memory)

-- A new handle in memory.
pub stands-gives : {B : Type 0} (buffer : B → Buffer) (d : LegacyState Memory B) (D : Legacy) (kind : HandleKind) (fd : ℕ)
    (new : Handling Memory) → LegacyStands memory_view buffer d D → fd ≡ length d.handling.io.world →
    length d.handling.io.world < MOST_HANDLES →
    GivesUser memory_view true true (with_created d.handling kind) (length d.handling.io.world) new →
    LegacyAnswers memory_view buffer D (Give kind) (Handle fd) (record d { handling = new })
stands-gives buffer d D kind fd new old number few gives =
    let E : Legacy = record D { world = D.world ++ fresh kind ∷ []; users = D.users ++ true ∷ [] } in
    let same : d.handling.io.world ≡ D.world = old.parts.handles in
    let count : length d.handling.io.world ≡ length D.world = ap length same in
    let tried = tries-memory true true (length d.handling.io.world) gives.key (memory_view (with_created d.handling kind).io) (memory_view
    new.io)
    gives.taken refl refl gives.tries in
    let longer : length (D.world ++ fresh kind ∷ []) ≡ length D.world + 1 = length-append D.world (fresh kind ∷ []) in
    answers-row memory_view buffer D (Give kind) (Handle fd) (record d { handling = new }) refl (ap Handle (sym count ∙ sym number))
    (stands-like memory_view buffer d D old (record d { handling = new }) E refl refl refl
    (tried.0 ∙ ap (λ w. w ++ fresh kind ∷ []) same)
    (standing-given d.handling.table d.handling.io.keys D old.handles new.table new.io.keys (D.world ++ fresh kind ∷ []) gives.key
    (subst (λ n. new.table.holders ≡ insert d.handling.table.holders n by_user) count gives.table)
    (subst (λ n. new.io.keys ≡ with_key (d.handling.io.keys ++ None ∷ []) n (Some gives.key)) count tried.1) longer)
    (record { marks = old.groups.marks; members = old.groups.members }) (omega (arith, longer, few, count)))

-- What giving a handle answers.
pub gives-all : {B E : Type 0} (buffer : B → Buffer) (result : Result ℕ E) (d : LegacyState Memory B) (kind : HandleKind)
    (new : Handling Memory) → length d.handling.io.world < MOST_HANDLES → IfOk result (λ fd. fd ≡ length d.handling.io.world) →
    OnOk result (GivesUser memory_view true true (with_created d.handling kind) (length d.handling.io.world) new) →
    IfOk result (λ fd. (D : Legacy) → LegacyStands memory_view buffer d D →
    LegacyAnswers memory_view buffer D (Give kind) (Handle fd) (record d { handling = new }))
gives-all buffer (Ok fd) d kind new few number gives = λ D old. stands-gives buffer d D kind fd new old number few gives
gives-all buffer (Err e) d kind new few number gives = tt
