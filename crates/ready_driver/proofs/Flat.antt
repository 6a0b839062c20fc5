-- A ledger with its queue taken: what each push, each new operation and each change makes of it.
use Rattle.std.proofs.Common.{◌≡◌, ℕ, Bool, true, false, List, [], ◌∷◌, ◌++◌, length, Option, None, refl, sym, ◌∙◌, ap, if◌then◌else◌}
use Rattle.std.proofs.Common.{◌==◌}
use Rattle.machine.specs.declared.world.HandleState.{HandleState}
use Rattle.machine.specs.Lists.{amended}
use Rattle.machine.specs.Ledger.{Ledger, Operation, Owner, Queued, Req, Cancel}
use Rattle.machine.specs.Queue.{with_op, with_take, with_cancel, take_one, leader_behind, take_behind, take_each, take_all, make_room}
use Rattle.machine.specs.Queue.{append, push}
use Rattle.machine.specs.Step.{with_new_op}
use Rattle.machine.proofs.Taken.{queue-take_each, length-take_each}
use Rattle.machine.proofs.Taking.{Listed}
use Rattle.machine.proofs.Listed.{take-new_op, joined}
use Rattle.ready_driver.proofs.Lists.{amended-swap, amended-end}
use Rattle.ready_driver.proofs.Free.{Free, AllFree, free-changed, free-joined, take-first, free-one, free-room}

-- The last entry is taken behind the others, where no operation is linked.
take_each-append : (L : Ledger) (xs : List Queued) (y : Queued) → AllFree L.ops →
    take_each L (xs ++ y ∷ []) ≡ take_one None (take_each L xs) y
take_each-append L [] y h = refl
take_each-append L (x ∷ xs) y h =
    take-first L x (xs ++ y ∷ []) h ∙ take_each-append (take_one None L x) xs y (free-one L x h)
    ∙ ap (λ K. take_one None K y) (sym (take-first L x xs h))

-- Taking takes nothing where the queue is empty.
pub take-none : (L : Ledger) → L.queue ≡ [] → take_all L ≡ L
take-none L q = ap (λ entries. take_each (record L { queue = [] }) entries) q ∙ ap (λ entries. record L { queue = entries }) (sym q)

-- Nothing is queued behind it.
pub flat-queue : (L : Ledger) → (take_all L).queue ≡ []
flat-queue L = queue-take_each (record L { queue = [] }) L.queue

-- Room that is made, or not, isn't seen.
flat-room_if : (b : Bool) (L : Ledger) → take_all (if b then take_all L else L) ≡ take_all L
flat-room_if true L = take-none (take_all L) (flat-queue L)
flat-room_if false L = refl

-- Making room isn't seen.
pub flat-room : (L : Ledger) → take_all (make_room L) ≡ take_all L
flat-room L = flat-room_if (length L.queue == L.capacity) L

-- An entry that is appended is taken once more.
pub flat-append : (L : Ledger) (entry : Queued) → AllFree L.ops → take_all (append L entry) ≡ take_one None (take_all L) entry
flat-append L entry h = take_each-append (record L { queue = [] }) L.queue entry h

-- So is one that is pushed.
pub flat-push : (L : Ledger) (entry : Queued) → AllFree L.ops → take_all (push L entry) ≡ take_one None (take_all L) entry
flat-push L entry h = flat-append (make_room L) entry (free-room L h) ∙ ap (λ K. take_one None K entry) (flat-room L)

-- A new operation that isn't canceled joins it.
pub flat-new_op : (L : Ledger) (o : Operation) → with_cancel o ≡ o → Listed L → take_all (with_new_op L o) ≡ with_new_op (take_all L) o
flat-new_op L o still h = take-new_op (record L { queue = [] }) o L.queue still h.waiting

-- With its request it flies.
pub flat-joined : (M : Ledger) (o : Operation) → with_cancel o ≡ o → Free o → Listed M → AllFree M.ops →
    (take_all (joined M o)).ops ≡ (take_all M).ops ++ with_take None o ∷ []
flat-joined M o still free h all =
    ap (λ K. K.ops) (flat-append (with_new_op M o) (Req (length M.ops)) (free-joined M.ops o free all))
    ∙ ap (λ K. amended K.ops (length M.ops) (with_take None)) (flat-new_op M o still h)
    ∙ ap (λ j. amended ((take_all M).ops ++ o ∷ []) j (with_take None)) (sym (length-take_each (record M { queue = [] }) M.queue))
    ∙ amended-end (take_all M).ops o (with_take None)

-- A change of an operation that commutes with the taking of an entry, and keeps it free.
pub record Unmoved (f : Operation → Operation) : Type 0 where
  pub taken : (o : Operation) → with_take None (f o) ≡ f (with_take None o)
  pub canceled : (o : Operation) → with_cancel (f o) ≡ f (with_cancel o)
  pub free : (o : Operation) → Free o → Free (f o)

-- It commutes with the taking of one.
one-changed : (L : Ledger) (entry : Queued) (n : ℕ) (f : Operation → Operation) → Unmoved f →
    take_one None (with_op L n f) entry ≡ with_op (take_one None L entry) n f
one-changed L (Req m) n f u =
    ap (λ ops. record (take_one None L (Req m)) { ops = ops }) (amended-swap L.ops n m f (with_take None) u.taken)
one-changed L (Cancel m) n f u = ap (λ ops. record L { ops = ops }) (amended-swap L.ops n m f with_cancel u.canceled)
one-changed L (Queued.Close h) n f u = refl

-- It commutes with the taking of entries.
take-changed : (L : Ledger) (entries : List Queued) (n : ℕ) (f : Operation → Operation) → Unmoved f → AllFree L.ops →
    take_each (with_op L n f) entries ≡ with_op (take_each L entries) n f
take-changed L [] n f u h = refl
take-changed L (x ∷ entries) n f u h =
    take-first (with_op L n f) x entries (free-changed L.ops n f u.free h) ∙ ap (λ K. take_each K entries) (one-changed L x n f u)
    ∙ take-changed (take_one None L x) entries n f u (free-one L x h) ∙ ap (λ K. with_op K n f) (sym (take-first L x entries h))

-- It is made of the taken ledger.
pub flat-changed : (L : Ledger) (n : ℕ) (f : Operation → Operation) → Unmoved f → AllFree L.ops →
    take_all (with_op L n f) ≡ with_op (take_all L) n f
flat-changed L n f u h = take-changed (record L { queue = [] }) L.queue n f u h

-- A ledger with other handles, owners, cancellers, cancel handles and groups.
abbrev pub beside : Ledger → List HandleState → List Owner → List ℕ → List ℕ → List Bool → Ledger
beside L world owners cancellers handles groups =
    record L { world = world; owners = owners; cancellers = cancellers; cancel_handles = handles; groups = groups }

-- Taking entries doesn't see them, whatever the first of these follows.
take-beside : (leader : Option ℕ) (L : Ledger) (entries : List Queued) (world : List HandleState) (owners : List Owner)
    (cancellers handles : List ℕ) (groups : List Bool) →
    take_behind leader (beside L world owners cancellers handles groups) entries ≡ beside
    (take_behind leader L entries) world owners cancellers handles groups
take-beside leader L [] world owners cancellers handles groups = refl
take-beside leader L (Req m ∷ entries) world owners cancellers handles groups =
    take-beside (leader_behind L (Req m)) (take_one leader L (Req m)) entries world owners cancellers handles groups
take-beside leader L (Cancel m ∷ entries) world owners cancellers handles groups =
    take-beside None (take_one leader L (Cancel m)) entries world owners cancellers handles groups
take-beside leader L (Queued.Close h ∷ entries) world owners cancellers handles groups =
    take-beside None (take_one leader L (Queued.Close h)) entries world owners cancellers handles groups

-- They are beside the taken ledger.
pub flat-beside : (L : Ledger) (world : List HandleState) (owners : List Owner) (cancellers handles : List ℕ) (groups : List Bool) →
    take_all (beside L world owners cancellers handles groups) ≡ beside (take_all L) world owners cancellers handles groups
flat-beside L world owners cancellers handles groups =
    take-beside None (record L { queue = [] }) L.queue world owners cancellers handles groups
