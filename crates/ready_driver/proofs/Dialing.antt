-- What opening a handle keeps of a driver.
use Rattle.std.proofs.Common.{◌≡◌, ℕ, ◌||◌, Bool, false, List, Some, sym, ◌∙◌, ap, subst, slice_get}
use Rattle.std.specs.Prelude.{is_some, nat_le, IsTrue, Result, Ok, Err}
use Rattle.std.specs.Ordering.{nat_cmp}
use Rattle.std.specs.FinMap.{FinMap, get}
use Rattle.machine.specs.declared.world.TheConstants.{MOST_HANDLES}
use Rattle.machine.specs.declared.world.HandleKind.{HandleKind}
use Rattle.driver_core.specs.declared.slot.Slot.{Slot}
use Rattle.ready_driver.specs.declared.non_block.NonBlockError.{NonBlockError}
use Rattle.ready_driver.specs.declared.non_block.Report.{Report}
use Rattle.ready_driver.specs.Dialing.{IsOpened, OpensFor}
use Rattle.ready_driver.specs.Io.{IoView}
use Rattle.ready_driver.specs.Named.{AreNaming}
use Rattle.ready_driver.specs.Registry.{Handling, is_known, is_old, IsSameButRoom, GivesUser}
use Rattle.ready_driver.specs.Sockets.{IsGiven}
use Rattle.ready_driver.specs.Turns.{AreShown}
use Rattle.ready_driver.proofs.Naming.{naming-room, naming-given}
use Rattle.ready_driver.proofs.Polled.{or-first}
use Rattle.ready_driver.proofs.Showing.{agree-record, keys-same, shown-like, shown-given}
use Rattle.ready_driver.proofs.Shown.{key-before}
use Rattle.handle_core.specs.Table.{Table}

-- A handle that can be new is nobody's, also where reserved memory has changed.
pub unknown-new : (table now : Table) (h : ℕ) → now.holders ≡ table.holders → is_old table h ≡ false → is_known now h ≡ false
unknown-new table now h same fresh =
    ap (λ m. is_some (get m h)) same ∙ or-first (is_known table h) (nat_le MOST_HANDLES h) fresh

-- A handle is opened: memory is taken, the object makes it, and its user gets it.
pub opened-by : {I : Type 0} (view : I → IoView) (tells memory : Bool) (kind : HandleKind) (old way inside : Handling I) (io : I) (h fd : ℕ)
    (new : Handling I) → inside ≡ way → IsSameButRoom old way → is_old way.table (view way.io).made ≡ false →
    IsGiven tells memory kind (view inside.io) (view io) h → GivesUser view tells memory (record inside { io = io }) h new → fd ≡ h →
    IsOpened view tells memory kind old new fd
opened-by view tells memory kind old way inside io h fd new is same fresh given user number =
    subst (IsOpened view tells memory kind old new) (sym number) (record {
      mid = record inside { io = io };
      fresh = ap (λ m. is_some (get m h) || nat_le MOST_HANDLES h) (sym same.table)
          ∙ ap (is_old way.table) (given.number ∙ ap (λ x. (view x.io).made) is) ∙ fresh;
      holders = ap (λ x. x.table.holders) is ∙ same.table;
      handles = ap (λ x. x.records.handles) is ∙ same.records;
      names = ap (λ x. x.records.names) is ∙ same.names;
      made = subst (λ o. IsGiven tells memory kind (view o) (view io) h) (ap (λ x. x.io) is ∙ same.io) given;
      user = user;
    })

-- The operations count their holds of each handle as before.
pub naming-opened : {I B : Type 0} (result : Result ℕ NonBlockError) (view : I → IoView) (tells memory : Bool) (kind : HandleKind)
    (old new : Handling I) (slots : FinMap nat_cmp (Slot B)) (count : ℕ) → OpensFor view tells memory kind old new result →
    AreNaming old.table slots count → AreNaming new.table slots count
naming-opened (Ok h) view tells memory kind old new slots count opens are =
    naming-given opens.mid.table new.table slots count h (naming-room old.table opens.mid.table slots count are opens.holders)
    (unknown-new old.table opens.mid.table h opens.holders opens.fresh) opens.user.table
naming-opened (Err why) view tells memory kind old new slots count opens are =
    naming-room old.table new.table slots count are opens.holders

-- Each handle that somebody holds is due or has its bits.
pub shown-opened : {I : Type 0} (view : I → IoView) (reports : List Report) (tells memory : Bool) → IsTrue memory →
    (result : Result ℕ NonBlockError) (kind : HandleKind) (old new : Handling I) → OpensFor view tells memory kind old new result →
    AreShown view old reports → AreShown view new reports
shown-opened view reports tells memory in_memory (Ok h) kind old new opens shown =
    shown-given view reports tells memory in_memory opens.mid new h opens.user
    (shown-like view reports old opens.mid (opens.made.shown in_memory)
    (λ g key is. key-before (Some 0) (view old.io).keys g key (ap (λ ks. slice_get ks g) (sym (opens.made.keys in_memory)) ∙ is))
    (λ g held. sym (ap (λ m. is_some (get m g)) opens.holders) ∙ held)
    (λ g held. agree-record old.records opens.mid.records g (ap (λ m. get m g) opens.handles)) shown)
shown-opened view reports tells memory in_memory (Err why) kind old new opens shown =
    shown-like view reports old new (opens.object.shown in_memory)
    (keys-same (view old.io) (view new.io) (opens.object.keys_are in_memory))
    (λ g held. sym (ap (λ m. is_some (get m g)) opens.holders) ∙ held)
    (λ g held. agree-record old.records new.records g (ap (λ m. get m g) opens.handles)) shown
