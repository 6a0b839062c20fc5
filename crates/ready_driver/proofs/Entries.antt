-- The maps that a hash map from handles to keys and a slab make, after both changed at a handle and its key.
use Rattle.std.proofs.Common.{◌≡◌, ◌∙◌, ℕ, Option, Some, None, Bool, true, false, cond, nat_eq, option_map, refl, sym, ap}
use Rattle.std.specs.Prelude.{List, map as mapped}
use Rattle.std.specs.Ordering.{nat_cmp}
use Rattle.std.specs.Map.{lookup}
use Rattle.std.specs.HashMap.{HashMap}
use Rattle.std.specs.FinMap.{insert, remove, from_entries}
use Rattle.std.proofs.lemmas.Map.Made.{lookup-map_values}
use Rattle.slab.specs.Slab.{Slab, get as slot_at, entries as slots_of}
use Rattle.handle_core.proofs.Tables.{inserted-entries, removed-entries}
use Rattle.ready_driver.specs.declared.records.One.{One}
use Rattle.ready_driver.specs.Records.{names_of, one_at}
use Rattle.ready_driver.proofs.Paired.{AreChanged, part_at, part-put, part-gone, slab-looked}

-- A part of what was looked up, where it was put or left.
part-kept : {X Y : Type 0} (g : X → Y) (b : Bool) (x : X) (o : Option X) →
    option_map g (cond b (Some x) o) ≡ cond b (Some (g x)) (option_map g o)
part-kept g true x o = refl
part-kept g false x o = refl

-- The same, where it was taken out.
part-left : {X Y : Type 0} (g : X → Y) (b : Bool) (o : Option X) → option_map g (cond b None o) ≡ cond b None (option_map g o)
part-left g true o = refl
part-left g false o = refl

-- A part of what is at the key of each entry.
abbrev pub parts : {Y : Type 0} → (One → Y) → Slab One → List (ℕ × ℕ) → List (ℕ × Y)
parts part slab entries = mapped (λ e. (e.0, part (one_at slab e.1))) entries

module _ {S Y : Type 0} (part : One → Y) (keys new_keys : HashMap ℕ ℕ S) (slab new_slab : Slab One) where
  -- What they answer is a part of what is at a handle.
  pub looked-part : (q : ℕ) → lookup (nat_eq q) (parts part slab keys.entries) ≡ part_at part keys slab q
  looked-part q = lookup-map_values (λ key. part (one_at slab key)) (nat_eq q) keys.entries

  -- The map of these, where one was put.
  pub parts-put : (h key : ℕ) (now : One) → AreChanged keys new_keys slab new_slab h key (Some now) →
      from_entries {R = nat_cmp} (parts part new_slab new_keys.entries) ≡
      insert (from_entries (parts part slab keys.entries)) h (part now)
  parts-put h key now changed = inserted-entries (parts part slab keys.entries) (parts part new_slab new_keys.entries) h (part now) (λ q.
      lookup-map_values (λ k. part (one_at new_slab k)) (nat_eq q) new_keys.entries
      ∙ part-put keys new_keys slab new_slab h key part now changed q
      ∙ ap (cond (nat_eq h q) (Some (part now))) (sym (looked-part q)))

  -- And where one was taken out.
  pub parts-gone : (h key : ℕ) → AreChanged keys new_keys slab new_slab h key None →
      from_entries {R = nat_cmp} (parts part new_slab new_keys.entries) ≡ remove (from_entries (parts part slab keys.entries)) h
  parts-gone h key changed = removed-entries (parts part slab keys.entries) (parts part new_slab new_keys.entries) h (λ q.
      lookup-map_values (λ k. part (one_at new_slab k)) (nat_eq q) new_keys.entries
      ∙ part-gone keys new_keys slab new_slab h key part changed q
      ∙ ap (cond (nat_eq h q) None) (sym (looked-part q)))

-- The number at each key.
abbrev pub numbers : Slab One → List (ℕ × ℕ)
numbers slab = mapped (λ e. (e.0, e.1.number)) (slots_of slab)

-- They answer what the slab has there.
pub looked-number : (slab : Slab One) (k : ℕ) → lookup (nat_eq k) (numbers slab) ≡ option_map (λ o. o.number) (slot_at slab k)
looked-number slab k =
    lookup-map_values (λ (o : One). o.number) (nat_eq k) (slots_of slab) ∙ ap (option_map (λ (o : One). o.number)) (slab-looked slab k)

-- The handle of each key, where a slab changed at one.
pub names-put : (slab new : Slab One) (key : ℕ) (now : One) → ((k : ℕ) → slot_at new k ≡ cond (nat_eq key k) (Some now) (slot_at slab k)) →
    names_of new ≡ insert (names_of slab) key now.number
names-put slab new key now put = inserted-entries (numbers slab) (numbers new) key now.number (λ k.
    looked-number new k ∙ ap (option_map (λ (o : One). o.number)) (put k)
    ∙ part-kept (λ (o : One). o.number) (nat_eq key k) now (slot_at slab k)
    ∙ ap (cond (nat_eq key k) (Some now.number)) (sym (looked-number slab k)))

-- And where one was taken out.
pub names-gone : (slab new : Slab One) (key : ℕ) → ((k : ℕ) → slot_at new k ≡ cond (nat_eq key k) None (slot_at slab k)) →
    names_of new ≡ remove (names_of slab) key
names-gone slab new key gone = removed-entries (numbers slab) (numbers new) key (λ k.
    looked-number new k ∙ ap (option_map (λ (o : One). o.number)) (gone k)
    ∙ part-left (λ (o : One). o.number) (nat_eq key k) (slot_at slab k)
    ∙ ap (cond (nat_eq key k) None) (sym (looked-number slab k)))
