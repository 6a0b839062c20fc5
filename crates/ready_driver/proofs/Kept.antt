-- What a hash map from handles to keys and a slab make, which are the handles that somebody holds, after they changed at one handle.
use Rattle.std.proofs.Common.{◌≡◌, ◌∙◌, ℕ, Option, Some, None, Bool, true, false, cond, nat_eq, option_map, refl, sym, ap, subst}
use Rattle.std.proofs.Common.{arith}
use Rattle.std.specs.Prelude.{◌≤◌, ◌+◌, IsSome, OnSome, unwrap_or, slice_index_or}
use Rattle.std.specs.Ordering.{nat_cmp}
use Rattle.std.specs.HashMap.{HashMap, get_by, spare, Updates}
use Rattle.std.specs.FinMap.{get, insert, remove, from_entries}
use Rattle.slab.specs.Slab.{Slab, get as slot_at, with_value, slab_len, HasRoomFor, Updates as ChangesSlot}
use Rattle.slab.proofs.SlabLemmas.{Updates-with_value}
use Rattle.driver_core.proofs.Maps.{put-self}
use Rattle.handle_core.specs.declared.table.Holders.{Holders}
use Rattle.handle_core.specs.Table.{IsHeld, holders_at, nobody, with_holders}
use Rattle.handle_core.proofs.Tables.{get-lookup, same-entries, outermost}
use Rattle.ready_driver.specs.declared.records.One.{One}
use Rattle.ready_driver.specs.declared.records.Record.{Record}
use Rattle.ready_driver.specs.Records.{Holdings, IsPaired, AreNamed, holdings_of, held_entries, kept_entries, names_of, one_at, no_one}
use Rattle.ready_driver.specs.Records.{record_at, named_at, key_at, io_named, io_in, quiet, with_record, changed_if, changed, changed_in}
use Rattle.ready_driver.specs.Records.{changed_named, with_room, without_name, without_one}
use Rattle.ready_driver.proofs.Entries.{parts, numbers, looked-part, looked-number, parts-put, parts-gone, names-put, names-gone}
use Rattle.ready_driver.proofs.Paired.{AreChanged, part_at, slot-after, keys-apart, vacant-apart, placed-number, placed-key, some-same}
use Rattle.ready_driver.proofs.Paired.{equal-is, equal-same, len-written, there-put, named-put, there-gone, named-gone}

-- Of a handle whose key is this, no other key is.
alone : (key k : ℕ) {x : Option ℕ} → x ≡ Some key → x ≡ Some k → k ≡ key
alone key k is found = some-same k key (sym found ∙ is)

-- What is said of an answer that is there holds where it is.
pub some-says : {X P : Type 0} (answer : Option X) (x : X) → answer ≡ Some x → OnSome answer P → P
some-says {X} {P} answer x is says = subst (λ a. OnSome a P) is says

-- The holdings with these holders and this record of a handle, and this key of it.
abbrev pub with_all : Holdings → ℕ → ℕ → One → Holdings
with_all all h key now = record {
  table = with_holders all.table h now.held;
  records = record (with_record all.records h now.kept) { names = insert all.records.names key now.number };
}

-- A hash map and a slab, and what they make.
module _ {S : Type 0} (keys : HashMap ℕ ℕ S) (slab : Slab One) (room : ℕ) (paired : IsPaired keys slab room) (all : Holdings)
    (is : holdings_of keys.entries slab room ≡ all) where
  -- They have at a handle the record that the records have.
  pub answered : (h : ℕ) → part_at (λ o. o.kept) keys slab h ≡ record_at all.records h
  answered h = sym (get-lookup (kept_entries slab keys.entries) h ∙ looked-part (λ o. o.kept) keys keys slab slab h)
      ∙ ap (λ (a : Holdings). record_at a.records h) is

  -- And the holders that the table has.
  pub answered-held : (h : ℕ) → part_at (λ o. o.held) keys slab h ≡ get all.table.holders h
  answered-held h = sym (get-lookup (held_entries slab keys.entries) h ∙ looked-part (λ o. o.held) keys keys slab slab h)
      ∙ ap (λ (a : Holdings). get a.table.holders h) is

  -- And at a key its handle.
  pub answered-name : (key : ℕ) → option_map (λ o. o.number) (slot_at slab key) ≡ named_at all.records key
  answered-name key = sym (get-lookup (numbers slab) key ∙ looked-number slab key) ∙ ap (λ (a : Holdings). named_at a.records key) is

  -- What look-ups of a handle and its key find has the record of the handle.
  pub found-at : (h key : ℕ) (one : One) → Some key ≡ get_by (nat_eq h) keys → Some one ≡ slot_at slab key →
      record_at all.records h ≡ Some one.kept
  found-at h key one there at =
      sym (ap (λ x. Some (unwrap_or x no_one).kept) at ∙ ap (option_map (λ k. (one_at slab k).kept)) there ∙ answered h)

  -- And its holders.
  pub held-at : (h key : ℕ) (one : One) → Some key ≡ get_by (nat_eq h) keys → Some one ≡ slot_at slab key →
      get all.table.holders h ≡ Some one.held
  held-at h key one there at =
      sym (ap (λ x. Some (unwrap_or x no_one).held) at ∙ ap (option_map (λ k. (one_at slab k).held)) there ∙ answered-held h)

  -- So they are those of the handle.
  pub holders-at : (h key : ℕ) (one : One) → Some key ≡ get_by (nat_eq h) keys → Some one ≡ slot_at slab key →
      holders_at all.table h ≡ one.held
  holders-at h key one there at = rw (held-at h key one there at) refl

  -- A handle that a look-up doesn't find has no record.
  pub unfound-at : (h : ℕ) → None ≡ get_by (nat_eq h) keys → record_at all.records h ≡ None
  unfound-at h none = sym (ap (option_map (λ k. (one_at slab k).kept)) none ∙ answered h)

  -- And nobody holds it.
  pub unheld-at : (h : ℕ) → None ≡ get_by (nat_eq h) keys → get all.table.holders h ≡ None
  unheld-at h none = sym (ap (option_map (λ k. (one_at slab k).held)) none ∙ answered-held h)

  -- A look-up finds a handle that somebody holds.
  pub not-unheld : (h : ℕ) → IsHeld all.table h → None ≡ get_by (nat_eq h) keys → ⊥
  not-unheld h known none = let e = rw (unheld-at h none) at known in cc

  -- So its holders are nobody.
  pub nobody-at : (h : ℕ) → None ≡ get_by (nat_eq h) keys → holders_at all.table h ≡ nobody
  nobody-at h none = rw (unheld-at h none) refl

  -- A look-up of the key of a handle finds something.
  pub not-unplaced : (h key : ℕ) → Some key ≡ get_by (nat_eq h) keys → None ≡ slot_at slab key → ⊥
  not-unplaced h key there none =
      let place = paired.there h key (sym there) in
      let f : ◌≡◌ {A = Option One} None (Some place.one) = none ∙ place.there in cc

  -- So what they find, if anything, is what the table and the records have.
  pub looked-held : (h key : ℕ) → Some key ≡ get_by (nat_eq h) keys →
      option_map (λ o. o.held) (slot_at slab key) ≡ get all.table.holders h
  looked-held h key there =
      let place = paired.there h key (sym there) in
      ap (option_map (λ (o : One). o.held)) place.there ∙ sym (held-at h key place.one there (sym place.there))

  pub looked-kept : (h key : ℕ) → Some key ≡ get_by (nat_eq h) keys →
      option_map (λ o. o.kept) (slot_at slab key) ≡ record_at all.records h
  looked-kept h key there =
      let place = paired.there h key (sym there) in
      ap (option_map (λ (o : One). o.kept)) place.there ∙ sym (found-at h key place.one there (sym place.there))

  -- What a look-up of a key finds is of the handle of the key.
  pub named-found : (key : ℕ) (one : One) → Some one ≡ slot_at slab key → named_at all.records key ≡ Some one.number
  named-found key one at = sym (ap (option_map (λ (o : One). o.number)) at ∙ answered-name key)

  -- A key that a look-up doesn't find is no handle's.
  pub named-unfound : (key : ℕ) → None ≡ slot_at slab key → named_at all.records key ≡ None
  named-unfound key none = sym (ap (option_map (λ (o : One). o.number)) none ∙ answered-name key)

  -- A look-up finds the key of the handle that it is of.
  pub key-found : (key : ℕ) (one : One) → Some one ≡ slot_at slab key → Some key ≡ get_by (nat_eq one.number) keys
  key-found key one at = sym (paired.named key one (sym at))

  -- What a look-up of a key finds has the bits of its handle, and what waits.
  pub io-found : (key : ℕ) (one : One) → Some one ≡ slot_at slab key → io_named all.records key ≡ one.kept.io
  io-found key one at =
      ap (io_in all.records) (named-found key one at)
      ∙ ap (λ x. unwrap_or (option_map (λ r. r.io) x) quiet) (found-at one.number key one (key-found key one at) at)

  -- A key that a look-up doesn't find has none.
  pub io-unfound : (key : ℕ) → None ≡ slot_at slab key → io_named all.records key ≡ quiet
  io-unfound key none = ap (io_in all.records) (named-unfound key none)

  -- The handle of a key is that whose record has the key.
  pub named-keyed : AreNamed all.records
  named-keyed h key = (
    λ named. by (slot_at slab key) refl (answered-name key ∙ named),
    λ keyed. back (get_by (nat_eq h) keys) refl (ap (option_map (λ (r : Record). r.key)) (answered h) ∙ keyed),
  )
    where
      by : (x : Option One) → slot_at slab key ≡ x → option_map (λ o. o.number) x ≡ Some h → key_at all.records h ≡ Some key
      by None at named = (let f : ⊥ = cc in absurd f)
      by (Some one) at named =
          let same : one.number ≡ h = some-same one.number h named in
          let there : get_by (nat_eq h) keys ≡ Some key = ap (λ q. get_by (nat_eq q) keys) (sym same) ∙ paired.named key one at in
          ap (option_map (λ (r : Record). r.key)) (found-at h key one (sym there) (sym at))
          ∙ ap Some (placed-key keys slab room paired h key one there at)

      back : (x : Option ℕ) → get_by (nat_eq h) keys ≡ x → option_map (λ r. r.key) (option_map (λ k. (one_at slab k).kept) x) ≡ Some key →
          named_at all.records key ≡ Some h
      back None there keyed = (let f : ⊥ = cc in absurd f)
      back (Some k) there keyed =
          let place = paired.there h k there in
          let same : k ≡ key = sym place.keyed ∙ ap (λ x. (unwrap_or x no_one).kept.key) (sym place.there)
          ∙ some-same _ key keyed in
          ap (named_at all.records) (sym same) ∙ named-found k place.one (sym place.there) ∙ ap Some place.number

  module _ (new_keys : HashMap ℕ ℕ S) (new_slab : Slab One) (h key : ℕ) where
    -- Where one was put at a handle and its key, they make the holdings with it.
    pub put-all : (now : One) → AreChanged keys new_keys slab new_slab h key (Some now) →
        holdings_of new_keys.entries new_slab room ≡ with_all all h key now
    put-all now changed =
        ap (λ t. record {
          table = record { holders = t; spare = room };
          records = record { handles = from_entries (kept_entries new_slab new_keys.entries); names = names_of new_slab; spare = room };
        }) (parts-put (λ o. o.held) keys new_keys slab new_slab h key now changed)
        ∙ ap (λ k. record {
          table = record { holders = insert (from_entries (held_entries slab keys.entries)) h now.held; spare = room };
          records = record { handles = k; names = names_of new_slab; spare = room };
        }) (parts-put (λ o. o.kept) keys new_keys slab new_slab h key now changed)
        ∙ ap (λ n. record {
          table = record { holders = insert (from_entries (held_entries slab keys.entries)) h now.held; spare = room };
          records = record { handles = insert (from_entries (kept_entries slab keys.entries)) h now.kept; names = n; spare = room };
        }) (names-put slab new_slab key now changed.slots_are)
        ∙ ap (λ a. with_all a h key now) is

    -- Where a handle was taken out with its key, they make the holdings without it.
    pub gone-all : AreChanged keys new_keys slab new_slab h key None → key_at all.records h ≡ Some key →
        holdings_of new_keys.entries new_slab room ≡ without_one all h
    gone-all changed keyed =
        ap (λ t. record {
          table = record { holders = t; spare = room };
          records = record { handles = from_entries (kept_entries new_slab new_keys.entries); names = names_of new_slab; spare = room };
        }) (parts-gone (λ o. o.held) keys new_keys slab new_slab h key changed)
        ∙ ap (λ k. record {
          table = record { holders = remove (from_entries (held_entries slab keys.entries)) h; spare = room };
          records = record { handles = k; names = names_of new_slab; spare = room };
        }) (parts-gone (λ o. o.kept) keys new_keys slab new_slab h key changed)
        ∙ ap (λ n. record {
          table = record { holders = remove (from_entries (held_entries slab keys.entries)) h; spare = room };
          records = record { handles = remove (from_entries (kept_entries slab keys.entries)) h; names = n; spare = room };
        }) (names-gone slab new_slab key changed.slots_are)
        ∙ ap (λ (a : Holdings). record {
          table = record { holders = remove a.table.holders h; spare = a.table.spare };
          records = record { handles = remove a.records.handles h; names = remove a.records.names key; spare = a.records.spare };
        }) is
        ∙ ap (λ x. record {
          table = record { holders = remove all.table.holders h; spare = all.table.spare };
          records = record { handles = remove all.records.handles h; names = without_name all.records.names x; spare = all.records.spare };
        }) (sym keyed)

  -- A find that was overwritten.
  module _ (h key : ℕ) (was now : One) (there : Some key ≡ get_by (nat_eq h) keys) (at : Some was ≡ slot_at slab key) where
    pub changes-written : AreChanged keys keys slab (with_value slab key now) h key (Some now)
    changes-written = record {
      keys_are = λ q. by q (nat_eq h q) refl;
      slots_are = slot-after slab (with_value slab key now) key (Some now) (Updates-with_value slab key now (subst IsSome at refl));
      apart = keys-apart keys slab room paired h key (sym there);
      mine = λ k found. alone key k (sym there) found;
    }
      where
        by : (q : ℕ) (b : Bool) → nat_eq h q ≡ b → get_by (nat_eq q) keys ≡ cond b (Some key) (get_by (nat_eq q) keys)
        by q true same = ap (λ n. get_by (nat_eq n) keys) (sym (equal-is h q same)) ∙ sym there
        by q false other = refl

    -- With the number that it had it makes the holdings with what was written.
    pub written-one : now.number ≡ was.number → holdings_of keys.entries (with_value slab key now) room ≡
        record { table = with_holders all.table h now.held; records = with_record all.records h now.kept }
    written-one same =
        put-all keys (with_value slab key now) h key now changes-written
        ∙ ap (λ n. record {
          table = with_holders all.table h now.held;
          records = record (with_record all.records h now.kept) { names = n };
        })
        (ap (insert all.records.names key) same ∙ put-self all.records.names key was.number (named-found key was at))

    -- And the slab has still each handle at its key, and no other.
    pub written-paired : now.number ≡ was.number → now.kept.key ≡ was.kept.key → IsPaired keys (with_value slab key now) room
    written-paired same keyed = record {
      room = paired.room;
      places = subst (λ n. n + room ≤ slab.capacity) (sym (len-written slab key was now (sym at))) paired.places;
      there = there-put keys keys slab (with_value slab key now) room paired h key now changes-written
          (same ∙ placed-number keys slab room paired h key was (sym there) (sym at))
          (keyed ∙ placed-key keys slab room paired h key was (sym there) (sym at));
      named = named-put keys keys slab (with_value slab key now) room paired h key now changes-written
          (same ∙ placed-number keys slab room paired h key was (sym there) (sym at));
    }

    -- A record that was overwritten by its change makes the records with that change.
    pub written-record : (change : Record → Record) → now ≡ record was { kept = change was.kept } →
        holdings_of keys.entries (with_value slab key now) room ≡ record all { records = changed all.records h change }
    written-record change same =
        written-one (ap (λ (o : One). o.number) same)
        ∙ ap (λ (o : One). record { table = with_holders all.table h o.held; records = with_record all.records h o.kept }) same
        ∙ ap (λ hs. record { table = record all.table { holders = hs }; records = with_record all.records h (change was.kept) })
        (put-self all.table.holders h was.held (held-at h key was there at))
        ∙ ap (λ k. record all { records = k }) (sym (ap (λ x. changed_if x all.records h change) (found-at h key was there at)))

    -- Holders alone that were overwritten make the table with them.
    pub written-held : (held : Holders) → now ≡ record was { held = held } →
        holdings_of keys.entries (with_value slab key now) room ≡ record all { table = with_holders all.table h held }
    written-held held same =
        written-one (ap (λ (o : One). o.number) same)
        ∙ ap (λ (o : One). record { table = with_holders all.table h o.held; records = with_record all.records h o.kept }) same
        ∙ ap (λ ks. record { table = with_holders all.table h held; records = record all.records { handles = ks } })
        (put-self all.records.handles h was.kept (found-at h key was there at))

    -- One that was written again makes the same.
    pub same-record : now ≡ was → holdings_of keys.entries (with_value slab key now) room ≡ all
    same-record same =
        written-record (λ one. one) same ∙ ap (λ x. record all { records = x })
        (ap (λ x. changed_if x all.records h (λ one. one)) (found-at h key was there at)
        ∙ ap (λ m. record all.records { handles = m }) (put-self all.records.handles h was.kept (found-at h key was there at)))

    -- A find that was overwritten and then taken out, with its handle.
    module _ (n : HashMap ℕ ℕ S) (m : Slab One) (taken : Updates nat_eq keys n h None)
        (left : ChangesSlot (with_value slab key now) m key None) where
      pub changes-gone : AreChanged keys n slab m h key None
      changes-gone = record {
        keys_are = taken.0;
        slots_are = λ k. slot-after (with_value slab key now) m key None left k ∙ ap (cond (nat_eq key k) None) (changes-written.slots_are
            k)
            ∙ outermost (nat_eq key k) None (Some now) (slot_at slab k);
        apart = changes-written.apart;
        mine = changes-written.mine;
      }

      -- They make the holdings without it.
      pub removed-one : holdings_of n.entries m room ≡ without_one all h
      removed-one = gone-all n m h key changes-gone (ap (option_map (λ (r : Record). r.key)) (found-at h key was there at)
          ∙ ap Some (placed-key keys slab room paired h key was (sym there) (sym at)))

      -- And the slab has still each other handle at its key.
      pub removed-paired : (gone : Option One) → gone ≡ slot_at (with_value slab key now) key →
          OnSome gone (slab_len m + 1 ≡ slab_len (with_value slab key now)) → m.capacity ≡ slab.capacity → spare keys ≤ spare n →
          IsPaired n m room
      removed-paired gone is len capacity enough = record {
        room = (let was_enough = paired.room in omega (arith, was_enough, enough));
        places = (
            let was_places = paired.places in
            let same = len-written slab key was now (sym at) in
            let one = some-says gone now (is ∙ changes-written.slots_are key
            ∙ ap (λ b. cond b (Some now) (slot_at slab key)) (equal-same key)) len in
            omega (arith, was_places, same, one, capacity));
        there = there-gone keys n slab m room paired h key changes-gone;
        named = named-gone keys n slab m room paired h key changes-gone;
      }

  -- A new handle, whose key the slab had not.
  module _ (n : HashMap ℕ ℕ S) (m : Slab One) (h key : ℕ) (now : One) (unheld : get all.table.holders h ≡ None)
      (put : Updates nat_eq keys n h (Some key)) (vacant : slot_at slab key ≡ None) (put_slot : ChangesSlot slab m key (Some now)) where
    -- No key is that of a handle that nobody holds.
    pub unkeyed : get_by (nat_eq h) keys ≡ None
    unkeyed = by (get_by (nat_eq h) keys) refl (answered-held h ∙ unheld)
      where
        by : (x : Option ℕ) → get_by (nat_eq h) keys ≡ x → option_map (λ k. (one_at slab k).held) x ≡ None → get_by (nat_eq h) keys ≡ None
        by None is none = is
        by (Some k) is none = (let f : ⊥ = cc in absurd f)

    pub changes-new : AreChanged keys n slab m h key (Some now)
    changes-new = record {
      keys_are = put.0;
      slots_are = slot-after slab m key (Some now) put_slot;
      apart = λ q k other is. vacant-apart keys slab room paired key vacant q k is;
      mine = λ k is. (let f : ◌≡◌ {A = Option ℕ} None (Some k) = sym unkeyed ∙ is in let g : ⊥ = cc in absurd g);
    }

    -- The key was no handle's.
    pub new-fresh : named_at all.records key ≡ None
    new-fresh = named-unfound key (sym vacant)

    pub new-paired : (rest : ℕ) → now.number ≡ h → now.kept.key ≡ key → rest + 1 ≡ room → slab_len m ≡ slab_len slab + 1 →
        m.capacity ≡ slab.capacity → spare keys ≤ spare n + 1 → IsPaired n m rest
    new-paired rest number keyed one len capacity enough = record {
      room = (let was_enough = paired.room in omega (arith, was_enough, enough, one));
      places = (let was_places = paired.places in omega (arith, was_places, len, capacity, one));
      there = there-put keys n slab m room paired h key now changes-new number keyed;
      named = named-put keys n slab m room paired h key now changes-new number;
    }

  -- Keys in another order, and slots with other memory, make the same with other room.
  module _ (n : HashMap ℕ ℕ S) (m : Slab One) (other : ℕ) (alike : (q : ℕ) → get_by (nat_eq q) n ≡ get_by (nat_eq q) keys)
      (slots : m.slots ≡ slab.slots) where
    pub like-paired : other ≤ spare n → HasRoomFor m other → IsPaired n m other
    like-paired enough places = record {
      room = enough;
      places = places;
      there = λ q k is. (
          let place = paired.there q k (sym (alike q) ∙ is) in
          record {
            one = place.one;
            there = ap (λ xs. slice_index_or xs k None) slots ∙ place.there;
            number = place.number;
            keyed = place.keyed;
          });
      named = λ k one at. alike one.number ∙ paired.named k one (ap (λ xs. slice_index_or xs k None) (sym slots) ∙ at);
    }

    pub like-holdings : holdings_of n.entries m other ≡ with_room all other
    like-holdings =
        ap (λ xs. holdings_of n.entries (record slab { slots = xs }) other) slots
        ∙ ap (λ t. record {
          table = record { holders = t; spare = other };
          records = record { handles = from_entries (kept_entries slab n.entries); names = names_of slab; spare = other };
        }) (parts-like (λ o. o.held))
        ∙ ap (λ ks. record {
          table = record { holders = from_entries (held_entries slab keys.entries); spare = other };
          records = record { handles = ks; names = names_of slab; spare = other };
        }) (parts-like (λ o. o.kept))
        ∙ ap (λ a. with_room a other) is
      where
        parts-like : {Y : Type 0} (part : One → Y) →
            from_entries {R = nat_cmp} (parts part slab n.entries) ≡ from_entries (parts part slab keys.entries)
        parts-like part = same-entries (parts part slab keys.entries) (parts part slab n.entries) (λ q.
            looked-part part n n slab slab q ∙ ap (option_map (λ k. part (one_at slab k))) (alike q)
            ∙ sym (looked-part part keys keys slab slab q))

  -- A record of a key that was overwritten by its change makes the records with that change.
  pub written-named : (key : ℕ) (was now : One) (change : Record → Record) → Some was ≡ slot_at slab key →
      now ≡ record was { kept = change was.kept } →
      holdings_of keys.entries (with_value slab key now) room ≡ record all { records = changed_named all.records key change }
  written-named key was now change at same =
      written-record was.number key was now (key-found key was at) at change same
      ∙ ap (λ k. record all { records = k }) (sym (ap (λ x. changed_in all.records x change) (named-found key was at)))

  -- Where there is no find there is nothing to change.
  pub unchanged-record : (h : ℕ) (change : Record → Record) → None ≡ get_by (nat_eq h) keys →
      all ≡ record all { records = changed all.records h change }
  unchanged-record h change none = ap (λ k. record all { records = k })
      (sym (ap (λ x. changed_if x all.records h change) (unfound-at h none)))

  -- Nor where a key finds nothing.
  pub unchanged-named : (key : ℕ) (change : Record → Record) → None ≡ slot_at slab key →
      all ≡ record all { records = changed_named all.records key change }
  unchanged-named key change none = ap (λ k. record all { records = k })
      (sym (ap (λ x. changed_in all.records x change) (named-unfound key none)))
