-- What a slab keeps true, and what its slots are, as a value is taken out and the last page looked at.
use Rattle.std.proofs.Common.{◌≡◌, ℕ, suc, ◌+◌, ◌-◌, ◌≤◌, ◌<◌, List, length, None, Some, set, get_or, take, slice_get, inl, inr, refl}
use Rattle.std.proofs.Common.{sym, ◌∙◌, ap, subst, arith, Option, is_some, true, false, true≢false}
use Rattle.std.specs.Prelude.{IsSome, option_copied}
use Rattle.std.specs.Borrow.{Bor}
use Rattle.op_slots.specs.declared.slab.pages.TheConstants.{NUM_PAGES}
use Rattle.std.specs.FinMap.{get, remove}
use Rattle.std.proofs.lemmas.List.{map-set, take-map}
use Rattle.std.proofs.lemmas.Bool.{cases_lt}
use Rattle.std.proofs.lemmas.Option.{slice_get_within, slice_get-get_or}
use Rattle.op_slots.specs.declared.slab.TheConstants.{MAX_LIVE, COMPACT_INTERVAL}
use Rattle.op_slots.specs.declared.slab.entry.FreeList.{FreeList}
use Rattle.op_slots.specs.declared.slab.entry.Entry.{Entry}
use Rattle.op_slots.specs.Pages.{page_of, first_key}
use Rattle.op_slots.specs.Slots.{IsPageEmpty, GivesBackPage}
use Rattle.op_slots.specs.Entry.{value_of}
use Rattle.op_slots.specs.Layout.{at, taken, places_of, AreLaid, AreKept, slots_of, Takes, IsLastEmpty, LooksAtLast}
use Rattle.op_slots.proofs.Pages.{first-bound, first-mono, page_of-at, next_first}
use Rattle.op_slots.proofs.Places.{map_of, get-places, map-empty, map-cut, at-live, at-past, taken-take, taken-cut}
use Rattle.op_slots.proofs.Entries.{at-entry, entry-at, before-all, before-mono, before-past, before-steps, empty-between, empties-between}
use Rattle.op_slots.proofs.Laid.{OnPage, on-page, page-before, laid-empty, laid-less}
use Rattle.op_slots.proofs.Kept.{length-places, live-on}
use Rattle.op_slots.proofs.Inserting.{list-at}

module _ {T : Type 0} where
  -- a key that was found is live
  pub found-live : (r : Option (Bor T)) (o : Option T) → option_copied r ≡ o → is_some r ≡ true → IsSome o
  found-live None o e some = absurd (true≢false (sym some))
  found-live (Some x) o e some = subst IsSome e refl

  -- one that wasn't has no value
  pub found-none : (r : Option (Bor T)) (o : Option T) → option_copied r ≡ o → is_some r ≡ false → o ≡ None
  found-none None o e none = sym e
  found-none (Some x) o e none = absurd (true≢false none)

  -- a live key's place holds its value
  pub live-held : (es : List (Entry T)) (pages removals key : ℕ) → IsSome (get (slots_of es pages removals).values key)
      → IsSome (at (places_of es) key)
  live-held es pages removals key live = subst IsSome (get-places (places_of es) key) live

  -- where a value is held, fewer places than all are empty
  pub count-below : (es : List (Entry T)) (lists : List FreeList) (pages key page : ℕ) (nothing : FreeList) → AreLaid es lists pages
      → page ≡ page_of key → IsSome (at (places_of es) key) → (page < NUM_PAGES) × ((get_or lists page nothing).count < MAX_LIVE)
  count-below es lists pages key page nothing h is held =
      let entry = entry-at es key held in
      let inside = at-live (places_of es) key held in
      let on = page-before key pages h.few (omega (arith, inside, length-places es, h.within)) in
      let less : page < pages = omega (arith, is, on.1) in
      let there : slice_get lists page ≡ Some (get_or lists page nothing) =
      slice_get-get_or lists page nothing (omega (arith, less, h.few, h.count)) in
      let its = h.complete page (get_or lists page nothing) there in
      let one = taken-take (places_of es) key entry.0 inside (at-entry es key _ entry.1) in
      let later : first_key (suc page) ≤ first_key pages = first-mono (suc page) pages (omega arith) in (
        omega (arith, less, h.few),
        omega (
          arith,
          its.complete,
          before-mono (first_key (suc page)) (first_key pages) es later,
          before-all (first_key pages) es h.within,
          one,
          h.within,
          first-bound pages h.few,
        ),
      )

  -- what is so once a value was taken out
  pub record Removed (old rest : List (Entry T)) (lists : List FreeList) (pages removals key : ℕ) (v : T) : Type 0 where
    pub laid : AreLaid rest lists pages
    pub counted : taken (places_of rest) + 1 ≡ taken (places_of old)
    pub value : get (slots_of old pages removals).values key ≡ Some v
    pub values : map_of (places_of rest) ≡ remove (map_of (places_of old)) key
    pub search : page_of key ≤ pages - 1

  pub removed : (es rest : List (Entry T)) (lists : List FreeList) (pages removals key page : ℕ) (nothing more : FreeList) (v : T)
      → AreLaid es lists pages → page ≡ page_of key → Takes es (get_or lists page nothing) key v rest more
      → Removed es rest (set lists page more) pages removals key v
  removed es rest lists pages removals key page nothing more v h is take =
      let within = slice_get_within es key _ take.held in
      let on = page-before key pages h.few (omega (arith, within, h.within)) in
      let there : slice_get lists page ≡ Some (get_or lists page nothing) =
      slice_get-get_or lists page nothing (omega (arith, is, on.1, h.few, h.count)) in
      let held : at (places_of es) key ≡ Some v = at-entry es key _ take.held in
      let inside : key < length (places_of es) = omega (arith, within, length-places es) in
      let places : places_of rest ≡ set (places_of es) key None = ap places_of take.emptied ∙ map-set value_of es key _ in
      let lies : OnPage key page = subst (OnPage key) (sym is) (on-page key on.0) in
      record {
        laid = subst (λ (p : List (Entry T) × FreeList). AreLaid p.0 (set lists page p.1) pages)
            (sym (pair take.emptied take.leads)) (laid-empty es lists pages page key (get_or lists page nothing) v h there lies take.held);
        counted = omega (arith, ap taken places, taken-take (places_of es) key v inside held);
        value = get-places (places_of es) key ∙ held;
        values = ap map_of places ∙ map-empty (places_of es) key inside;
        search = omega (arith, on.1);
      }
    where
      pair : {a b : List (Entry T)} {m n : FreeList} → a ≡ b → m ≡ n → ◌≡◌ {A = List (Entry T) × FreeList} (a, m) (b, n)
      pair p q = cc

  -- where the last page isn't looked at, the slab keeps what it kept
  pub removed-kept : (old rest : List (Entry T)) (before lists : List FreeList) (pages entered first removals key page : ℕ) (v : T)
      → AreKept old before pages entered first removals → Removed old rest lists pages removals key v → page ≡ page_of key
      → removals + 1 < COMPACT_INTERVAL → AreKept rest lists pages entered page (removals + 1)
  removed-kept old rest before lists pages entered first removals key page v h r is less =
      record { laid = r.laid; counted = omega (arith, h.counted, r.counted); search = omega (arith, r.search, is); interval = less }

  -- what is so once the last page was looked at
  pub record Looked (old new : List (Entry T)) (lists : List FreeList) (before after entered removals key : ℕ) : Type 0 where
    pub kept : AreKept new lists after (entered - COMPACT_INTERVAL) 0 0
    pub values : map_of (places_of new) ≡ remove (map_of (places_of old)) key
    pub given : GivesBackPage (slots_of old before removals) (slots_of new after 0) → after + 1 ≡ before
    pub stays : ¬ GivesBackPage (slots_of old before removals) (slots_of new after 0) → after ≡ before

  -- where no key of the last page is live, the page is empty
  last-empty : (es : List (Entry T)) (lists : List FreeList) (pages removals p : ℕ) → AreLaid es lists pages → p + 1 ≡ pages → 1 < pages
      → IsPageEmpty (slots_of es pages removals) p → IsLastEmpty es lists pages
  last-empty es lists pages removals p h one many none =
      let list = list-at es lists pages p h (omega (arith, one, h.few)) in
      let is = h.complete p list.0 list.1 in
      let last : pages - 1 ≡ p = omega arith in
      let next : suc p ≡ pages = omega arith in
      let used : first_key p ≤ length es = subst (λ n. first_key n ≤ length es) last h.used in
      let ends : length es ≤ first_key (suc p) = subst (λ n. length es ≤ first_key n) (sym next) h.within in
      let dead : (k : ℕ) → first_key p ≤ k → IsSome (at (places_of es) k) → ⊥ = λ k from held.
      none k (subst IsSome (sym (get-places (places_of es) k)) held) (on-last k from (at-live (places_of es) k held)) in
      let empties = empties-between (first_key p) es dead used in
      let past = before-past (length es) (first_key (suc p)) es (omega arith) ends in
      let count : first_key p + list.0.count ≡ length es = omega (arith, is.complete, empties, past, used) in (
        many,
        (
          list.0,
          subst (λ n. slice_get lists n ≡ Some list.0) (sym last) list.1,
          subst (λ n. first_key n + list.0.count ≡ length es) (sym last) count,
        ),
      )
    where
      on-last : (k : ℕ) → first_key p ≤ k → k < length (places_of es) → page_of k ≡ p
      on-last k from within =
          let next : first_key (suc p) ≡ first_key pages = (let e : suc p ≡ pages = omega arith in ap first_key e) in
          page_of-at k p (omega (arith, one, h.few)) from (omega (arith, within, length-places es, h.within, next, next_first p))

  -- an empty last page has no live key
  dead-last : (es : List (Entry T)) (lists : List FreeList) (pages p k : ℕ) → AreLaid es lists pages → p + 1 ≡ pages
      → IsLastEmpty es lists pages → first_key p ≤ k → at (places_of es) k ≡ None
  dead-last es lists pages p k h one empty from =
      let last : pages - 1 ≡ p = omega arith in
      let next : suc p ≡ pages = omega arith in
      let list = empty.1.0 in
      let there : slice_get lists p ≡ Some list = subst (λ n. slice_get lists n ≡ Some list) last empty.1.1 in
      let count : first_key p + list.count ≡ length es = subst (λ n. first_key n + list.count ≡ length es) last empty.1.2 in
      let is = h.complete p list there in
      let ends : length es ≤ first_key (suc p) = subst (λ n. length es ≤ first_key n) (sym next) h.within in
      let past = before-past (length es) (first_key (suc p)) es (omega arith) ends in
      elim (cases_lt k (length es)) [
        | inl less ↦ empty-between (first_key p) (length es) k es (omega (arith, is.complete, past, count)) from less
        | inr ge ↦ at-past (places_of es) k (omega (arith, length-places es, ge))
      ]

  pub looked : (old mid new : List (Entry T)) (lists rest first_lists : List FreeList) (before after entered first removals key : ℕ) (v : T)
      → AreKept old first_lists before entered first removals → Removed old mid lists before removals key v
      → removals + 1 ≡ COMPACT_INTERVAL → LooksAtLast mid new lists rest before after
      → Looked old new rest before after entered removals key
  looked old mid new lists rest first_lists before after entered first removals key v h r last (inl dropped) =
      let one = dropped.left in
      let dead : (k : ℕ) → first_key after ≤ k → at (places_of mid) k ≡ None =
      λ k from. dead-last mid lists before after k r.laid one dropped.empty from in
      let places : places_of new ≡ take (first_key after) (places_of mid) = ap places_of dropped.cut
      ∙ sym (take-map value_of (first_key after) mid) in
      let values = ap map_of places ∙ map-cut (first_key after) (places_of mid) dead in
      let laid : AreLaid new rest after = subst (λ xs. AreLaid xs rest after) (sym dropped.cut)
      (subst (λ (l : List FreeList). AreLaid (take (first_key after) mid) l after) (sym dropped.cleared)
      (laid-less mid lists before after dropped.list r.laid one dropped.none)) in
      let empty : IsPageEmpty (slots_of new after 0) (before - 1) =
      λ k is_live is. (let w = live-on new rest after 0 k laid is_live in omega (arith, w.1, one, is)) in
      record {
        kept = record {
          laid = laid;
          counted = omega (arith, h.counted, r.counted, last, ap taken places, taken-cut (first_key after) (places_of mid) dead);
          search = omega arith;
          interval = omega arith;
        };
        values = values ∙ r.values;
        given = λ gives. one;
        stays = λ not. absurd (not (last, omega (arith, dropped.empty.0), empty));
      }
  looked old mid new lists rest first_lists before after entered first removals key v h r last (inr same) =
      let places : places_of new ≡ places_of mid = ap places_of same.0 in
      let laid : AreLaid new rest after = subst (λ xs. AreLaid xs rest after) (sym same.0)
      (subst (λ (l : List FreeList). AreLaid mid l after) (sym same.1) (subst (AreLaid mid lists) (sym same.2) r.laid)) in
      record {
        kept = record {
          laid = laid;
          counted = omega (arith, h.counted, r.counted, last, ap taken places);
          search = omega arith;
          interval = omega arith;
        };
        values = ap map_of places ∙ r.values;
        given = λ gives. absurd (same.3 (last-empty mid lists before 0 (before - 1) r.laid (omega (arith, gives.1)) gives.1
            (dead-page gives.2)));
        stays = λ not. same.2;
      }
    where
      dead-page : IsPageEmpty (slots_of new after 0) (before - 1) → IsPageEmpty (slots_of mid before 0) (before - 1)
      dead-page none = λ k live. none k (subst (λ xs. IsSome (get (map_of xs) k)) (sym (ap places_of same.0)) live)

  -- the last page was dropped, as its list is read
  pub dropped : (es new : List (Entry T)) (lists : List FreeList) (pages begin : ℕ) (nothing none : FreeList) → AreLaid es lists pages
      → 1 < pages → begin ≡ first_key (pages - 1) → length es - begin ≤ (get_or lists (pages - 1) nothing).count → new ≡ take begin es
      → none.count ≡ 0 → LooksAtLast es new lists (set lists (pages - 1) none) pages (pages - 1)
  dropped es new lists pages begin nothing none h many is all cut zero_is =
      let p = pages - 1 in
      let one : p + 1 ≡ pages = omega arith in
      let next : suc p ≡ pages = omega arith in
      let list = get_or lists p nothing in
      let there : slice_get lists p ≡ Some list = slice_get-get_or lists p nothing (omega (arith, h.few, h.count)) in
      let its = h.complete p list there in
      let ends : length es ≤ first_key (suc p) = subst (λ n. length es ≤ first_key n) (sym next) h.within in
      let past = before-past (length es) (first_key (suc p)) es (omega arith) ends in
      let most = before-steps (first_key p) (length es) es h.used in
      let used = h.used in
      let empty : IsLastEmpty es lists pages = (many, (list, there, omega (arith, its.complete, past, most, all, is, used))) in
      inl (record {
        empty = empty;
        left = one;
        cut = cut ∙ ap (λ n. take n es) is;
        list = none;
        none = zero_is;
        cleared = refl;
      })
