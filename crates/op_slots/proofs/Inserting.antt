-- What a slab keeps true, and what its slots are, as a place is found and a value put in.
use Rattle.std.proofs.Common.{◌≡◌, ◌⊎◌, ℕ, suc, ◌+◌, ◌-◌, ◌≤◌, ◌<◌, max, List, [], ◌∷◌, ◌++◌, length, None, Some, set, get_or, slice_get}
use Rattle.std.proofs.Common.{inl, inr, sym, ◌∙◌, ap, subst, arith, false, true≢false, length-set, zero}
use Rattle.std.specs.Prelude.{IsSome, OnOk, Result, Ok, Err}
use Rattle.std.specs.Result.{is_err}
use Rattle.std.specs.FinMap.{get, insert, len}
use Rattle.std.proofs.lemmas.List.{map-set, map_push}
use Rattle.std.proofs.lemmas.Nat.{pow_pos}
use Rattle.std.proofs.lemmas.Option.{slice_get_within, slice_get-get_or}
use Rattle.op_slots.specs.declared.slab.TheConstants.{MAX_LIVE}
use Rattle.op_slots.specs.declared.slab.pages.TheConstants.{NUM_PAGES}
use Rattle.op_slots.specs.declared.slab.entry.FreeList.{FreeList}
use Rattle.op_slots.specs.declared.slab.entry.Entry.{Entry}
use Rattle.op_slots.specs.declared.slab.entry.Entry.TheVariants.{Occupied}
use Rattle.op_slots.specs.Pages.{page_of, places_on, first_key}
use Rattle.op_slots.specs.Slots.{IsPageFull, MakesPage}
use Rattle.op_slots.specs.Entry.{value_of}
use Rattle.op_slots.specs.Layout.{at, taken, places_of, AreLaid, AreKept, slots_of, HasEmpty, HaveNoEmpty, AreAllHeld, FindsPlace}
use Rattle.op_slots.specs.Layout.{CanPut, Puts}
use Rattle.op_slots.proofs.Pages.{first-mono, first-bound, next_first, page_of-at}
use Rattle.op_slots.proofs.Places.{map_of, get-places, len-places, map-put, map-push, taken-put, taken-push, taken-le, at-past}
use Rattle.op_slots.proofs.Entries.{at-entry, held-between, list-first}
use Rattle.op_slots.proofs.Laid.{set-there, page-before, laid-fill, laid-push, laid-more, none-past, not-held}
use Rattle.op_slots.proofs.Kept.{length-places}

module _ {T : Type 0} where
  -- what is read of a page's list
  pub list-at : (es : List (Entry T)) (lists : List FreeList) (pages p : ℕ) → AreLaid es lists pages → p < NUM_PAGES
      → (list : FreeList) × (slice_get lists p ≡ Some list)
  list-at es lists pages p h less =
      let nothing : FreeList = record { place = 0; count = 0 } in
      (get_or lists p nothing, slice_get-get_or lists p nothing (omega (arith, h.count)))

  -- the keys of a last page without an empty place are live
  last-full : (es : List (Entry T)) (lists : List FreeList) (pages removals : ℕ) → AreLaid es lists pages → length es ≡ first_key pages
      → HaveNoEmpty lists (pages - 1) pages → 0 < pages → IsPageFull (slots_of es pages removals) (pages - 1)
  last-full es lists pages removals h used none some = λ key begin end.
      let p = pages - 1 in
      let next : suc p ≡ pages = omega arith in
      let list = list-at es lists pages p h (omega (arith, h.few)) in
      let is = h.complete p list.0 list.1 in
      let zero = none p list.0 (omega arith) (omega arith) list.1 in
      let e : first_key (suc p) ≡ first_key pages = ap first_key next in
      let bound : key < first_key (suc p) = omega (arith, next_first p, end) in
      subst IsSome (sym (get-places (places_of es) key))
      (held-between (first_key p) (first_key (suc p)) key es (omega (arith, is.complete, zero)) begin bound (omega (arith, used, e, bound)))

  -- what a search leaves
  pub record Found (es : List (Entry T)) (lists : List FreeList) (old new removals page : ℕ) : Type 0 where
    pub laid : AreLaid es lists new
    pub search : page ≤ new - 1
    pub made : MakesPage (slots_of es old removals) (slots_of es new removals)
    pub place : HasEmpty lists page ⊎ (length es < first_key new)

  pub found : (es : List (Entry T)) (lists : List FreeList) (old new removals page : ℕ) → AreLaid es lists old
      → FindsPlace es lists old new page → Found es lists old new removals page
  found es lists old new removals page h (inl same) =
      let is = same.0 in
      record {
        laid = subst (AreLaid es lists) (sym is) h;
        search = omega (arith, same.1, is);
        made = inl is;
        place = elim same.2 [ inl some ↦ inl some | inr room ↦ inr (subst (λ n. length es < first_key n) (sym is) room) ];
      }
  found es lists old new removals page h (inr added) =
      let is = added.one in
      let more = laid-more es lists old h added.few added.used in
      record {
        laid = subst (AreLaid es lists) (sym is) more;
        search = omega (arith, is, added.last);
        made = inr (is, last-full es lists old removals h added.used added.full);
        place = inr (subst (λ n. length es < first_key n) (sym is) (longer old added.used));
      }
    where
      longer : (n : ℕ) → length es ≡ first_key n → length es < first_key (n + 1)
      longer n used =
          let e : n + 1 ≡ suc n = omega arith in
          let less : first_key n < first_key (suc n) = omega (arith, next_first n, first-mono 0 n (omega arith), some n) in
          rw e (omega (arith, used, less))
        where
          some : (n : ℕ) → 0 < places_on n
          some n = omega (arith, pow_pos n)

  -- a value can be put on the page that was found
  pub can-put : (es : List (Entry T)) (lists : List FreeList) (old new removals page memory : ℕ) (list : FreeList) → AreLaid es lists old
      → FindsPlace es lists old new page → first_key new ≤ memory → slice_get lists page ≡ Some list → CanPut es memory list
  can-put es lists old new removals page memory list h finds fits at_page =
      let f = found es lists old new removals page h finds in (
        λ zero. elim f.place [
          | inl some ↦ (let other = some.1 in let same : some.0 ≡ list = cc in
              absurd (omega (arith, some.2, zero, ap (λ (l : FreeList). l.count) same)))
          | inr room ↦ omega (arith, room, fits)
        ],
        λ some. (list-first es (first_key page) (first_key (suc page)) list.count list (f.laid.complete page list at_page).linked some).2,
      )

  -- what is so once a value was put in
  pub record Inserted (old new : List (Entry T)) (lists : List FreeList) (before after entered removals page key : ℕ) (v : T) :
      Type 0 where
    pub kept : AreKept new lists after (entered + 1) page removals
    pub below : key < MAX_LIVE
    pub space : taken (places_of old) < MAX_LIVE
    pub fresh : get (slots_of old before removals).values key ≡ None
    pub values : (slots_of new after removals).values ≡ insert (slots_of old before removals).values key v
    pub pages : after ≡ max before (page_of key + 1)
    pub made : MakesPage (slots_of old before removals) (slots_of new after removals)

  pub inserted : (es new : List (Entry T)) (lists : List FreeList) (before after entered first removals page key : ℕ)
      (list rest : FreeList) (v : T) → AreKept es lists before entered first removals → FindsPlace es lists before after page
      → slice_get lists page ≡ Some list → Puts es list key v new rest
      → Inserted es new (set lists page rest) before after entered removals page key v
  inserted es new lists before after entered first removals page key list rest v h finds at_page (inl pushed) =
      let f = found es lists before after removals page h.laid finds in
      let zero = pushed.0 in
      let key_is = pushed.2 in
      let room : length es < first_key after = elim f.place [
        | inl some ↦ (let other = some.1 in let same : some.0 ≡ list = cc in
            absurd (omega (arith, some.2, zero, ap (λ (l : FreeList). l.count) same)))
        | inr room ↦ room
      ] in
      let same_list : set lists page rest ≡ lists = ap (set lists page) pushed.1 ∙ set-there lists page list at_page in
      let bound = first-bound after f.laid.few in
      let one = has_page after room in
      let last : page_of key ≡ after - 1 = page_of-at key (after - 1) (omega (arith, f.laid.few, one))
      (omega (arith, key_is, f.laid.used)) (omega (arith, key_is, room, next_first (after - 1), next_is after one)) in
      let longer = no-less finds in
      let places : places_of new ≡ places_of es ++ Some v ∷ [] = ap places_of pushed.3 ∙ map_push value_of es (Occupied v) in
      record {
        kept = record {
          laid = subst (λ (l : List FreeList). AreLaid new l after) (sym same_list)
              (subst (λ xs. AreLaid xs lists after) (sym pushed.3) (laid-push es lists after v f.laid room));
          counted = omega (arith, h.counted, ap taken places, taken-push (places_of es) v);
          search = f.search;
          interval = h.interval;
        };
        below = omega (arith, key_is, room, bound);
        space = omega (arith, taken-le (places_of es), length-places es, room, bound);
        fresh = get-places (places_of es) key ∙ at-past (places_of es) key (omega (arith, length-places es, key_is));
        values = ap map_of places ∙ map-push (places_of es) v ∙ ap (λ k. insert (map_of (places_of es)) k v)
            (length-places es ∙ sym key_is);
        pages = omega (arith, last, one, longer);
        made = f.made;
      }
    where
      has_page : (n : ℕ) → length es < first_key n → 0 < n
      has_page zero room = absurd (omega arith)
      has_page (suc n) room = omega arith

      next_is : (n : ℕ) → 0 < n → first_key (suc (n - 1)) ≡ first_key n
      next_is n some = let e : suc (n - 1) ≡ n = omega arith in ap first_key e

      no-less : FindsPlace es lists before after page → before ≤ after
      no-less (inl same) = omega (arith, same.0)
      no-less (inr added) = omega (arith, added.one)
  inserted es new lists before after entered first removals page key list rest v h finds at_page (inr filled) =
      let some = filled.0 in
      let there = filled.1 in
      let key_is = filled.2 in
      let f = found es lists before after removals page h.laid finds in
      let within : key < length es = omega (arith, key_is, slice_get_within es list.place _ there) in
      let empty : at (places_of es) key ≡ None = ap (at (places_of es)) key_is ∙ at-entry es list.place _ there in
      let inside : key < length (places_of es) = omega (arith, within, length-places es) in
      let new_is : new ≡ set es list.place (Occupied v) = filled.3 ∙ ap (λ k. set es k (Occupied v)) key_is in
      let places : places_of new ≡ set (places_of es) key (Some v) = ap places_of filled.3 ∙ map-set value_of es key (Occupied v) in
      let same = same_pages finds in
      let on = page-before key before h.laid.few (omega (arith, within, h.laid.within)) in
      record {
        kept = record {
          laid = subst (λ xs. AreLaid xs (set lists page rest) after) (sym new_is)
              (laid-fill es lists after page list rest v f.laid at_page some there);
          counted = omega (arith, h.counted, ap taken places, taken-put (places_of es) key v inside empty);
          search = f.search;
          interval = h.interval;
        };
        below = on.0;
        space = omega (
          arith,
          taken-put (places_of es) key v inside empty,
          taken-le (set (places_of es) key (Some v)),
          length-set (places_of es) key (Some v),
          length-places es,
          h.laid.within,
          first-bound before h.laid.few,
        );
        fresh = get-places (places_of es) key ∙ empty;
        values = ap map_of places ∙ map-put (places_of es) key v inside;
        pages = omega (arith, same, on.1);
        made = f.made;
      }
    where
      same_pages : FindsPlace es lists before after page → after ≡ before
      same_pages (inl same) = same.0
      same_pages (inr added) =
          absurd (omega (
            arith,
            filled.0,
            none-past es lists before page list h.laid (omega (arith, added.last)) at_page,
          ))

  -- the same, by what the search and the page's list are read as
  pub inserted_at : (es mid new : List (Entry T)) (lists : List FreeList) (before after entered first removals page key : ℕ)
      (nothing rest : FreeList) (v : T) → AreKept es lists before entered first removals → FindsPlace es lists before after page
      → mid ≡ es → Puts mid (get_or lists page nothing) key v new rest
      → Inserted es new (set lists page rest) before after entered removals page key v
  inserted_at es mid new lists before after entered first removals page key nothing rest v h finds same put =
      let f = found es lists before after removals page h.laid finds in
      let there = slice_get-get_or lists page nothing (omega (arith, f.search, f.laid.few, h.laid.count)) in
      inserted es new lists before after entered first removals page key (get_or lists page nothing) rest v h finds there
      (subst (λ xs. Puts xs (get_or lists page nothing) key v new rest) same put)

  -- a value can be put there
  pub can-put_at : (es mid : List (Entry T)) (lists : List FreeList) (old new removals page memory : ℕ) (nothing : FreeList)
      → AreLaid es lists old → FindsPlace es lists old new page → mid ≡ es → first_key new ≤ memory
      → CanPut mid memory (get_or lists page nothing)
  can-put_at es mid lists old new removals page memory nothing h finds same fits =
      let f = found es lists old new removals page h finds in
      let there = slice_get-get_or lists page nothing (omega (arith, f.search, f.laid.few, h.count)) in
      rw same (can-put es lists old new removals page memory (get_or lists page nothing) h finds fits there)

  -- how many keys are live where each place holds a value
  pub held-live : (es : List (Entry T)) (pages removals : ℕ) → AreAllHeld es pages
      → len (slots_of es pages removals).values ≡ first_key pages
  held-live es pages removals held = len-places (places_of es) ∙ held

  -- what is so once a search has found a place
  pub record Reserved (es : List (Entry T)) (lists : List FreeList) (before after entered removals page : ℕ) : Type 0 where
    pub kept : AreKept es lists after entered page removals
    pub room : 0 < first_key after - taken (places_of es)
    pub made : MakesPage (slots_of es before removals) (slots_of es after removals)

  pub reserved : (es : List (Entry T)) (lists : List FreeList) (before after entered first removals page : ℕ)
      → AreKept es lists before entered first removals → FindsPlace es lists before after page
      → Reserved es lists before after entered removals page
  reserved es lists before after entered first removals page h finds =
      let f = found es lists before after removals page h.laid finds in
      record {
        kept = record { laid = f.laid; counted = h.counted; search = f.search; interval = h.interval };
        room = elim f.place [
          | inl some ↦ omega (arith, not-held es lists after page f.laid some, f.laid.within)
          | inr room ↦ omega (arith, taken-le (places_of es), length-places es, room)
        ];
        made = f.made;
      }

  -- the same, of a search that wasn't refused
  pub reserved_ok : {E : Type 0} (r : Result Unit E) (es : List (Entry T)) (lists : List FreeList)
      (before after entered first removals page : ℕ) → AreKept es lists before entered first removals → is_err r ≡ false
      → OnOk r (FindsPlace es lists before after page) → Reserved es lists before after entered removals page
  reserved_ok (Ok _) es lists before after entered first removals page h accepted finds =
      reserved es lists before after entered first removals page h finds
  reserved_ok (Err _) es lists before after entered first removals page h accepted finds = absurd (true≢false accepted)
