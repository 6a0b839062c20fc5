-- The layout of a slab's values on its pages stays right as entries are filled, emptied, added and dropped.
use Rattle.std.proofs.Common.{◌≡◌, ◌≢◌, ℕ, zero, suc, ◌+◌, ◌-◌, ◌<◌, ◌≤◌, List, [], ◌∷◌, ◌++◌, length, replicate, get_or, set, take}
use Rattle.std.proofs.Common.{Some, slice_get, refl, sym, ap, subst, ◌∙◌, inl, inr, arith, length-set}
use Rattle.std.proofs.lemmas.List.{length_push, length-take, length-replicate, get_or-set_same, get_or-set_other, get_or_append_left}
use Rattle.std.proofs.lemmas.List.{set-get_or}
use Rattle.std.proofs.lemmas.Bool.{cases_eq, cases_lt}
use Rattle.std.proofs.lemmas.Option.{slice_get_within, slice_get-get_or, get_or_from_slice_get}
use Rattle.op_slots.specs.declared.slab.TheConstants.{MAX_LIVE}
use Rattle.op_slots.specs.declared.slab.pages.TheConstants.{NUM_PAGES}
use Rattle.op_slots.specs.declared.slab.entry.FreeList.{FreeList}
use Rattle.op_slots.specs.declared.slab.entry.Entry.{Entry}
use Rattle.op_slots.specs.declared.slab.entry.Entry.TheVariants.{Vacant, Occupied}
use Rattle.op_slots.specs.Pages.{page_of, first_key}
use Rattle.op_slots.specs.Entry.{empty_before, IsFreeList, IsListOf}
use Rattle.op_slots.specs.Layout.{taken, places_of, AreLaid, HaveNoEmpty, HasEmpty}
use Rattle.op_slots.proofs.Pages.{first-mono, first-bound, first-less, page_of-first, page_of-last, next_first}
use Rattle.op_slots.proofs.Entries.{before-behind, before-fill, before-empty, before-keep, before-push, before-take, before-past}
use Rattle.op_slots.proofs.Entries.{before-all, before-mono, list-set, list-kept, list-first, list-rest, list-more}

-- what is read behind a write at another place was there before
get-back : {A : Type 0} (xs : List A) (k q : ℕ) (x y : A) → k ≢ q → slice_get (set xs q y) k ≡ Some x → slice_get xs k ≡ Some x
get-back xs k q x y other found =
    slice_get-get_or xs k x (omega (arith, length-set xs q y, slice_get_within (set xs q y) k x found))
    ∙ ap Some (sym (get_or-set_other xs q k y x other) ∙ get_or_from_slice_get (set xs q y) k x x found)

-- what is read at a place that was written
get-written : {A : Type 0} (xs : List A) (q : ℕ) (x y : A) → slice_get (set xs q y) q ≡ Some x → y ≡ x
get-written xs q x y found =
    sym (get_or-set_same xs q y x (omega (arith, length-set xs q y, slice_get_within (set xs q y) q x found)))
    ∙ get_or_from_slice_get (set xs q y) q x x found

-- a write of what is there changes nothing
pub set-there : {A : Type 0} (xs : List A) (q : ℕ) (x : A) → slice_get xs q ≡ Some x → set xs q x ≡ xs
set-there xs q x found = ap (set xs q) (sym (get_or_from_slice_get xs q x x found)) ∙ set-get_or xs q x

-- the keys of an earlier page are below those of a later one
pages-apart : (i j : ℕ) → i < j → first_key (suc i) ≤ first_key j
pages-apart i j less = first-mono (suc i) j (omega arith)

-- a key before the end of so many pages is on one of them
pub page-before : (key pages : ℕ) → pages ≤ NUM_PAGES → key < first_key pages → (key < MAX_LIVE) × (page_of key < pages)
page-before key pages few less =
    let bound = first-bound pages few in
    let begin = page_of-first key (omega arith) in
    (omega arith, first-less (page_of key) pages (omega arith))

-- where a key lies
pub record OnPage (key page : ℕ) : Type 0 where
  pub from : first_key page ≤ key
  pub to : key < first_key (suc page)

-- a key lies on its page
pub on-page : (key : ℕ) → key < MAX_LIVE → OnPage key (page_of key)
on-page key below = record {
  from = page_of-first key (omega arith);
  to = omega (arith, page_of-last key below, next_first (page_of key));
}

module _ {T : Type 0} where
  -- the lists of the other pages are kept, and this page has another
  complete-set : (es new : List (Entry T)) (lists : List FreeList) (p : ℕ) (more : FreeList)
      → ((j : ℕ) (list : FreeList) → j ≢ p → IsListOf es j list → IsListOf new j list) → IsListOf new p more
      → ((j : ℕ) (list : FreeList) → slice_get lists j ≡ Some list → IsListOf es j list) → (j : ℕ) (list : FreeList)
      → slice_get (set lists p more) j ≡ Some list → IsListOf new j list
  complete-set es new lists p more others this all j list found =
      elim (cases_eq j p) [
        | inl same ↦
            let here : slice_get (set lists p more) p ≡ Some list = subst (λ k. slice_get (set lists p more) k ≡ Some list) same found in
            subst (λ (l : FreeList). IsListOf new j l) (get-written lists p list more here)
            (subst (λ k. IsListOf new k more) (sym same) this)
        | inr other ↦ others j list other (all j list (get-back lists j p list more other found))
      ]

  -- a page's list, where an entry of another page is filled
  other-fill : (es : List (Entry T)) (k p j : ℕ) (list r : FreeList) (v : T) → OnPage k p → slice_get es k ≡ Some (Vacant r) → j ≢ p
      → IsListOf es j list → IsListOf (set es k (Occupied v)) j list
  other-fill es k p j list r v on found other h =
      elim (cases_lt j p) [
        | inl less ↦
            let end = pages-apart j p less in
            let begin = first-mono j (suc j) (omega arith) in
            record {
              linked = list-set es (first_key j) (first_key (suc j)) k (Occupied v) list.count list
                  (λ from to x y z. omega (arith, to, end, on.from)) h.linked;
              complete = omega (
                arith,
                h.complete,
                before-behind (first_key j) k es (Occupied v) (omega (arith, on.from)),
                before-behind (first_key (suc j)) k es (Occupied v) (omega (arith, on.from)),
              );
            }
        | inr ge ↦
            let begin = pages-apart p j (omega (arith, ge, above ge)) in
            let end = first-mono j (suc j) (omega arith) in
            record {
              linked = list-set es (first_key j) (first_key (suc j)) k (Occupied v) list.count list
                  (λ from to x y z. omega (arith, from, begin, on.to)) h.linked;
              complete = omega (
                arith,
                h.complete,
                before-fill (first_key j) k es r v (omega (arith, on.to)) found,
                before-fill (first_key (suc j)) k es r v (omega (arith, on.to)) found,
              );
            }
      ]
    where
      above : p ≤ j → p < j
      above ge = elim (cases_lt p j) [ inl less ↦ less | inr le ↦ absurd (other (omega arith)) ]

  -- a page's list, where an entry of another page is emptied
  other-empty : (es : List (Entry T)) (k p j : ℕ) (list r : FreeList) (v : T) → OnPage k p → slice_get es k ≡ Some (Occupied v) → j ≢ p
      → IsListOf es j list → IsListOf (set es k (Vacant r)) j list
  other-empty es k p j list r v on found other h =
      elim (cases_lt j p) [
        | inl less ↦
            let end = pages-apart j p less in
            let begin = first-mono j (suc j) (omega arith) in
            record {
              linked = list-set es (first_key j) (first_key (suc j)) k (Vacant r) list.count list
                  (λ from to x y z. omega (arith, to, end, on.from)) h.linked;
              complete = omega (
                arith,
                h.complete,
                before-behind (first_key j) k es (Vacant r) (omega (arith, on.from)),
                before-behind (first_key (suc j)) k es (Vacant r) (omega (arith, on.from)),
              );
            }
        | inr ge ↦
            let begin = pages-apart p j (omega (arith, ge, above ge)) in
            let end = first-mono j (suc j) (omega arith) in
            record {
              linked = list-set es (first_key j) (first_key (suc j)) k (Vacant r) list.count list
                  (λ from to x y z. omega (arith, from, begin, on.to)) h.linked;
              complete = omega (
                arith,
                h.complete,
                before-empty (first_key j) k es r v (omega (arith, on.to)) found,
                before-empty (first_key (suc j)) k es r v (omega (arith, on.to)) found,
              );
            }
      ]
    where
      above : p ≤ j → p < j
      above ge = elim (cases_lt p j) [ inl less ↦ less | inr le ↦ absurd (other (omega arith)) ]

  -- the first of a page's list lies on the page
  pub first-on : (es : List (Entry T)) (p : ℕ) (list : FreeList) → IsListOf es p list → 0 < list.count → OnPage list.place p
  first-on es p list h some =
      let f = list-first es (first_key p) (first_key (suc p)) list.count list h.linked some in
      record { from = f.0; to = f.1 }

  -- the layout, where the first of a page's list is filled
  pub laid-fill : (es : List (Entry T)) (lists : List FreeList) (pages p : ℕ) (list rest : FreeList) (v : T) → AreLaid es lists pages
      → slice_get lists p ≡ Some list → 0 < list.count → slice_get es list.place ≡ Some (Vacant rest)
      → AreLaid (set es list.place (Occupied v)) (set lists p rest) pages
  laid-fill es lists pages p list rest v h at_page some found =
      let is = h.complete p list at_page in
      let on = first-on es p list is some in
      let more = list-rest es (first_key p) (first_key (suc p)) list.count list rest v is.linked some found in
      let size = length-set es list.place (Occupied v) in
      record {
        few = h.few;
        used = omega (arith, size, h.used);
        within = omega (arith, size, h.within);
        count = length-set lists p rest ∙ h.count;
        complete = complete-set es (set es list.place (Occupied v)) lists p rest
            (λ j l other. other-fill es list.place p j l rest v on found other)
            (record {
              linked = more.1;
              complete = omega (
                arith,
                more.0,
                is.complete,
                before-behind (first_key p) list.place es (Occupied v) on.from,
                before-fill (first_key (suc p)) list.place es rest v on.to found,
              );
            }) h.complete;
      }

  -- the layout, where an entry is emptied
  pub laid-empty : (es : List (Entry T)) (lists : List FreeList) (pages p key : ℕ) (list : FreeList) (v : T) → AreLaid es lists pages
      → slice_get lists p ≡ Some list → OnPage key p → slice_get es key ≡ Some (Occupied v)
      → AreLaid (set es key (Vacant list)) (set lists p (record { place = key; count = list.count + 1 })) pages
  laid-empty es lists pages p key list v h at_page on found =
      let is = h.complete p list at_page in
      let size = length-set es key (Vacant list) in
      let next : suc list.count ≡ list.count + 1 = omega arith in
      let more = list-more es (first_key p) (first_key (suc p)) list.count key list v is.linked refl found on.from on.to in
      record {
        few = h.few;
        used = omega (arith, size, h.used);
        within = omega (arith, size, h.within);
        count = length-set lists p _ ∙ h.count;
        complete = complete-set es (set es key (Vacant list)) lists p (record { place = key; count = list.count + 1 })
            (λ j l other. other-empty es key p j l list v on found other)
            (record {
              linked = subst (λ n. IsFreeList (set es key (Vacant list)) (first_key p) (first_key (suc p)) n
                  (record { place = key; count = list.count + 1 })) next more;
              complete = omega (
                arith,
                is.complete,
                before-behind (first_key p) key es (Vacant list) on.from,
                before-empty (first_key (suc p)) key es list v on.to found,
              );
            }) h.complete;
      }

  -- the layout, where an entry has another value
  pub laid-keep : (es : List (Entry T)) (lists : List FreeList) (pages key : ℕ) (v w : T) → AreLaid es lists pages
      → slice_get es key ≡ Some (Occupied v) → AreLaid (set es key (Occupied w)) lists pages
  laid-keep es lists pages key v w h found =
      let size = length-set es key (Occupied w) in
      record {
        few = h.few;
        used = omega (arith, size, h.used);
        within = omega (arith, size, h.within);
        count = h.count;
        complete = λ j list there.
            let is = h.complete j list there in
            let off : first_key j ≤ key → key < first_key (suc j) → (r : FreeList) → r.count < list.count
            → slice_get es key ≡ Some (Vacant r) → ⊥ = λ from to r less other. cc in
            record {
              linked = list-set es (first_key j) (first_key (suc j)) key (Occupied w) list.count list off is.linked;
              complete = omega (
                arith,
                is.complete,
                before-keep (first_key j) key es v w found,
                before-keep (first_key (suc j)) key es v w found,
              );
            };
      }

  -- the layout, where a value is put behind all places that were used
  pub laid-push : (es : List (Entry T)) (lists : List FreeList) (pages : ℕ) (v : T) → AreLaid es lists pages
      → length es < first_key pages → AreLaid (es ++ Occupied v ∷ []) lists pages
  laid-push es lists pages v h room =
      let size = length_push es (Occupied v) in
      record {
        few = h.few;
        used = omega (arith, size, h.used);
        within = omega (arith, size, room);
        count = h.count;
        complete = λ j list there.
            let is = h.complete j list there in
            record {
              linked = list-kept es (es ++ Occupied v ∷ []) (first_key j) (first_key (suc j)) list.count list
                  (λ k e less found. get-left k e found) is.linked;
              complete = omega (arith, is.complete, before-push (first_key j) es v, before-push (first_key (suc j)) es v);
            };
      }
    where
      get-left : (k : ℕ) (e : Entry T) → slice_get es k ≡ Some e → slice_get (es ++ Occupied v ∷ []) k ≡ Some e
      get-left k e found =
          let within = slice_get_within es k e found in
          slice_get-get_or (es ++ Occupied v ∷ []) k e (omega (arith, within, length_push es (Occupied v)))
          ∙ ap Some (get_or_append_left es (Occupied v ∷ []) e k within ∙ get_or_from_slice_get es k e e found)

  -- the layout on one more page
  pub laid-more : (es : List (Entry T)) (lists : List FreeList) (pages : ℕ) → AreLaid es lists pages → pages < NUM_PAGES
      → length es ≡ first_key pages → AreLaid es lists (pages + 1)
  laid-more es lists pages h few full =
      let later = first-mono pages (pages + 1) (omega arith) in
      let e : pages + 1 - 1 ≡ pages = omega arith in
      record {
        few = omega arith;
        used = rw e (omega (arith, full));
        within = omega (arith, full, later);
        count = h.count;
        complete = h.complete;
      }

  -- a page that isn't there has no empty place
  pub none-past : (es : List (Entry T)) (lists : List FreeList) (pages p : ℕ) (list : FreeList) → AreLaid es lists pages → pages ≤ p
      → slice_get lists p ≡ Some list → list.count ≡ 0
  none-past es lists pages p list h past there =
      let is = h.complete p list there in
      let begin = first-mono pages p past in
      let end = first-mono p (suc p) (omega arith) in
      omega (arith, is.complete, before-past (first_key p) (first_key (suc p)) es (omega (arith, h.within, begin)) end)

  -- the layout without the last page, whose places are empty
  pub laid-less : (es : List (Entry T)) (lists : List FreeList) (pages p : ℕ) (none : FreeList) → AreLaid es lists pages → p + 1 ≡ pages
      → none.count ≡ 0 → AreLaid (take (first_key p) es) (set lists p none) p
  laid-less es lists pages p none h one zero_is =
      let last : pages - 1 ≡ p = omega arith in
      let used : first_key p ≤ length es = subst (λ n. first_key n ≤ length es) last h.used in
      let size : length (take (first_key p) es) ≡ first_key p = omega (arith, length-take (first_key p) es) in
      let nothing : (list : FreeList) (begin end : ℕ) → list.count ≡ 0 → IsFreeList (take (first_key p) es) begin end list.count list =
      λ list begin end is. subst (λ n. IsFreeList (take (first_key p) es) begin end n list) (sym is) is in
      record {
        few = omega (arith, h.few);
        used = omega (arith, size, first-mono (p - 1) p (omega arith));
        within = omega (arith, size);
        count = length-set lists p none ∙ h.count;
        complete = λ j list found. elim (cases_lt j p) [
          | inl less ↦
              let was = h.complete j list (get-back lists j p list none (λ e. omega (arith, less, e)) found) in
              let end = pages-apart j p less in
              let begin = first-mono j (suc j) (omega arith) in
              record {
                linked = list-kept es (take (first_key p) es) (first_key j) (first_key (suc j)) list.count list
                    (λ k e below there. get-taken k e (omega (arith, below, end)) there) was.linked;
                complete = omega (
                  arith,
                  was.complete,
                  before-take (first_key j) (first_key p) es (omega (arith, begin, end)),
                  before-take (first_key (suc j)) (first_key p) es end,
                );
              }
          | inr ge ↦
              let zero_here : list.count ≡ 0 = elim (cases_eq j p) [
                | inl same ↦
                    let here : slice_get (set lists p none) p ≡ Some list =
                    subst (λ k. slice_get (set lists p none) k ≡ Some list) same found in
                    sym (ap (λ (l : FreeList). l.count) (get-written lists p list none here)) ∙ zero_is
                | inr other ↦ none-past es lists pages j list h (omega (arith, ge, one, above j p other ge))
                    (get-back lists j p list none other found)
              ] in
              let begin = first-mono p j ge in
              let end = first-mono j (suc j) (omega arith) in
              record {
                linked = nothing list (first_key j) (first_key (suc j)) zero_here;
                complete = omega (
                  arith,
                  zero_here,
                  before-past (first_key j) (first_key (suc j)) (take (first_key p) es) (omega (arith, size, begin)) end,
                );
              }
        ];
      }
    where
      above : (j p : ℕ) → j ≢ p → p ≤ j → p < j
      above j p other ge = elim (cases_lt p j) [ inl less ↦ less | inr le ↦ absurd (other (omega arith)) ]

      get-taken : (k : ℕ) (e : Entry T) → k < first_key p → slice_get es k ≡ Some e → slice_get (take (first_key p) es) k ≡ Some e
      get-taken k e below there = by_list (first_key p) k es below there
        where
          by_list : (n k : ℕ) (xs : List (Entry T)) → k < n → slice_get xs k ≡ Some e → slice_get (take n xs) k ≡ Some e
          by_list zero k xs below there = absurd (omega arith)
          by_list (suc n) k [] below there = cc
          by_list (suc n) zero (x ∷ xs) below there = there
          by_list (suc n) (suc k) (x ∷ xs) below there = by_list n k xs (omega arith) there

  -- where no page has an empty place that was used, all that were used hold values
  none-before : (es : List (Entry T)) (lists : List FreeList) (pages n : ℕ) → AreLaid es lists pages → HaveNoEmpty lists 0 pages
      → n ≤ pages → empty_before (first_key n) es ≡ 0
  none-before es lists pages zero h none le = refl
  none-before es lists pages (suc n) h none le =
      let nothing : FreeList = record { place = 0; count = 0 } in
      let list = get_or lists n nothing in
      let there : slice_get lists n ≡ Some list = slice_get-get_or lists n nothing (omega (arith, h.count, h.few)) in
      let is = h.complete n list there in
      omega (arith, is.complete, none n list (omega arith) (omega arith) there, none-before es lists pages n h none (omega arith))

  pub all-held : (es : List (Entry T)) (lists : List FreeList) (pages : ℕ) → AreLaid es lists pages → HaveNoEmpty lists 0 pages
      → taken (places_of es) ≡ length es
  all-held es lists pages h none =
      omega (arith, before-all (first_key pages) es h.within, none-before es lists pages pages h none (omega arith))

  -- where a page has an empty place that was used, not all that were used hold values
  pub not-held : (es : List (Entry T)) (lists : List FreeList) (pages p : ℕ) → AreLaid es lists pages → HasEmpty lists p
      → taken (places_of es) < length es
  not-held es lists pages p h some =
      let is = h.complete p some.0 some.1 in
      elim (cases_lt p pages) [
        | inl less ↦ omega (
          arith,
          before-all (first_key pages) es h.within,
          before-mono (first_key (suc p)) (first_key pages) es (pages-apart p pages less),
          is.complete,
          some.2,
        )
        | inr past ↦ absurd (omega (arith, none-past es lists pages p some.0 h past some.1, some.2))
      ]

  -- no pages, and no list has anything
  pub laid-new : (lists : List FreeList) → lists ≡ replicate NUM_PAGES (record { place = 0; count = 0 }) → AreLaid {T = T} [] lists 0
  laid-new lists is =
      let nothing : FreeList = record { place = 0; count = 0 } in
      rw is (record {
        few = omega arith;
        used = omega arith;
        within = omega arith;
        count = length-replicate {A = FreeList} NUM_PAGES nothing;
        complete = λ j list there.
            let e : list ≡ nothing = got NUM_PAGES j nothing list there in
            subst (λ (l : FreeList). IsListOf {T = T} [] j l) (sym e) (record {
              linked = refl;
              complete = omega (
                arith,
                before-past {T = T} 0 (first_key j) [] (omega arith) (omega arith),
                before-past {T = T} 0 (first_key (suc j)) [] (omega arith) (omega arith),
              );
            });
      })
    where
      got : (n j : ℕ) (x y : FreeList) → slice_get (replicate n x) j ≡ Some y → y ≡ x
      got zero j x y there = cc
      got (suc n) zero x y there = cc
      got (suc n) (suc j) x y there = got n j x y there
