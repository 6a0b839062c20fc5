-- The kinds of the sockets in a hash map, after the entries changed at one handle.
use Rattle.std.proofs.Common.{◌≡◌, ◌∙◌, List, [], ◌∷◌, Some, None, cond, nat_eq, refl, sym, ap, option_map, subst, arith}
use Rattle.std.proofs.Common.{arith}
use Rattle.std.proofs.lemmas.Bool.Decides.{nat_tests}
use Rattle.std.specs.Prelude.{ℕ, suc, length, Bool, true, false, Option, is_some, IsSome, OnOk, Result, Ok, Err}
use Rattle.std.specs.FinMap.{get, insert, remove, len, from_entries}
use Rattle.std.specs.Map.{lookup, keys_of}
use Rattle.std.specs.List.{IsDistinct}
use Rattle.std.specs.HashMap.{HashMap, get_by, Updates, WritesThrough}
use Rattle.handle_core.proofs.Tables.{get-lookup, len-from_entries, same-entries, inserted-entries, removed-entries}
use Rattle.machine.specs.declared.world.HandleKind.{HandleKind}
use Rattle.socket_io.specs.declared.mio_io.socket.Socket.{Socket}
use Rattle.socket_io.specs.SocketTable.{OpenSockets, kind_of, kinds_in, table_of, RefusesUnfit}
use Rattle.socket_io.specs.declared.mio_io.socket.Refusal.{Refusal}

-- The kind of a choice is the choice of the kinds.
kind-chosen : (b : Bool) (x y : Option Socket) → option_map kind_of (cond b x y) ≡ cond b (option_map kind_of x) (option_map kind_of y)
kind-chosen true x y = refl
kind-chosen false x y = refl

-- A look-up in the kinds finds the kind of what one in the sockets does.
pub lookup-kinds : (q : ℕ) (es : List (ℕ × Socket)) → lookup (nat_eq q) (kinds_in es) ≡ option_map kind_of (lookup (nat_eq q) es)
lookup-kinds q [] = refl
lookup-kinds q (e ∷ es) =
    ap (cond (nat_eq q e.0) (Some (kind_of e.1))) (lookup-kinds q es) ∙ sym (kind-chosen (nat_eq q e.0) (Some e.1) (lookup (nat_eq q) es))

-- A choice of what is there already is what is there.
same-choice : (b : Bool) (x y : Option HandleKind) → (b ≡ true → y ≡ x) → cond b x y ≡ y
same-choice true x y same = sym (same refl)
same-choice false x y same = refl

-- Numbers that are tested to be equal are.
tested-equal : (a b : ℕ) → nat_eq a b ≡ true → a ≡ b
tested-equal a b tested = grind (arith, nat_tests)

-- The kinds have the handles of the sockets.
keys-kinds : (es : List (ℕ × Socket)) → keys_of (kinds_in es) ≡ keys_of es
keys-kinds [] = refl
keys-kinds (entry ∷ es) = ap (λ ks. entry.0 ∷ ks) (keys-kinds es)

-- There are as many.
kinds-many : (es : List (ℕ × Socket)) → length (kinds_in es) ≡ length es
kinds-many [] = refl
kinds-many (entry ∷ es) = ap suc (kinds-many es)

-- A hash map of sockets, and the table that it shows.
module _ {S : Type 0} (m : HashMap ℕ Socket S) (made room : ℕ) (table : OpenSockets) (is : table_of m.entries made room ≡ table) where
  -- The table has at a handle the kind of what the map has.
  pub answered : (h : ℕ) → get table.kinds h ≡ option_map kind_of (get_by (nat_eq h) m)
  answered h = ap (λ t. get t.kinds h) (sym is) ∙ get-lookup (kinds_in m.entries) h ∙ lookup-kinds h m.entries

  -- What a look-up finds is open.
  pub found : (h : ℕ) (socket : Socket) → Some socket ≡ get_by (nat_eq h) m → get table.kinds h ≡ Some (kind_of socket)
  found h socket there = answered h ∙ ap (option_map kind_of) (sym there)

  -- A handle is open where a look-up finds it.
  pub tested-open : (h : ℕ) → is_some (get_by (nat_eq h) m) ≡ is_some (get table.kinds h)
  tested-open h = by (get_by (nat_eq h) m) ∙ ap is_some (sym (answered h))
    where
      by : (x : Option Socket) → is_some x ≡ is_some (option_map kind_of x)
      by (Some x) = refl
      by None = refl

  -- It has as many entries as handles are open.
  pub counted : IsDistinct nat_eq (keys_of m.entries) → length m.entries ≡ len table.kinds
  counted apart =
      sym (kinds-many m.entries)
      ∙ sym (len-from_entries (kinds_in m.entries) (subst (IsDistinct nat_eq) (sym (keys-kinds m.entries)) apart))
      ∙ ap (λ t. len t.kinds) is

  -- Entries with one more socket make the table with its kind.
  pub added : (n : HashMap ℕ Socket S) (h : ℕ) (socket : Socket) → Updates nat_eq m n h (Some socket) →
      from_entries (kinds_in n.entries) ≡ insert table.kinds h (kind_of socket)
  added n h socket put =
      inserted-entries (kinds_in m.entries) (kinds_in n.entries) h (kind_of socket) (λ q. lookup-kinds q n.entries
      ∙ ap (option_map kind_of) (put.0 q) ∙ kind-chosen (nat_eq h q) (Some socket) (lookup (nat_eq q) m.entries)
      ∙ ap (cond (nat_eq h q) (Some (kind_of socket))) (sym (lookup-kinds q m.entries)))
      ∙ ap (λ t. insert t.kinds h (kind_of socket)) is

  -- Entries without one handle make the table without it.
  pub removed : (n : HashMap ℕ Socket S) (h : ℕ) → Updates nat_eq m n h None →
      from_entries (kinds_in n.entries) ≡ remove table.kinds h
  removed n h taken =
      removed-entries (kinds_in m.entries) (kinds_in n.entries) h (λ q. lookup-kinds q n.entries
      ∙ ap (option_map kind_of) (taken.0 q) ∙ kind-chosen (nat_eq h q) None (lookup (nat_eq q) m.entries)
      ∙ ap (cond (nat_eq h q) None) (sym (lookup-kinds q m.entries)))
      ∙ ap (λ t. remove t.kinds h) is

  -- Entries that have the same kinds make the same table.
  pub alike : (n : HashMap ℕ Socket S) →
      ((q : ℕ) → option_map kind_of (get_by (nat_eq q) n) ≡ option_map kind_of (get_by (nat_eq q) m)) →
      from_entries (kinds_in n.entries) ≡ table.kinds
  alike n same =
      same-entries (kinds_in m.entries) (kinds_in n.entries) (λ q. lookup-kinds q n.entries ∙ same q ∙ sym (lookup-kinds q m.entries))
      ∙ ap (λ t. t.kinds) is

  -- Entries in another order do.
  pub reordered : (n : HashMap ℕ Socket S) → ((q : ℕ) → get_by (nat_eq q) n ≡ get_by (nat_eq q) m) →
      from_entries (kinds_in n.entries) ≡ table.kinds
  reordered n same = alike n (λ q. ap (option_map kind_of) (same q))

  -- So do those in which a find was overwritten by a socket of its kind.
  pub written : (n : HashMap ℕ Socket S) (h : ℕ) (was now : Socket) → Some was ≡ get_by (nat_eq h) m → kind_of now ≡ kind_of was →
      WritesThrough nat_eq (nat_eq h) m now n → from_entries (kinds_in n.entries) ≡ table.kinds
  written n h was now there same writes =
      let put = writes.3 (subst IsSome there refl) in
      alike n (λ q. ap (option_map kind_of) (put.0 q) ∙ kind-chosen (nat_eq h q) (Some now) (get_by (nat_eq q) m)
      ∙ same-choice (nat_eq h q) (Some (kind_of now)) (option_map kind_of (get_by (nat_eq q) m))
      (λ equal. ap (λ k. option_map kind_of (get_by (nat_eq k) m)) (sym (tested-equal h q equal))
      ∙ ap (option_map kind_of) (sym there) ∙ ap Some (sym same)))

-- What is refused as unfit of the kind of a socket is so of what the table has.
pub unfit-found : {A : Type 0} (fits : Option HandleKind → Bool) (x : Option HandleKind) (kind : HandleKind) (result : Result A Refusal) →
    x ≡ Some kind → RefusesUnfit (fits (Some kind)) result → RefusesUnfit (fits x) result
unfit-found fits x kind result is refuses = subst (λ y. RefusesUnfit (fits y) result) (sym is) refuses

-- What a table has is there.
pub there-found : {A E : Type 0} (x : Option HandleKind) (kind : HandleKind) (result : Result A E) → x ≡ Some kind → OnOk result (IsSome x)
there-found x kind (Ok done) is = subst IsSome (sym is) refl
there-found x kind (Err why) is = tt

-- What a table has is there: it isn't so that nothing is.
pub fit-found : {A : Type 0} (x : Option HandleKind) (kind : HandleKind) → x ≡ Some kind → is_some x ≡ false → A
fit-found x kind is none = (let there = sym none ∙ ap is_some is in let f : ⊥ = cc in absurd f)
