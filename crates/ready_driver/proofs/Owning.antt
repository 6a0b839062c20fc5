-- The keys with which handles of a world in memory are registered, beside those of their records, through what calls make of them.
use Rattle.std.proofs.Common.{◌≡◌, inl, inr, ℕ, Bool, true, false, List, [], ◌∷◌, Option, Some, None, refl, sym, ◌∙◌, ap}
use Rattle.std.specs.Prelude.{option_map, if◌then◌else◌, slice_get, Result, Ok, Err}
use Rattle.rent_buf.specs.declared.fault.OutOfMemory.{OutOfMemory}
use Rattle.machine.specs.Effect.{made_by}
use Rattle.machine.proofs.Amended.{get-amended, get-amended-other}
use Rattle.machine.proofs.Numbers.{same-or-not}
use Rattle.driver_core.specs.declared.op.Op.{Op}
use Rattle.driver_core.specs.declared.op.PollOp.{PollOp}
use Rattle.driver_core.specs.declared.op.PollOp.TheVariants.{Pending, Ready}
use Rattle.ready_driver.specs.declared.records.Record.{Record}
use Rattle.ready_driver.specs.Awaits.{KeysFor}
use Rattle.ready_driver.specs.Records.{Kept, record_at, key_at, changed, with_registered}
use Rattle.ready_driver.specs.Registry.{OwnsKey, keyed_by, keyed_each, registered_each, without_keys}
use Rattle.ready_driver.specs.Reports.{with_key}
use Rattle.ready_driver.proofs.Agreeing.{key_in, keys-changed}
use Rattle.ready_driver.proofs.Paired.{some-same}
use Rattle.ready_driver.proofs.Shown.{key-before}

-- The records of handles are registered: their keys stay.
pub keys-registered : (handles : List ℕ) (records : Kept) (h : ℕ) → key_at (registered_each records handles) h ≡ key_at records h
keys-registered [] records h = refl
keys-registered (n ∷ handles) records h =
    keys-registered handles (changed records n (with_registered true)) h ∙ keys-changed records n (with_registered true) (λ one. refl) h

-- A handle has the key with which it is registered still, where it had it before handles were registered that have records with it.
pub keyed-ready : (handles : List ℕ) (records : Kept) (keys : List (Option ℕ)) (h : ℕ) → OwnsKey records keys h →
    OwnsKey records (keyed_each records keys handles) h
keyed-ready [] records keys h owns = owns
keyed-ready (n ∷ handles) records keys h owns = λ key at.
    sym (keys-changed records n (with_registered true) (λ one. refl) h)
    ∙ keyed-ready handles (changed records n (with_registered true)) (keyed_by (record_at records n) keys n) h
    (λ k is. keys-changed records n (with_registered true) (λ one. refl) h ∙ by (record_at records n) refl k is) key at
  where
    one_of : (one : Record) → record_at records n ≡ Some one → (b : Bool) → (k : ℕ) →
        slice_get (if◌then◌else◌ {A = List (Option ℕ)} b keys (with_key keys n (Some one.key))) h ≡ Some (Some k) →
        key_at records h ≡ Some k
    one_of one there true k is = owns k is
    one_of one there false k is = elim (same-or-not h n) [
      | inl e ↦ ap (key_at records) e ∙ ap key_in there ∙ given (slice_get keys n)
          (sym (ap (slice_get (with_key keys n (Some one.key))) e ∙ get-amended (λ old. Some one.key) keys n) ∙ is)
      | inr e ↦ owns k (sym (get-amended-other (λ old. Some one.key) keys n h e) ∙ is)
    ]
      where
        given : (x : Option (Option ℕ)) → option_map (λ old. Some one.key) x ≡ Some (Some k) → ◌≡◌ {A = Option ℕ} (Some one.key) (Some k)
        given None is = (let f : ⊥ = cc in absurd f)
        given (Some old) is = some-same (Some one.key) (Some k) is

    by : (x : Option Record) → record_at records n ≡ x → (k : ℕ) → slice_get (keyed_by x keys n) h ≡ Some (Some k) →
        key_at records h ≡ Some k
    by None there k is = owns k is
    by (Some one) there k is = one_of one there one.registered k is

-- A handle that loses its key has none.
pub key-dropped : (keys : List (Option ℕ)) (n h key : ℕ) → slice_get (with_key keys n None) h ≡ Some (Some key) →
    slice_get keys h ≡ Some (Some key)
key-dropped keys n h key is = elim (same-or-not h n) [
  | inl e ↦ absurd (gone (slice_get keys n)
      (sym (ap (slice_get (with_key keys n None)) e ∙ get-amended (λ old. None) keys n) ∙ is))
  | inr e ↦ sym (get-amended-other (λ old. None) keys n h e) ∙ is
]
  where
    gone : (x : Option (Option ℕ)) → ◌≡◌ {A = Option (Option ℕ)} (option_map (λ old. None) x) (Some (Some key)) → ⊥
    gone None is = cc
    gone (Some old) is = cc

-- So it is of several.
pub keys-dropped : (handles : List ℕ) (keys : List (Option ℕ)) (h key : ℕ) → slice_get (without_keys keys handles) h ≡ Some (Some key) →
    slice_get keys h ≡ Some (Some key)
keys-dropped [] keys h key is = is
keys-dropped (n ∷ handles) keys h key is = key-dropped keys n h key (keys-dropped handles (with_key keys n None) h key is)

-- The keys of a world in memory once a poll was made.
pub keys-polled : {B : Type 0} (old new : List (Option ℕ)) (result : Result (PollOp B) (OutOfMemory × Op)) → KeysFor old new result →
    (h key : ℕ) → slice_get new h ≡ Some (Some key) → slice_get old h ≡ Some (Some key)
keys-polled old new (Ok (Pending back)) keys h key is = ap (λ ks. slice_get ks h) (sym keys) ∙ is
keys-polled old new (Ok (Ready done)) keys h key is =
    key-before (made_by done.outcome) old h key (ap (λ ks. slice_get ks h) (sym keys) ∙ is)
keys-polled old new (Err error) keys h key is = ap (λ ks. slice_get ks h) (sym keys) ∙ is
