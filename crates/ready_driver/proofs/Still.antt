-- Calls of an object one after another that move nothing: what they leave together.
use Rattle.std.proofs.Common.{◌≡◌, ◌∙◌, ℕ, Bool, true, false, List, [], ◌∷◌, Option, Some, None, refl, sym, ap, subst, arith}
use Rattle.ready_driver.specs.declared.non_block.NonBlockError.{NonBlockError}
use Rattle.ready_driver.specs.declared.non_block.NonBlockError.TheVariants.{Fault, OutOfMemory}
use Rattle.ready_driver.specs.Io.{IoView, IsLater, IsStill, FaultsFor}
use Rattle.std.specs.Prelude.{if◌then◌else◌, unwrap_or, option_map}
use Rattle.ready_driver.specs.declared.records.Record.{Record}
use Rattle.ready_driver.specs.Records.{Kept, AreNamed, is_registered, record_at, unregistered_at}
use Rattle.ready_driver.specs.Records.{unregistered_in, changed_in, changed_named}
use Rattle.ready_driver.specs.Records.{with_registered}
use Rattle.ready_driver.specs.Registry.{Handling, keyed_by, keyed_each, MakesReady, Refuses, RefusesReady}
use Rattle.ready_driver.specs.Reports.{with_key}
use Rattle.ready_driver.proofs.Recorded.{changed-none}
use Rattle.ready_driver.proofs.Registering.{registered-again, unregistered-record}

-- The counts are what they were.
pub later-same : (v : IoView) → IsLater v v
later-same v = record { faults = omega arith; blocks = omega arith; fails = omega arith }

-- Counts that rise twice rise.
pub later-then : (a b c : IoView) → IsLater a b → IsLater b c → IsLater a c
later-then a b c x y = record {
  faults = omega (arith, x.faults, y.faults);
  blocks = omega (arith, x.blocks, y.blocks);
  fails = omega (arith, x.fails, y.fails);
}

module _ (tells memory : Bool) where
  -- No call.
  pub still-same : (v : IoView) → IsStill tells memory v v v.keys v.closes
  still-same v = record {
    later = later-same v;
    made = refl;
    closes_are = refl;
    world = λ t. refl;
    keys_are = λ m. refl;
    shown = λ m h ready s. s;
  }

  -- Two calls that close nothing: what the second makes of the keys it makes of those that the first left.
  pub still-then : (a b c : IoView) (keys : List (Option ℕ)) (f : List (Option ℕ) → List (Option ℕ)) →
      IsStill tells memory a b keys a.closes → IsStill tells memory b c (f b.keys) b.closes → IsStill tells memory a c (f keys) a.closes
  still-then a b c keys f x y = record {
    later = later-then a b c x.later y.later;
    made = y.made ∙ x.made;
    closes_are = y.closes_are ∙ x.closes_are;
    world = λ t. y.world t ∙ x.world t;
    keys_are = λ m. y.keys_are m ∙ ap f (x.keys_are m);
    shown = λ m h ready s. y.shown m h ready (x.shown m h ready s);
  }

  -- A fault behind a call that counted none is one of both.
  pub fault-behind : (a b c : IoView) (why : NonBlockError) → b.faults ≡ a.faults → FaultsFor memory b c why → FaultsFor memory a c why
  fault-behind a b c (Fault code) x y = (omega (arith, x, y.0), y.1, y.2)
  fault-behind a b c OutOfMemory x y = y ∙ x

module _ {I : Type 0} (view : I → IoView) (tells memory : Bool) where
  -- A handle that is registered already, or has no record.
  pub ready-already : (all : Handling I) (h : ℕ) → unregistered_at all.records h ≡ None → MakesReady view tells memory all (h ∷ []) all
  ready-already all h is = by (record_at all.records h) refl is
    where
      by : (x : Option Record) → record_at all.records h ≡ x → unregistered_in x ≡ None → MakesReady view tells memory all (h ∷ []) all
      by None there is = record {
        table = refl;
        records = sym (changed-none all.records h (with_registered true) there);
        object = subst (λ x. IsStill tells memory (view all.io) (view all.io) (keyed_by x (view all.io).keys h) (view all.io).closes)
            (sym there) (still-same tells memory (view all.io));
      }
      by (Some one) there is = here one.registered refl is
        where
          here : (b : Bool) → one.registered ≡ b → if◌then◌else◌ {A = Option ℕ} b None (Some one.key) ≡ None →
              MakesReady view tells memory all (h ∷ []) all
          here false not is = (let f : ⊥ = cc in absurd f)
          here true has is = record {
            table = refl;
            records = sym (registered-again all.records h
                (ap (λ x. unwrap_or (option_map (λ r. r.registered) x) false) there ∙ has));
            object = subst (λ x. IsStill tells memory (view all.io) (view all.io) (keyed_by x (view all.io).keys h) (view all.io).closes)
                (sym there)
                (subst (λ b. IsStill tells memory (view all.io) (view all.io)
                (if◌then◌else◌ {A = List (Option ℕ)} b (view all.io).keys (with_key (view all.io).keys h (Some one.key))) (view
                all.io).closes)
                (sym has) (still-same tells memory (view all.io)));
          }

  -- A handle is registered with the key of its record.
  pub ready-now : (all : Handling I) (io : I) (h key : ℕ) → unregistered_at all.records h ≡ Some key → AreNamed all.records →
      IsStill tells memory (view all.io) (view io) (with_key (view all.io).keys h (Some key)) (view all.io).closes →
      MakesReady view tells memory all (h ∷ [])
      (record all { io = io; records = changed_named all.records key (with_registered true) })
  ready-now all io h key is named still =
      let one = unregistered-record all.records h key is in
      record {
        table = refl;
        records = ap (λ x. changed_in all.records x (with_registered true))
            ((named h key).1 (ap (option_map (λ (r : Record). r.key)) one.1 ∙ ap Some one.3));
        object = subst (λ ks. IsStill tells memory (view all.io) (view io) ks (view all.io).closes)
            (sym (ap (λ x. keyed_by x (view all.io).keys h) one.1
            ∙ ap (λ b. if◌then◌else◌ {A = List (Option ℕ)} b (view all.io).keys (with_key (view all.io).keys h (Some one.0.key))) one.2
            ∙ ap (λ k. with_key (view all.io).keys h (Some k)) one.3)) still;
      }

  -- One whose record isn't registered isn't.
  pub unready : (records : Kept) (h key : ℕ) → unregistered_at records h ≡ Some key → is_registered records h ≡ false
  unready records h key is =
      let one = unregistered-record records h key is in
      ap (λ x. unwrap_or (option_map (λ r. r.registered) x) false) one.1 ∙ one.2

  -- The first handle is refused.
  pub refused-first : (old : Handling I) (h : ℕ) (rest : List ℕ) (new : Handling I) (why : NonBlockError) →
      Refuses view tells memory old h new why → RefusesReady view tells memory old (h ∷ rest) new why
  refused-first old h rest new why r = record {
    front = [];
    refused = h;
    rest = rest;
    parts = refl;
    made = record { table = r.table; records = r.records; object = r.object };
    unregistered = ap (λ records. is_registered records h) r.records ∙ r.unregistered;
    fault = r.fault;
    never = r.never;
  }

  -- The second handle is refused.
  pub refused-second : (old : Handling I) (h k : ℕ) (mid new : Handling I) (why : NonBlockError) →
      MakesReady view tells memory old (h ∷ []) mid → (view mid.io).faults ≡ (view old.io).faults →
      Refuses view tells memory mid k new why → RefusesReady view tells memory old (h ∷ k ∷ []) new why
  refused-second old h k mid new why m calm r = record {
    front = h ∷ [];
    refused = k;
    rest = [];
    parts = refl;
    made = record {
      table = r.table ∙ m.table;
      records = r.records ∙ m.records;
      object = still-then tells memory (view old.io) (view mid.io) (view new.io)
          (keyed_each old.records (view old.io).keys (h ∷ [])) (λ keys. keys) m.object r.object;
    };
    unregistered = ap (λ records. is_registered records k) r.records ∙ r.unregistered;
    fault = fault-behind tells memory (view old.io) (view mid.io) (view new.io) why calm r.fault;
    never = r.never;
  }
