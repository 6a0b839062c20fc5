-- What the rounds of a relay come to over a world in memory.
use Rattle.std.proofs.Common.{ℕ, zero, suc, ◌≡◌, ◌≢◌, ◌≤◌, ◌<◌, ◌+◌, ◌∙◌, inl, inr, ap, sym, refl, subst, arith, Bool, IsTrue}
use Rattle.std.proofs.Common.{List, [], ◌∷◌, ◌++◌, length, length-append}
use Rattle.std.specs.Prelude.{IsPermutation, map, min}
use Rattle.std.proofs.lemmas.List.{length-map}
use Rattle.std.proofs.lemmas.List.Sorted.{length_permutation}
use Rattle.machine.proofs.Numbers.{below-or-not}
use Rattle.ready_driver.specs.Io.{IoView}
use Rattle.relay_net.specs.Connection.{near_of}
use Rattle.relay_net.specs.Keeping.{world_of}
use Rattle.relay_net.specs.Listening.{AreGoingBut, IsListener}
use Rattle.relay_net.specs.Relay.{connections_in}
use Rattle.relay_net.specs.Relaying.{Relaying}
use Rattle.relay_net.specs.declared.connection.Connection.{Connection}
use Rattle.relay_net.specs.declared.round.Lost.{Lost}
use Rattle.relay_run.specs.Relaying.{IsListening, MakesRound, MakesRounds, made_of}

-- A round that opens one connection at most makes a handle for it.
pub opens_made : (opened : List ℕ) (before now : ℕ) → (opened ≢ [] → before < now) → before ≤ now → length opened ≤ 1
    → before + length opened ≤ now
opens_made [] before now grows order one = omega (arith, order)
opens_made (n ∷ opened) before now grows order one =
    let more : before < now = grows (λ e. absurd cc) in
    let few : length (n ∷ opened) ≤ 1 = one in omega (arith, more, few)

-- A list that isn't empty has an element at least.
some_one : (xs : List ℕ) → xs ≢ [] → 1 ≤ length xs
some_one [] some = absurd (some refl)
some_one (x ∷ xs) some = omega arith

-- Of those that were open or were opened are those that are open behind the round.
few_open : (open_now open_before : List Connection) (closed opened : List ℕ) (failed : List Lost)
    → IsPermutation (connections_in open_now closed failed) (map near_of open_before ++ opened)
    → length open_now ≤ length open_before + length opened
few_open open_now open_before closed opened failed names =
    let ended = closed ++ map (λ lost. lost.connection) failed in
    let whole = length_permutation (map near_of open_now ++ ended) (map near_of open_before ++ opened) names in
    let left = length-append (map near_of open_now) ended in
    let right = length-append (map near_of open_before) opened in
    let now = length-map open_now near_of in
    let before = length-map open_before near_of in omega (arith, whole, left, right, now, before)

-- How it is behind so many rounds of a relay over a world in memory: its listener listens, none was closed, its object made a handle for
-- each connection that is open, and one for each round, up to its limit.
pub record IsBehind {I : Type 0} (view : I → IoView) (start : Relaying I) (count closed : ℕ) (now : Relaying I) : Type 0 where
  pub listening : IsListening view now.driver.handling now.listener
  pub none : closed ≡ 0
  pub limit : now.limit ≡ start.limit
  pub few : made_of view start + length now.open_ones ≤ made_of view now
  pub opened : made_of view start + min start.limit count ≤ made_of view now

-- So it is behind one more.
one_behind : {I : Type 0} (view : I → IoView) (tells memory : Bool) (start mid now : Relaying I) (count before closed : ℕ)
    → IsTrue tells → IsTrue memory → IsBehind view start count before mid → MakesRound view tells memory mid before closed now
    → IsBehind view start (suc count) closed now
one_behind view tells memory start mid now count before closed shows is behind round =
    let kept = round.serving.streams shows mid.listener in
    let listening = behind.listening in
    let more = few_open now.open_ones mid.open_ones round.round.closed round.round.opened round.round.failed round.names in
    let closes = ap length (round.closes shows listening.going) in
    let counted = round.counted in
    let none = behind.none in
    let few = behind.few in
    let opened = behind.opened in
    let grows = round.grows in
    record {
      listening = record {
        listens = subst (IsListener (world_of view now.driver)) (sym round.listener) (kept.2 listening.listens);
        keyed = (round.keyed is listening.keyed).held;
        going = subst (λ h. AreGoingBut h (world_of view now.driver)) (sym round.listener) (kept.3 listening.going);
      };
      none = omega (arith, counted, none, closes);
      limit = round.limit ∙ behind.limit;
      few = omega (arith, few, more, grows);
      opened = elim (below-or-not (length mid.open_ones) mid.limit) [
        | inl place ↦ (
            let one = some_one round.round.opened
            (round.accepts is (record { listens = listening.listens; keyed = listening.keyed.keyed }) place) in
            omega (arith, opened, grows, one))
        | inr full ↦ (let same = behind.limit in omega (arith, few, grows, full, same))
      ];
    }

-- So it is behind all.
pub rounds_behind : {I : Type 0} (view : I → IoView) (tells memory : Bool) (start now : Relaying I) (count closed : ℕ) → IsTrue tells
    → IsTrue memory → start.open_ones ≡ [] → IsListening view start.driver.handling start.listener
    → MakesRounds view tells memory start count closed now → IsBehind view start count closed now
rounds_behind view tells memory start now zero closed shows is empty listening made =
    subst (λ r. IsBehind view start 0 closed r) (sym made.1) (record {
      listening = listening;
      none = made.0;
      limit = refl;
      few = let none = ap length empty in omega (arith, none);
      opened = omega arith;
    })
rounds_behind view tells memory start now (suc count) closed shows is empty listening made =
    one_behind view tells memory start made.0 now count made.1 closed shows is
    (rounds_behind view tells memory start made.0 count made.1 shows is empty listening made.2) made.3

-- Rounds over any object make no handle less.
pub rounds_made : {I : Type 0} (view : I → IoView) (tells memory : Bool) (start now : Relaying I) (count closed : ℕ)
    → MakesRounds view tells memory start count closed now → made_of view start ≤ made_of view now
rounds_made view tells memory start now zero closed made = let same = ap (made_of view) made.1 in omega (arith, same)
rounds_made view tells memory start now (suc count) closed made =
    let before = rounds_made view tells memory start made.0 count made.1 made.2 in
    let grows = made.3.grows in omega (arith, before, grows)

-- No round closes none.
pub rounds_none : {I : Type 0} (view : I → IoView) (tells memory : Bool) (start now : Relaying I) (count closed : ℕ)
    → MakesRounds view tells memory start count closed now → count ≡ 0 → closed ≡ 0
rounds_none view tells memory start now zero closed made none = made.0
rounds_none view tells memory start now (suc count) closed made none = omega (arith, none)
