-- What taking the queue leaves: the other lists, and how many operations there are.
use Rattle.std.proofs.Common.{◌≡◌, ℕ, Bool, true, false, List, [], ◌∷◌, Option, None, length, refl, ◌∙◌, if◌then◌else◌, ◌==◌}
use Rattle.machine.specs.Ledger.{Ledger, Queued, Req, Cancel}
use Rattle.machine.specs.Queue.{with_take, with_cancel, take_one, leader_behind, take_behind, take_each, take_all, make_room}
use Rattle.machine.proofs.Amended.{length-amended}

-- Taking entries leaves the queue, whatever the first of them follows.
queue-take_behind : (leader : Option ℕ) (L : Ledger) (entries : List Queued) → (take_behind leader L entries).queue ≡ L.queue
queue-take_behind leader L [] = refl
queue-take_behind leader L (Req m ∷ entries) = queue-take_behind (leader_behind L (Req m)) (take_one leader L (Req m)) entries
queue-take_behind leader L (Cancel m ∷ entries) = queue-take_behind None (take_one leader L (Cancel m)) entries
queue-take_behind leader L (Queued.Close h ∷ entries) = queue-take_behind None (take_one leader L (Queued.Close h)) entries

-- Taking entries leaves the queue.
pub queue-take_each : (L : Ledger) (entries : List Queued) → (take_each L entries).queue ≡ L.queue
queue-take_each L entries = queue-take_behind None L entries

-- Taking entries leaves what is done, whatever the first of them follows.
done-take_behind : (leader : Option ℕ) (L : Ledger) (entries : List Queued) → (take_behind leader L entries).done ≡ L.done
done-take_behind leader L [] = refl
done-take_behind leader L (Req m ∷ entries) = done-take_behind (leader_behind L (Req m)) (take_one leader L (Req m)) entries
done-take_behind leader L (Cancel m ∷ entries) = done-take_behind None (take_one leader L (Cancel m)) entries
done-take_behind leader L (Queued.Close h ∷ entries) = done-take_behind None (take_one leader L (Queued.Close h)) entries

-- Taking entries leaves what is done.
pub done-take_each : (L : Ledger) (entries : List Queued) → (take_each L entries).done ≡ L.done
done-take_each L entries = done-take_behind None L entries

-- Taking entries leaves how many operations there are, whatever the first of them follows.
length-take_behind : (leader : Option ℕ) (L : Ledger) (entries : List Queued) → length (take_behind leader L entries).ops ≡ length L.ops
length-take_behind leader L [] = refl
length-take_behind leader L (Req m ∷ entries) = length-take_behind (leader_behind L (Req m)) (take_one leader L (Req m)) entries
    ∙ length-amended (with_take leader) L.ops m
length-take_behind leader L (Cancel m ∷ entries) = length-take_behind None (take_one leader L (Cancel m)) entries
    ∙ length-amended with_cancel L.ops m
length-take_behind leader L (Queued.Close h ∷ entries) = length-take_behind None (take_one leader L (Queued.Close h)) entries

-- Taking entries leaves how many operations there are.
pub length-take_each : (L : Ledger) (entries : List Queued) → length (take_each L entries).ops ≡ length L.ops
length-take_each L entries = length-take_behind None L entries

-- Room that is made or not leaves how many operations there are.
length-room : (b : Bool) (L : Ledger) → length (if b then take_all L else L).ops ≡ length L.ops
length-room true L = length-take_each (record L { queue = [] }) L.queue
length-room false L = refl

-- Making room leaves how many operations there are.
pub length-make_room : (L : Ledger) → length (make_room L).ops ≡ length L.ops
length-make_room L = length-room (length L.queue == L.capacity) L
