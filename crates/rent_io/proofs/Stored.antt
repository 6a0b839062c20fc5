-- Bytes that are stored in two steps are stored in one.
use Rattle.std.proofs.Common.{◌≡◌, ◌∙◌, ℕ, zero, suc, ◌+◌, ◌≤◌, List, [], ◌∷◌, ◌++◌, length, take, drop, refl, sym, ap, arith, add-zero}
use Rattle.std.proofs.Common.{append_assoc, append-nil, length-append}
use Rattle.std.proofs.lemmas.List.{take-append-le, take_all, length-take, drop-drop}
use Rattle.rent_buf.specs.declared.kind.Kind.{Kind}
use Rattle.rent_buf.specs.declared.kind.Kind.TheVariants.{Vector, Grown, Fixed}
use Rattle.rent_buf.specs.Buffer.{Buffer, put, written, room}
use Rattle.rent_io.specs.ReadExact.{Filling, with_more, filled_with}

-- Behind the first of two joined lists comes the second.
drop-behind : (xs ys : List ℕ) (n m : ℕ) → n ≡ length xs + m → drop n (xs ++ ys) ≡ drop m ys
drop-behind [] ys n m is = let same : n ≡ m = omega arith in ap (λ k. drop k ys) same
drop-behind (x ∷ xs) ys zero m is = absurd (omega arith)
drop-behind (x ∷ xs) ys (suc n) m is = drop-behind xs ys n m (omega arith)

-- The first bytes with s and t behind them, and the rest kept, in two steps.
kept-twice : (bytes : List ℕ) (i : ℕ) (s t : List ℕ) → i ≤ length bytes
    → written Grown (written Grown bytes i s) (i + length s) t ≡ written Grown bytes i (s ++ t)
kept-twice bytes i s t within =
    let a = take i bytes in
    let n = i + length s in
    let r = drop n bytes in
    let long : n ≡ length (a ++ s) = omega (arith, length-append a s, length-take i bytes) in
    let front : take n ((a ++ s) ++ r) ≡ a ++ s =
    take-append-le n (a ++ s) r (omega (arith, long)) ∙ take_all n (a ++ s) (omega (arith, long)) in
    let back : drop (n + length t) ((a ++ s) ++ r) ≡ drop (n + length t) bytes =
    drop-behind (a ++ s) r (n + length t) (length t) (omega (arith, long)) ∙ drop-drop (length t) n bytes in
    let more : n + length t ≡ i + length (s ++ t) = omega (arith, length-append s t) in
    (λ j. (front j ++ t) ++ back j)
    ∙ ap (λ l. l ++ drop (n + length t) bytes) (append_assoc a s t)
    ∙ ap (λ k. (a ++ (s ++ t)) ++ drop k bytes) more

-- Bytes of a kind with s written at a place and t behind it have s and t there.
written-twice : (kind : Kind) (bytes : List ℕ) (i : ℕ) (s t : List ℕ) → i ≤ length bytes
    → written kind (written kind bytes i s) (i + length s) t ≡ written kind bytes i (s ++ t)
written-twice Vector bytes i s t within =
    let long : i + length s ≡ length (take i bytes ++ s) = omega (arith, length-append (take i bytes) s, length-take i bytes) in
    ap (λ l. l ++ t) (take_all (i + length s) (take i bytes ++ s) (omega arith)) ∙ append_assoc (take i bytes) s t
written-twice Grown bytes i s t within = kept-twice bytes i s t within
written-twice Fixed bytes i s t within = kept-twice bytes i s t within

-- The same of a buffer.
put-twice : (b : Buffer) (i n : ℕ) (s t : List ℕ) → b.begin + i ≤ length b.bytes → n ≡ length s
    → put (put b (b.begin + i) s) (b.begin + (i + n)) t ≡ put b (b.begin + i) (s ++ t)
put-twice b i n s t within long =
    let at : b.begin + (i + n) ≡ (b.begin + i) + length s = omega (arith, long) in
    ap (λ k. put (put b (b.begin + i) s) k t) at
    ∙ ap (λ l. record b { bytes = l }) (written-twice b.kind b.bytes (b.begin + i) s t within)

-- A read that stored u and then v stored both.
pub more_twice : (f : Filling) (u v : List ℕ) → f.buffer.begin + f.filled ≤ length f.buffer.bytes
    → with_more (filled_with f u) v ≡ with_more f (u ++ v)
more_twice f [] [] within = refl
more_twice f [] (y ∷ v) within = ap (λ n. put f.buffer (f.buffer.begin + n) (y ∷ v)) (add-zero f.filled)
more_twice f (x ∷ u) [] within = ap (λ l. put f.buffer (f.buffer.begin + f.filled) (x ∷ l)) (sym (append-nil u))
more_twice f (x ∷ u) (y ∷ v) within = put-twice f.buffer f.filled (length (x ∷ u)) (x ∷ u) (y ∷ v) within refl

-- And so it filled as many.
pub filled_twice : (f : Filling) (u v : List ℕ) → f.buffer.begin + f.filled ≤ length f.buffer.bytes
    → filled_with (filled_with f u) v ≡ filled_with f (u ++ v)
filled_twice f u v within =
    let make : Buffer → ℕ → Filling = λ b n. record f { buffer = b; filled = n } in
    let count : (f.filled + length u) + length v ≡ f.filled + length (u ++ v) = omega (arith, length-append u v) in
    ap (λ b. make b ((f.filled + length u) + length v)) (more_twice f u v within) ∙ ap (make (with_more f (u ++ v))) count

-- A read of nothing behind u leaves u stored.
pub nothing_behind : (f : Filling) (u : List ℕ) → f.buffer.begin + f.filled ≤ length f.buffer.bytes
    → put (with_more f u) ((with_more f u).begin + (f.filled + length u)) [] ≡ put f.buffer (f.buffer.begin + f.filled) u
nothing_behind f [] within = ap (λ n. put f.buffer (f.buffer.begin + n) []) (add-zero f.filled)
nothing_behind f (x ∷ u) within = put-twice f.buffer f.filled (length (x ∷ u)) (x ∷ u) [] within refl
    ∙ ap (λ l. put f.buffer (f.buffer.begin + f.filled) (x ∷ l)) (append-nil u)

-- Bytes that are stored leave the room.
pub room_more : (f : Filling) (u : List ℕ) → room (with_more f u) ≡ room f.buffer
room_more f [] = refl
room_more f (x ∷ u) = refl
