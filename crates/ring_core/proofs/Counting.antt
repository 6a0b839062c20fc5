-- Sums of the first counts of a list, and how many of the first slots are kept.
use Rattle.std.proofs.Common.{◌≡◌, inl, inr, ℕ, zero, suc, ◌+◌, ◌-◌, ◌*◌, ◌/◌, ◌<◌, ◌≤◌, Bool, true, false, List, [], ◌∷◌, ◌++◌, length}
use Rattle.std.proofs.Common.{replicate, get_or, set, Some, slice_get, refl, sym, ◌∙◌, ap, arith}
use Rattle.std.proofs.lemmas.Bool.Decides.{leb_tells}
use Rattle.std.proofs.lemmas.Grind.{get_or_default_zero}
use Rattle.std.proofs.lemmas.Option.{slice_get_within}
use Rattle.std.proofs.Math.ListN.{length-set}
use Rattle.std.proofs.lemmas.List.{length-append}
use Rattle.ring_core.specs.declared.ranks.TheConstants.{WIDTH}
use Rattle.machine.specs.Lists.{amended}
use Rattle.machine.specs.Lists.{one_if}
use Rattle.ring_core.specs.Ranks.{kept_first, sum_first, AreSums, AreCounted, less_one}

-- 1 where a place is among the first n, else 0.
abbrev pub among : ℕ → ℕ → ℕ
among i zero = 0
among zero (suc n) = 1
among (suc i) (suc n) = among i n

-- A place that is among the first n counts 1.
among-yes : (i n : ℕ) → i < n → among i n ≡ 1
among-yes i zero within = absurd (omega arith)
among-yes zero (suc n) within = refl
among-yes (suc i) (suc n) within = among-yes i n (omega arith)

-- A place that isn't among the first n counts 0.
among-no : (i n : ℕ) → n ≤ i → among i n ≡ 0
among-no i zero past = refl
among-no zero (suc n) past = absurd (omega arith)
among-no (suc i) (suc n) past = among-no i n (omega arith)

-- Which of `WIDTH` a place belongs to tells on which side of a multiple of `WIDTH` it is.
among-scaled : (i n : ℕ) → among (i / WIDTH) n ≡ among i (WIDTH * n)
among-scaled i n = elim (leb_tells n (i / WIDTH)) [
  | inl past ↦ among-no (i / WIDTH) n past.1 ∙ sym (among-no i (WIDTH * n) (let p = past.1 in omega arith))
  | inr within ↦ among-yes (i / WIDTH) n within.1 ∙ sym (among-yes i (WIDTH * n) (let w = within.1 in omega arith))
]

-- One count more.
pub sum-next : (n : ℕ) (xs : List ℕ) → sum_first (suc n) xs ≡ sum_first n xs + get_or xs n 0
sum-next zero [] = refl
sum-next zero (x ∷ xs) = omega arith
sum-next (suc n) [] = refl
sum-next (suc n) (x ∷ xs) = let rest = sum-next n xs in omega arith

-- A longer prefix has no smaller sum.
pub sum-more : (n m : ℕ) (xs : List ℕ) → n ≤ m → sum_first n xs ≤ sum_first m xs
sum-more zero m xs longer = omega arith
sum-more (suc n) zero xs longer = absurd (omega arith)
sum-more (suc n) (suc m) [] longer = omega arith
sum-more (suc n) (suc m) (x ∷ xs) longer = let rest = sum-more n m xs (omega arith) in omega arith

-- Past the end nothing is added.
pub sum-end : (n : ℕ) (xs : List ℕ) → length xs ≤ n → sum_first n xs ≡ sum_first (length xs) xs
sum-end zero [] past = refl
sum-end zero (x ∷ xs) past = absurd (omega arith)
sum-end (suc n) [] past = refl
sum-end (suc n) (x ∷ xs) past = ap (λ rest. x + rest) (sum-end n xs (omega arith))

-- A prefix of a smaller sum than the whole ends before the end.
pub sum-within : (n : ℕ) (xs : List ℕ) → sum_first n xs < sum_first (length xs) xs → n < length xs
sum-within n xs less = elim (leb_tells (length xs) n) [
  | inl past ↦ let all = sum-end n xs past.1 in absurd (omega (arith, less, all))
  | inr within ↦ within.1
]

-- The sums after one count rose by one.
sum-counted : (n i : ℕ) (xs : List ℕ) → i < length xs → sum_first n (amended xs i suc) ≡ sum_first n xs + among i n
sum-counted zero i xs within = omega arith
sum-counted (suc n) i [] within = absurd (omega arith)
sum-counted (suc n) zero (x ∷ xs) within = omega arith
sum-counted (suc n) (suc i) (x ∷ xs) within = let rest = sum-counted n i xs (omega arith) in omega arith

-- The sums after one count fell by one.
sum-discounted : (n i : ℕ) (xs : List ℕ) → 0 < get_or xs i 0 → sum_first n (amended xs i less_one) + among i n ≡ sum_first n xs
sum-discounted zero i xs some = omega arith
sum-discounted (suc n) i [] some = absurd (omega arith)
sum-discounted (suc n) zero (x ∷ xs) some = omega arith
sum-discounted (suc n) (suc i) (x ∷ xs) some = let rest = sum-discounted n i xs some in omega arith

-- One slot more.
pub kept-next : (n : ℕ) (flags : List Bool) (flag : Bool) → slice_get flags n ≡ Some flag →
    kept_first (suc n) flags ≡ kept_first n flags + one_if flag
kept-next n [] flag there = cc
kept-next zero (f ∷ flags) flag there = let same : f ≡ flag = cc in let counts = ap one_if same in omega arith
kept-next (suc n) (f ∷ flags) flag there = let rest = kept-next n flags flag there in omega arith

-- A longer prefix has no fewer kept ones.
pub kept-more : (n m : ℕ) (flags : List Bool) → n ≤ m → kept_first n flags ≤ kept_first m flags
kept-more zero m flags longer = omega arith
kept-more (suc n) zero flags longer = absurd (omega arith)
kept-more (suc n) (suc m) [] longer = omega arith
kept-more (suc n) (suc m) (f ∷ flags) longer = let rest = kept-more n m flags (omega arith) in omega arith

-- No more are kept than there are.
pub kept-at-most : (n : ℕ) (flags : List Bool) → kept_first n flags ≤ n
kept-at-most zero flags = omega arith
kept-at-most (suc n) [] = omega arith
kept-at-most (suc n) (true ∷ flags) = let rest = kept-at-most n flags in omega arith
kept-at-most (suc n) (false ∷ flags) = let rest = kept-at-most n flags in omega arith

-- So many slots more have at most so many kept ones more.
pub kept-few : (n m k : ℕ) (flags : List Bool) → m ≡ n + k → kept_first m flags ≤ kept_first n flags + k
kept-few zero m k flags longer = let few = kept-at-most m flags in omega arith
kept-few (suc n) zero k flags longer = absurd (omega arith)
kept-few (suc n) (suc m) k [] longer = omega arith
kept-few (suc n) (suc m) k (f ∷ flags) longer = let rest = kept-few n m k flags (omega arith) in omega arith

-- Past the end nothing is kept.
pub kept-end : (n : ℕ) (flags : List Bool) → length flags ≤ n → kept_first n flags ≡ kept_first (length flags) flags
kept-end zero [] past = refl
kept-end zero (f ∷ flags) past = absurd (omega arith)
kept-end (suc n) [] past = refl
kept-end (suc n) (f ∷ flags) past = ap (λ rest. one_if f + rest) (kept-end n flags (omega arith))

-- No prefix has more kept ones than all slots have.
kept-all : (n : ℕ) (flags : List Bool) → kept_first n flags ≤ kept_first (length flags) flags
kept-all zero flags = omega arith
kept-all (suc n) [] = omega arith
kept-all (suc n) (f ∷ flags) = let rest = kept-all n flags in omega arith

-- Of no slots none is kept.
kept-none : (n : ℕ) → ◌≡◌ {A = ℕ} (kept_first n []) 0
kept-none zero = refl
kept-none (suc n) = refl

-- A slot that joins is kept.
kept-joined : (n : ℕ) (flags : List Bool) → kept_first n (flags ++ true ∷ []) ≡ kept_first n flags + among (length flags) n
kept-joined zero flags = refl
kept-joined (suc n) [] = let none = kept-none n in omega arith
kept-joined (suc n) (f ∷ flags) = let rest = kept-joined n flags in omega arith

-- A slot that was kept isn't any more.
kept-left : (n i : ℕ) (flags : List Bool) → slice_get flags i ≡ Some true →
    kept_first n (set flags i false) + among i n ≡ kept_first n flags
kept-left zero i flags there = refl
kept-left (suc n) i [] there = cc
kept-left (suc n) zero (f ∷ flags) there = let same : f ≡ true = cc in let counts = ap one_if same in omega arith
kept-left (suc n) (suc i) (f ∷ flags) there = let rest = kept-left n i flags there in omega arith

-- Sums after a lower count and its upper one rose by one.
sums-up : (lower upper : List ℕ) (at : ℕ) → at < length lower → at / WIDTH < length upper → AreSums lower upper →
    AreSums (amended lower at suc) (amended upper (at / WIDTH) suc)
sums-up lower upper at below above sums n =
    let up = sum-counted n (at / WIDTH) upper above in
    let scaled = among-scaled at n in
    let before = sums n in
    let under = sum-counted (WIDTH * n) at lower below in
    omega arith

-- The counts after a slot joined.
pub counted-joined : (flags : List Bool) (blocks groups regions : List ℕ) (at : ℕ) → at ≡ length flags → at < WIDTH * length blocks →
    length blocks ≤ WIDTH * length groups → length groups ≤ WIDTH * length regions → AreCounted flags blocks groups regions →
    AreCounted (flags ++ true ∷ []) (amended blocks (at / WIDTH) suc) (amended groups (at / WIDTH / WIDTH) suc)
    (amended regions (at / WIDTH / WIDTH / WIDTH) suc)
counted-joined flags blocks groups regions at end in_blocks in_groups in_regions counts =
    let block : at / WIDTH < length blocks = omega arith in
    let group : at / WIDTH / WIDTH < length groups = omega arith in
    let region : at / WIDTH / WIDTH / WIDTH < length regions = omega arith in record {
      blocks_count = λ n.
          let up = sum-counted n (at / WIDTH) blocks block in
          let scaled = among-scaled at n in
          let before = counts.blocks_count n in
          let joined = kept-joined (WIDTH * n) flags in
          let last = ap (λ i. among i (WIDTH * n)) end in
          omega arith;
      groups_count = sums-up blocks groups (at / WIDTH) block group counts.groups_count;
      regions_count = sums-up groups regions (at / WIDTH / WIDTH) group region counts.regions_count;
    }

-- The block of a kept slot counts it.
pub block-some : (flags : List Bool) (blocks groups regions : List ℕ) (i : ℕ) → AreCounted flags blocks groups regions →
    slice_get flags i ≡ Some true → 0 < get_or blocks (i / WIDTH) 0
block-some flags blocks groups regions i counts there =
    let next = sum-next (i / WIDTH) blocks in
    let low = counts.blocks_count (i / WIDTH) in
    let high = counts.blocks_count (suc (i / WIDTH)) in
    let here = kept-next i flags true there in
    let below = kept-more (WIDTH * (i / WIDTH)) i flags (omega arith) in
    let above = kept-more (suc i) (WIDTH * suc (i / WIDTH)) flags (omega arith) in
    omega arith

-- The upper count of a lower one that counts something counts it.
pub sums-some : (lower upper : List ℕ) (b : ℕ) → AreSums lower upper → 0 < get_or lower b 0 → 0 < get_or upper (b / WIDTH) 0
sums-some lower upper b sums some =
    let next = sum-next (b / WIDTH) upper in
    let low = sums (b / WIDTH) in
    let high = sums (suc (b / WIDTH)) in
    let here = sum-next b lower in
    let below = sum-more (WIDTH * (b / WIDTH)) b lower (omega arith) in
    let above = sum-more (suc b) (WIDTH * suc (b / WIDTH)) lower (omega arith) in
    omega arith

-- A block counts at most `WIDTH`.
pub block-few : (flags : List Bool) (blocks groups regions : List ℕ) (b : ℕ) → AreCounted flags blocks groups regions →
    get_or blocks b 0 ≤ WIDTH
block-few flags blocks groups regions b counts =
    let next = sum-next b blocks in
    let low = counts.blocks_count b in
    let high = counts.blocks_count (suc b) in
    let few = kept-few (WIDTH * b) (WIDTH * suc b) WIDTH flags (omega arith) in
    omega arith

-- A group counts at most `WIDTH * WIDTH`.
pub group-few : (flags : List Bool) (blocks groups regions : List ℕ) (g : ℕ) → AreCounted flags blocks groups regions →
    get_or groups g 0 ≤ WIDTH * WIDTH
group-few flags blocks groups regions g counts =
    let next = sum-next g groups in
    let low = counts.groups_count g in
    let high = counts.groups_count (suc g) in
    let low_block = counts.blocks_count (WIDTH * g) in
    let high_block = counts.blocks_count (WIDTH * suc g) in
    let few = kept-few (WIDTH * (WIDTH * g)) (WIDTH * (WIDTH * suc g)) (WIDTH * WIDTH) flags (omega arith) in
    omega arith

-- A region counts at most `WIDTH * WIDTH * WIDTH`.
pub region-few : (flags : List Bool) (blocks groups regions : List ℕ) (r : ℕ) → AreCounted flags blocks groups regions →
    get_or regions r 0 ≤ WIDTH * WIDTH * WIDTH
region-few flags blocks groups regions r counts =
    let next = sum-next r regions in
    let low = counts.regions_count r in
    let high = counts.regions_count (suc r) in
    let low_group = counts.groups_count (WIDTH * r) in
    let high_group = counts.groups_count (WIDTH * suc r) in
    let low_block = counts.blocks_count (WIDTH * (WIDTH * r)) in
    let high_block = counts.blocks_count (WIDTH * (WIDTH * suc r)) in
    let few = kept-few (WIDTH * (WIDTH * (WIDTH * r))) (WIDTH * (WIDTH * (WIDTH * suc r))) (WIDTH * WIDTH * WIDTH) flags (omega arith) in
    omega arith

-- Sums after a lower count and its upper one fell by one.
sums-down : (lower upper : List ℕ) (at : ℕ) → 0 < get_or lower at 0 → 0 < get_or upper (at / WIDTH) 0 → AreSums lower upper →
    AreSums (amended lower at less_one) (amended upper (at / WIDTH) less_one)
sums-down lower upper at below above sums n =
    let down = sum-discounted n (at / WIDTH) upper above in
    let scaled = among-scaled at n in
    let before = sums n in
    let under = sum-discounted (WIDTH * n) at lower below in
    omega arith

-- The counts after a slot that was kept isn't any more.
pub counted-left : (flags : List Bool) (blocks groups regions : List ℕ) (i : ℕ) → slice_get flags i ≡ Some true →
    AreCounted flags blocks groups regions →
    AreCounted (set flags i false) (amended blocks (i / WIDTH) less_one) (amended groups (i / WIDTH / WIDTH) less_one)
    (amended regions (i / WIDTH / WIDTH / WIDTH) less_one)
counted-left flags blocks groups regions i there counts =
    let block = block-some flags blocks groups regions i counts there in
    let group = sums-some blocks groups (i / WIDTH) counts.groups_count block in
    let region = sums-some groups regions (i / WIDTH / WIDTH) counts.regions_count group in record {
      blocks_count = λ n.
          let down = sum-discounted n (i / WIDTH) blocks block in
          let scaled = among-scaled i n in
          let before = counts.blocks_count n in
          let left = kept-left (WIDTH * n) i flags there in
          omega arith;
      groups_count = sums-down blocks groups (i / WIDTH) block group counts.groups_count;
      regions_count = sums-down groups regions (i / WIDTH / WIDTH) group region counts.regions_count;
    }

-- The whole sum of the blocks is the number of kept slots.
pub blocks-total : (flags : List Bool) (blocks groups regions : List ℕ) → length flags ≤ WIDTH * length blocks →
    AreCounted flags blocks groups regions → sum_first (length blocks) blocks ≡ kept_first (length flags) flags
blocks-total flags blocks groups regions in_blocks counts = counts.blocks_count (length blocks)
    ∙ kept-end (WIDTH * length blocks) flags in_blocks

-- The whole sum of upper counts is that of the lower ones.
pub sums-total : (lower upper : List ℕ) → length lower ≤ WIDTH * length upper → AreSums lower upper →
    sum_first (length upper) upper ≡ sum_first (length lower) lower
sums-total lower upper enough sums = sums (length upper) ∙ sum-end (WIDTH * length upper) lower enough

-- Counts of 0 have the sum 0.
sum-zeros : (n m : ℕ) → ◌≡◌ {A = ℕ} (sum_first n (replicate m 0)) 0
sum-zeros zero m = refl
sum-zeros (suc n) zero = refl
sum-zeros (suc n) (suc m) = let rest = sum-zeros n m in omega arith

-- Counts of 0 behind others add nothing.
pub sum-behind : (n m : ℕ) (xs : List ℕ) → sum_first n (xs ++ replicate m 0) ≡ sum_first n xs
sum-behind zero m xs = refl
sum-behind (suc n) m [] = sum-zeros (suc n) m
sum-behind (suc n) m (x ∷ xs) = ap (λ rest. x + rest) (sum-behind n m xs)

-- Sums of counts that are all 0.
sums-none : (lower upper : List ℕ) (n m : ℕ) → lower ≡ replicate n 0 → upper ≡ replicate m 0 → AreSums lower upper
sums-none lower upper n m none_lower none_upper i = ap (sum_first i) none_upper ∙ sum-zeros i m ∙ sym (sum-zeros (WIDTH * i) n)
    ∙ sym (ap (sum_first (WIDTH * i)) none_lower)

-- Of no slots, all counts are 0.
pub counted-none : (blocks groups regions : List ℕ) (n m k : ℕ) → blocks ≡ replicate n 0 → groups ≡ replicate m 0 →
    regions ≡ replicate k 0 → AreCounted [] blocks groups regions
counted-none blocks groups regions n m k no_blocks no_groups no_regions = record {
  blocks_count = λ i. ap (sum_first i) no_blocks ∙ sum-zeros i n ∙ sym (kept-none (WIDTH * i));
  groups_count = sums-none blocks groups n m no_blocks no_groups;
  regions_count = sums-none groups regions m k no_groups no_regions;
}

-- Counts with no slot kept are those of no slots.
pub counted-empty : (flags : List Bool) (blocks groups regions : List ℕ) → length flags ≤ WIDTH * length blocks →
    ◌≡◌ {A = ℕ} (kept_first (length flags) flags) 0 → AreCounted flags blocks groups regions → AreCounted [] blocks groups regions
counted-empty flags blocks groups regions in_blocks empty counts = record {
  blocks_count = λ i.
      let count = counts.blocks_count i in
      let all = kept-all (WIDTH * i) flags in
      let none = kept-none (WIDTH * i) in
      omega arith;
  groups_count = counts.groups_count;
  regions_count = counts.regions_count;
}

-- A step over a count that is no more than the rank: the next count is there, and the rank before it is what is left.
pub step-over : (counts : List ℕ) (at rest all count : ℕ) → sum_first at counts + rest ≡ all → all < sum_first (length counts) counts →
    at < length counts → count ≡ get_or counts at count → count ≤ rest →
    (at + 1 < length counts) × (sum_first (at + 1) counts + (rest - count) ≡ all)
step-over counts at rest all count sum within there here over =
    let zero_default = get_or_default_zero counts at count there in
    let next : sum_first (at + 1) counts ≡ sum_first at counts + get_or counts at 0 =
    ap (λ n. sum_first n counts) (let q : at + 1 ≡ suc at = omega arith in q)
    ∙ sum-next at counts in
    (sum-within (at + 1) counts (omega arith), omega arith)

-- A prefix of fewer kept ones than all ends before the end.
pub kept-within : (n : ℕ) (flags : List Bool) → kept_first n flags < kept_first (length flags) flags → n < length flags
kept-within n flags less = elim (leb_tells (length flags) n) [
  | inl past ↦ let all = kept-end n flags past.1 in absurd (omega (arith, less, all))
  | inr within ↦ within.1
]

-- A step over a slot that is not the one that is looked for.
pub slot-over : (flags : List Bool) (at rest all : ℕ) (flag : Bool) (left : ℕ) → kept_first at flags + rest ≡ all →
    all < kept_first (length flags) flags → slice_get flags at ≡ Some flag → left + one_if flag ≡ rest →
    (at + 1 < length flags) × (kept_first (at + 1) flags + left ≡ all)
slot-over flags at rest all flag left sum within here over =
    let next : kept_first (at + 1) flags ≡ kept_first at flags + one_if flag =
    ap (λ n. kept_first n flags) (let q : at + 1 ≡ suc at = omega arith in q)
    ∙ kept-next at flags flag here in
    (kept-within (at + 1) flags (omega arith), omega arith)

-- The lower counts of an upper one in which a rank ends begin before the end of all, and so do those that the rank is left to.
pub sums-found : (lower upper : List ℕ) (at rest : ℕ) → AreSums lower upper →
    sum_first at upper + rest < sum_first (length lower) lower →
    (WIDTH * at < length lower) × (sum_first (WIDTH * at) lower + rest < sum_first (length lower) lower)
sums-found lower upper at rest sums some = let same = sums at in (sum-within (WIDTH * at) lower (omega arith), omega arith)

-- A rank among the kept slots is among what each level counts.
pub rank-counted : (flags : List Bool) (blocks groups regions : List ℕ) (rank : ℕ) → length flags ≤ WIDTH * length blocks →
    length blocks ≤ WIDTH * length groups → length groups ≤ WIDTH * length regions → AreCounted flags blocks groups regions →
    rank < kept_first (length flags) flags →
    (rank < sum_first (length regions) regions) × (rank < sum_first (length groups) groups) × (rank < sum_first (length blocks) blocks)
rank-counted flags blocks groups regions rank in_blocks in_groups in_regions counts some =
    let all_blocks = blocks-total flags blocks groups regions in_blocks counts in
    let all_groups = sums-total blocks groups in_groups counts.groups_count in
    let all_regions = sums-total groups regions in_regions counts.regions_count in
    (omega arith, omega arith, omega arith)

-- The slots of a block in which a rank ends begin before the end of all slots, and so do those that the rank is left to.
pub block-found : (flags : List Bool) (blocks groups regions : List ℕ) (rank at rest : ℕ) → AreCounted flags blocks groups regions →
    rank < kept_first (length flags) flags → sum_first at blocks + rest ≡ rank →
    (WIDTH * at < length flags) × (kept_first (WIDTH * at) flags + rest < kept_first (length flags) flags)
block-found flags blocks groups regions rank at rest counts some found =
    let same = counts.blocks_count at in
    (kept-within (WIDTH * at) flags (omega arith), omega arith)

-- One kept slot less, once one isn't kept any more.
pub kept-less : (flags : List Bool) (i : ℕ) → slice_get flags i ≡ Some true →
    kept_first (length (set flags i false)) (set flags i false) + 1 ≡ kept_first (length flags) flags
kept-less flags i there =
    let same = length-set flags i false in
    let within = slice_get_within flags i true there in
    let left = kept-left (length flags) i flags there in
    let one = among-yes i (length flags) within in
    let whole = ap (λ n. kept_first n (set flags i false)) same in
    omega arith

-- One kept slot more, once one joined.
pub kept-one-more : (flags : List Bool) →
    (kept_first (length (flags ++ true ∷ [])) (flags ++ true ∷ []) ≡ kept_first (length flags) flags + 1) ×
    (length (flags ++ true ∷ []) ≡ length flags + 1)
kept-one-more flags =
    let longer = length-append flags (true ∷ []) in
    let joined = kept-joined (length (flags ++ true ∷ [])) flags in
    let all = kept-end (length (flags ++ true ∷ [])) flags (omega arith) in
    let one = among-yes (length flags) (length (flags ++ true ∷ [])) (omega arith) in
    (omega arith, omega arith)
