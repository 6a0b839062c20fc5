-- When no handle is closing, and when a driver has nothing left to do.
use Rattle.std.proofs.Common.{◌≡◌, ◌∙◌, ◌↔◌, ℕ, false, sym, ap}
use Rattle.std.specs.Prelude.{is_some}
use Rattle.std.specs.Cmp.{nat_cmp_total}
use Rattle.std.specs.Ordering.{nat_cmp}
use Rattle.std.specs.FinMap.{get, len, empty, empty_of_len, get-empty, len-empty, same_map, nat_cmp-IsAntisymmetric}
use Rattle.handle_core.specs.declared.table.Holders.{Holders}
use Rattle.machine.proofs.Numbers.{none-of}
use Rattle.uring_driver.specs.Holding.{Holding, closes}

-- No handle is closing exactly where the table of closes is empty.
pub none_closing : (holding : Holding) → (len holding.closing.holders ≡ 0) ↔ ((h : ℕ) → closes holding h ≡ false)
none_closing holding = (forth, back) where
  forth : len holding.closing.holders ≡ 0 → (h : ℕ) → closes holding h ≡ false
  forth gone h = ap (λ m. is_some (get m h)) (empty_of_len holding.closing.holders gone) ∙ ap is_some (get-empty {X = Holders} nat_cmp h)

  back : ((h : ℕ) → closes holding h ≡ false) → len holding.closing.holders ≡ 0
  back free =
      ap len (same_map nat_cmp_total nat_cmp-IsAntisymmetric holding.closing.holders empty
      (λ h. none-of (get holding.closing.holders h) (free h) ∙ sym (get-empty {X = Holders} nat_cmp h))) ∙ len-empty nat_cmp Holders
