-- What a slice ends as, where the bytes of the buffer inside were lent.
use Rattle.std.specs.Prelude.{ℕ, List}
use Rattle.std.specs.Borrow.{Lends, Fml, RattleType, MutBor, Array, u8}
use Rattle.rent_buf.specs.Buffer.{Buffer}
use Rattle.rent_buf.specs.Parts.{Parts}
use Rattle.rent_buf.specs.SliceMut.{Sliced, with_whole}
use Rattle.rent_buf.specs.contracts.slice.SliceMut.{the_row}

-- T is the buffer inside, with the ghost members that its traits give it.
module _ (T : RattleType) (content : T.Denot → List ℕ) (buffer : T.Denot → Buffer) (under : T.Denot → List (ℕ × ℕ))
    (beside : T.Denot → Parts) where
  -- Once the borrow r ends, the bytes of the buffer inside are those that r shows last.
  abbrev pub lends_whole : MutBor Sliced → MutBor (List ℕ) → Fml
  lends_whole s r =
      Lends (the_row T (record { buffer = buffer; under = under; beside = beside }) (record { content = content })) (Array u8 0) s r
      (with_whole s.now)
