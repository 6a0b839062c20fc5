-- What listening and dialling do. Cited by `Sockets`.
use Rattle.std.specs.Prelude.{ℕ, suc, ◌≡◌, Bool, IsTrue, [], ◌∷◌, ◌++◌, None, Result, Ok, Err}
use Rattle.machine.specs.declared.world.HandleKind.{HandleKind}
use Rattle.machine.specs.World.{fresh}
use Rattle.ready_driver.specs.declared.non_block.NonBlockError.{NonBlockError}
use Rattle.ready_driver.specs.Io.{IoView, IsLater, IsStill, KeepsShown, FaultsFor}

-- A handle of a kind was made: its number is how many there were, and nothing else moved. It isn't registered.
pub record IsGiven (tells memory : Bool) (kind : HandleKind) (old new : IoView) (h : ℕ) : Type 0 where
  pub later : IsLater old new
  pub number : h ≡ old.made
  pub made : new.made ≡ suc old.made
  pub closes : new.closes ≡ old.closes
  pub world : IsTrue tells → new.world ≡ old.world ++ fresh kind ∷ []
  pub keys : IsTrue memory → new.keys ≡ old.keys ++ None ∷ []
  pub shown : IsTrue memory → KeepsShown old new

-- What listening, or dialling, answers and leaves. An error leaves all as it was.
abbrev pub GivesFor : Bool → Bool → HandleKind → IoView → IoView → Result ℕ NonBlockError → Type 0
GivesFor tells memory kind old new (Ok h) = IsGiven tells memory kind old new h
GivesFor tells memory kind old new (Err why) = IsStill tells memory old new old.keys old.closes × FaultsFor memory old new why
