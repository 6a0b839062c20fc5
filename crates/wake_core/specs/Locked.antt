-- What one call under the lock does to the wake state: the steps that it makes, by the stage that it finds. Cited by `locked`.
use Rattle.std.specs.Prelude.{◌≡◌, ℕ, List, [], ◌∷◌, ◌++◌, Bool, true, false}
use Rattle.wake_core.specs.declared.senders.SenderStage.{SenderStage}
use Rattle.wake_core.specs.declared.senders.SenderStage.TheVariants.{Idle, Pushed, Called}
use Rattle.wake_core.specs.declared.sleeper.SleeperStage.{SleeperStage}
use Rattle.wake_core.specs.declared.sleeper.SleeperStage.TheVariants.{Awake, First, Cleared, Second, Asleep, Up}
use Rattle.wake_core.specs.SenderTable.{sender_of}
use Rattle.wake_core.specs.Step.{Step, Push, ReadFlag, SetToken, DrainFirst, ClearFlag, DrainAgain, FallAsleep, TakeToken, Rouse, SetFlag}
use Rattle.wake_core.specs.Step.{AdmitsAll, after_all}
use Rattle.wake_core.specs.WakeState.{Wake}

-- the call makes these steps, each of which may be made, and does nothing else
pub record Makes (old : Wake) (steps : List Step) (new : Wake) : Type 0 where
  pub admitted : AdmitsAll old steps
  pub state : new ≡ after_all old steps

-- reading the flag: one step if the sender is at Pushed, else none
abbrev pub reading : SenderStage → ℕ → List Step
reading Pushed sender = ReadFlag sender ∷ []
reading _ sender = []

-- whether a sender that was to read the flag has ended its send, so that it is idle
abbrev pub has_ended : SenderStage → Bool → Bool
has_ended Idle flag = true
has_ended Pushed flag = flag
has_ended Called flag = false

-- setting the token: one step if the sender is at Called, else none
abbrev pub calling : SenderStage → ℕ → List Step
calling Called sender = SetToken sender ∷ []
calling _ sender = []

-- ending the send that a sender at this stage is in, if any, where the flag is this
abbrev pub ending_at : SenderStage → Bool → ℕ → List Step
ending_at Idle flag sender = []
ending_at Pushed true sender = ReadFlag sender ∷ []
ending_at Pushed false sender = ReadFlag sender ∷ SetToken sender ∷ []
ending_at Called flag sender = SetToken sender ∷ []

-- the same, of the sender with this number in this state
abbrev pub ending : Wake → ℕ → List Step
ending state sender = ending_at (sender_of state.senders sender).stage state.flag sender

-- pushing: the sender ends the send that it is in, if any, and then pushes
abbrev pub pushing : Wake → ℕ → ℕ → List Step
pushing state sender task = ending state sender ++ Push sender task ∷ []

-- the first drain: one step in Awake, else none
abbrev pub draining_first : SleeperStage → List Step
draining_first Awake = DrainFirst ∷ []
draining_first _ = []

-- clearing the flag: one step in First if the first drain gave nothing, else none
abbrev pub clearing : SleeperStage → List Step
clearing (First true) = ClearFlag ∷ []
clearing _ = []

-- the second drain: one step in First if the first drain gave something, and in Cleared, else none
abbrev pub draining_again : SleeperStage → List Step
draining_again (First false) = DrainAgain ∷ []
draining_again Cleared = DrainAgain ∷ []
draining_again _ = []

-- falling asleep: one step in Second if both drains gave nothing, else none
abbrev pub falling_asleep : SleeperStage → List Step
falling_asleep (Second true) = FallAsleep ∷ []
falling_asleep _ = []

-- taking the token: one step in Asleep, else none
abbrev pub taking_token : SleeperStage → List Step
taking_token Asleep = TakeToken ∷ []
taking_token _ = []

-- whether the sleeper sleeps on: it slept, and the token wasn't set
abbrev pub sleeps_on : SleeperStage → Bool → Bool
sleeps_on Asleep false = true
sleeps_on _ token = false

-- rousing: one step in Asleep, else none
abbrev pub rousing : SleeperStage → List Step
rousing Asleep = Rouse ∷ []
rousing _ = []

-- setting the flag: one step in Up, and in Second if a drain gave something, else none
abbrev pub setting_flag : SleeperStage → List Step
setting_flag (Second false) = SetFlag ∷ []
setting_flag Up = SetFlag ∷ []
setting_flag _ = []
