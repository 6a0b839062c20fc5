use Rattle.std.proofs.Common.{vec_len}
use Rattle.driver_core.proofs.tokens.Tokens.forget.Given as goal

abbrev pub decreases-loop-token : goal.decreases-loop-token
decreases-loop-token l = vec_len l.ops
