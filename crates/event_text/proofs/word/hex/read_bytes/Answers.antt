use Rattle.std.proofs.Common.{◌∙◌, sym}
use Rattle.event_text.proofs.TextHex.{bytes_of-odd}
use Rattle.event_text.proofs.word.hex.read_bytes.Goals as goal

pub returns-then-word-ne0 : goal.returns-then-word-ne0
returns-then-word-ne0 c = sym (bytes_of-odd c.args.word.now (sym c.is_word.ensures ∙ c.if-is_word.false) c.if-word-ne0.true)
