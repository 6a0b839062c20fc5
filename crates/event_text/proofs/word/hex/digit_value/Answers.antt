use Rattle.event_text.proofs.TextTable.{table-value}
use Rattle.event_text.proofs.word.hex.digit_value.Goals as goal

pub returns : goal.returns
returns c = table-value c.args.byte c.ranges.byte.fits
