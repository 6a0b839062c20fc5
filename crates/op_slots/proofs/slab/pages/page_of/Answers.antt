use Rattle.std.proofs.Common.{sym, arith}
use Rattle.op_slots.proofs.Pages.{page_of-first, page_of-last, page_of-few, page_of-past}
use Rattle.op_slots.proofs.slab.pages.page_of.Goals as goal

pub returns-then-key-lt-MAX_LIVE-clause-few : goal.returns-then-key-lt-MAX_LIVE-clause-few
returns-then-key-lt-MAX_LIVE-clause-few c = rw c.page_at.ensures (page_of-few c.args.key)

pub returns-then-key-lt-MAX_LIVE-clause-first : goal.returns-then-key-lt-MAX_LIVE-clause-first
returns-then-key-lt-MAX_LIVE-clause-first c = rw c.page_at.ensures (page_of-first c.args.key (omega (arith, c.ranges.key)))

pub returns-then-key-lt-MAX_LIVE-clause-last : goal.returns-then-key-lt-MAX_LIVE-clause-last
returns-then-key-lt-MAX_LIVE-clause-last c = λ below. rw c.page_at.ensures (page_of-last c.args.key below)

pub returns-else-key-lt-MAX_LIVE-clause-rule : goal.returns-else-key-lt-MAX_LIVE-clause-rule
returns-else-key-lt-MAX_LIVE-clause-rule c = sym (page_of-past c.args.key (omega arith))
