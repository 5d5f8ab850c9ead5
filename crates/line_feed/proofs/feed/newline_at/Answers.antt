use Rattle.line_feed.proofs.LineLemmas.{is_position, position-first}
use Rattle.line_feed.proofs.feed.newline_at.Goals as goal

pub returns-clause-place : goal.returns-clause-place
returns-clause-place c = is_position c.args.bytes.now c.memchr.result c.memchr.ensures

pub returns-clause-first : goal.returns-clause-first
returns-clause-first c = position-first c.args.bytes.now c.memchr.result (is_position c.args.bytes.now c.memchr.result c.memchr.ensures)
