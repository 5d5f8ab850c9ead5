use Rattle.std.proofs.Common.{◌∙◌, ap, slice_range}
use Rattle.std.specs.List.{list_any}
use Rattle.line_feed.specs.Lines.{is_newline}
use Rattle.line_feed.specs.Feed.{Feed}
use Rattle.line_feed.proofs.LineLemmas.{is_some_first}
use Rattle.line_feed.proofs.feed.LineFeed.has_line.Goals as goal

pub returns : goal.returns
returns c =
    let a = c.self.inside in
    c.is_some.ensures
    ∙ is_some_first (slice_range a.buffer.items a.start a.end) a.newline c.self.invariant.4
    ∙ ap (λ (f : Feed). list_any is_newline f.buffered) c.self.view_is
