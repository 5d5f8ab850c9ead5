use Rattle.std.proofs.Common.{◌++◌, ap, ◌∙◌}
use Rattle.doc_rules.specs.Shown.{value_entry_data}
use Rattle.json_text.specs.Tokens.{data_tokens}
use Rattle.json_text.proofs.Texts.{put_next}
use Rattle.doc_view.proofs.json_parts.write_entries.Goals as goal

pub loop-entry-preserved : goal.loop-entry-preserved
loop-entry-preserved c =
    c.in_ok-write_entry.ensures ∙ ap (λ ts. ts ++ data_tokens (value_entry_data c.entry-item.result)) c.loop-entry.invariant
    ∙ put_next value_entry_data c.args.text.now c.args.entries.now c.loop-entry.entry-index c.entry-item.result c.loop-entry-test.true c.entry-item.is
