use Rattle.std.proofs.Common.{List, ◌++◌, map, ap, ◌∙◌}
use Rattle.std.proofs.lemmas.List.{take_all}
use Rattle.json_scalar.specs.Scalar.{scalar_data}
use Rattle.doc_api.specs.Words.{Id, Scalar}
use Rattle.json_text.specs.Tokens.{data_tokens, all_tokens}
use Rattle.json_text.proofs.Texts.{put_next}
use Rattle.doc_view.proofs.WritingAll.{entry_scalars}
use Rattle.doc_view.proofs.json_parts.write_each_scalar.Goals as goal

pub loop-entry-preserved : goal.loop-entry-preserved
loop-entry-preserved c =
    c.in_ok-put_in.ensures ∙ ap (λ ts. ts ++ data_tokens (scalar_data c.entry-item.result.1)) c.loop-entry.invariant
    ∙ put_next (λ (e : Id × Scalar). scalar_data e.1) c.args.text.now c.args.entries.now c.loop-entry.entry-index c.entry-item.result c.loop-entry-test.true c.entry-item.is

pub returns : goal.returns
returns c =
    c.loop-entry.invariant
    ∙ ap (λ (es : List (Id × Scalar)). c.args.text.now ++ all_tokens (map (λ (e : Id × Scalar). scalar_data e.1) es))
    (take_all c.loop-entry.entry-index c.args.entries.now c.loop-entry-test.false)
    ∙ ap (λ ds. c.args.text.now ++ all_tokens ds) (entry_scalars c.args.entries.now)
