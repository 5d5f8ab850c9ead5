use Rattle.std.proofs.Common.{rules, ◌≡◌, ◌≤◌, ◌++◌, length, flat_map, map, string_bytes, ap, ◌∙◌}
use Rattle.std.proofs.lemmas.List.{take_all}
use Rattle.serde_json.specs.Written.{compact_text}
use Rattle.line_feed.specs.Cut.{line_of}
use Rattle.stored_log.specs.Docs.{Doc}
use Rattle.stored_log.specs.Report.{epoch_data, line_by}
use Rattle.stored_log.proofs.ByName.{lines_by_name}
use Rattle.stored_log.proofs.report.lines_of.Goals as goal

pub returns : goal.returns
returns g c =
    let docs = (g.L.StoredLog.log c.args.copy.now).docs in
    let items = c.deref-name-items.result.now in
    let past : length items ≤ c.loop-name.name-index = search rules in
    let named : map string_bytes items ≡ map (λ (d : Doc). d.name) docs = ap (map string_bytes) c.deref-name-items.ensures.value ∙ c.in-Ok.ensures.ok in
    let all = ap (map string_bytes) (take_all c.loop-name.name-index items past) ∙ named in
    c.in_ok-add_epoch.ensures
    ∙ ap (λ text. text ++ line_of (compact_text (epoch_data c.args.epoch))) (c.loop-name.invariant ∙ ap (flat_map (line_by docs)) all ∙ lines_by_name docs c.requires)
