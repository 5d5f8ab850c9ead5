use Rattle.std.proofs.Common.{rules}
use Rattle.std.proofs.lemmas.List.Sorted.{answers_always}
use Rattle.list_laws.proofs.Rising.{searched}
use Rattle.doc_rules.proofs.OneAnswer.{name_order}
use Rattle.op_log.proofs.front.search.Goals as goal

pub returns : goal.returns
returns g c =
    let facts = c.binary_search_by_key.ensures in
    let by_name = facts.position (λ e. e.0) (answers_always _ _ _ (λ f a r k called. search rules)) in
    searched name_order (λ e. e.0) c.args.pairs.now c.args.name _ c.requires facts.bound by_name
