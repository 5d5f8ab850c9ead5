use Rattle.std.proofs.Common.{rules}
use Rattle.std.proofs.lemmas.List.Sorted.{answers_always}
use Rattle.list_laws.proofs.Rising.{searched}
use Rattle.doc_rules.proofs.OneAnswer.{name_order}
use Rattle.hold_buffer.proofs.missing.search.Goals as goal

pub returns : goal.returns
returns c =
    let facts = c.binary_search_by_key.ensures in
    let by_name = facts.position (λ i. i.replica) (answers_always _ _ _ (λ f a r g called. search rules)) in
    searched name_order (λ i. i.replica) c.args.ids.now c.args.name _ c.requires facts.bound by_name
