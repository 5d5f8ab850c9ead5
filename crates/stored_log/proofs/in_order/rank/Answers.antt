use Rattle.std.proofs.Common.{rules, ◌≡◌, ◌-◌, length, true, slice_index_or, arith}
use Rattle.std.specs.Ordering.{is_lt}
use Rattle.std.proofs.lemmas.Fn.{always_returns_same}
use Rattle.doc_api.specs.Words.{name_cmp}
use Rattle.stored_log.specs.Docs.{Doc}
use Rattle.stored_log.proofs.InOrder.{lesser_names, behind_all}
use Rattle.stored_log.proofs.in_order.rank.Goals as goal

pub returns-clause-point : goal.returns-clause-point
returns-clause-point c =
    let docs = c.args.docs.now in
    let name = c.args.name.now in
    c.partition_point.ensures.partitioned (λ (d : Doc). is_lt (name_cmp d.name name)) (always_returns_same _ _ _ (λ a r f k. search rules)) (lesser_names docs name c.requires)

pub returns-then-is_before-clause-point : goal.returns-then-is_before-clause-point
returns-then-is_before-clause-point c =
    let docs = c.args.docs.now in
    let name = c.args.name.now in
    let last = c.index-docs-count.result in
    let some = c.if-count-gt0.true in
    let less : is_lt (name_cmp (slice_index_or docs (length docs - 1) last).name name) ≡ true = search (rules, c.is_before.ensures, c.if-is_before.true) in
    behind_all docs name last c.requires (omega (arith, some)) less
