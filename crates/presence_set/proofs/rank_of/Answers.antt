use Rattle.std.proofs.Common.{◌-◌, length, rules, sym, ◌∙◌}
use Rattle.std.specs.Ordering.{is_lt}
use Rattle.std.proofs.lemmas.Fn.{always_returns_same}
use Rattle.lamport_id.specs.Order.{id_cmp}
use Rattle.list_laws.proofs.Bisection.{lesser_first, rank_is}
use Rattle.presence_set.proofs.Ascending.{ids_ordered}
use Rattle.presence_set.proofs.Ends.{one_behind, rank_behind, rank_last}
use Rattle.presence_set.proofs.rank_of.Goals as goal

pub returns-in-Greater-clause-value : goal.returns-in-Greater-clause-value
returns-in-Greater-clause-value g c =
    let entries = c.args.entries.now in
    let id = c.args.id.now in
    rank_is ids_ordered entries id c.partition_point.result c.partition_point.ensures.bound
    (c.partition_point.ensures.partitioned (λ e. is_lt (id_cmp e.0 id)) (always_returns_same _ _ _ (λ a r f k. search rules)) (lesser_first ids_ordered entries id c.requires))

pub returns-in-Less-clause-value : goal.returns-in-Less-clause-value
returns-in-Less-clause-value g c =
    let entries = c.args.entries.now in
    rank_behind entries c.args.id.now c.requires (length entries - 1) (one_behind (length entries) (sym c.is_empty.ensures ∙ c.if-is_empty.false)) c.index-entries-last.result (sym c.cmp.ensures ∙ c.in-Less.is)

pub returns-in-Equal-clause-value : goal.returns-in-Equal-clause-value
returns-in-Equal-clause-value g c =
    let entries = c.args.entries.now in
    rank_last entries c.args.id.now c.requires (length entries - 1) (one_behind (length entries) (sym c.is_empty.ensures ∙ c.if-is_empty.false)) c.index-entries-last.result (sym c.cmp.ensures ∙ c.in-Equal.is)
