use Rattle.std.proofs.Common.{rules}
use Rattle.doc_tree.specs.Nodes.{tree_facts}
use Rattle.doc_view.proofs.Entries.{are_all}
use Rattle.doc_view.proofs.registers.sum_at.Goals as goal

pub returns : goal.returns
returns c =
    let entries = c.counter.result in
    (entries, are_all entries ((tree_facts c.args.tree.now).counter c.args.path.now c.args.key.now) c.counter.ensures.ascending c.counter.ensures.value, search rules)
