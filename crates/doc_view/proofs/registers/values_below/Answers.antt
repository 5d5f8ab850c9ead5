use Rattle.std.proofs.Common.{◌≡◌, map}
use Rattle.doc_api.specs.Words.{Id, Scalar}
use Rattle.doc_tree.specs.Nodes.{tree_facts}
use Rattle.doc_rules.specs.Views.{AreValues}
use Rattle.doc_view.specs.ByNumber.{AtNode}
use Rattle.doc_view.proofs.ByNumber.{entries_by_number}
use Rattle.doc_view.proofs.Reading.{gives}
use Rattle.doc_view.proofs.registers.values_below.Goals as goal

pub returns : goal.returns
returns c =
    let tree = c.args.node.tree.now in
    let entries = c.register_of.result.now in
    gives (λ scalars. scalars ≡ map (λ (e : Id × Scalar). e.1) entries) (λ scalars. AtNode tree c.args.node.at (λ p k. AreValues (tree_facts tree) p k scalars)) c.scalars_of.result
    (λ scalars is p k at. (entries, entries_by_number tree p k c.args.node.at at entries c.register_of.ensures.value c.register_of.ensures.ascending, is))
    c.scalars_of.ensures
