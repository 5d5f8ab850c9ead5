use Rattle.std.proofs.Common.{◌≡◌, map, sym, ◌∙◌}
use Rattle.doc_api.specs.Words.{Id, Scalar}
use Rattle.doc_tree.specs.Nodes.{tree_facts}
use Rattle.doc_rules.specs.Views.{AreValues}
use Rattle.doc_view.proofs.Entries.{are_all}
use Rattle.doc_view.proofs.Reading.{reads}
use Rattle.doc_view.proofs.registers.values.Goals as goal

pub returns : goal.returns
returns c =
    let f = tree_facts c.args.tree.now in
    let at = c.args.cursor.now in
    let entries = c.register.result.now in
    reads (λ scalars. scalars ≡ map (λ (e : Id × Scalar). e.1) entries) (AreValues f) at c.scalars_of.result (sym c.is_head.ensures ∙ c.if-is_head.false)
    (λ scalars is. (entries, are_all entries (f.register at.path at.key) c.register.ensures.ascending c.register.ensures.value, is))
    c.scalars_of.ensures
