-- What a tree that says what the log makes knows of an operation that fits.
use Rattle.std.proofs.Common.{List, sym, subst}
use Rattle.doc_api.specs.Words.{Op}
use Rattle.crdt_rules.specs.Fits.{Fits}
use Rattle.crdt_rules.specs.Log.{IsGood}
use Rattle.crdt_rules.proofs.NextStep.{reference_stands, id_is_new}
use Rattle.doc_tree.specs.Nodes.{TreeValue}
use Rattle.doc_tree.specs.Nodes.{tree_facts}
use Rattle.doc_tree.specs.Prepared.{KnowsReference, IsNewElement}
use Rattle.replica_core.specs.AgreesWith.{AgreesWith}

pub knows_reference : (tree : TreeValue) {log : List Op} → AgreesWith tree log → (op : Op) → IsGood log → Fits op log → KnowsReference (tree_facts tree) op
knows_reference tree {log} agrees op good fits =
    subst (λ f. KnowsReference f op) (sym agrees.facts_are) (λ insertion. reference_stands log good op fits insertion)

pub is_new_element : (tree : TreeValue) {log : List Op} → AgreesWith tree log → (op : Op) → IsGood log → Fits op log → IsNewElement (tree_facts tree) op
is_new_element tree {log} agrees op good fits =
    subst (λ f. IsNewElement f op) (sym agrees.facts_are) (λ insertion. id_is_new log good op fits insertion)
